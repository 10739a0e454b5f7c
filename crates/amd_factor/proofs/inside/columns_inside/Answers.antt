use Rattle.std.proofs.Common.{map, length, subst, ◌∙◌}
use Rattle.amd_types.specs.Naturals.{naturals}
use Rattle.amd_factor.specs.Orders.{Permutes}
use Rattle.amd_factor.proofs.Calls.WithinParts.{too_small}
use Rattle.amd_factor.proofs.inside.columns_inside.Goals as goal

pub returns-in-None-clause-fault : goal.returns-in-None-clause-fault
returns-in-None-clause-fault g c =
    too_small g.o (length c.args.parent.now) (map g.I.Index.value c.args.a_p.now) (map g.I.Index.value c.args.a_i.now)
    (map g.I.Index.value c.args.p.now) c.requires.1.0
    (subst (λ n. Permutes n (map g.I.Index.value c.args.p.now) (naturals (map g.I.Index.value c.args.p.now)))
    (c.fill.ensures.len ∙ c.split_at_mut-places.ensures.front_len) (c.place_rows.ensures.permutation c.if-not-place_rows.false))
    (length c.args.rows.now) c.lent_sizes.new.counts c.lent_sizes.new.parent c.need_of_sizes.result c.in-None.ensures.factor
    c.lent_sizes.ensures c.need_of_sizes.ensures
