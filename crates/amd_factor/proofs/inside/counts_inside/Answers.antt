use Rattle.std.proofs.Common.{map, subst, ◌∙◌}
use Rattle.amd_types.specs.Naturals.{naturals}
use Rattle.amd_factor.specs.Orders.{Permutes}
use Rattle.amd_factor.proofs.inside.counts_inside.Goals as goal

pub returns-clause-counts : goal.returns-clause-counts
returns-clause-counts g c = (
  subst (λ n. Permutes n (map g.I.Index.value c.args.p.now) (naturals (map g.I.Index.value c.args.p.now)))
      (c.fill.ensures.len ∙ c.split_at_mut-places.ensures.front_len) (c.place_rows.ensures.permutation c.if-not-place_rows.false),
  record {
    holds = c.lent_sizes.ensures;
    needs = c.need_of_sizes.ensures _ c.lent_sizes.ensures.sizes_are;
  },
)
