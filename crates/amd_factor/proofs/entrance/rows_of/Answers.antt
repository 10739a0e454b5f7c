use Rattle.std.proofs.Common.{pos, map, sym, ap, ◌∙◌}
use Rattle.amd_factor.proofs.Calls.ColumnParts.{no_order}
use Rattle.amd_factor.proofs.entrance.rows_of.Goals as goal

pub returns-else-is_empty-clause-unfit : goal.returns-else-is_empty-clause-unfit
returns-else-is_empty-clause-unfit g c = (
  sym c.in-Some.ensures.1 ∙ ap pos c.if-size-eq0.true,
  (no_order g.I.Index.value (g.I.Index.value c.args.n) c.in-Some.size c.args.p.now (map g.I.Index.value c.args.a_p.now)
      (map g.I.Index.value c.args.a_i.now) c.in-Some.ensures.1 c.if-size-eq0.true c.if-is_empty.ensures).1,
)
