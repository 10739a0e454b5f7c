use Rattle.std.proofs.Common.{pos, sym, ap, ◌∙◌}
use Rattle.amd_factor.proofs.Calls.WithinParts.{no_rows}
use Rattle.amd_factor.proofs.workspace.FactorWorkspace.counts_within.Goals as goal

pub returns-then-size-eq0-clause-counts : goal.returns-then-size-eq0-clause-counts
returns-then-size-eq0-clause-counts g c = no_rows (g.I.Number.value c.args.n) _ _ _ c.args.counts.now c.args.parent.now _
    (sym (ap pos c.if-size-eq0.true) ∙ c.in_ok-size.ensures.size) (c.in_ok-size.ensures.none c.if-size-eq0.true) c.requires.places
    c.need_of_sizes.ensures
