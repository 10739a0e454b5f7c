-- A run goes on, ends, or does not begin.
use Rattle.std.proofs.Common.{sym, ◌∙◌}
use Rattle.amd_report.proofs.Runs.{runs-end, runs-skip}
use Rattle.amd_report.proofs.shapes.write_cell.Goals as goal

pub returns-then-kind_at-kind : goal.returns-then-kind_at-kind
returns-then-kind_at-kind g c start t =
    runs-skip _ _ _ _ _ _ _ (λ e. c.if-kind_at-kind.true (c.kind_at.ensures ∙ e)) t

pub returns : goal.returns
returns g c start t =
    runs-end _ _ _ _ _ _ _ _ (sym c.kind_at.ensures ∙ c.if-kind_at-kind.false) c.in_ok-write_run.ensures t
