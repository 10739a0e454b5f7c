-- Each turn tells the kind of one cell more.
use Rattle.std.proofs.Common.{◌≡◌, ◌∙◌, ap, length, subst, sym}
use Rattle.std.specs.Prelude.{slice_index}
use Rattle.amd_report.specs.Kinds.{kind_of}
use Rattle.amd_report.proofs.Pushed.{pushed-each, pushed-length}
use Rattle.amd_report.proofs.kinds.kinds_of.Goals as goal

pub cells-preserved : goal.cells-preserved
cells-preserved g c =
    let so_far = c.cells.invariant in
    let items = c.in_ok-push.ensures.items in
    let entries = c.args.entries.now in
    let fill = c.args.fill.now in
    let last = rw (c.mark_at.ensures, c.mark_at-in-cells.ensures) at c.kind_of.ensures in (
      ap length items ∙ pushed-length c.cells.kinds.items _ c.cells.cell so_far.0,
      λ k low. subst (λ z. slice_index z k ≡ kind_of (slice_index entries k) (slice_index fill k)) (sym items)
          (pushed-each 0 (λ j x. x ≡ kind_of (slice_index entries j) (slice_index fill j)) c.cells.kinds.items _ c.cells.cell
          so_far.0 so_far.1 last k low),
    )
