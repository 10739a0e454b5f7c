-- Each turn tells the shade of one cell more.
use Rattle.std.proofs.Common.{◌≡◌, ◌∙◌, ap, arith, length, subst, sym}
use Rattle.std.specs.Prelude.{slice_index}
use Rattle.amd_report.specs.Trees.{shade_of}
use Rattle.amd_report.proofs.Pushed.{pushed-each, pushed-length}
use Rattle.amd_report.proofs.tree_picture.shades_of.Goals as goal

pub cells-preserved : goal.cells-preserved
cells-preserved g c =
    let so_far = c.cells.invariant in
    let items = c.in_ok-push.ensures.items in
    let fronts = c.args.fronts.now in
    let most = c.args.most in (
      ap length items ∙ pushed-length c.cells.shades.items _ c.cells.front-index so_far.0,
      λ cell low. subst (λ z. slice_index z cell ≡ shade_of most (slice_index fronts cell)) (sym items)
          (pushed-each 0 (λ k x. x ≡ shade_of most (slice_index fronts k)) c.cells.shades.items _ c.cells.front-index so_far.0
          so_far.1 c.shade_of.ensures cell low),
    )

pub returns : goal.returns
returns g c =
    let e = c.cells-test.false in
    let end = c.cells.auto.front-index-end in
    let so_far = c.cells.invariant in record {
      size = (let s = so_far.0 in omega (arith, e, end, s));
      each = λ cell low. so_far.1 cell (omega (arith, low, e));
    }
