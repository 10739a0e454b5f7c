-- the goals of listed::parent_links.
use Rattle.std.proofs.Common.{◌≡◌, arith, pos}
use lib.IntN.{negsuc}
use Rattle.std.proofs.lemmas.Int.{ints}
use Rattle.amd_plain.specs.Views.{some_at}
use Rattle.amd_plain.proofs.HandedLists.{links_more}
use Rattle.std.proofs.Common.{length, map, ap, ◌∙◌}
use borrow.Author.Count.{falls}
use Rattle.std.proofs.lemmas.Result.{IfOk-from_err}
use Rattle.std.proofs.lemmas.List.{take_all}
use Rattle.amd_postorder.specs.Trees.{link_of}
use Rattle.amd_plain.proofs.listed.parent_links.Goals as goal
use Rattle.amd_plain.proofs.listed.parent_links.Goals.{in-Some, in-None}

pub returns-in_err-links : goal.returns-in_err-links
returns-in_err-links g c = IfOk-from_err c.from_residual.result _ c.from_residual.ensures.0

pub elements-init : goal.elements-init
elements-init g c = c.in_ok-links.ensures.items

pub bounds-parent-e : goal.bounds-parent-e
bounds-parent-e g c = c.elements-test.true

pub signed-link-requires : goal.signed-link-requires
signed-link-requires g c = record { fits = c.requires.fits c.elements.e c.in-Some.p c.in-Some.is }

pub returns-in_err-push : goal.returns-in_err-push
returns-in_err-push g c = IfOk-from_err c.from_residual-in_err-push.result _ c.from_residual-in_err-push.ensures.0

pub elements-smaller : goal.elements-smaller
elements-smaller g c = falls (length c.args.parent.now) c.elements.e c.elements-test.true

pub elements-preserved : goal.elements-preserved
elements-preserved g c = c.in_ok-push.ensures.items
    ∙ links_more c.args.parent.now c.elements.e c.elements.links.items _ c.elements-test.true c.elements.invariant
    (elim c.match-parent-e.branch [
      | in-Some w ↦ (
          let here : link_of (some_at c.args.parent.now c.elements.e) ≡ pos w.in-Some.p = ap link_of w.in-Some.is in
          let a = w.link-is in let b = w.signed-link.ensures in let is = c.match-parent-e.link-is in
          rw here (omega (arith, ints, a, b, is)))
      | in-None w ↦ (
          let here : link_of (some_at c.args.parent.now c.elements.e) ≡ negsuc 0 = ap link_of w.in-None.is in
          let a = w.link-is in let is = c.match-parent-e.link-is in rw here (omega (arith, ints, a, is)))
    ])

pub returns : goal.returns
returns g c = c.elements.invariant ∙ ap (map link_of) (take_all c.elements.e c.args.parent.now c.elements-test.false)
