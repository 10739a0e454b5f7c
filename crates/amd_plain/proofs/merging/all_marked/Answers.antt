use Rattle.std.proofs.Common.{◌+◌, inl, inr, take, ap, sym, refl, ◌∙◌}
use Rattle.std.proofs.lemmas.Bool.{cases_Bool}
use Rattle.std.proofs.lemmas.List.{take_all}
use Rattle.amd_model.specs.Quotient.{each}
use Rattle.amd_model.proofs.Quotient.Lists.{each_gives, each_from}
use Rattle.amd_model.proofs.Counting.Below.{clash}
use Rattle.amd_round_laws.proofs.Lists.Named.{has_at, more_gives}
use Rattle.amd_plain.specs.Views.{mark_at}
use Rattle.amd_plain.proofs.merging.all_marked.Goals as goal

pub loop-j-init : goal.loop-j-init
unfolding each
loop-j-init c = refl

pub returns-then-not-marks-j : goal.returns-then-not-marks-j
returns-then-not-marks-j c = elim (cases_Bool (each (mark_at c.args.marks.now) c.args.list.now)) [
  | inr f ↦ sym f
  | inl t ↦ clash (each_gives (mark_at c.args.marks.now) c.args.list.now t _ (has_at c.args.list.now c.loop-j.j-index 0 c.loop-j-test.true))
      c.if-not-marks-j.true
]

pub loop-j-preserved : goal.loop-j-preserved
loop-j-preserved c =
    let xs = c.args.list.now in
    let k = c.loop-j.j-index in
    let marks = mark_at c.args.marks.now in
    each_from marks (take (k + 1) xs) (λ x h. elim (more_gives xs k 0 x c.loop-j-test.true h) [
      | inl q ↦ each_gives marks (take k xs) c.loop-j.invariant x q
      | inr q ↦ ap marks q ∙ c.if-not-marks-j.false
    ])

pub returns : goal.returns
returns c = sym c.loop-j.invariant ∙ ap (each (mark_at c.args.marks.now)) (take_all c.loop-j.j-index c.args.list.now c.loop-j-test.false)
