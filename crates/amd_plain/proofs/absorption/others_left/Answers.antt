use Rattle.std.proofs.Common.{ℕ, Bool, List, [], ◌∷◌, ◌++◌, ◌<◌, ◌∙◌, ap, sym, length, get_or, filter, not}
use Rattle.std.proofs.lemmas.List.{take_all}
use Rattle.amd_plain.specs.Rounds.{plain_mass}
use Rattle.amd_plain.proofs.Kept.{filter_next, filter_passed}
use Rattle.amd_plain.proofs.absorption.others_left.Goals as goal
use Rattle.amd_plain.proofs.absorption.others_left.Goals.{then-not-keeps_nothing+in_ok-push, else-not-keeps_nothing}

pub loop-i-preserved : goal.loop-i-preserved
loop-i-preserved g c =
    let k : ℕ = c.loop-i.i-index in let front : List ℕ = c.args.front.now in let here : k < length front = c.loop-i-test.true in
    let none : ℕ → Bool = plain_mass c.args.lists.now.elements.items c.args.lists.now.variables.items in
    elim c.if-not-keeps_nothing.branch [
      | then-not-keeps_nothing+in_ok-push w ↦ ap (λ v. v.items) w.rest-is ∙ w.in_ok-push.ensures.items ∙
          ap (λ l. l ++ get_or front k 0 ∷ []) c.loop-i.invariant
          ∙ filter_next none front k here (sym c.keeps_nothing.ensures ∙ w.if-not-keeps_nothing.true)
      | else-not-keeps_nothing w ↦ ap (λ v. v.items) w.rest-is ∙ c.loop-i.invariant ∙
          filter_passed none front k here (sym c.keeps_nothing.ensures ∙ w.if-not-keeps_nothing.false)
    ]

pub loop-i-init : goal.loop-i-init
loop-i-init g c = c.in_ok-rest.ensures.items

pub keeps_nothing-requires : goal.keeps_nothing-requires
keeps_nothing-requires g c = record {
  elements = c.requires.elements c.loop-i.i-index 0 c.loop-i-test.true;
  variables = c.requires.variables c.loop-i.i-index 0 c.loop-i-test.true;
}

pub returns : goal.returns
returns g c = c.loop-i.invariant ∙
    ap (filter (λ i. not (plain_mass c.args.lists.now.elements.items c.args.lists.now.variables.items i)))
    (take_all c.loop-i.i-index c.args.front.now c.loop-i-test.false)
