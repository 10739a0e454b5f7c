-- Rounds over lists are steps, and end in a state with no class.
use Rattle.std.proofs.Common.{ℕ, zero, suc, Bool, true, ◌≡◌, ◌<◌, ◌≤◌, ◌&&◌, not, refl, sym, ◌∙◌, ap, subst, arith, List, [], ◌∷◌, inl, inr}
use Rattle.std.specs.Prelude.{◌==◌}
use Rattle.std.proofs.lemmas.Bool.{cases_Bool, true≢false, cond-true, cond-false, and_from, eqb-true, eq-eqb, not_from_false}
use Rattle.amd_model.specs.Below.{count_below}
use Rattle.amd_model.specs.Graph.{Graph, IsGraph}
use Rattle.amd_model.specs.State.{State, Live, Gone, live}
use Rattle.amd_model.specs.Step.{StepAt}
use Rattle.amd_model.specs.Run.{Steps, last_state}
use Rattle.amd_model.specs.Sound.{IsSound}
use Rattle.amd_model.specs.Quotient.{QuotientGraph, Fits, is_empty, pivot, next, after_rounds}
use Rattle.amd_model.specs.QuotientLaws.{NextIsAStep, RoundsAreARun}
use Rattle.amd_model.proofs.Counting.Below.{count_pos, count_mono, count_split, count_most}
use Rattle.amd_model.proofs.States.Steps.{block_pivot}
use Rattle.amd_model.proofs.States.Words.{live_gives, live_from, class_from, class_gives}
use Rattle.amd_model.proofs.States.Sound.{live_small}
use Rattle.amd_model.proofs.States.SoundStep.{step_sound, was_live, pivot_live}
use Rattle.amd_model.proofs.States.SoundStart.{start_sound, steps_sound}
use Rattle.amd_model.proofs.Quotient.Lists.{empty_gives, empty_from}
use Rattle.amd_model.proofs.Quotient.Round.IsStep.{next_law}

pub next_is_a_step : NextIsAStep
next_is_a_step g aggressive t s laws sound fits some = let k = next_law g laws aggressive t s sound fits some in
    (k.0, k.1, k.2, step_sound g laws aggressive (pivot t.bound t.placed) s k.0 sound k.1)

-- a step leaves fewer rows live: the pivot goes, and no row comes
pub fewer_live : (g : Graph) → IsGraph g → (aggressive : Bool) (c : ℕ) (old new : State) → IsSound g old → StepAt g aggressive c old new →
    count_below g.size (live new) < count_below g.size (live old)
fewer_live g laws aggressive c old new sound step =
    let hc : old.home c ≡ Live c = pivot_live g laws aggressive c old new sound step in
    let gone : new.home c ≡ Gone c = step.gone c (block_pivot g aggressive old c c hc) in
    let split = count_split g.size (live old) (λ v. v == c) in
    let one : 0 < count_below g.size (λ v. live old v && (v == c)) =
    count_pos g.size (λ v. live old v && (v == c)) c (live_small g laws old sound c c hc)
    (and_from (live old c) (c == c) (live_from c (old.home c) hc) (eq-eqb c c refl)) in
    let less : count_below g.size (live new) ≤ count_below g.size (λ v. live old v && not (v == c)) =
    count_mono g.size (live new) (λ v. live old v && not (v == c)) (λ v l h.
    let d = live_gives (new.home v) h in let o = was_live g laws aggressive c old new sound step v d.0 d.1 in
    and_from (live old v) (not (v == c)) (live_from o.0 (old.home v) o.1) (not_from_false (v == c) (elim (cases_Bool (v == c)) [
      | inr n ↦ n
      | inl y ↦ absurd (let q : new.home v ≡ Gone c = ap new.home (eqb-true v c y) ∙ gone in let m = d.1 in cc)
    ]))) in
    omega (arith, split, one, less)

-- what is placed is nothing, if no row is live
none_placed : (g : Graph) → IsGraph g → (t : QuotientGraph) (s : State) → IsSound g s → Fits g t s → count_below g.size (live s) ≤ 0 →
    is_empty t.placed ≡ true
none_placed g laws t s sound fits few = empty_from t.placed (λ i h. let hi = class_gives i (s.home i) (sym (fits.placed i) ∙ h) in
    let some = count_pos g.size (live s) i (live_small g laws s sound i i hi) (live_from i (s.home i) hi) in omega (arith, some, few))

rounds_law : (n : ℕ) (g : Graph) → IsGraph g → (aggressive : Bool) (t : QuotientGraph) (s : State) → IsSound g s → Fits g t s →
    count_below g.size (live s) ≤ n →
    (states : List State) × Steps g aggressive s states × Fits g (after_rounds n aggressive t) (last_state s states)
    × (is_empty (after_rounds n aggressive t).placed ≡ true)
unfolding after_rounds
rounds_law zero g laws aggressive t s sound fits few = ([], tt, fits, none_placed g laws t s sound fits few)
rounds_law (suc n) g laws aggressive t s sound fits few = elim (cases_Bool (is_empty t.placed)) [
  | inl none ↦ (let e = sym (cond-true (is_empty t.placed) t (after_rounds n aggressive (next aggressive t)) none) in
      ([], tt, subst (λ u. Fits g u s) e fits, subst (λ u. is_empty u.placed ≡ true) e none))
  | inr some ↦ (let c : ℕ = pivot t.bound t.placed in
      let k = next_is_a_step g aggressive t s laws sound fits some in
      let less = fewer_live g laws aggressive c s k.0 sound k.1 in
      let r = rounds_law n g laws aggressive (next aggressive t) k.0 k.3 k.2 (omega (arith, less, few)) in
      let e = sym (cond-false (is_empty t.placed) t (after_rounds n aggressive (next aggressive t)) some) in
      (k.0 ∷ r.0, ((c, k.1), r.1), subst (λ u. Fits g u (last_state k.0 r.0)) e r.2, subst (λ u. is_empty u.placed ≡ true) e r.3))
]

is_nil : (xs : List ℕ) → is_empty xs ≡ true → xs ≡ []
unfolding is_empty
is_nil [] e = refl
is_nil (x ∷ xs) e = absurd (true≢false (sym e))

pub rounds_are_a_run : RoundsAreARun
rounds_are_a_run g dense aggressive t s laws start fits =
    let sound = start_sound g laws dense s start in
    let r = rounds_law g.size g laws aggressive t s sound fits (count_most g.size (live s)) in
    let last : State = last_state s r.0 in
    let sound' = steps_sound g laws aggressive s r.0 sound r.1 in (
      r.0,
      record {
        start = start;
        steps = r.1;
        end = λ v. elim (cases_Bool (live last v)) [
          | inr n ↦ n
          | inl y ↦ (let d = live_gives (last.home v) y in
              absurd (empty_gives (after_rounds g.size aggressive t).placed r.3 d.0
              (r.2.placed d.0 ∙ class_from d.0 (last.home d.0) (sound'.named v d.0 d.1))))
        ];
      },
      r.2,
      is_nil (after_rounds g.size aggressive t).placed r.3,
    )
