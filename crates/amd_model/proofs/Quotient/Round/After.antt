-- The state after a round, the lists that the rules give next, and what becomes of classes.
use Rattle.std.proofs.Common.{ℕ, Bool, true, false, ◌≡◌, ◌≢◌, ◌&&◌, not, inl, inr, sym, ◌∙◌, ap, List}
use Rattle.std.specs.Prelude.{◌==◌}
use Rattle.std.proofs.lemmas.Bool.{cases_Bool, and_parts, and_from, or_parts, or_from, eqb-true, eq-eqb, ne_eqb, not_from_false}
use Rattle.std.proofs.lemmas.Bool.{not_from_true, and_left, and_right, and_cases}
use Rattle.amd_model.specs.Graph.{Graph}
use Rattle.amd_model.specs.State.{State, Live, in_class, front}
use Rattle.amd_model.specs.Step.{StepAt, border_of}
use Rattle.amd_model.specs.Quotient.{QuotientGraph, has, made, ends, round}
use Rattle.amd_model.proofs.States.Words.{class_from, front_gives}
use Rattle.amd_model.proofs.States.Next.{next_state, next_is_step, home_moved}
use Rattle.amd_model.proofs.States.SoundStep.{fate, goes, moves, stays, Fate}
use Rattle.amd_model.proofs.States.NewParts.{was_class}
use Rattle.amd_model.proofs.States.Steps.{border_gives}
use Rattle.amd_model.proofs.Quotient.Lists.{has_filter}
use Rattle.amd_model.proofs.Quotient.Round.RoundAt.{RoundAt, front_list, border_list, made_list, representative, ended, pivot_live}
use Rattle.amd_model.proofs.Quotient.Round.RoundAt.{outside_pivot}
use Rattle.amd_model.proofs.Quotient.Round.Front.{class_front}
use Rattle.amd_model.proofs.Quotient.Round.Border.{border_is, border_class, pick}
use Rattle.amd_model.proofs.Counting.Below.{clash}

module _ {g : Graph} {aggressive : Bool} {t : QuotientGraph} {s : State} {c : ℕ} (this : RoundAt g aggressive t s c) where
  open this use {laws, sound, class, least}

  abbrev L : List ℕ
  L = front_list this

  unfoldable pub state_after : State
  state_after = next_state g aggressive c s (representative this)

  pub step_after : StepAt g aggressive c s state_after
  unfolding state_after
  step_after = next_is_step g laws aggressive c s sound (representative this) (pick this) class least

  abbrev pub lists_after : QuotientGraph
  lists_after = round aggressive t c L

  -- the front of the round, and the state, the step and the lists that come of it
  abbrev pub parts : record { L : List ℕ; new : State; step : StepAt g aggressive c s state_after; now : QuotientGraph }
  parts = record { L = L; new = state_after; step = step_after; now = lists_after }

  pub fate_of : (v : ℕ) → Fate g laws aggressive c s state_after sound step_after v
  fate_of v = fate g laws aggressive c s state_after sound step_after v

  pub class_before : (i : ℕ) → state_after.home i ≡ Live i → s.home i ≡ Live i
  class_before i h = was_class g laws aggressive c s state_after sound step_after i h

  pub moved_to : (v x : ℕ) → border_of g aggressive s c v ≡ true → s.home v ≡ Live x → state_after.home v ≡ Live (representative this x)
  unfolding state_after
  moved_to v x b h = home_moved g laws aggressive c s sound (representative this) (pick this) class least v x b h

  -- the classes of S that are still classes
  pub made_from : (i : ℕ) → state_after.home i ≡ Live i → border_of g aggressive s c i ≡ true → has (made_list this) i ≡ true
  unfolding made
  made_from i h b = let o = class_before i h in let q : Live i ≡ Live (representative this i) = sym h ∙ moved_to i i b o in
      let e : representative this i ≡ i = cc in
      has_filter (λ i. representative this i == i) (border_list this) i ∙
      and_from (has (border_list this) i) (representative this i == i) (border_is this i o ∙ b)
      (eq-eqb (representative this i) i e)

  pub made_class : (i : ℕ) → has (made_list this) i ≡ true → (state_after.home i ≡ Live i) × (border_of g aggressive s c i ≡ true)
  unfolding made
  made_class i k = let p = and_parts (has (border_list this) i) (representative this i == i)
      (sym (has_filter (λ i. representative this i == i) (border_list this) i) ∙ k) in
      let r = border_class this i p.0 in (moved_to i i r.1 r.0 ∙ ap Live (eqb-true (representative this i) i p.1), r.1)

  pub border_front : (i : ℕ) → border_of g aggressive s c i ≡ true → front g s c i ≡ true
  border_front i b = (border_gives g aggressive s c i b).0

  not_pivot : (i : ℕ) → in_class s c i ≡ false → i ≢ c
  not_pivot i out q = clash (class_from c (s.home i) (ap s.home q ∙ pivot_live this)) out

  -- a class of the new state that is not on the border is outside L and c
  pub record Outside (i : ℕ) : Type 0 where
    pub not_c : i ≢ c
    pub not_front : front g s c i ≡ false
    pub not_L : has L i ≡ false
    pub same : state_after.home i ≡ s.home i

  pub out_of : (i : ℕ) → state_after.home i ≡ Live i → border_of g aggressive s c i ≡ false → Outside i
  out_of i h nb = elim (fate_of i) [
    | goes b q ↦ absurd (cc)
    | moves b x j p q r a o w ↦ clash b nb
    | stays ni nf q ↦ record { not_c = not_pivot i ni; not_front = nf; not_L = class_front this i (class_before i h) ∙ nf; same = q }
  ]

  pub kept_class : (i : ℕ) → s.home i ≡ Live i → i ≢ c → front g s c i ≡ false → state_after.home i ≡ Live i
  kept_class i h ne nf = step_after.kept i (outside_pivot this i h ne) nf ∙ h

  pub class_not_ended : (i : ℕ) → state_after.home i ≡ Live i → ended this i ≡ false
  unfolding ends
  class_not_ended i h = elim (cases_Bool (border_of g aggressive s c i)) [
    | inl b ↦ or_from (i == c) (has L i && not (has (made_list this) i))
        (ne_eqb i c (λ q. clash (class_from c (s.home i) (ap s.home q ∙ pivot_live this)) (front_gives g s c i (border_front i b)).0))
        (and_right (has L i) (not (has (made_list this) i))
        (not_from_true (has (made_list this) i) (made_from i h b)))
    | inr nb ↦ (let o = out_of i h nb in or_from (i == c) (has L i && not (has (made_list this) i)) (ne_eqb i c o.not_c)
        (and_left (has L i) (not (has (made_list this) i)) o.not_L))
  ]

  pub not_ended_class : (i : ℕ) → s.home i ≡ Live i → ended this i ≡ false → state_after.home i ≡ Live i
  unfolding ends
  not_ended_class i h n = let p = or_parts (i == c) (has L i && not (has (made_list this) i)) n in
      elim (cases_Bool (has (made_list this) i)) [
        | inl m ↦ (made_class i m).0
        | inr m ↦ kept_class i h (λ q. clash (eq-eqb i c q) p.0) (sym (class_front this i h) ∙
            elim (and_cases (has L i) (not (has (made_list this) i)) p.1) [
              | inl k ↦ k
              | inr k ↦ clash (not_from_false (has (made_list this) i) m) k
            ])
      ]

  pub not_made : (i : ℕ) → border_of g aggressive s c i ≡ false → has (made_list this) i ≡ false
  not_made i nb = elim (cases_Bool (has (made_list this) i)) [ inr k ↦ k | inl k ↦ clash (made_class i k).1 nb ]
