-- Where rows are after a round, and the parents of elements.
use Rattle.std.proofs.Common.{ℕ, Bool, true, false, ◌≡◌, ◌≢◌, ◌&&◌, ◌||◌, not, cond, ◌⊎◌, inl, inr, refl, sym, ◌∙◌, ap}
use Rattle.std.specs.Prelude.{◌==◌, None, Some}
use Rattle.std.proofs.lemmas.Bool.{cases_Bool, and_parts, and_from, or_left, or_right, or_from, eq-eqb, ne_eqb, cond-true, cond-false}
use Rattle.std.proofs.lemmas.Bool.{not-true, and_left, and_right}
use Rattle.amd_model.specs.Graph.{Graph}
use Rattle.amd_model.specs.State.{State, Home, Last, Live, Gone}
use Rattle.amd_model.specs.Step.{absorbed, border_of}
use Rattle.amd_model.specs.Quotient.{QuotientGraph, has, border_of as border_of_listed, new_home, round}
use Rattle.amd_model.proofs.States.Words.{class_from, front_gives}
use Rattle.amd_model.proofs.States.Next.{next_state, unbounded}
use Rattle.amd_model.proofs.States.SoundStep.{goes, moves, stays}
use Rattle.amd_model.proofs.States.Steps.{mass_gives, block_cases, border_whole}
use Rattle.amd_model.proofs.Quotient.Sums.{home_cases}
use Rattle.amd_model.proofs.Quotient.Lists.{has_filter}
use Rattle.amd_model.proofs.Quotient.Round.RoundAt.{RoundAt, border_list, representative, keeps_none, pivot_live}
use Rattle.amd_model.proofs.Quotient.Round.Front.{class_front, row_front, absorbed_is}
use Rattle.amd_model.proofs.Quotient.Round.Kept.{mass_is}
use Rattle.amd_model.proofs.Quotient.Round.Border.{border_is}
use Rattle.amd_model.proofs.Quotient.Round.After.{parts, state_after, fate_of, moved_to, border_front}
use Rattle.amd_model.proofs.Counting.Below.{clash}

module _ {g : Graph} {aggressive : Bool} {t : QuotientGraph} {s : State} {c : ℕ} (this : RoundAt g aggressive t s c) where
  open this use {laws, sound, fits}
  open parts this use {L, new, now}

  pub parent_after : (e : ℕ) → now.parent e ≡ new.parent e
  unfolding round state_after next_state unbounded
  parent_after e = ap (λ b. cond (e == c) None (cond b (Some c) (t.parent e))) (absorbed_is this e) ∙
      ap (λ p. cond (e == c) None (cond (absorbed g aggressive s c e) (Some c) p)) (fits.parent e)

  pub class_on_border : (v x : ℕ) → s.home v ≡ Live x → border_of g aggressive s c v ≡ true → border_of g aggressive s c x ≡ true
  class_on_border v x h b = border_whole g laws aggressive s sound c x v x h (sound.named v x h) b

  pub row_on_border : (v x : ℕ) → s.home v ≡ Live x → border_of g aggressive s c x ≡ true → border_of g aggressive s c v ≡ true
  row_on_border v x h b = border_whole g laws aggressive s sound c x x v (sound.named v x h) h b

  border_keeps : (x : ℕ) → has (border_list this) x ≡ true → (has L x ≡ true) × (keeps_none this x ≡ false)
  unfolding border_of_listed
  border_keeps x k = let p = and_parts (has L x) (not (keeps_none this x))
      (sym (has_filter (λ i. not (keeps_none this i)) L x) ∙ k) in (p.0, not-true (keeps_none this x) p.1)

  home_gone : (v d : ℕ) → s.home v ≡ Live d → (d == c || (has L d && keeps_none this d)) ≡ true →
      new_home aggressive t c L (s.home v) ≡ Gone c
  unfolding new_home
  home_gone v d h k = ap (new_home aggressive t c L) h ∙ cond-true (d == c || (has L d && keeps_none this d)) (Gone c) _ k

  home_live : (v d : ℕ) → s.home v ≡ Live d → d ≢ c → (has L d && keeps_none this d) ≡ false →
      new_home aggressive t c L (s.home v) ≡ cond (has (border_list this) d) (Live (representative this d)) (Live d)
  unfolding new_home
  home_live v d h ne k = ap (new_home aggressive t c L) h ∙ cond-false (d == c || (has L d && keeps_none this d))
      (Gone c) _ (or_from (d == c) (has L d && keeps_none this d) (ne_eqb d c ne) k)

  home_other : (h : Home) → (h ≡ Last) ⊎ ((e : ℕ) × (h ≡ Gone e)) → new_home aggressive t c L h ≡ h
  unfolding new_home
  home_other h (inl q) = rw q refl
  home_other h (inr q) = rw q.1 refl

  pub home_after : (v : ℕ) → now.home v ≡ new.home v
  unfolding round
  home_after v = ap (new_home aggressive t c L) (fits.home v) ∙ elim (fate_of this v) [
    | goes b q ↦ elim (block_cases g aggressive s c v b) [
      | inl h ↦ home_gone v c h (or_left (c == c) (has L c && keeps_none this c) (eq-eqb c c refl))
      | inr k ↦ (let m = mass_gives g aggressive s c k.0 k.1 in let l = class_front this k.0 m.class ∙ m.in_front in
          home_gone v k.0 k.2 (or_right (k.0 == c) (has L k.0 && keeps_none this k.0)
          (and_from (has L k.0) (keeps_none this k.0) l (mass_is this k.0 l ∙ k.1))))
    ] ∙ sym q
    | moves b x i p q r a o w ↦ (let hx = sound.named v x p in let bx = class_on_border v x p b in let rx = border_is this x hx ∙ bx in
        home_live v x p
        (λ e. clash (class_from c (s.home x) (ap s.home e ∙ pivot_live this)) (front_gives g s c x (border_front this x bx)).0)
        (and_right (has L x) (keeps_none this x) (border_keeps x rx).1)
        ∙ cond-true (has (border_list this) x) _ _ rx ∙ sym (moved_to this v x b p))
    | stays ni nf q ↦ elim (home_cases (s.home v)) [
      | inl h ↦ home_other (s.home v) (inl h) ∙ sym q
      | inr k ↦ elim k [
        | inr h ↦ home_other (s.home v) (inr h) ∙ sym q
        | inl h ↦ (let d : ℕ = h.0 in let no = row_front this v d h.1 ∙ nf in
            home_live v d h.1 (λ e. clash (class_from c (s.home v) (h.1 ∙ ap Live e)) ni)
            (and_left (has L d) (keeps_none this d) no)
            ∙ cond-false (has (border_list this) d) _ _
            (elim (cases_Bool (has (border_list this) d)) [ inr n ↦ n | inl y ↦ clash (border_keeps d y).0 no ])
            ∙ sym h.1 ∙ sym q)
      ]
    ]
  ]
