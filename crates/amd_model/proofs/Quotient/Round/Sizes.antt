-- The rows of S, and the sizes of classes after a round.
use Rattle.std.proofs.Common.{ℕ, Bool, true, ◌≡◌, not, inl, inr, sym, ◌∙◌, ap, List}
use Rattle.std.specs.Prelude.{filter, ◌==◌, sum_by}
use Rattle.std.proofs.lemmas.Bool.{cases_Bool, and_parts, and_from, eqb-true, eq-eqb, cond-true, cond-false}
use Rattle.std.specs.Cmp.{both_ways}
use Rattle.amd_model.specs.Below.{count_below}
use Rattle.amd_model.specs.Graph.{Graph}
use Rattle.amd_model.specs.State.{State, Live, in_class}
use Rattle.amd_model.specs.Step.{border_of}
use Rattle.amd_model.specs.Quotient.{QuotientGraph, has, border_of as border_of_listed, new_size, round, Once}
use Rattle.amd_model.proofs.Counting.Below.{count_same, clash}
use Rattle.amd_model.proofs.States.Words.{class_gives, class_from, live_gives}
use Rattle.amd_model.proofs.States.Sound.{front_live}
use Rattle.amd_model.proofs.States.SoundStep.{goes, moves, stays, class_border}
use Rattle.amd_model.proofs.Quotient.Sums.{named, named_gives, named_from, class_sum}
use Rattle.amd_model.proofs.Quotient.Lists.{has_filter, once_filter}
use Rattle.amd_model.proofs.Quotient.Round.RoundAt.{RoundAt, border_list, made_list, representative, keeps_none}
use Rattle.amd_model.proofs.Quotient.Round.Front.{row_front, front_once}
use Rattle.amd_model.proofs.Quotient.Round.Border.{border_is, border_class}
use Rattle.amd_model.proofs.Quotient.Round.After.{parts, fate_of, class_before, moved_to, made_from}
use Rattle.amd_model.proofs.Quotient.Round.After.{border_front, out_of, not_made}
use Rattle.amd_model.proofs.Quotient.Round.Homes.{class_on_border, row_on_border}

module _ {g : Graph} {aggressive : Bool} {t : QuotientGraph} {s : State} {c : ℕ} (this : RoundAt g aggressive t s c) where
  open this use {laws, sound, fits}
  open parts this use {L, new, step, now}

  -- the rows of S
  pub border_named : (v : ℕ) → named (border_list this) (s.home v) ≡ border_of g aggressive s c v
  border_named v = both_ways (named (border_list this) (s.home v)) (border_of g aggressive s c v)
      (λ k. let d = named_gives (border_list this) (s.home v) k in row_on_border this v d.0 d.1 (border_class this d.0 d.2).1)
      (λ b. let d = live_gives (s.home v) (front_live g laws s sound c v (border_front this v b)) in
      named_from (border_list this) (s.home v) d.0 d.1 (border_is this d.0 (sound.named v d.0 d.1) ∙ class_on_border this v d.0 d.1 b))

  border_once : Once (border_list this)
  unfolding border_of_listed
  border_once = once_filter (λ i. not (keeps_none this i)) L (front_once this)

  pub border_sum : sum_by t.size (border_list this) ≡ count_below g.size (border_of g aggressive s c)
  border_sum = class_sum g s t.size (border_list this) border_once (λ x k. fits.size x (border_class this x k).0)
      ∙ count_same g.size (λ v. named (border_list this) (s.home v)) (border_of g aggressive s c) (λ v l. border_named v)

  pub size_is : (i : ℕ) → new.home i ≡ Live i → border_of g aggressive s c i ≡ true →
      new_size aggressive t c L i ≡ count_below g.size (in_class new i)
  unfolding new_size
  size_is i hi bi = let xs : List ℕ = border_list this in let p : ℕ → Bool = λ j. representative this j == i in
      class_sum g s t.size (filter p xs) (once_filter p xs border_once)
      (λ x k. fits.size x (border_class this x (and_parts (has xs x) (p x) (sym (has_filter p xs x) ∙ k)).0).0)
      ∙ count_same g.size (λ v. named (filter p xs) (s.home v)) (in_class new i)
      (λ v l. both_ways (named (filter p xs) (s.home v)) (in_class new i v)
      (λ k. let d = named_gives (filter p xs) (s.home v) k in let q = and_parts (has xs d.0) (p d.0) (sym (has_filter p xs d.0) ∙ d.2) in
      class_from i (new.home v) (moved_to this v d.0 (row_on_border this v d.0 d.1 (border_class this d.0 q.0).1) d.1 ∙
      ap Live (eqb-true (representative this d.0) i q.1)))
      (λ k. let hv = class_gives i (new.home v) k in let b = class_border g laws aggressive c s new sound step i v i hi hv bi in
      let d = named_gives xs (s.home v) (border_named v ∙ b) in let m : Live i ≡ Live (representative this d.0) =
      sym hv ∙ moved_to this v d.0 b d.1 in
      let e : representative this d.0 ≡ i = cc in
      named_from (filter p xs) (s.home v) d.0 d.1 (has_filter p xs d.0 ∙
      and_from (has xs d.0) (p d.0) d.2 (eq-eqb (representative this d.0) i e))))

  pub size_after : (i : ℕ) → new.home i ≡ Live i → now.size i ≡ count_below g.size (in_class new i)
  unfolding round
  size_after i hi = elim (cases_Bool (border_of g aggressive s c i)) [
    | inl b ↦ cond-true (has (made_list this) i) _ _ (made_from this i hi b) ∙ size_is i hi b
    | inr nb ↦ cond-false (has (made_list this) i) _ _ (not_made this i nb) ∙ fits.size i (class_before this i hi) ∙
        count_same g.size (in_class s i) (in_class new i)
        (λ v l. let o = out_of this i hi nb in let h = class_before this i hi in both_ways (in_class s i v) (in_class new i v)
        (λ k. let hv = class_gives i (s.home v) k in class_from i (new.home v) (step.kept v
        (elim (cases_Bool (in_class s c v)) [
          | inr n ↦ n
          | inl y ↦ absurd
              (o.not_c (let e : Live i ≡ Live c = sym hv ∙ class_gives c (s.home v) y in cc))
        ])
        (sym (row_front this v i hv) ∙ o.not_L) ∙ hv))
        (λ k. let hv = class_gives i (new.home v) k in class_from i (s.home v) (elim (fate_of this v) [
          | goes b q ↦ absurd (cc)
          | moves b x j p q r a w z ↦ clash (class_border g laws aggressive c s new sound step v i i hv hi b) nb
          | stays ni nf q ↦ sym q ∙ hv
        ])))
  ]
