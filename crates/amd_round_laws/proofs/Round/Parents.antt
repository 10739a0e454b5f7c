-- After a round the parents of elements are those of the rules.
use Rattle.std.proofs.Common.{ℕ, Bool, true, false, None, Some, ◌≡◌, ◌∙◌, ◌&&◌}
use Rattle.std.proofs.Common.{cond, ap, sym, inl, inr}
use Rattle.std.specs.Prelude.{◌==◌}
use Rattle.std.proofs.lemmas.Bool.{cases_Bool, cases_eq, cond-true, cond-false, or_cases}
use Rattle.std.proofs.lemmas.Bool.{and_parts, eq-eqb, ne_eqb}
use Rattle.amd_model.specs.Graph.{Graph}
use Rattle.amd_model.specs.State.{State, front, holds, stands, inside}
use Rattle.amd_model.specs.Step.{absorbed}
use Rattle.amd_model.specs.Quotient.{QuotientGraph, absorbed as absorbed_listed}
use Rattle.amd_model.specs.Quotient.{round}
use Rattle.amd_model.proofs.States.Words.{live_from, holds_gives, stands_gives}
use Rattle.amd_model.proofs.Quotient.Round.Front.{absorbed_is}
use Rattle.amd_round_laws.specs.Views.{View}
use Rattle.amd_round_laws.proofs.Round.Turn.{Turn, class_of, model, parts}

module _ {g : Graph} {dense : ℕ → Bool} {aggressive : Bool} {w v : View} {t : QuotientGraph} {s : State}
    (turn : Turn g dense aggressive w v t s)
  where
    open turn use {before as st, wrote as r, found as f}
    open parts turn use {L, new_lists}

    taken_is : (e : ℕ) → absorbed_listed aggressive t r.c L e ≡ absorbed g aggressive s r.c e
    taken_is e = absorbed_is (model turn) e

    no_takes : absorbed_listed aggressive t r.c L r.c ≡ false
    unfolding absorbed
    no_takes = elim (cases_Bool (absorbed_listed aggressive t r.c L r.c)) [
      | inr n ↦ n
      | inl y ↦ absurd (let h : absorbed g aggressive s r.c r.c ≡ true = sym (taken_is r.c) ∙ y in
          elim (or_cases (holds g s r.c r.c) (aggressive && stands g s r.c && inside g (s.border r.c) (front g s r.c)) h) [
            | inl k ↦ no_stand (holds_gives g s r.c r.c k).standing
            | inr k ↦ no_stand (and_parts aggressive (stands g s r.c) (and_parts (aggressive && stands g s r.c)
                (inside g (s.border r.c) (front g s r.c)) k).0).1
          ])
    ]
      where
        no_stand : stands g s r.c ≡ true → ⊥
        no_stand k = let e = (stands_gives g s r.c k).element in let h = class_of turn r.c f.placed in cc

    pub parents_kept : (e : ℕ) → v.parent e ≡ new_lists.parent e
    unfolding round
    parents_kept e = elim (cases_eq e r.c) [
      | inl y ↦ ap (λ n. v.parent n) y ∙ f.parents r.c ∙ cond-false (absorbed_listed aggressive t r.c L r.c) (Some r.c) (t.parent r.c)
          no_takes
          ∙ st.fits.parent r.c ∙ st.no_parent r.c (live_from r.c (s.home r.c) (class_of turn r.c f.placed))
          ∙ sym (cond-true (e == r.c) None (cond (absorbed_listed aggressive t r.c L e) (Some r.c) (t.parent e)) (eq-eqb e r.c y))
      | inr ne ↦ f.parents e ∙
          sym (cond-false (e == r.c) None (cond (absorbed_listed aggressive t r.c L e) (Some r.c) (t.parent e)) (ne_eqb e r.c ne))
    ]
