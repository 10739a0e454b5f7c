-- The counters of a round after its front is met: which elements they know, and which of them end.
use Rattle.std.proofs.Common.{ℕ, Bool, true, false, ◌≡◌, ◌<◌, ◌≤◌, ◌+◌, ◌-◌, ◌||◌, inl, inr, refl, sym, ap, ◌∙◌, cond, arith}
use Rattle.std.specs.Prelude.{◌==◌}
use Rattle.std.proofs.lemmas.Bool.{cases_eq, eq-eqb, eqb-true, cond-false}
use Rattle.amd_model.specs.Graph.{Graph}
use Rattle.amd_model.specs.State.{State}
use Rattle.amd_model.specs.Quotient.{QuotientGraph, has, Once}
use Rattle.amd_model.proofs.Counting.Below.{clash}
use Rattle.amd_words.specs.Words.{num, word, place, size_of}
use Rattle.amd_lists.specs.Layout.{rows_met}
use Rattle.amd_lists.specs.Layout.{elements_in}
use Rattle.amd_fronts.proofs.Counting.{counted_none}
use Rattle.amd_elements.proofs.Touching.{front_once}
use Rattle.amd_lists.specs.Workspaces.{Workspace}
use Rattle.amd_rounds.proofs.Standing as standing
use Rattle.amd_rounds.proofs.Settled.{settled_under, settled_zero}
use Rattle.amd_rounds.proofs.Halves.{HalfRound, front, ends_by, front_here, counters_here, front_placed, pivot_placed, met_begun}
use Rattle.amd_rounds.proofs.Halves.{counted}

module _ {g : Graph} {dense : ℕ → Bool} {nzaat : ℕ} {aggressive : Bool} {p : Workspace} {t : QuotientGraph} {s : State}
    (r : HalfRound g dense nzaat aggressive p t s) where
  pub once_front : Once (front r)
  once_front = Rattle.std.proofs.Common.subst Once (sym (front_here r)) (front_once p.iw p.nv p.pe p.len r.c (place (word p.e_len r.c)))

  -- the rows of an element that are met, over the lists before the round
  abbrev seen : ℕ → ℕ
  seen e = rows_met p.iw p.pe p.e_len p.nv (front r) e

  abbrev seen_here : ℕ → ℕ
  seen_here e = rows_met r.p2.iw r.p2.pe r.p2.e_len r.p2.nv (front r) e

  pub seen_few : (e : ℕ) → rows_met r.p2.iw r.p2.pe r.p2.e_len r.p2.nv (front r) e ≤ num p.degree e
  seen_few e = let a = standing.met_few g dense nzaat p t s r.st (front r) once_front (front_placed r) e in
      let b = met_begun r e in omega (arith, a, b)

  -- an element of which rows are met is listed by a class of the front
  pub seen_listed : (e : ℕ) → 0 < rows_met r.p2.iw r.p2.pe r.p2.e_len r.p2.nv (front r) e →
      (i : ℕ) × (has (front r) i ≡ true) × (has (elements_in p.iw p.pe p.e_len i) e ≡ true)
  seen_listed e l = let b = met_begun r e in
      elim (standing.some_term (λ i. cond (has (elements_in p.iw p.pe p.e_len i) e) (size_of p.nv i) 0) (front r)) [
        | inl none ↦ (let z : seen e ≡ 0 = none in absurd (omega (arith, b, z, l)))
        | inr q ↦ (q.0, q.1, listed (has (elements_in p.iw p.pe p.e_len q.0) e) (size_of p.nv q.0) q.2)
      ]
    where
      listed : (b : Bool) (m : ℕ) → 0 < cond b m 0 → b ≡ true
      listed true m l = refl
      listed false m l = absurd (omega (arith, l))

  -- no class is listed
  pub seen_none : (j : ℕ) → has t.placed j ≡ true → rows_met r.p2.iw r.p2.pe r.p2.e_len r.p2.nv (front r) j ≡ 0
  seen_none j k = elim (cases_eq (seen_here j) 0) [
    | inl z ↦ z
    | inr nz ↦ (let q = seen_listed j (omega (arith, nz)) in
        clash q.2 (standing.element_apart g dense nzaat p t s r.st q.0 j (front_placed r q.0 q.1) k))
  ]

  pub counters_under : (most : ℕ) → p.most ≤ most → (e : ℕ) → num r.p3.w e < r.p3.flag + most
  counters_under most high e = let a = counted r e in
      let b = settled_under aggressive r.p3.flag (num r.turns.first e) (num p.degree e) (seen_here e) most
      r.turns.renews.two (r.turns.renews.under e)
      (λ some rows_met. let q = seen_listed e rows_met in
      let d = (standing.element_flip g dense nzaat p t s r.st q.0 e (front_placed r q.0 q.1) q.2).3 in
      (seen_few e, omega (arith, d, high))) in omega (arith, a, b)

  -- a counter is 0 after the count exactly if it was after the beginning, or if the element ended
  pub counter_zero : (e : ℕ) → (num r.p3.w e == 0) ≡ (num r.p2.w e == 0 || ends_by r e)
  counter_zero e = ap (λ m. m == 0) (counted r e)
      ∙ settled_zero aggressive r.p3.flag (num r.turns.first e) (num p.degree e) (seen_here e) r.turns.renews.two
      (r.turns.renews.under e) (seen_few e)
      ∙ ap (λ b. b || ends_by r e) (r.turns.renews.zeros e)

  -- the counter of an open class is above 0
  pub class_counter : (j : ℕ) → has t.placed j ≡ true → 0 < num r.p3.w j
  class_counter j k =
      let class = (standing.placed_class g dense nzaat p t s r.st j k).0 in
      let some = r.st.laid.standing j (r.st.laid.classes j class).0 in
      let own = standing.element_apart g dense nzaat p t s r.st r.c j (pivot_placed r) k in
      let was : num r.p2.w j ≡ num p.w j = counters_here r j ∙ cond-false (has (elements_in p.iw p.pe p.e_len r.c) j) 0 (num p.w j) own in
      let stays = counted_none aggressive r.p3.flag (num r.turns.first j) (num p.degree j) (seen_here j) r.turns.renews.two
      (r.turns.renews.under j)
      (seen_none j k) in
      let a = counted r j in
      let first : num r.turns.first j ≡ 0 → ⊥ = λ z. (let b = eqb-true (num r.p2.w j) 0 (sym (r.turns.renews.zeros j)
      ∙ eq-eqb (num r.turns.first j) 0 z) in omega (arith, b, was, some)) in
      above (num r.p3.w j) (num r.turns.first j) (a ∙ sym stays) first
    where
      above : (x y : ℕ) → x ≡ y → (y ≡ 0 → ⊥) → 0 < x
      above x y e n = elim (cases_eq y 0) [ inl z ↦ absurd (n z) | inr nz ↦ omega (arith, e, nz) ]
