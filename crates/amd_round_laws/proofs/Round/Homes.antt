-- Where a row is after a round, by where it was.
use Rattle.std.proofs.Common.{ℕ, Bool, true, false, ◌≡◌, ◌∙◌, ◌&&◌, ◌||◌}
use Rattle.std.proofs.Common.{cond, ap, sym, refl, inl, inr}
use Rattle.std.specs.Prelude.{◌==◌, ◌⊎◌}
use Rattle.std.proofs.Math.Bool.{and-false}
use Rattle.std.proofs.lemmas.Bool.{cases_Bool, cases_eq, cond-true, cond-false, or_left, or_right, or_from, and_from}
use Rattle.std.proofs.lemmas.Bool.{and_left, eq-eqb, ne_eqb}
use Rattle.amd_model.specs.Graph.{Graph}
use Rattle.amd_model.specs.State.{State, Home, Last, Live, Gone}
use Rattle.amd_model.specs.Quotient.{QuotientGraph, has, mass}
use Rattle.amd_model.specs.Quotient.{represents, new_home, round}
use Rattle.amd_model.proofs.Quotient.Sums.{home_cases}
use Rattle.amd_round_laws.specs.Views.{View}
use Rattle.amd_round_laws.proofs.Round.Turn.{Turn, class_of, front_placed, in_left, made_front, made_rest, not_c, parts}
use Rattle.amd_round_laws.proofs.Round.Turn.{outside_rest, rest_front, rest_keeps}

module _ {g : Graph} {dense : ℕ → Bool} {aggressive : Bool} {w v : View} {t : QuotientGraph} {s : State}
    (turn : Turn g dense aggressive w v t s)
  where
    open turn use {before as st, wrote as r, found as f}
    open parts turn use {L, R, M, new_lists}

    home_of : (i : ℕ) → has t.placed i ≡ true → t.home i ≡ Live i
    home_of i h = st.fits.home i ∙ class_of turn i h

    abbrev pub moved : Home → Home
    moved h = new_home aggressive t r.c L h

    moved_pivot : moved (Live r.c) ≡ Gone r.c
    unfolding new_home
    moved_pivot = cond-true (r.c == r.c || (has L r.c && mass aggressive t r.c L r.c)) (Gone r.c)
        (cond (has R r.c) (Live (represents aggressive t r.c L r.c)) (Live r.c))
        (or_left (r.c == r.c) (has L r.c && mass aggressive t r.c L r.c) (eq-eqb r.c r.c refl))

    moved_done : (d : ℕ) → has L d ≡ true → mass aggressive t r.c L d ≡ true → moved (Live d) ≡ Gone r.c
    unfolding new_home
    moved_done d h k = cond-true (d == r.c || (has L d && mass aggressive t r.c L d)) (Gone r.c)
        (cond (has R d) (Live (represents aggressive t r.c L d)) (Live d))
        (or_right (d == r.c) (has L d && mass aggressive t r.c L d) (and_from (has L d) (mass aggressive t r.c L d) h k))

    moved_rest : (d : ℕ) → has R d ≡ true → moved (Live d) ≡ Live (represents aggressive t r.c L d)
    unfolding new_home
    moved_rest d h = cond-false (d == r.c || (has L d && mass aggressive t r.c L d)) (Gone r.c)
        (cond (has R d) (Live (represents aggressive t r.c L d)) (Live d))
        (or_from (d == r.c) (has L d && mass aggressive t r.c L d) (not_c turn d (rest_front turn d h))
        (ap (λ b. has L d && b) (rest_keeps turn d h) ∙ and-false (has L d)))
        ∙ cond-true (has R d) (Live (represents aggressive t r.c L d)) (Live d) h

    pub moved_other : (d : ℕ) → (d == r.c) ≡ false → has L d ≡ false → moved (Live d) ≡ Live d
    unfolding new_home
    moved_other d e n = cond-false (d == r.c || (has L d && mass aggressive t r.c L d)) (Gone r.c)
        (cond (has R d) (Live (represents aggressive t r.c L d)) (Live d))
        (or_from (d == r.c) (has L d && mass aggressive t r.c L d) e (and_left (has L d) (mass aggressive t r.c L d) n))
        ∙ cond-false (has R d) (Live (represents aggressive t r.c L d)) (Live d) (outside_rest turn d n)

    pub moved_gone : (e : ℕ) → moved (Gone e) ≡ Gone e
    unfolding new_home
    moved_gone e = refl

    pub moved_last : moved Last ≡ Last
    unfolding new_home
    moved_last = refl

    pub new_home_is : (x : ℕ) → new_lists.home x ≡ moved (t.home x)
    unfolding round
    new_home_is x = refl

    pub rest_home : (x : ℕ) → has R x ≡ true → new_lists.home x ≡ Live (represents aggressive t r.c L x)
    rest_home x h = new_home_is x ∙ ap moved (home_of x (front_placed turn x (rest_front turn x h))) ∙ moved_rest x h

    pub made_home : (x : ℕ) → has M x ≡ true → new_lists.home x ≡ Live x
    made_home x h = let m = made_rest turn x h in rest_home x m.0 ∙ ap Live m.1

    pub pivot_home : new_lists.home r.c ≡ Gone r.c
    pivot_home = new_home_is r.c ∙ ap moved (home_of r.c f.placed) ∙ moved_pivot

    pub done_home : (x : ℕ) → has L x ≡ true → mass aggressive t r.c L x ≡ true → new_lists.home x ≡ Gone r.c
    done_home x h k = new_home_is x ∙ ap moved (home_of x (front_placed turn x h)) ∙ moved_done x h k

    -- a row that names a class or an element did so before, or is the pivot
    pub was_live : (x : ℕ) → new_lists.home x ≡ Live x → t.home x ≡ Live x
    was_live x h = elim (home_cases (t.home x)) [
      | inl z ↦ absurd (let k = sym h ∙ new_home_is x ∙ ap moved z ∙ moved_last in cc)
      | inr (inl (d, z)) ↦ (let m = sym h ∙ new_home_is x ∙ ap moved z in elim (cases_eq d r.c) [
        | inl y ↦ absurd (let k = m ∙ ap moved (ap Live y) ∙ moved_pivot in cc)
        | inr ne ↦ elim (cases_Bool (has L d)) [
          | inl l ↦ elim (cases_Bool (mass aggressive t r.c L d)) [
            | inl k ↦ absurd (let q = m ∙ moved_done d l k in cc)
            | inr k ↦ (let q : Live x ≡ Live (represents aggressive t r.c L d) = m ∙ moved_rest d (in_left turn d l k) in
                let e : x ≡ represents aggressive t r.c L d = cc in
                home_of x (front_placed turn x (made_front turn x (ap (has M) e ∙ f.one_made d (in_left turn d l k)))))
          ]
          | inr n ↦ (let q : Live x ≡ Live d = m ∙ moved_other d (ne_eqb d r.c ne) n in z ∙ sym q)
        ]
      ])
      | inr (inr (e, z)) ↦ absurd (let k = sym h ∙ new_home_is x ∙ ap moved z ∙ moved_gone e in cc)
    ]

    pub was_gone : (x : ℕ) → new_lists.home x ≡ Gone x → (t.home x ≡ Live x) ⊎ (t.home x ≡ Gone x)
    was_gone x h = elim (home_cases (t.home x)) [
      | inl z ↦ absurd (let k = sym h ∙ new_home_is x ∙ ap moved z ∙ moved_last in cc)
      | inr (inl (d, z)) ↦ inl (let m = sym h ∙ new_home_is x ∙ ap moved z in elim (cases_eq d r.c) [
        | inl y ↦ (let k : Gone x ≡ Gone r.c = m ∙ ap moved (ap Live y) ∙ moved_pivot in let e : x ≡ r.c = cc in z ∙ ap Live (y ∙ sym e))
        | inr ne ↦ elim (cases_Bool (has L d)) [
          | inl l ↦ elim (cases_Bool (mass aggressive t r.c L d)) [
            | inl k ↦ (let q : Gone x ≡ Gone r.c = m ∙ moved_done d l k in let e : x ≡ r.c = cc in
                ap t.home e ∙ home_of r.c f.placed ∙ sym (ap Live e))
            | inr k ↦ absurd (let q = m ∙ moved_rest d (in_left turn d l k) in cc)
          ]
          | inr n ↦ absurd (let q = m ∙ moved_other d (ne_eqb d r.c ne) n in cc)
        ]
      ])
      | inr (inr (e, z)) ↦ inr (let k : Gone x ≡ Gone e = sym h ∙ new_home_is x ∙ ap moved z ∙ moved_gone e in z ∙ sym k)
    ]

    pub was_last : (x : ℕ) → new_lists.home x ≡ Last → t.home x ≡ Last
    was_last x h = elim (home_cases (t.home x)) [
      | inl z ↦ z
      | inr (inl (d, z)) ↦ absurd (let m = sym h ∙ new_home_is x ∙ ap moved z in elim (cases_eq d r.c) [
        | inl y ↦ (let k = m ∙ ap moved (ap Live y) ∙ moved_pivot in cc)
        | inr ne ↦ elim (cases_Bool (has L d)) [
          | inl l ↦ elim (cases_Bool (mass aggressive t r.c L d)) [
            | inl k ↦ (let q = m ∙ moved_done d l k in cc)
            | inr k ↦ (let q = m ∙ moved_rest d (in_left turn d l k) in cc)
          ]
          | inr n ↦ (let q = m ∙ moved_other d (ne_eqb d r.c ne) n in cc)
        ]
      ])
      | inr (inr (e, z)) ↦ absurd (let k = sym h ∙ new_home_is x ∙ ap moved z ∙ moved_gone e in cc)
    ]
