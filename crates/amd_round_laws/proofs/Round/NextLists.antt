-- The lists of classes and elements after a round are those of the rules.
use Rattle.std.proofs.Common.{ℕ, Bool, true, false, List, [], ◌∷◌, ◌≡◌, ◌<◌, ◌∙◌, ◌||◌}
use Rattle.std.proofs.Common.{not, cond, ap, sym, inl, inr, arith}
use Rattle.std.specs.Prelude.{filter, nat_lt, ◌==◌}
use Rattle.std.proofs.lemmas.Bool.{cases_Bool, cond-true, cond-false, or_parts, and_from}
use Rattle.std.proofs.lemmas.Bool.{eqb-true, not-true}
use Rattle.amd_model.specs.Graph.{Graph}
use Rattle.amd_model.specs.State.{State}
use Rattle.amd_model.specs.Quotient.{QuotientGraph, has, is_empty, turned, absorbed, kept_elements, kept_variables}
use Rattle.amd_model.specs.Quotient.{ends, round}
use Rattle.amd_model.proofs.States.Words.{neighbours_gives, holds_gives}
use Rattle.amd_model.proofs.Quotient.Lists.{has_turned, some_of}
use Rattle.amd_model.proofs.Listings.Words.{has_filter as filter_gives}
use Rattle.amd_model.proofs.Counting.Below.{clash}
use Rattle.amd_round_laws.specs.Views.{live_of}
use Rattle.amd_round_laws.specs.Rounds.{IsApart}
use Rattle.amd_round_laws.specs.Views.{View}
use Rattle.amd_round_laws.proofs.Lists.Named.{filter_all, not_empty}
use Rattle.amd_round_laws.proofs.Round.Turn.{Turn, class_of, front_placed, in_front, in_made, made_front}
use Rattle.amd_round_laws.proofs.Round.Turn.{placed_of, parts}
use Rattle.amd_round_laws.proofs.Round.Sizes.{class_size, live_new, made_placed, new_live, new_placed, not_ends, placed_cases}

-- a list that has something left had something
had_some : (xs : List ℕ) (p : ℕ → Bool) → is_empty (filter p xs) ≡ false → is_empty xs ≡ false
had_some xs p h = let x = some_of (filter p xs) h in not_empty xs x.0 (filter_gives p xs x.0 x.1).0

module _ {g : Graph} {dense : ℕ → Bool} {aggressive : Bool} {w v : View} {t : QuotientGraph} {s : State}
    (turn : Turn g dense aggressive w v t s)
  where
    open turn use {before as st, wrote as r, found as f}
    open parts turn use {L, M, new_lists}

    -- and they have the rows that they had
    pub kept_outside : (i : ℕ) → has L i ≡ true → (j : ℕ) → has (kept_variables aggressive t r.c L i) j ≡ true → (has t.placed j ≡ true)
        × ((j == r.c) ≡ false) × (has L j ≡ false)
    unfolding kept_variables
    kept_outside i l j a = let p = filter_gives (λ j. not (j == r.c || has L j)) (t.variables i) j a in
        let q = or_parts (j == r.c) (has L j) (not-true (j == r.c || has L j) p.1) in
        let n = neighbours_gives g s i j (sym (st.fits.variables i j (class_of turn i (front_placed turn i l))) ∙ p.0) in
        (placed_of turn j n.second, q.0, q.1)

    -- what a class of the front keeps are classes outside
    kept_placed : (i : ℕ) → has L i ≡ true → (j : ℕ) → has (kept_variables aggressive t r.c L i) j ≡ true → has new_lists.placed j ≡ true
    unfolding kept_variables
    kept_placed i l j a = let p = filter_gives (λ j. not (j == r.c || has L j)) (t.variables i) j a in
        let q = or_parts (j == r.c) (has L j) (not-true (j == r.c || has L j) p.1) in
        let n = neighbours_gives g s i j (sym (st.fits.variables i j (class_of turn i (front_placed turn i l))) ∙ p.0) in
        new_placed turn j ∙ and_from (has t.placed j) (not (ends aggressive t r.c L j)) (placed_of turn j n.second)
        (not_ends turn j q.0 q.1)

    -- a class that is neither the pivot nor in its front
    pub apart : (i : ℕ) → has t.placed i ≡ true → (i == r.c) ≡ false → has L i ≡ false → IsApart w.size r.c r.front i
    apart i h other outside = record {
      class = let a = st.keeps.size i h in let b = class_size turn i h in omega (arith, a, b);
      other = other;
      outside = in_front turn i ∙ outside;
    }

    -- an element with members is listed by a class
    listed : (e : ℕ) → is_empty (t.members e) ≡ false → (i : ℕ) × (0 < w.size i) × (has (w.lists.elements i) e ≡ true)
    listed e some =
        let m = some_of (t.members e) some in
        let held = sym (st.fits.members e m.0) ∙ m.1 in
        let class = (holds_gives g s e m.0 held).class in
        let placed = placed_of turn m.0 class in
        let a = st.keeps.size m.0 placed in let b = class_size turn m.0 placed in
        (m.0, omega (arith, a, b), ap (λ l. has l e) (st.keeps.elements m.0 placed) ∙ st.fits.elements m.0 e class ∙ held)

    none_taken : (e : ℕ) → (e == r.c) ≡ false → absorbed aggressive t r.c L e ≡ true →
        is_empty (cond (e == r.c) M (cond (absorbed aggressive t r.c L e) [] (filter (λ j. not (ends aggressive t r.c L j)) (t.members e))))
        ≡ true
    unfolding is_empty
    none_taken e n y = ap is_empty (cond-false (e == r.c) M (cond (absorbed aggressive t r.c L e) []
        (filter (λ j. not (ends aggressive t r.c L j)) (t.members e))) n
        ∙ cond-true (absorbed aggressive t r.c L e) [] (filter (λ j. not (ends aggressive t r.c L j)) (t.members e)) y)

    -- the lists are kept
    pub variables_kept : (i : ℕ) → has new_lists.placed i ≡ true → live_of v.size (v.lists.variables i) ≡ new_lists.variables i
    unfolding round
    variables_kept i h = elim (cases_Bool (has M i)) [
      | inl m ↦ (let l = made_front turn i m in let kv : List ℕ = kept_variables aggressive t r.c L i in
          ap (live_of v.size) (r.variables_are i (in_made turn i ∙ m) ∙ ap turned (f.variables i l))
          ∙ filter_all (λ j. nat_lt 0 (v.size j)) (turned kv) (λ j a. new_live turn j ∙ kept_placed i l j (sym (has_turned kv j) ∙ a))
          ∙ sym (cond-true (has M i) (turned kv) (filter (λ j. not (ends aggressive t r.c L j)) (t.variables i)) m))
      | inr n ↦ (let p = placed_cases turn i h n in
          ap (live_of v.size) (r.variables_stay i (apart i p.0 p.1 p.2))
          ∙ live_new turn (w.lists.variables i) ∙ ap (filter (λ j. not (ends aggressive t r.c L j))) (st.keeps.variables i p.0)
          ∙ sym (cond-false (has M i) (turned (kept_variables aggressive t r.c L i))
          (filter (λ j. not (ends aggressive t r.c L j)) (t.variables i)) n))
    ]

    pub elements_kept : (i : ℕ) → has new_lists.placed i ≡ true → v.lists.elements i ≡ new_lists.elements i
    unfolding round
    elements_kept i h = elim (cases_Bool (has M i)) [
      | inl m ↦ r.elements_are i (in_made turn i ∙ m)
          ∙ ap (λ l. r.c ∷ turned l) (f.elements i (made_front turn i m)) ∙ sym
          (cond-true (has M i) (r.c ∷ turned (kept_elements aggressive t r.c L i)) (t.elements i) m)
      | inr n ↦ (let p = placed_cases turn i h n in
          r.elements_stay i (apart i p.0 p.1 p.2) ∙ st.keeps.elements i p.0
          ∙ sym (cond-false (has M i) (r.c ∷ turned (kept_elements aggressive t r.c L i)) (t.elements i) n))
    ]

    pub members_kept : (e : ℕ) → is_empty (new_lists.members e) ≡ false → live_of v.size (v.members e) ≡ new_lists.members e
    unfolding round
    members_kept e some = elim (cases_Bool (e == r.c)) [
      | inl y ↦ ap (live_of v.size) (ap v.members (eqb-true e r.c y) ∙ r.members_are ∙ f.made_is)
          ∙ filter_all (λ j. nat_lt 0 (v.size j)) M (λ j a. new_live turn j ∙ made_placed turn j a)
          ∙ sym (cond-true (e == r.c) M (cond (absorbed aggressive t r.c L e) []
          (filter (λ j. not (ends aggressive t r.c L j)) (t.members e)))
          y)
      | inr n ↦ elim (cases_Bool (absorbed aggressive t r.c L e)) [
        | inl y ↦ clash (none_taken e n y) some
        | inr k ↦ (let e1 = cond-false (e == r.c) M (cond (absorbed aggressive t r.c L e) []
            (filter (λ j. not (ends aggressive t r.c L j)) (t.members e))) n in
            let e2 = cond-false (absorbed aggressive t r.c L e) [] (filter (λ j. not (ends aggressive t r.c L j)) (t.members e)) k in
            let had = had_some (t.members e) (λ j. not (ends aggressive t r.c L j)) (sym (ap is_empty (e1 ∙ e2)) ∙ some) in
            let by = listed e had in
            ap (live_of v.size) (r.members_stay e by.0 by.1 by.2 n (f.taken e ∙ k))
            ∙ live_new turn (w.members e)
            ∙ ap (filter (λ j. not (ends aggressive t r.c L j))) (st.keeps.members e had)
            ∙ sym (e1 ∙ e2))
      ]
    ]
