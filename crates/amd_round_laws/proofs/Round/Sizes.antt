-- The classes after a round, and their numbers of rows.
use Rattle.std.proofs.Common.{ℕ, Bool, true, false, List, ◌≡◌, ◌<◌, ◌∙◌, ◌&&◌, ◌||◌}
use Rattle.std.proofs.Common.{not, cond, ap, sym, inl, inr, arith}
use Rattle.std.specs.Prelude.{filter, sum_by, nat_lt, ◌==◌}
use Rattle.std.proofs.Math.Bool.{and-false, and-true}
use Rattle.std.proofs.lemmas.Bool.{cases_Bool, cond-true, cond-false, or_left, or_right, or_from, or_parts, or_cases, and_from}
use Rattle.std.proofs.lemmas.Bool.{and_parts, and_left, eq-eqb, ne_eqb, lt-ltb, le-ltb, not-true, not_from_false}
use Rattle.std.specs.Cmp.{both_ways}
use Rattle.amd_model.specs.Graph.{Graph}
use Rattle.amd_model.specs.State.{State}
use Rattle.amd_model.specs.Quotient.{QuotientGraph, has, mass as mass_listed}
use Rattle.amd_model.specs.Quotient.{represents, ends, new_size, round}
use Rattle.amd_model.proofs.Quotient.Lists.{has_append, has_filter}
use Rattle.amd_model.proofs.Listings.Words.{has_filter as filter_gives, has_right}
use Rattle.amd_model.proofs.Counting.Below.{clash}
use Rattle.amd_round_laws.specs.Views.{live_of}
use Rattle.amd_round_laws.specs.Rounds.{keeps_nothing as mass_viewed}
use Rattle.amd_round_laws.specs.Views.{View}
use Rattle.amd_round_laws.proofs.Lists.Named.{filter_named, sum_named, filter_both}
use Rattle.amd_round_laws.proofs.Fronts.Gathered.{placed_rows}
use Rattle.amd_round_laws.proofs.Round.Turn.{parts, Turn, front_placed, in_front, in_left, in_rest, made_front, made_rest, new_fits}
use Rattle.amd_round_laws.proofs.Round.Turn.{new_sound, none_kept, not_c, outside_rest, rest_front, rest_keeps, rest_made}

module _ {g : Graph} {dense : ℕ → Bool} {aggressive : Bool} {w v : View} {t : QuotientGraph} {s : State}
    (turn : Turn g dense aggressive w v t s)
  where
    open turn use {before as st, wrote as r, found as f}
    open parts turn use {L, R, M, new_state, new_lists}

    retired_rest : (j : ℕ) → has R j ≡ true → r.retired j ≡ t.size j
    retired_rest j h = r.retired_is j
        ∙ cond-false (has r.front j && mass_viewed r.kept.elements r.kept.variables j) 0 (w.size j)
        (ap (λ b. has r.front j && b) (none_kept turn j (rest_front turn j h) ∙ rest_keeps turn j h) ∙ and-false (has r.front j))
        ∙ st.keeps.size j (front_placed turn j (rest_front turn j h))

    size_at : (x : ℕ) → (x == r.c) ≡ false → v.size x ≡ r.joined x
    size_at x e = r.size_is x ∙ cond-false (x == r.c) 0 (r.joined x) e

    pub size_made : (x : ℕ) → has M x ≡ true → v.size x ≡ new_size aggressive t r.c L x
    unfolding new_size
    size_made x h = let m = made_rest turn x h in let k = in_rest turn x ∙ m.0 in let same = f.into_is x m.0 ∙ m.1 in
        size_at x (not_c turn x (made_front turn x h)) ∙ r.joined_is x
        ∙ cond-true (has r.rest x) (cond (r.into x == x) (sum_by r.retired (filter (λ j. r.into j == x) r.rest)) 0) (r.retired x) k
        ∙ cond-true (r.into x == x) (sum_by r.retired (filter (λ j. r.into j == x) r.rest)) 0 (eq-eqb (r.into x) x same)
        ∙ ap (λ l. sum_by r.retired (filter (λ j. r.into j == x) l)) f.rest_is
        ∙ ap (sum_by r.retired) (filter_named (λ j. r.into j == x) (λ j. represents aggressive t r.c L j == x) R
        (λ j a. ap (λ n. n == x) (f.into_is j a)))
        ∙ sum_named r.retired t.size (filter (λ j. represents aggressive t r.c L j == x) R)
        (λ j a. retired_rest j (filter_gives (λ j. represents aggressive t r.c L j == x) R j a).0)

    pub size_ended : (x : ℕ) → has L x ≡ true → has M x ≡ false → v.size x ≡ 0
    size_ended x h n = size_at x (not_c turn x h) ∙ r.joined_is x ∙ elim (cases_Bool (has R x)) [
      | inl y ↦ cond-true (has r.rest x) (cond (r.into x == x) (sum_by r.retired (filter (λ j. r.into j == x) r.rest)) 0) (r.retired x)
          (in_rest turn x ∙ y)
          ∙ cond-false (r.into x == x) (sum_by r.retired (filter (λ j. r.into j == x) r.rest)) 0
          (ne_eqb (r.into x) x (λ e. clash (rest_made turn x y (sym (f.into_is x y) ∙ e)) n))
      | inr k ↦ cond-false (has r.rest x) (cond (r.into x == x) (sum_by r.retired (filter (λ j. r.into j == x) r.rest)) 0) (r.retired x)
          (in_rest turn x ∙ k)
          ∙ r.retired_is x ∙ cond-true (has r.front x && mass_viewed r.kept.elements r.kept.variables x) 0 (w.size x)
          (and_from (has r.front x) (mass_viewed r.kept.elements r.kept.variables x) (in_front turn x ∙ h)
          (none_kept turn x h ∙ not_rest x h k))
    ]
      where
        not_rest : (x : ℕ) → has L x ≡ true → has R x ≡ false → mass_listed aggressive t r.c L x ≡ true
        not_rest x h k = elim (cases_Bool (mass_listed aggressive t r.c L x)) [ inl y ↦ y | inr n ↦ clash (in_left turn x h n) k ]

    pub size_outside : (x : ℕ) → (x == r.c) ≡ false → has L x ≡ false → v.size x ≡ w.size x
    size_outside x e n = size_at x e ∙ r.joined_is x
        ∙ cond-false (has r.rest x) (cond (r.into x == x) (sum_by r.retired (filter (λ j. r.into j == x) r.rest)) 0) (r.retired x)
        (in_rest turn x ∙ outside_rest turn x n)
        ∙ r.retired_is x ∙ cond-false (has r.front x && mass_viewed r.kept.elements r.kept.variables x) 0 (w.size x)
        (and_left (has r.front x) (mass_viewed r.kept.elements r.kept.variables x) (in_front turn x ∙ n))

    pub not_ends : (i : ℕ) → (i == r.c) ≡ false → has L i ≡ false → not (ends aggressive t r.c L i) ≡ true
    unfolding ends
    not_ends i ne n = not_from_false (i == r.c || (has L i && not (has M i)))
        (or_from (i == r.c) (has L i && not (has M i)) ne (and_left (has L i) (not (has M i)) n))

    -- what is placed after the round
    pub new_placed : (i : ℕ) → has new_lists.placed i ≡ (has t.placed i && not (ends aggressive t r.c L i))
    unfolding round ends
    new_placed i = has_append (filter (λ i. not (i == r.c || has L i)) t.placed) M i ∙ both_ways
        (has (filter (λ i. not (i == r.c || has L i)) t.placed) i || has M i)
        (has t.placed i && not (i == r.c || (has L i && not (has M i))))
        (λ h. elim (or_cases (has (filter (λ i. not (i == r.c || has L i)) t.placed) i) (has M i) h) [
          | inl a ↦ (let p = filter_gives (λ i. not (i == r.c || has L i)) t.placed i a in
              let q = or_parts (i == r.c) (has L i) (not-true (i == r.c || has L i) p.1) in
              and_from (has t.placed i) (not (i == r.c || (has L i && not (has M i)))) p.0
              (not_from_false (i == r.c || (has L i && not (has M i)))
              (or_from (i == r.c) (has L i && not (has M i)) q.0 (and_left (has L i) (not (has M i)) q.1))))
          | inr a ↦ and_from (has t.placed i) (not (i == r.c || (has L i && not (has M i)))) (front_placed turn i (made_front turn i a))
              (not_from_false (i == r.c || (has L i && not (has M i)))
              (or_from (i == r.c) (has L i && not (has M i)) (not_c turn i (made_front turn i a))
              (ap (λ b. has L i && not b) a ∙ and-false (has L i))))
        ])
        (λ h. let p = and_parts (has t.placed i) (not (i == r.c || (has L i && not (has M i)))) h in
        let q = or_parts (i == r.c) (has L i && not (has M i)) (not-true (i == r.c || (has L i && not (has M i))) p.1) in
        elim (cases_Bool (has M i)) [
          | inl a ↦ or_right (has (filter (λ i. not (i == r.c || has L i)) t.placed) i) (has M i) a
          | inr n ↦ or_left (has (filter (λ i. not (i == r.c || has L i)) t.placed) i) (has M i)
              (has_filter (λ i. not (i == r.c || has L i)) t.placed i ∙ and_from (has t.placed i) (not (i == r.c || has L i)) p.0
              (not_from_false (i == r.c || has L i) (or_from (i == r.c) (has L i) q.0
              (sym (ap (λ b. has L i && not b) n ∙ and-true (has L i)) ∙ q.1))))
        ])

    -- a class of the next lists is one of the new element's list, or stands outside of it
    pub placed_cases : (i : ℕ) → has new_lists.placed i ≡ true → has M i ≡ false → (has t.placed i ≡ true) × ((i == r.c) ≡ false)
        × (has L i ≡ false)
    unfolding ends
    placed_cases i h n = let p = and_parts (has t.placed i) (not (ends aggressive t r.c L i)) (sym (new_placed i) ∙ h) in
        let q = or_parts (i == r.c) (has L i && not (has M i)) (not-true (i == r.c || (has L i && not (has M i))) p.1) in
        (p.0, q.0, sym (ap (λ b. has L i && not b) n ∙ and-true (has L i)) ∙ q.1)

    pub made_placed : (i : ℕ) → has M i ≡ true → has new_lists.placed i ≡ true
    unfolding round
    made_placed i h = has_right i (filter (λ i. not (i == r.c || has L i)) t.placed) M h

    -- the sizes are kept
    pub size_kept : (i : ℕ) → has new_lists.placed i ≡ true → v.size i ≡ new_lists.size i
    unfolding round
    size_kept i h = elim (cases_Bool (has M i)) [
      | inl m ↦ size_made i m ∙ sym (cond-true (has M i) (new_size aggressive t r.c L i) (t.size i) m)
      | inr n ↦ (let p = placed_cases i h n in size_outside i p.1 p.2 ∙ st.keeps.size i p.0 ∙ sym
          (cond-false (has M i) (new_size aggressive t r.c L i) (t.size i) n))
    ]

    pub size_none : (i : ℕ) → has new_lists.placed i ≡ false → v.size i ≡ 0
    size_none i h = elim (cases_Bool (i == r.c)) [
      | inl e ↦ r.size_is i ∙ cond-true (i == r.c) 0 (r.joined i) e
      | inr ne ↦ elim (cases_Bool (has L i)) [
        | inl l ↦ size_ended i l (elim (cases_Bool (has M i)) [ inr n ↦ n | inl m ↦ clash (made_placed i m) h ])
        | inr n ↦ size_outside i ne n ∙ st.keeps.no_class i (elim (cases_Bool (has t.placed i)) [
          | inr k ↦ k
          | inl k ↦ clash (new_placed i ∙ and_from (has t.placed i) (not (ends aggressive t r.c L i)) k (not_ends i ne n))
              h
        ])
      ]
    ]

    -- what has rows is a class
    pub class_size : (i : ℕ) → has t.placed i ≡ true → 0 < t.size i
    class_size = placed_rows g st.graph s st.sound t st.fits

    pub new_class_size : (i : ℕ) → has new_lists.placed i ≡ true → 0 < new_lists.size i
    new_class_size = placed_rows g st.graph new_state (new_sound turn) new_lists (new_fits turn)

    old_live : (j : ℕ) → nat_lt 0 (w.size j) ≡ has t.placed j
    old_live j = elim (cases_Bool (has t.placed j)) [
      | inl y ↦ (let e = st.keeps.size j y in let k = class_size j y in lt-ltb 0 (w.size j) (omega (arith, e, k))) ∙ sym y
      | inr n ↦ le-ltb 0 (w.size j) (let e = st.keeps.no_class j n in omega (arith, e)) ∙ sym n
    ]

    pub new_live : (j : ℕ) → nat_lt 0 (v.size j) ≡ has new_lists.placed j
    new_live j = elim (cases_Bool (has new_lists.placed j)) [
      | inl y ↦ (let e = size_kept j y in let k = new_class_size j y in lt-ltb 0 (v.size j) (omega (arith, e, k))) ∙ sym y
      | inr n ↦ le-ltb 0 (v.size j) (let e = size_none j n in omega (arith, e)) ∙ sym n
    ]

    pub live_new : (xs : List ℕ) → live_of v.size xs ≡ filter (λ j. not (ends aggressive t r.c L j)) (live_of w.size xs)
    live_new xs = filter_named (λ j. nat_lt 0 (v.size j)) (λ j. nat_lt 0 (w.size j) && not (ends aggressive t r.c L j)) xs
        (λ j a. new_live j ∙ new_placed j ∙ ap (λ b. b && not (ends aggressive t r.c L j)) (sym (old_live j)))
        ∙ filter_both (λ j. nat_lt 0 (w.size j)) (λ j. not (ends aggressive t r.c L j)) xs

    pub outside_size : (j : ℕ) → (has t.placed j ≡ true) × ((j == r.c) ≡ false) × (has L j ≡ false) → v.size j ≡ t.size j
    outside_size j p = size_outside j p.1 p.2 ∙ st.keeps.size j p.0
