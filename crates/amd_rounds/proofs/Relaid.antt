-- The workspace after a round is laid again: which classes have a list, that nothing is marked, and that all lists have room.
use Rattle.std.proofs.Common.{ℕ, ℤ, pos, negsuc, Bool, true, false, List, ◌≡◌, ◌<◌, ◌≤◌, ◌+◌, ◌-◌, ◌&&◌, ◌||◌, not, inl, inr, refl, sym}
use Rattle.std.proofs.Common.{ap, ◌∙◌}
use Rattle.std.proofs.Math.Nat.{le-max_left, max-le}
use Rattle.std.proofs.Common.{get_or-set_other, cond, arith, length, sum_by, filter}
use Rattle.std.specs.Prelude.{nat_lt, ◌==◌}
use Rattle.std.proofs.Math.Bool.{and-false, or-false}
use Rattle.std.proofs.lemmas.Bool.{cases_Bool, cases_eq, cond-true, cond-false, eq-eqb, ne_eqb, lt-ltb, ltb-true, eqb-true}
use Rattle.amd_model.specs.Graph.{Graph}
use Rattle.amd_model.specs.State.{State}
use Rattle.amd_model.specs.Quotient.{QuotientGraph, has}
use Rattle.amd_model.proofs.Counting.Below.{clash}
use Rattle.amd_model.proofs.Listings.Words.{filter_has, has_filter as filter_gives}
use Rattle.amd_words.specs.Words.{num, word, place, is_place, start, size_of, in_front as marked_at, rows_in, is_negative, flip_of}
use Rattle.amd_fronts.specs.Counts.{counter, ends}
use Rattle.amd_lists.specs.Layout.{has_list, end_of, elements_in, variables_in, ReadsSame, live_words}
use Rattle.amd_fronts.proofs.Counting.{ends_none}
use Rattle.amd_lists.proofs.Frames.{has_same, reads_elements, reads_variables}
use Rattle.amd_lists.specs.Workspaces.{Workspace}
use Rattle.amd_fronts.specs.Tallies.{front_at}
use Rattle.amd_rounds.specs.Parts.{MergesFront, EndsFront}
use Rattle.amd_rounds.proofs.Standing as standing
use Rattle.amd_rounds.proofs.Halves.{HalfRound, ends_by, begins_here, front_other, pivot_placed, left_pivot, left_class}
use Rattle.amd_rounds.proofs.Halves.{can_turn, free_stays, counters_here, front_placed, degree_stays, most_stays}
use Rattle.amd_rounds.proofs.Mergeable.{can_merge}
use Rattle.amd_rounds.proofs.Turned.{in_front, front_after, pivot_start}
use Rattle.amd_rounds.proofs.Counters.{seen_none, class_counter, counter_zero}
use Rattle.amd_rounds.proofs.Merged as merging
use Rattle.amd_rounds.proofs.RoundLists as lists

none_rows : (z : ℤ) → z ≡ pos 0 → rows_in z ≡ 0
unfolding rows_in
none_rows z e = ap rows_in e

module _ {g : Graph} {dense : ℕ → Bool} {nzaat : ℕ} {aggressive : Bool} {p : Workspace} {t : QuotientGraph} {s : State}
    (r : HalfRound g dense nzaat aggressive p t s) where
  -- no class is listed as an element, so none ends
  pub class_stays : (j : ℕ) → has t.placed j ≡ true → ends_by r j ≡ false
  class_stays j h = ap (λ m. ends aggressive r.p3.flag (counter r.p3.flag (num r.turns.first j) (num p.degree j) m))
      (seen_none r j h)
      ∙ ends_none aggressive r.p3.flag (num r.turns.first j) (num p.degree j) r.turns.renews.two (r.turns.renews.under j)

  -- a row outside the front has as many rows as before
  row_half : (j : ℕ) → has r.begins.front j ≡ false → word r.p3.nv j ≡ word r.p2.nv j
  row_half j out = r.turns.turns.renewed.rows j ∙ cond-false (has (front_at r.p2 r.c) j) _ (word r.p2.nv j) (in_front r j ∙ out)

  module _ (p4 : Workspace) (merges : MergesFront g.size r.c (r.block + r.gone) (r.total - r.gone) r.p3 p4) (v : Workspace)
      (ended : EndsFront g.size r.c (r.block + r.gone) (r.total - r.gone) r.is_built p4 v) where
    abbrev rest : List ℕ
    rest = merging.rest r p4 merges

    abbrev into : ℕ → ℕ
    into = merging.into r p4 merges

    abbrev merged : ℕ → Bool
    merged = merging.merged r p4 merges

    -- ---- classes outside the front

    pub open_stays : (i : ℕ) → has t.placed i ≡ true → (i ≡ r.c → ⊥) → has r.begins.front i ≡ false →
        (has_list v.pe v.len i ≡ true) × ReadsSame p.iw p.pe p.e_len p.len v.iw v.pe v.e_len v.len i
    open_stays i h ne out = lists.through r p4 merges v ended i
        (r.st.laid.classes i (standing.placed_class g dense nzaat p t s r.st i h).0).0 ne out
        (standing.element_apart g dense nzaat p t s r.st r.c i (pivot_placed r) h) (class_stays i h)

    pub open_elements : (i : ℕ) → has t.placed i ≡ true → (i ≡ r.c → ⊥) → has r.begins.front i ≡ false →
        elements_in v.iw v.pe v.e_len i ≡ elements_in p.iw p.pe p.e_len i
    open_elements i h ne out = reads_elements p.iw p.pe p.e_len p.len v.iw v.pe v.e_len v.len i (open_stays i h ne out).1
        (r.st.laid.laid.parts i (r.st.laid.classes i (standing.placed_class g dense nzaat p t s r.st i h).0).0)

    pub open_variables : (i : ℕ) → has t.placed i ≡ true → (i ≡ r.c → ⊥) → has r.begins.front i ≡ false →
        variables_in v.iw v.pe v.e_len v.len i ≡ variables_in p.iw p.pe p.e_len p.len i
    open_variables i h ne out = reads_variables p.iw p.pe p.e_len p.len v.iw v.pe v.e_len v.len i (open_stays i h ne out).1
        (r.st.laid.laid.parts i (r.st.laid.classes i (standing.placed_class g dense nzaat p t s r.st i h).0).0)

    pub size_open : (i : ℕ) → has r.begins.front i ≡ false → size_of v.nv i ≡ cond (i == r.c) 0 (size_of p.nv i)
    size_open i out = ended.restores.sizes i ∙ merges.list.merged.sizes i
        ∙ cond-false (has rest i) _ (size_of r.p3.nv i) (merging.not_rest r p4 merges i out)
        ∙ ap rows_in (row_half i out) ∙ (begins_here r).sizes i

    -- ---- the list of the new element

    alone : (j : ℕ) → has r.begins.front j ≡ false → merged j ≡ false
    alone j out = ap (λ b. b && not (into j == j)) (merging.not_rest r p4 merges j out)

    start_pivot : word p4.pe r.c ≡ word r.p2.pe r.c
    start_pivot = merging.pivot_start r p4 merges ∙ pivot_start r ∙ left_pivot r

    -- ---- what is laid

    pub long_after : length v.iw ≡ length p.iw
    long_after = ended.long ∙ ap length (ap (λ q. q.iw) merges.same) ∙ r.turns.turns.renewed.renewed.long ∙ (begins_here r).long

    pub room_after : nzaat + g.size ≤ length v.iw
    room_after = let a = r.st.laid.room in let b = long_after in omega (arith, a, b)

    pub end_after : v.free ≤ length v.iw
    end_after =
        let long = ended.long in let w = ap length (ap (λ q. q.iw) merges.same) in let k = r.turns.turns.renewed.renewed.long in
        let f : p4.free ≡ r.p2.free = ap (λ q. q.free) merges.same ∙ free_stays r in let e = r.begins.end in
        let is = ended.free_is in elim (cases_Bool r.is_built) [
          | inl y ↦ (
              let a = cond-true r.is_built (end_of v.pe v.len r.c) p4.free y in
              let from : start v.pe r.c ≡ start r.p2.pe r.c = ap place (ap (λ l. word l r.c) (lists.starts_stay r p4 merges v ended)
              ∙ start_pivot) in
              let l = lists.length_after r p4 merges v ended r.c in let b = r.begins.begins.inside in
              omega (arith, is, a, from, l, b, e, k, w, long))
          | inr n ↦ (let a = cond-false r.is_built (end_of v.pe v.len r.c) p4.free n in omega (arith, is, a, f, e, k, w, long))
        ]

    pub few_words : live_words g.size v.pe v.len ≤ nzaat
    few_words = let a = lists.words_after r p4 merges v ended in let b = r.st.laid.words in omega (arith, a, b)

    -- nothing is marked
    pub clear_after : (j : ℕ) → marked_at v.nv j ≡ false
    clear_after j = elim (cases_Bool (has r.begins.front j)) [
      | inl h ↦ ended.restores.marks j ∙ ap (λ l. marked_at p4.nv j && not (has l j)) (merging.front_merged r p4 merges)
          ∙ ap (λ b. marked_at p4.nv j && not b) h ∙ and-false (marked_at p4.nv j)
      | inr out ↦ (
          let none : marked_at p4.nv j ≡ false = merges.list.merged.front j
          ∙ cond-false (merged j) false (marked_at r.p3.nv j) (alone j out)
          ∙ ap is_negative (row_half j out) ∙ (begins_here r).marks j ∙ out in
          ended.restores.marks j ∙ ap (λ b. b && not (has (front_at p4 r.c) j)) none)
    ]

    -- ---- classes have lists

    -- a class of the front that is left represents itself, and was not done
    pub made_parts : (i : ℕ) → has r.begins.front i ≡ true → 0 < size_of v.nv i → (merged i ≡ false) × (lists.done r i ≡ false)
    made_parts i h l =
        let all : ℕ = sum_by (size_of r.p3.nv) (filter (λ j. into j == i) rest) in
        let sizes : size_of v.nv i ≡ cond (has rest i) (cond (into i == i) all 0) (size_of r.p3.nv i) = ended.restores.sizes i
        ∙ merges.list.merged.sizes i in
        let in_list : has (front_at r.p3 r.c) i ≡ true = ap (λ k. has k i) (front_after r) ∙ h in
        let named : has rest i ≡ true = elim (cases_Bool (has rest i)) [
          | inl y ↦ y
          | inr n ↦ (let a = cond-false (has rest i) (cond (into i == i) all 0) (size_of r.p3.nv i) n in
              clash (filter_has (λ x. nat_lt 0 (size_of r.p3.nv x)) (front_at r.p3 r.c) i in_list
              (lt-ltb 0 (size_of r.p3.nv i) (omega (arith, a, sizes, l)))) n)
        ] in
        let own : (into i == i) ≡ true = elim (cases_Bool (into i == i)) [
          | inl y ↦ y
          | inr n ↦ absurd (let a = cond-true (has rest i) (cond (into i == i) all 0) (size_of r.p3.nv i) named in
              let b = cond-false (into i == i) all 0 n in omega (arith, sizes, a, b, l))
        ] in
        let some = ltb-true 0 (size_of r.p3.nv i) (filter_gives (λ x. nat_lt 0 (size_of r.p3.nv x)) (front_at r.p3 r.c) i named).1 in
        let stays : lists.done r i ≡ false = elim (cases_Bool (lists.done r i)) [
          | inr n ↦ n
          | inl y ↦ absurd (
              let gone : word r.p3.nv i ≡ pos 0 = r.turns.turns.renewed.rows i
              ∙ cond-true (has (front_at r.p2 r.c) i) _ (word r.p2.nv i) (in_front r i ∙ h)
              ∙ cond-true (lists.done r i) (pos 0) (word r.p2.nv i) y in
              let z : size_of r.p3.nv i ≡ 0 = none_rows (word r.p3.nv i) gone in omega (arith, z, some))
        ] in
        (ap (λ b. has rest i && not b) own ∙ and-false (has rest i), stays)

    made_list : (i : ℕ) → has r.begins.front i ≡ true → 0 < size_of v.nv i → (has_list v.pe v.len i ≡ true)
        × (is_place (word v.e_len i) ≡ true)
    made_list i h l =
        let part = made_parts i h l in let all = r.turns.turns.renewed in
        let of_front : has (front_at r.p2 r.c) i ≡ true = in_front r i ∙ h in
        let ne : i ≡ r.c → ⊥ = λ q. clash {P = ⊥} h (ap (has r.begins.front) q ∙ front_other r) in
        let over : (has r.begins.front i && lists.done r i) ≡ false = ap (λ b. has r.begins.front i && b) part.1
        ∙ and-false (has r.begins.front i) in
        let out : (has (front_at r.p2 r.c) i && lists.done r i) ≡ false = ap (λ b. has (front_at r.p2 r.c) i && b) part.1
        ∙ and-false (has (front_at r.p2 r.c) i) in
        let at : word v.pe i ≡ word r.turns.turns.left i = ap (λ k. word k i) (lists.starts_stay r p4 merges v ended)
        ∙ merges.list.merged.links i ∙ cond-false _ (flip_of (into i)) (word r.p3.pe i) part.0
        ∙ lists.starts_is r i ∙ cond-false _ (flip_of r.c) (word r.turns.turns.left i) over in
        let count : num v.len i ≡ num r.p3.len i = ended.closes.lengths i ne ∙ ap (λ k. num k i) (ap (λ q. q.len) merges.same) in
        let listed : has_list r.turns.turns.left r.p2.len i ≡ true =
        has_same r.p2.pe r.turns.turns.left r.p2.len r.p2.len i (left_class r i h) refl ∙ ((can_turn r).classes i of_front).listed in
        let mark : word v.e_len i ≡ word all.counts i = ended.closes.counts i ne ∙ merges.list.merged.lists i
        ∙ cond-false _ (negsuc 0) (word r.p3.e_len i) part.0 ∙ all.lists i ∙ cond-false _ (negsuc 0) (word all.counts i) out in (
          has_same r.turns.turns.left v.pe r.p3.len v.len i at count ∙ all.renewed.listed i ∙ listed,
          ap is_place mark ∙ all.renewed.count i of_front,
        )

    pub classes_after : (i : ℕ) → 0 < size_of v.nv i → (has_list v.pe v.len i ≡ true) × (is_place (word v.e_len i) ≡ true)
    classes_after i l = elim (cases_Bool (has r.begins.front i)) [
      | inl h ↦ made_list i h l
      | inr out ↦ (
          let is = size_open i out in
          let ne : i ≡ r.c → ⊥ = λ q. (let z = cond-true (i == r.c) 0 (size_of p.nv i) (eq-eqb i r.c q) in omega (arith, is, z, l)) in
          let same = cond-false (i == r.c) 0 (size_of p.nv i) (ne_eqb i r.c ne) in
          let some : 0 < size_of p.nv i = omega (arith, is, same, l) in
          let stays = open_stays i (standing.class_placed g dense nzaat p t s r.st i some) ne out in
          (stays.0, ap is_place stays.1.0 ∙ (r.st.laid.classes i some).1))
    ]

    -- ---- counters

    -- what has a list still has a counter above 0
    standing_half : (j : ℕ) → has_list v.pe v.len j ≡ true → 0 < num r.p3.w j
    standing_half j h = elim (lists.lists_after r p4 merges v ended j h) [
      | inl q ↦ class_counter r j (ap (has t.placed) q ∙ pivot_placed r)
      | inr m ↦ elim m [
        | inl k ↦ class_counter r j (front_placed r j k.0)
        | inr o ↦ elim (cases_eq (num r.p3.w j) 0) [
          | inr ne ↦ omega (arith, ne)
          | inl z ↦ absurd (
              let was : num r.p2.w j ≡ num p.w j = counters_here r j ∙ cond-false (has (lists.absorbed r) j) 0 (num p.w j) o.2 in
              let some = r.st.laid.standing j o.0 in
              let none : (num r.p2.w j == 0) ≡ true = sym (or-false (num r.p2.w j == 0))
              ∙ sym (ap (λ b. num r.p2.w j == 0 || b) o.3) ∙ sym (counter_zero r j) ∙ eq-eqb (num r.p3.w j) 0 z in
              let e = eqb-true (num r.p2.w j) 0 none in omega (arith, e, was, some))
        ]
      ]
    ]

    pub standing_after : (j : ℕ) → has_list v.pe v.len j ≡ true → 0 < num v.w j
    standing_after j h = let k = standing_half j h in elim (cases_eq (num v.w j) 0) [
      | inr ne ↦ omega (arith, ne)
      | inl z ↦ absurd (
          let same : num v.w j ≡ num p4.w j = ap (λ l. num l j) (ap (λ q. q.w) ended.same) in
          let none = eqb-true (num r.p3.w j) 0 (sym (merges.zeros j) ∙ eq-eqb (num p4.w j) 0 (omega (arith, same, z))) in
          omega (arith, none, k))
    ]

    flag_stays : v.flag ≡ p4.flag
    flag_stays = ap (λ q. q.flag) ended.same

    pub two_after : 2 ≤ v.flag
    two_after = let a = merges.two in let f = flag_stays in omega (arith, a, f)

    pub under_after : (j : ℕ) → num v.w j < v.flag
    under_after j = let a = merges.under j in let f = flag_stays in
        let same : num v.w j ≡ num p4.w j = ap (λ l. num l j) (ap (λ q. q.w) ended.same) in omega (arith, a, f, same)

    -- ---- bounds

    pub most_after : v.most ≤ g.size
    most_after = let a : v.most ≡ p4.most = ap (λ q. q.most) ended.same in
        let b = ap (λ (w : Workspace). w.most) merges.same in let few = (can_merge r).most in let m = max-le few.1 few.0 in
        omega (arith, a, b, m)

    -- the bound of an open class and the border of another element stay
    pub bound_open : (j : ℕ) → (j ≡ r.c → ⊥) → has r.begins.front j ≡ false → num v.degree j ≡ num p.degree j
    bound_open j ne out = ap (λ l. num l j) ended.degrees ∙ get_or-set_other ended.bounds r.c j (r.total - r.gone) 0 ne
        ∙ ended.restores.bounds j
        ∙ cond-false (has (front_at p4 r.c) j) _ (num p4.degree j) (ap (λ l. has l j) (merging.front_merged r p4 merges) ∙ out)
        ∙ ap (λ l. num l j) (ap (λ q. q.degree) merges.same)
        ∙ r.turns.turns.renewed.bounds j ∙ cond-false (has (front_at r.p2 r.c) j) _ (num r.p2.degree j) (in_front r j ∙ out)
        ∙ ap (λ l. num l j) (degree_stays r)

    -- an element beside the new one has no border above the greatest
    pub borders_open : (e : ℕ) → (e ≡ r.c → ⊥) → is_place (word v.e_len e) ≡ false → has_list v.pe v.len e ≡ true → num v.degree e ≤ v.most
    borders_open e ne mark h = elim (lists.lists_after r p4 merges v ended e h) [
      | inl q ↦ absurd (ne q)
      | inr m ↦ elim m [
        | inl k ↦ clash (classes_after e k.1).1 mark
        | inr o ↦ (
            let same = (lists.through r p4 merges v ended e o.0 ne o.1 o.2 o.3).1.0 in
            let was = r.st.laid.borders e (ap is_place (sym same) ∙ mark) o.0 in let b = bound_open e ne o.1 in
            let a : v.most ≡ p4.most = ap (λ q. q.most) ended.same in
            let d = ap (λ (w : Workspace). w.most) merges.same in let f = most_stays r in
            let l = le-max_left r.p3.most (r.total - r.gone) in omega (arith, was, b, a, d, f, l))
      ]
    ]
