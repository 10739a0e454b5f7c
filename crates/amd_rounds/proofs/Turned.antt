-- After the classes of a front are turned over: the front, the classes that are left of it, and what these keep.
use Rattle.std.proofs.Common.{ℕ, pos, negsuc, Bool, true, false, ◌∷◌, ◌++◌, ◌≡◌, ◌≤◌, ◌+◌, ◌-◌, ◌&&◌, inl, inr, refl, sym}
use Rattle.std.proofs.Common.{ap, ◌∙◌, cond, arith, not, filter, sum_by}
use Rattle.std.specs.Prelude.{nat_lt}
use Rattle.std.proofs.lemmas.Bool.{cases_Bool, cond-true, cond-false, and_right, lt-ltb, le-ltb, not_from_true}
use Rattle.std.proofs.lemmas.Bool.{not_from_false, not-true}
use Rattle.std.proofs.lemmas.List.Filters.{sum_by-filter_both}
use Rattle.amd_model.specs.Graph.{Graph}
use Rattle.amd_model.specs.State.{State}
use Rattle.amd_model.specs.Quotient.{QuotientGraph, has, turned, is_empty}
use Rattle.amd_model.proofs.Listings.Words.{has_filter as filter_gives}
use Rattle.amd_round_laws.proofs.Lists.Named.{filter_named, sum_named}
use Rattle.amd_words.specs.Words.{num, word, place, is_place, start, size_of, rows_in, classes, rows, flip_of}
use Rattle.amd_lists.specs.Layout.{has_list, elements_in, variables_in, list_in}
use Rattle.amd_lists.specs.Renewal.{is_kept, is_outside}
use Rattle.amd_fronts.specs.Fronts.{is_done, kept_in, near_in}
use Rattle.amd_merging.specs.Merging.{kept_of, words_of}
use Rattle.amd_lists.proofs.Frames.{has_none, has_parts, reads_list}
use Rattle.amd_words.proofs.Signs.{place_is}
use Rattle.amd_merging.proofs.MergeLink.{kept_is, words_is}
use Rattle.amd_words.proofs.RowLists.{rows_none}
use Rattle.amd_lists.specs.Workspaces.{Workspace}
use Rattle.amd_fronts.specs.Tallies.{front_at}
use Rattle.amd_rounds.proofs.Standing as standing
use Rattle.amd_rounds.proofs.Halves.{HalfRound, front, kept_lists, ended_in, begins_here, total_here, front_placed, front_other}
use Rattle.amd_rounds.proofs.Halves.{elements_begun, variables_begun, rows_begun, front_begun, left_pivot, left_class}

module _ {g : Graph} {dense : ℕ → Bool} {nzaat : ℕ} {aggressive : Bool} {p : Workspace} {t : QuotientGraph} {s : State}
    (r : HalfRound g dense nzaat aggressive p t s) where
  pub in_front : (j : ℕ) → has (front_at r.p2 r.c) j ≡ has (front r) j
  in_front j = ap (λ l. has l j) (front_begun r)

  -- ---- the list of the new element

  pivot_out : has (front_at r.p2 r.c) r.c ≡ false
  pivot_out = in_front r.c ∙ front_other r

  pub pivot_start : word r.p3.pe r.c ≡ word r.turns.turns.left r.c
  pivot_start = r.turns.turns.renewed.starts r.c ∙ cond-false (has (front_at r.p2 r.c) r.c) _ (word r.turns.turns.left r.c) pivot_out

  pub pivot_length : num r.p3.len r.c ≡ num r.p2.len r.c
  pivot_length = r.turns.turns.renewed.renewed.lengths r.c pivot_out

  pub pivot_place : is_place (word r.turns.turns.left r.c) ≡ true
  pivot_place = ap is_place (left_pivot r) ∙ (begins_here r).starts

  pivot_list : list_in r.p3.iw r.turns.turns.left r.p3.len r.c ≡ list_in r.p2.iw r.turns.turns.left r.p2.len r.c
  pivot_list = let from : ℕ = start r.turns.turns.left r.c in elim (cases_Bool (has_list r.turns.turns.left r.p2.len r.c)) [
    | inl h ↦ reads_list r.p2.iw r.turns.turns.left r.p2.e_len r.p2.len r.p3.iw r.turns.turns.left r.turns.turns.renewed.counts r.p3.len
        r.c (r.turns.turns.renewed.renewed.same r.c pivot_out h)
    | inr n ↦ (let none = has_none r.turns.turns.left r.p2.len r.c pivot_place n in
        ap (rows r.p3.iw from) (pivot_length ∙ none) ∙ rows_none r.p3.iw from
        ∙ sym (ap (rows r.p2.iw from) none ∙ rows_none r.p2.iw from))
  ]

  pub front_after : front_at r.p3 r.c ≡ front r
  front_after = ap (λ z. rows r.p3.iw (place z) (num r.p3.len r.c)) pivot_start ∙ pivot_list
      ∙ ap (λ z. rows r.p2.iw (place z) (num r.p2.len r.c)) (left_pivot r) ∙ front_begun r

  -- ---- the classes that are left

  pub elements_left : (i : ℕ) → has (front r) i ≡ true →
      elements_in r.p2.iw r.turns.turns.left r.p2.e_len i ≡ elements_in p.iw p.pe p.e_len i
  elements_left i h = ap (λ z. rows r.p2.iw (place z) (place (word r.p2.e_len i))) (left_class r i h) ∙ elements_begun r i h

  pub variables_left : (i : ℕ) → has (front r) i ≡ true →
      variables_in r.p2.iw r.turns.turns.left r.p2.e_len r.p2.len i ≡ variables_in p.iw p.pe p.e_len p.len i
  variables_left i h = ap (λ z. rows r.p2.iw (place z + place (word r.p2.e_len i)) (num r.p2.len i - place (word r.p2.e_len i)))
      (left_class r i h) ∙ variables_begun r i h

  abbrev done : ℕ → Bool
  done i = is_done (is_kept r.p3.w) (is_outside r.p2.nv) r.p2.iw r.turns.turns.left r.p2.e_len r.p2.len i

  pub done_is : (i : ℕ) → has (front r) i ≡ true →
      is_done (is_kept r.p3.w) (is_outside r.p2.nv) r.p2.iw r.turns.turns.left r.p2.e_len r.p2.len i ≡ ended_in r i
  done_is i h = ap (λ l. is_empty (filter (is_kept r.p3.w) l)
      && is_empty (near_in (is_outside r.p2.nv) r.p2.iw r.turns.turns.left r.p2.e_len r.p2.len i)) (elements_left i h)
      ∙ ap (λ l. is_empty (kept_in (is_kept r.p3.w) p.iw p.pe p.e_len i) && is_empty (filter (is_outside r.p2.nv) l)) (variables_left i h)

  pub word_after : (i : ℕ) → has (front r) i ≡ true → word r.p3.nv i ≡ cond (ended_in r i) (pos 0) (word r.p2.nv i)
  word_after i h = r.turns.turns.renewed.rows i
      ∙ cond-true (has (front_at r.p2 r.c) i) (cond (done i) (pos 0) (word r.p2.nv i)) (word r.p2.nv i) (in_front i ∙ h)
      ∙ ap (λ b. cond b (pos 0) (word r.p2.nv i)) (done_is i h)

  pub size_left : (i : ℕ) → has (front r) i ≡ true → ended_in r i ≡ false → size_of r.p3.nv i ≡ size_of p.nv i
  size_left i h n = ap rows_in (word_after i h ∙ cond-false (ended_in r i) (pos 0) (word r.p2.nv i) n) ∙ rows_begun r i h

  size_ended : (i : ℕ) → has (front r) i ≡ true → ended_in r i ≡ true → size_of r.p3.nv i ≡ 0
  unfolding rows_in
  size_ended i h e = ap rows_in (word_after i h ∙ cond-true (ended_in r i) (pos 0) (word r.p2.nv i) e)

  left_rows : (i : ℕ) → has (front r) i ≡ true → nat_lt 0 (size_of r.p3.nv i) ≡ not (ended_in r i)
  left_rows i h = elim (cases_Bool (ended_in r i)) [
    | inl e ↦ (let z = size_ended i h e in
        le-ltb 0 (size_of r.p3.nv i) (omega (arith, z)) ∙ sym (not_from_true (ended_in r i) e))
    | inr n ↦ (let q = size_left i h n in let some = (standing.placed_class g dense nzaat p t s r.st i (front_placed r i h)).0 in
        lt-ltb 0 (size_of r.p3.nv i) (omega (arith, q, some)) ∙ sym (not_from_false (ended_in r i) n))
  ]

  pub rest_is : classes r.p3.nv (front_at r.p3 r.c) ≡ filter (λ i. not (ended_in r i)) (front r)
  rest_is = ap (filter (λ j. nat_lt 0 (size_of r.p3.nv j))) front_after
      ∙ filter_named (λ j. nat_lt 0 (size_of r.p3.nv j)) (λ i. not (ended_in r i)) (front r) left_rows

  pub gone_is : r.gone + sum_by (size_of p.nv) (filter (λ i. not (ended_in r i)) (front r)) ≡ r.total
  gone_is = let a = r.turns.turns.renewed.gone_is in
      let b = ap (λ l. sum_by (size_of r.p2.nv) (filter done l)) (front_begun r) in
      let c = ap (sum_by (size_of r.p2.nv)) (filter_named done (ended_in r) (front r) done_is) in
      let d = sum_named (size_of r.p2.nv) (size_of p.nv) (filter (ended_in r) (front r))
      (λ i h. rows_begun r i (filter_gives (ended_in r) (front r) i h).0) in
      let e = sum_by-filter_both (ended_in r) (λ i. not (ended_in r i)) (λ i. refl) (size_of p.nv) (front r) in
      let f = total_here r in omega (arith, a, b, c, d, e, f)

  pub rest_parts : (i : ℕ) → has (classes r.p3.nv (front_at r.p3 r.c)) i ≡ true → (has (front r) i ≡ true) × (ended_in r i ≡ false)
  rest_parts i h = let q = filter_gives (λ i. not (ended_in r i)) (front r) i (ap (λ l. has l i) (sym rest_is) ∙ h) in
      (q.0, not-true (ended_in r i) q.1)

  -- ---- what they keep

  module _ (i : ℕ) (h : has (classes r.p3.nv (front_at r.p3 r.c)) i ≡ true) where
    pub class_front : has (front_at r.p2 r.c) i ≡ true
    class_front = in_front i ∙ (rest_parts i h).0

    stays : done i ≡ false
    stays = done_is i (rest_parts i h).0 ∙ (rest_parts i h).1

    pub class_start : word r.p3.pe i ≡ word r.turns.turns.left i
    class_start = r.turns.turns.renewed.starts i
        ∙ cond-true (has (front_at r.p2 r.c) i) (cond (done i) (flip_of r.c) (word r.turns.turns.left i)) (word r.turns.turns.left i)
        class_front ∙ cond-false (done i) (flip_of r.c) (word r.turns.turns.left i) stays

    pub class_count : word r.p3.e_len i ≡ word r.turns.turns.renewed.counts i
    class_count = r.turns.turns.renewed.lists i ∙ cond-false (has (front_at r.p2 r.c) i && done i) (negsuc 0)
        (word r.turns.turns.renewed.counts i) (and_right (has (front_at r.p2 r.c) i) (done i) stays)

    pub class_listed : has_list r.turns.turns.left r.p3.len i ≡ true
    class_listed = r.turns.turns.renewed.renewed.listed i ∙ r.turns.turns.renewed.renewed.known i class_front

    pub class_order : place (word r.p3.e_len i) ≤ num r.p3.len i
    class_order = let a = ap place class_count in let b = r.turns.turns.renewed.renewed.laid.parts i class_listed in omega (arith, a, b)

    pub class_elements : rows r.p3.iw (start r.p3.pe i) (place (word r.p3.e_len i)) ≡ r.c ∷ turned ((kept_lists r).elements i)
    class_elements = ap (λ z. rows r.p3.iw (place z) (place (word r.p3.e_len i))) class_start
        ∙ ap (λ z. rows r.p3.iw (start r.turns.turns.left i) (place z)) class_count
        ∙ r.turns.turns.renewed.renewed.elements i class_front
        ∙ ap (λ l. r.c ∷ turned (filter (is_kept r.p3.w) l)) (elements_left i (rest_parts i h).0)

    pub class_variables : variables_in r.p3.iw r.p3.pe r.p3.e_len r.p3.len i ≡ turned ((kept_lists r).variables i)
    class_variables =
        ap (λ z. rows r.p3.iw (place z + place (word r.p3.e_len i)) (num r.p3.len i - place (word r.p3.e_len i))) class_start
        ∙ ap (λ z. rows r.p3.iw (start r.turns.turns.left i + place z) (num r.p3.len i - place z)) class_count
        ∙ r.turns.turns.renewed.renewed.variables i class_front
        ∙ ap (λ l. turned (filter (is_outside r.p2.nv) l)) (variables_left i (rest_parts i h).0)

    -- where its list starts, and how many words of it name elements
    pub class_starts : word r.p3.pe i ≡ pos (start r.p3.pe i)
    class_starts = place_is (word r.p3.pe i)
        (ap is_place class_start ∙ (has_parts r.turns.turns.left r.p3.len i class_listed).0)

    pub class_counts : word r.p3.e_len i ≡ pos (place (word r.p3.e_len i))
    class_counts = place_is (word r.p3.e_len i) (ap is_place class_count ∙ r.turns.turns.renewed.renewed.count i class_front)

  pub kept_after : (i : ℕ) → has (classes r.p3.nv (front_at r.p3 r.c)) i ≡ true →
      (kept_of r.p3.iw r.p3.pe r.p3.e_len i ≡ turned ((kept_lists r).elements i))
      × (variables_in r.p3.iw r.p3.pe r.p3.e_len r.p3.len i ≡ turned ((kept_lists r).variables i))
      × (words_of r.p3.iw r.p3.pe r.p3.len i ≡ turned ((kept_lists r).elements i) ++ turned ((kept_lists r).variables i))
  kept_after i h = (
    kept_is r.c ((kept_lists r).elements i) ((kept_lists r).variables i) r.p3.iw (start r.p3.pe i) (place (word r.p3.e_len i))
        (num r.p3.len i) (class_order i h) (class_elements i h) (class_variables i h) r.p3.pe r.p3.e_len r.p3.len i (class_starts i h)
        (class_counts i h) refl,
    class_variables i h,
    words_is r.c ((kept_lists r).elements i) ((kept_lists r).variables i) r.p3.iw (start r.p3.pe i) (place (word r.p3.e_len i))
        (num r.p3.len i) (class_order i h) (class_elements i h) (class_variables i h) r.p3.pe r.p3.e_len r.p3.len i (class_starts i h)
        (class_counts i h) refl,
  )
