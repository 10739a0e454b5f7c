-- After the classes of a front are turned over: those that are left can be merged.
use Rattle.std.proofs.Common.{ℕ, ℤ, pos, negsuc, Bool, true, false, List, ◌++◌, ◌≡◌, ◌<◌, ◌≤◌, ◌+◌, ◌-◌, ◌&&◌, ◌⊎◌, ◌%◌, ◌^◌}
use Rattle.std.proofs.Common.{inl, inr, refl, sym, ap, ◌∙◌, subst, cond, arith, not, filter, sum_by, length}
use Rattle.std.specs.Prelude.{◌==◌, bit_and, max}
use Rattle.std.proofs.Math.Nat.{le-max_left}
use Rattle.std.proofs.lemmas.Bool.{cases_Bool, cond-true, cond-false, ltb-true, and_parts, false_from_ne_true}
use Rattle.std.proofs.lemmas.List.Sums.{sum_by-append}
use Rattle.amd_model.specs.Graph.{Graph}
use Rattle.amd_model.specs.State.{State}
use Rattle.amd_model.specs.Quotient.{QuotientGraph, has, Once, turned}
use Rattle.amd_model.proofs.Counting.Below.{clash}
use Rattle.amd_model.proofs.Listings.Words.{has_append as append_gives, has_filter as filter_gives}
use Rattle.amd_model.proofs.Quotient.Lists.{has_turned, once_filter}
use Rattle.amd_round_laws.proofs.Lists.Named.{sum_named}
use Rattle.amd_round_laws.proofs.Round.Finding as finding
use Rattle.amd_words.specs.Words.{num, word, place, is_place, start, size_of, in_front, is_negative, classes, flip_of}
use Rattle.amd_lists.specs.Layout.{has_list, end_of, elements_in, variables_in, Layout}
use Rattle.amd_lists.specs.Renewal.{is_kept, is_outside}
use Rattle.amd_fronts.specs.Fronts.{is_done, bucket_at, near_in}
use Rattle.amd_merging.specs.Merging.{kept_of, words_of, IsRenewed}
use Rattle.amd_lists.specs.Renewal.{key_mask, key_of}
use Rattle.amd_lists.proofs.Frames.{dropped}
use Rattle.amd_merging.proofs.MergeLink.{is_renewed, key_turned}
use Rattle.amd_lists.specs.Workspaces.{Workspace}
use Rattle.amd_rounds.specs.Views.{view_of}
use Rattle.amd_fronts.specs.Tallies.{front_at}
use Rattle.amd_rounds.specs.Premises.{HasFront, CanMerge}
use Rattle.amd_rounds.proofs.Standing as standing
use Rattle.amd_rounds.proofs.Renewed.{recounted}
use Rattle.amd_rounds.proofs.Halves.{HalfRound, front, kept_lists, ended_in, begins_here, front_here, total_here, block_here}
use Rattle.amd_rounds.proofs.Halves.{hash_stays, most_stays, live_stays, free_stays, front_placed, front_other, pivot_placed, pivot_least}
use Rattle.amd_rounds.proofs.Halves.{left_pivot}
use Rattle.amd_rounds.proofs.Turned.{front_after, rest_is, gone_is, kept_after, rest_parts, pivot_start, pivot_length}
use Rattle.amd_rounds.proofs.Turned.{elements_left, variables_left, done_is, word_after, size_left, class_front, class_start}
use Rattle.amd_rounds.proofs.Turned.{class_listed, class_starts, class_counts, class_order, class_elements, class_variables}
use Rattle.amd_rounds.proofs.Counters.{once_front, counters_under, class_counter}

module _ {g : Graph} {dense : ℕ → Bool} {nzaat : ℕ} {aggressive : Bool} {p : Workspace} {t : QuotientGraph} {s : State}
    (r : HalfRound g dense nzaat aggressive p t s) where
  abbrev left : List ℤ
  left = r.turns.turns.left

  abbrev rest : List ℕ
  rest = classes r.p3.nv (front_at r.p3 r.c)

  abbrev done : ℕ → Bool
  done i = is_done (is_kept r.p3.w) (is_outside r.p2.nv) r.p2.iw r.turns.turns.left r.p2.e_len r.p2.len i

  -- ---- the lists

  start_or : (j : ℕ) → (word r.p3.pe j ≡ word left j) ⊎ (is_place (word r.p3.pe j) ≡ false)
  unfolding is_place
  start_or j = let a = r.turns.turns.renewed.starts j in elim (cases_Bool (has (front_at r.p2 r.c) j)) [
    | inr n ↦ inl (a ∙ cond-false (has (front_at r.p2 r.c) j) _ (word left j) n)
    | inl y ↦ elim (cases_Bool (done j)) [
      | inl d ↦ inr (ap is_place (a ∙ cond-true (has (front_at r.p2 r.c) j) (cond (done j) (flip_of r.c) (word left j)) (word left j) y
          ∙ cond-true (done j) (flip_of r.c) (word left j) d))
      | inr d ↦ inl (a ∙ cond-true (has (front_at r.p2 r.c) j) (cond (done j) (flip_of r.c) (word left j)) (word left j) y
          ∙ cond-false (done j) (flip_of r.c) (word left j) d)
    ]
  ]

  started : Layout g.size r.p3.iw r.p3.pe r.turns.turns.renewed.counts r.p3.len r.p2.free
  started = dropped r.turns.turns.renewed.renewed.laid r.p3.pe start_or

  count_part : (j : ℕ) → has_list r.p3.pe r.p3.len j ≡ true → place (word r.p3.e_len j) ≤ num r.p3.len j
  unfolding place
  count_part j h = let a = r.turns.turns.renewed.lists j in let over : Bool = has (front_at r.p2 r.c) j && done j in
      elim (cases_Bool over) [
        | inl y ↦ (let z : place (word r.p3.e_len j) ≡ 0 = ap place (a
            ∙ cond-true over (negsuc 0) (word r.turns.turns.renewed.counts j) y) in omega (arith, z))
        | inr n ↦ (let z = ap place (a ∙ cond-false over (negsuc 0) (word r.turns.turns.renewed.counts j) n) in
            let b = started.parts j h in omega (arith, z, b))
      ]

  pub laid_turned : Layout g.size r.p3.iw r.p3.pe r.p3.e_len r.p3.len r.p3.free
  laid_turned = subst (λ f. Layout g.size r.p3.iw r.p3.pe r.p3.e_len r.p3.len f) (sym (free_stays r))
      (recounted r.p3.e_len started count_part)

  pub end_turned : r.p3.free ≤ length r.p3.iw
  end_turned = let a = r.begins.end in let b = r.turns.turns.renewed.renewed.long in let c = free_stays r in omega (arith, a, b, c)

  front_turned : HasFront g.size r.c r.p3
  front_turned = record {
    row = r.picks.row;
    laid = laid_turned;
    end = end_turned;
    list = record {
      starts = ap is_place (pivot_start r ∙ left_pivot r) ∙ (begins_here r).starts;
      within = let a = (begins_here r).inside in let b = ap place (pivot_start r ∙ left_pivot r) in let c = pivot_length r in
          let d = free_stays r in omega (arith, a, b, c, d);
      once = subst Once (sym (front_after r)) (once_front r);
      apart = ap (λ l. has l r.c) (front_after r) ∙ front_other r;
    };
  }

  -- ---- the classes that are left

  outside_class : (j : ℕ) → is_outside r.p2.nv j ≡ true → 0 < size_of p.nv j
  outside_class j h = let a = ltb-true 0 (size_of r.p2.nv j) (and_parts _ _ h).0 in let b = (begins_here r).sizes j in
      elim (cases_Bool (j == r.c)) [
        | inl y ↦ (let z = cond-true (j == r.c) 0 (size_of p.nv j) y in absurd (omega (arith, a, b, z)))
        | inr n ↦ (let z = cond-false (j == r.c) 0 (size_of p.nv j) n in omega (arith, a, b, z))
      ]

  -- a variable that is kept is an open class, and no element
  near_class : (i x : ℕ) → has ((kept_lists r).variables i) x ≡ true → has t.placed x ≡ true
  near_class i x h = standing.class_placed g dense nzaat p t s r.st x (outside_class x
      (filter_gives (is_outside r.p2.nv) (variables_in p.iw p.pe p.e_len p.len i) x h).1)

  kept_near : (i j : ℕ) → has t.placed i ≡ true → (x : ℕ) → has ((kept_lists r).elements i) x ≡ true →
      has ((kept_lists r).variables j) x ≡ true → ⊥
  kept_near i j k x h m = clash (filter_gives (is_kept r.p3.w) (elements_in p.iw p.pe p.e_len i) x h).0
      (standing.element_apart g dense nzaat p t s r.st i x k (near_class j x m))

  module _ (i : ℕ) (h : has (classes r.p3.nv (front_at r.p3 r.c)) i ≡ true) where
    left_placed : has t.placed i ≡ true
    left_placed = front_placed r i (rest_parts r i h).0

    class_within : end_of r.p3.pe r.p3.len i ≤ r.p2.free
    class_within = let a = r.turns.turns.renewed.renewed.laid.within i (class_listed r i h) in let b = ap place (class_start r i h) in
        omega (arith, a, b)

    class_renewed : IsRenewed g.size r.p3.iw r.p3.pe r.p3.e_len r.p3.len i
    class_renewed =
        let ks : List ℕ = (kept_lists r).elements i in let vs : List ℕ = (kept_lists r).variables i in
        let a = class_within in let b = r.begins.end in let c = r.turns.turns.renewed.renewed.long in
        is_renewed r.c ks vs r.p3.iw (start r.p3.pe i) (place (word r.p3.e_len i)) (num r.p3.len i) (class_order r i h)
        (class_elements r i h) (class_variables r i h) r.p3.pe r.p3.e_len r.p3.len i (class_starts r i h) (class_counts r i h) refl g.size
        (λ k l. r.turns.turns.renewed.renewed.laid.words (start r.p3.pe i + k) (omega (arith, a, l)))
        (standing.placed_class g dense nzaat p t s r.st i left_placed).1 (omega (arith, a, b, c))
        (once_filter (is_kept r.p3.w) (elements_in p.iw p.pe p.e_len i)
        (standing.elements_once g dense nzaat p t s r.st i left_placed))
        (standing.variables_once g dense nzaat p t s r.st i left_placed (is_outside r.p2.nv) outside_class)
        (λ x k m. kept_near i i left_placed x k m)

    class_key : num r.p3.last i ≡ key_of g.size (words_of r.p3.iw r.p3.pe r.p3.len i)
    class_key =
        let ks : List ℕ = (kept_lists r).elements i in let vs : List ℕ = (kept_lists r).variables i in
        let f = (rest_parts r i h).0 in
        let at = bucket_at g.size (is_kept r.p3.w) (is_outside r.p2.nv) r.p2.iw left r.p2.e_len r.p2.len i in
        let was : ℕ = num r.turns.turns.links i in
        r.turns.turns.renewed.keys i ∙ cond-true (has (front_at r.p2 r.c) i) (cond (done i) was at) was (class_front r i h)
        ∙ cond-false (done i) was at (done_is r i f ∙ (rest_parts r i h).1)
        ∙ ap (λ l. key_of g.size (filter (is_kept r.p3.w) l ++ near_in (is_outside r.p2.nv) r.p2.iw left r.p2.e_len r.p2.len i))
        (elements_left r i f)
        ∙ ap (λ l. key_of g.size (ks ++ filter (is_outside r.p2.nv) l)) (variables_left r i f)
        ∙ ap (λ m. bit_and (m % 2 ^ 64) (key_mask g.size)) (sum_by-append (λ j. j) ks vs)
        ∙ sym (ap (key_of g.size) (kept_after r i h).2 ∙ key_turned g.size ks vs)

    class_marked : in_front r.p3.nv i ≡ true
    class_marked = ap is_negative (word_after r i (rest_parts r i h).0
        ∙ cond-false (ended_in r i) (pos 0) (word r.p2.nv i) (rest_parts r i h).1) ∙ (begins_here r).marks i ∙ (rest_parts r i h).0

    class_standing : (x : ℕ) → has (words_of r.p3.iw r.p3.pe r.p3.len i) x ≡ true → 0 < num r.p3.w x
    class_standing x m = let ks : List ℕ = (kept_lists r).elements i in let vs : List ℕ = (kept_lists r).variables i in
        elim (append_gives x (turned ks) (turned vs) (ap (λ l. has l x) (sym (kept_after r i h).2) ∙ m)) [
          | inl k ↦ ltb-true 0 (num r.p3.w x) (filter_gives (is_kept r.p3.w) (elements_in p.iw p.pe p.e_len i) x
              (sym (has_turned ks x) ∙ k)).1
          | inr k ↦ class_counter r x (near_class i x (sym (has_turned vs x) ∙ k))
        ]

  class_apart : (i j : ℕ) → has rest i ≡ true → has rest j ≡ true → (x : ℕ) → has (kept_of r.p3.iw r.p3.pe r.p3.e_len i) x ≡ true →
      has (variables_in r.p3.iw r.p3.pe r.p3.e_len r.p3.len j) x ≡ false
  class_apart i j h k x m = false_from_ne_true (has (variables_in r.p3.iw r.p3.pe r.p3.e_len r.p3.len j) x) (λ q.
      kept_near i j (left_placed i h) x
      (sym (has_turned ((kept_lists r).elements i) x) ∙ ap (λ l. has l x) (sym (kept_after r i h).0) ∙ m)
      (sym (has_turned ((kept_lists r).variables j) x) ∙ ap (λ l. has l x) (sym (kept_after r j k).1) ∙ q))

  -- ---- sums of rows

  pub border_is : sum_by (size_of r.p3.nv) rest + r.gone ≡ r.total
  border_is =
      let kept : List ℕ = filter (λ i. not (ended_in r i)) (front r) in
      let a : sum_by (size_of r.p3.nv) rest ≡ sum_by (size_of r.p3.nv) kept = ap (sum_by (size_of r.p3.nv)) (rest_is r) in
      let b : sum_by (size_of r.p3.nv) kept ≡ sum_by (size_of p.nv) kept = sum_named (size_of r.p3.nv) (size_of p.nv) kept
      (λ i h. let q = filter_gives (λ i. not (ended_in r i)) (front r) i h in size_left r i q.0
      (Rattle.std.proofs.lemmas.Bool.not-true (ended_in r i) q.1)) in
      let c = gone_is r in omega (arith, a, b, c)

  pub total_few : r.total ≤ g.size
  total_few = let a = total_here r in let b = ap (sum_by (size_of p.nv)) (front_here r) in
      let c = standing.front_few g dense nzaat p t s r.st r.c (pivot_placed r) in omega (arith, a, b, c)

  pub rows_live : r.block + r.total ≤ p.live
  rows_live = let a = finding.rows_live g dense aggressive (view_of p) t s r.st.view r.c (pivot_placed r) (pivot_least r) (front r)
      (front_here r) in let b = block_here r in let c = total_here r in omega (arith, a, b, c)

  pub can_merge : CanMerge g.size r.c (r.block + r.gone) (r.total - r.gone) r.most_cell r.p3
  can_merge = record {
    front = front_turned;
    renewed = record {
      renewed = class_renewed;
      apart = λ i j h k. (class_apart i j h k, class_apart j i k h);
      keys = class_key;
      marked = class_marked;
      small = let a = border_is in let b = total_few in omega (arith, a, b);
      standing = λ i x h m. class_standing i h x m;
    };
    two = r.turns.renews.two;
    under = counters_under r (max r.p3.most (r.total - r.gone)) (let a = most_stays r in
        let b = le-max_left r.p3.most (r.total - r.gone) in omega (arith, a, b));
    room = (let a = r.turns.renews.room in let b = r.begins.sized.w in omega (arith, a, b));
    most = let a = total_few in let b = most_stays r in let c = r.st.laid.most in (omega (arith, a), omega (arith, b, c));
    live = let a = rows_live in let b = border_is in let c = live_stays r in omega (arith, a, b, c);
    empty = λ b l. let a = r.st.laid.empty b l in let h = ap (λ k. num k b) (hash_stays r) in omega (arith, a, h);
  }
