-- The list of a new element, gathered from the lists of its pivot and of the pivot's elements.
use Rattle.amd_lists.specs.Layout.{list_in}
use Rattle.std.proofs.Common.{ℕ, ℤ, Bool, true, false, List, [], ◌++◌, ◌≡◌, ◌<◌, ◌≤◌, ◌+◌, ◌-◌, ◌||◌, inl, inr, refl, sym, subst}
use Rattle.std.proofs.Common.{ap, ◌∙◌, arith, length, fold, flat_map, sum_by, ◌^◌}
use Rattle.std.specs.Prelude.{nat_lt, ◌==◌}
use Rattle.std.proofs.Math.Bool.{or_assoc, or-false}
use Rattle.std.proofs.lemmas.Bool.{true≢false, cases_eq, eq-eqb, ne_eqb, or_left, or_right, or_cases}
use Rattle.std.proofs.lemmas.List.Sums.{fold-append}
use Rattle.amd_model.specs.Quotient.{has, add_new}
use Rattle.amd_model.proofs.Quotient.Lists.{has_append}
use Rattle.amd_words.specs.Words.{size_of, in_front, classes, rows, Names}
use Rattle.amd_round_laws.specs.Rounds.{firsts}
use Rattle.amd_round_laws.proofs.Lists.Named.{sum_named, filter_named}
use Rattle.amd_round_laws.proofs.Lists.Added.{same_adds, adds_marks}
use Rattle.amd_lists.specs.Spans.{IsSpan}
use Rattle.amd_elements.specs.Element.{grown, Gathers, IsGathering, elements_at, variables_at, front_of, Builds}
use Rattle.amd_elements.specs.Premises.{CanGather}
use Rattle.amd_elements.specs.Room.{named_around}
use Rattle.amd_words.proofs.RowLists.{rows_length}
use Rattle.amd_words.proofs.WordMarks.{rows_start}
use Rattle.amd_elements.proofs.ListsAround.{classes_append, classes_around}
use Rattle.amd_elements.proofs.Gathering.{gathers_empty, adds_part, adds_part_sum}

-- ---- one list after another

tests : (b g o m : Bool) → (b || g) ≡ ((b || o) || m) → ((b || m) || g) ≡ (b || g)
tests true g o m h = refl
tests false g o false h = refl
tests false true o true h = refl
tests false false o true h = absurd (true≢false (sym (h ∙ or_right o true refl)))

-- classes with the same numbers of rows
pub classes_same : (nv nv' : List ℤ) → ((j : ℕ) → size_of nv' j ≡ size_of nv j) → (xs : List ℕ) → classes nv' xs ≡ classes nv xs
classes_same nv nv' same xs = filter_named (λ j. nat_lt 0 (size_of nv' j)) (λ j. nat_lt 0 (size_of nv j)) xs (λ x k. ap (nat_lt 0) (same x))

module _ {iw nv : List ℤ} {start free : ℕ} {xs : List ℕ} {iw' nv' : List ℤ} {end total : ℕ}
    (h : Gathers iw nv start free xs iw' nv' end total) where
  -- what is listed is in the front
  pub gathers_known : (j : ℕ) → has (rows iw' start (end - start)) j ≡ true → in_front nv' j ≡ true
  gathers_known j k =
      let listed : has (grown iw nv start free xs) j ≡ true = sym (ap (λ l. has l j) h.list) ∙ k in
      let marks = adds_marks (in_front nv) (rows iw start (free - start)) xs j in
      h.front j ∙ elim (or_cases (in_front nv j || has (rows iw start (free - start)) j) (has xs j) (sym marks
      ∙ or_right (in_front nv j) (has (grown iw nv start free xs) j) listed)) [
        | inl p ↦ or_left (in_front nv j) (has xs j) (elim (or_cases (in_front nv j) (has (rows iw start (free - start)) j) p)
            [ inl q ↦ q | inr q ↦ h.known j q ])
        | inr p ↦ or_right (in_front nv j) (has xs j) p
      ]

  pub gathers_total : total ≡ sum_by (size_of nv') (rows iw' start (end - start))
  gathers_total = h.total_is ∙ sum_named (size_of nv) (size_of nv') (rows iw' start (end - start)) (λ x k. sym (h.sizes x))

  -- what grows on is what would have grown
  pub grown_on : (ys : List ℕ) → grown iw' nv' start end ys ≡ grown iw nv start free (xs ++ ys)
  grown_on ys = ap (λ o. fold (add_new (in_front nv')) o ys) h.list
      ∙ same_adds (in_front nv') (in_front nv) (grown iw nv start free xs) ys (λ x.
      ap (λ b. b || has (grown iw nv start free xs) x) (h.front x)
      ∙ tests (in_front nv x) (has (grown iw nv start free xs) x) (has (rows iw start (free - start)) x) (has xs x)
      (adds_marks (in_front nv) (rows iw start (free - start)) xs x))
      ∙ sym (fold-append (add_new (in_front nv)) (rows iw start (free - start)) xs ys)

  pub gathers_then : {ys : List ℕ} {after marked : List ℤ} {last sum : ℕ} → Gathers iw' nv' start end ys after marked last sum →
      Gathers iw nv start free (xs ++ ys) after marked last sum
  gathers_then {ys} {after} {marked} {last} {sum} k =
      let grows = h.grows in let on = k.grows in let wide = h.wide in
      record {
        long = k.long ∙ h.long;
        wide = k.wide ∙ h.wide;
        order = h.order;
        grows = omega (arith, grows, on);
        list = k.list ∙ grown_on ys;
        names = subst (λ n. Names n after start (last - start)) h.wide k.names;
        below = λ m l. k.below m (omega (arith, l, grows)) ∙ h.below m l;
        above = λ m l. k.above m l ∙ h.above m (omega (arith, l, on));
        sizes = λ j. k.sizes j ∙ h.sizes j;
        front = λ j. k.front j ∙ ap (λ b. b || has ys j) (h.front j) ∙ or_assoc (in_front nv j) (has xs j) (has ys j)
            ∙ sym (ap (λ b. in_front nv j || b) (has_append xs ys j));
        known = h.known;
        total_is = k.total_is ∙ sum_named (size_of nv') (size_of nv) (rows after start (last - start)) (λ x q. h.sizes x);
      }

  -- there is room for what comes next, and for the numbers of its rows
  pub gathers_fits : (all ys zs : List ℕ) → all ≡ (xs ++ ys) ++ zs →
      (start + length (grown iw' nv' start end ys) ≤ start + length (grown iw nv start free all))
      × (sum_by (size_of nv') (grown iw' nv' start end ys) ≤ sum_by (size_of nv) (grown iw nv start free all))
      × (end ≤ start + length (grown iw nv start free all))
  gathers_fits all ys zs is =
      let on = grown_on ys in let a = ap length on in let whole : grown iw nv start free all ≡ grown iw nv start free ((xs ++ ys) ++ zs) =
      ap (grown iw nv start free) is in
      let b = ap length whole in let c = adds_part (in_front nv) (rows iw start (free - start)) (xs ++ ys) zs in let c' =
      adds_part (in_front nv) (rows iw start (free - start)) xs ys in
      let d = ap (sum_by (size_of nv)) on in let e = ap (sum_by (size_of nv)) whole in let f =
      adds_part_sum (size_of nv) (in_front nv) (rows iw start (free - start)) (xs ++ ys) zs in
      let g = sum_named (size_of nv') (size_of nv) (grown iw' nv' start end ys) (λ x q. h.sizes x) in
      let l1 = ap length h.list in let l2 = rows_length iw' start (end - start) in
      ((omega (arith, a, b, c)), (omega (arith, d, e, f, g)), (omega (arith, l1, l2, b, c, c')))

-- ---- one list more

module _ {free : ℕ} {all taken : List ℕ} {iw nv iw1 nv1 : List ℤ} {end total : ℕ}
    (h : IsGathering free all taken iw nv iw1 nv1 end total) (from count : ℕ) where
  those : classes nv1 (rows iw1 from count) ≡ classes nv (rows iw1 from count)
  those = classes_same nv nv1 h.gathers.sizes (rows iw1 from count)

  pub gathers_list : {iw2 nv2 : List ℤ} {last sum : ℕ} → Gathers iw1 nv1 free end (classes nv1 (rows iw1 from count)) iw2 nv2 last sum →
      IsGathering free all (taken ++ rows iw1 from count) iw nv iw2 nv2 last sum
  gathers_list {iw2} {nv2} {last} {sum} g = record {
    gathers = subst (λ xs. Gathers iw nv free free xs iw2 nv2 last sum) (sym (classes_append nv taken (rows iw1 from count)))
        (gathers_then h.gathers (subst (λ xs. Gathers iw1 nv1 free end xs iw2 nv2 last sum) those g));
    fits = h.fits;
    few = h.few;
  }

  pub can_gather : (rest : List ℕ) → all ≡ (taken ++ rows iw1 from count) ++ rest → IsSpan (length nv1) iw1 from count →
      from + count ≤ free → CanGather iw1 nv1 from count free end total
  can_gather rest split span before =
      let bounds = gathers_fits h.gathers (classes nv all) (classes nv (rows iw1 from count)) (classes nv rest)
      (ap (classes nv) split ∙ classes_append nv (taken ++ rows iw1 from count) rest
      ∙ ap (λ xs. xs ++ classes nv rest) (classes_append nv taken (rows iw1 from count))) in
      record {
        span = span;
        apart = inl before;
        order = h.gathers.grows;
        made = subst (λ n. Names n iw1 free (end - free)) (sym h.gathers.wide) h.gathers.names;
        known = gathers_known h.gathers;
        total_is = gathers_total h.gathers;
        fits = (let a = ap (λ l. length (grown iw1 nv1 free end l)) those in let b = bounds.0 in let l = h.gathers.long in let f = h.fits in
            omega (arith, a, b, l, f));
        few = (let a = ap (λ l. sum_by (size_of nv1) (grown iw1 nv1 free end l)) those in let b = bounds.1 in let f = h.few in
            omega (arith, a, b, f));
      }

-- ---- the list of a new element

module _ (iw nv nv1 pe : List ℤ) (len : List ℕ) (pivot m free : ℕ) (sizes : (i : ℕ) → size_of nv1 i ≡ size_of nv i)
    (front1 : (i : ℕ) → in_front nv1 i ≡ (in_front nv i || pivot == i)) (clear : (j : ℕ) → in_front nv j ≡ false) where
  abbrev f : ℕ → List ℕ
  f e = classes nv (list_in iw pe len e)

  abbrev vs : List ℕ
  vs = classes nv (variables_at iw pe len pivot m)

  abbrev pub all : List ℕ
  all = flat_map f (elements_at iw pe pivot m) ++ vs

  pub pivot_marked : (j : ℕ) → in_front nv1 j ≡ (j == pivot)
  pivot_marked j = front1 j ∙ ap (λ b. b || pivot == j) (clear j)
      ∙ elim (cases_eq pivot j) [
        | inl q ↦ eq-eqb pivot j q ∙ sym (eq-eqb j pivot (sym q))
        | inr ne ↦ ne_eqb pivot j ne
            ∙ sym (ne_eqb j pivot (λ q. ne (sym q)))
      ]

  pub grown_all : (xs : List ℕ) → grown iw nv1 free free xs ≡ firsts (λ x. x == pivot) xs
  grown_all xs = ap (λ o. fold (add_new (in_front nv1)) o xs) (rows_start iw free)
      ∙ same_adds (in_front nv1) (λ x. x == pivot) [] xs (λ x. ap (λ b. b || has [] x) (pivot_marked x))

  pub around_all : classes nv1 (named_around iw pe len pivot m) ≡ all
  around_all = classes_same nv nv1 sizes (named_around iw pe len pivot m) ∙ classes_around iw nv pe len pivot m

  -- it is begun, and there is room for it
  pub builds_none : free + length (front_of iw nv pe len pivot m) ≤ length iw →
      sum_by (size_of nv) (front_of iw nv pe len pivot m) < 2 ^ 63 →
      IsGathering free (named_around iw pe len pivot m) [] iw nv1 iw nv1 free 0
  builds_none short few = record {
    gathers = gathers_empty iw nv1 free;
    fits = (let a = ap length whole in omega (arith, a, short));
    few = (let a = ap (sum_by (size_of nv1)) whole in
        let d = sum_named (size_of nv1) (size_of nv) (front_of iw nv pe len pivot m) (λ x q. sizes x) in omega (arith, a, d, few));
  }
    where
      whole : grown iw nv1 free free (classes nv1 (named_around iw pe len pivot m)) ≡ front_of iw nv pe len pivot m
      whole = grown_all (classes nv1 (named_around iw pe len pivot m)) ∙ ap (firsts (λ x. x == pivot)) around_all

  -- the whole
  pub builds_all : {iw' nv' : List ℤ} {end total : ℕ} → length nv1 ≡ length nv → Gathers iw nv1 free free all iw' nv' end total →
      Builds pivot (front_of iw nv pe len pivot m) iw nv free iw' nv' end total
  unfolding has
  builds_all {iw'} {nv'} {end} {total} wide h = record {
    long = h.long;
    wide = h.wide ∙ wide;
    grows = h.grows;
    list = h.list ∙ grown_all all;
    names = subst (λ n. Names n iw' free (end - free)) wide h.names;
    below = h.below;
    above = h.above;
    sizes = λ j. h.sizes j ∙ sizes j;
    front_is = λ j. h.front j ∙ ap (λ b. b || has all j) (pivot_marked j)
        ∙ sym (adds_marks (λ x. x == pivot) [] all j ∙ ap (λ b. b || has all j) (or-false (j == pivot)));
    total_is = h.total_is ∙ sum_named (size_of nv1) (size_of nv) (rows iw' free (end - free)) (λ x q. sizes x)
        ∙ ap (sum_by (size_of nv)) (h.list ∙ grown_all all);
  }

  pub builds_visited : {iw' nv' : List ℤ} {end total : ℕ} → length nv1 ≡ length nv →
      IsGathering free (named_around iw pe len pivot m) (named_around iw pe len pivot m) iw nv1 iw' nv' end total →
      Builds pivot (front_of iw nv pe len pivot m) iw nv free iw' nv' end total
  builds_visited {iw'} {nv'} {end} {total} wide h =
      builds_all wide (subst (λ xs. Gathers iw nv1 free free xs iw' nv' end total) around_all h.gathers)
