-- The classes of a new element are met one by one, and unmarked again.
use Rattle.amd_lists.specs.Layout.{list_in}
use Rattle.amd_model.proofs.Counting.Below.{clash}
use Rattle.std.proofs.Common.{ℕ, ℤ, Bool, true, false, List, [], ◌∷◌, ◌++◌, ◌≡◌, ◌+◌, ◌-◌, ◌&&◌, ◌||◌, not, inl, inr, refl, sym}
use Rattle.std.proofs.Common.{subst, ap, ◌∙◌, arith, length, fold, flat_map, pos, negsuc}
use Rattle.std.specs.Prelude.{nat_lt, ◌==◌}
use Rattle.std.proofs.Math.Bool.{or_assoc, or-false, and-true, and-false}
use Rattle.std.proofs.lemmas.Bool.{true≢false, cases_Bool, cases_eq, eq-eqb, ne_eqb, or_left, or_right, or_cases, eqb-true}
use Rattle.std.proofs.lemmas.Bool.{and_parts, not-true}
use Rattle.std.proofs.lemmas.List.{length-append, ext_get_or}
use Rattle.std.proofs.lemmas.List.Elements.{filter-append}
use Rattle.std.proofs.lemmas.List.Sums.{fold-append}
use Rattle.amd_model.specs.Quotient.{has, add_new}
use Rattle.amd_model.proofs.Quotient.Lists.{has_append, add_old, add_fresh, filter_yes, filter_no, flat_gives, flat_from}
use Rattle.amd_model.proofs.Listings.Words.{has_filter as filter_gives}
use Rattle.amd_round_laws.specs.Rounds.{firsts}
use Rattle.amd_round_laws.proofs.Lists.Added.{same_adds, adds_marks}
use Rattle.amd_round_laws.proofs.Fronts.Gathered.{firsts_gives}
use Rattle.amd_words.specs.Words.{place, word, size_of, in_front, classes, rows, rows_in, is_negative}
use Rattle.amd_elements.specs.Element.{elements_at, variables_at, front_of}
use Rattle.amd_elements.specs.Room.{Meets, Unmarks, IsMeeting, IsRemainder, named_around}
use Rattle.amd_words.proofs.WordMarks.{both_not}
use Rattle.amd_words.proofs.RowLists.{rows_more}
use Rattle.amd_elements.proofs.ListsAround.{classes_append, classes_around}
use Rattle.amd_elements.proofs.Building.{classes_same, pivot_marked}

-- ---- what is added to two lists, where the same is skipped or listed

has_one : (x i : ℕ) → has (x ∷ []) i ≡ (x == i)
unfolding has
has_one x i = or-false (x == i)

one_more : (s t o q : Bool) → (s || o) ≡ (t || q) → (b : Bool) → (s || (o || b)) ≡ (t || (q || b))
one_more s t o q h b = sym (or_assoc s o b) ∙ ap (λ c. c || b) h ∙ or_assoc t q b

pub adds_length : (s t : ℕ → Bool) (out put xs : List ℕ) → ((x : ℕ) → (s x || has out x) ≡ (t x || has put x)) →
    length (fold (add_new s) out xs) + length put ≡ length (fold (add_new t) put xs) + length out
adds_length s t out put [] h = omega arith
adds_length s t out put (y ∷ ys) h = elim (cases_Bool (t y || has put y)) [
  | inl k ↦ (let a = ap (λ o. length (fold (add_new s) o ys)) (add_old s out y (h y ∙ k)) in
      let b = ap (λ o. length (fold (add_new t) o ys)) (add_old t put y k) in
      let e = adds_length s t out put ys h in omega (arith, a, b, e))
  | inr k ↦ (let a = ap (λ o. length (fold (add_new s) o ys)) (add_fresh s out y (h y ∙ k)) in
      let b = ap (λ o. length (fold (add_new t) o ys)) (add_fresh t put y k) in
      let agree : (x : ℕ) → (s x || has (out ++ y ∷ []) x) ≡ (t x || has (put ++ y ∷ []) x) =
      λ x. ap (λ b. s x || b) (has_append out (y ∷ []) x) ∙ one_more (s x) (t x) (has out x) (has put x) (h x) (has (y ∷ []) x)
      ∙ sym (ap (λ b. t x || b) (has_append put (y ∷ []) x)) in
      let e = adds_length s t (out ++ y ∷ []) (put ++ y ∷ []) ys agree in
      let l = length-append out (y ∷ []) in let m = length-append put (y ∷ []) in omega (arith, a, b, e, l, m))
]

-- ---- one list after another

pub meets_none : (nv : List ℤ) (left : ℕ) → Meets nv [] left nv left
unfolding has
meets_none nv left = record {
  wide = refl;
  sizes = λ j. refl;
  front = λ j. sym (or-false (in_front nv j));
  left_is = omega arith;
}

pub meets_then : {nv : List ℤ} {xs ys : List ℕ} {left : ℕ} {nv1 : List ℤ} {left1 : ℕ} {nv2 : List ℤ} {left2 : ℕ} →
    Meets nv xs left nv1 left1 → Meets nv1 ys left1 nv2 left2 → Meets nv (xs ++ ys) left nv2 left2
unfolding has
meets_then {nv} {xs} {ys} {left} {nv1} {left1} {nv2} {left2} h k = record {
  wide = k.wide ∙ h.wide;
  sizes = λ j. k.sizes j ∙ h.sizes j;
  front = λ j. k.front j ∙ ap (λ b. b || has ys j) (h.front j) ∙ or_assoc (in_front nv j) (has xs j) (has ys j)
      ∙ sym (ap (λ b. in_front nv j || b) (has_append xs ys j));
  left_is =
      let agree : (x : ℕ) → (in_front nv1 x || has [] x) ≡ (in_front nv x || has (firsts (in_front nv) xs) x) =
      λ x. or-false (in_front nv1 x) ∙ h.front x
      ∙ sym (adds_marks (in_front nv) [] xs x ∙ ap (λ b. b || has xs x) (or-false (in_front nv x))) in
      let a = adds_length (in_front nv1) (in_front nv) [] (firsts (in_front nv) xs) ys agree in
      let b = ap length (fold-append (add_new (in_front nv)) [] xs ys) in
      let c = h.left_is in let d = k.left_is in omega (arith, a, b, c, d);
}

-- a class that is met for the first time
pub meets_open : (nv nv' : List ℤ) (j left left' : ℕ) → (nat_lt 0 (size_of nv j) && not (in_front nv j)) ≡ true → length nv' ≡ length nv →
    ((i : ℕ) → size_of nv' i ≡ size_of nv i) → ((i : ℕ) → in_front nv' i ≡ (in_front nv i || j == i)) → left' ≡ left - 1 →
    Meets nv (classes nv (j ∷ [])) left nv' left'
unfolding has
meets_open nv nv' j left left' open_is wide sizes front is = let p = and_parts _ _ open_is in
    let fresh : in_front nv j ≡ false = elim (cases_Bool (in_front nv j)) [ inl y ↦ clash y (not-true (in_front nv j) p.1) | inr f ↦ f ] in
    let one : classes nv (j ∷ []) ≡ j ∷ [] = filter_yes (λ i. nat_lt 0 (size_of nv i)) j [] p.0 in
    let first : firsts (in_front nv) (j ∷ []) ≡ j ∷ [] = add_fresh (in_front nv) [] j (or-false (in_front nv j) ∙ fresh) in record {
      wide = wide;
      sizes = sizes;
      front = λ i. front i ∙ sym (ap (λ xs. in_front nv i || has xs i) one ∙ ap (λ b. in_front nv i || b) (has_one j i));
      left_is = let e = ap (λ xs. length (firsts (in_front nv) xs)) one in let f = ap length first in omega (arith, is, e, f);
    }

-- what is no class, or is in the front
pub meets_other : (nv : List ℤ) (j left : ℕ) → (nat_lt 0 (size_of nv j) && not (in_front nv j)) ≡ false →
    Meets nv (classes nv (j ∷ [])) left nv left
unfolding has
meets_other nv j left shut = elim (cases_Bool (nat_lt 0 (size_of nv j))) [
  | inr none ↦ subst (λ xs. Meets nv xs left nv left) (sym (filter_no (λ i. nat_lt 0 (size_of nv i)) j [] none)) (meets_none nv left)
  | inl class ↦ (let marked : in_front nv j ≡ true = elim (cases_Bool (in_front nv j)) [
    | inl y ↦ y
    | inr f ↦ clash (ap (λ b. b && not (in_front nv j)) class ∙ ap not f) shut
  ] in
      let one : classes nv (j ∷ []) ≡ j ∷ [] = filter_yes (λ i. nat_lt 0 (size_of nv i)) j [] class in
      let first : firsts (in_front nv) (j ∷ []) ≡ [] = add_old (in_front nv) [] j (or_left (in_front nv j) (has [] j) marked) in record {
        wide = refl;
        sizes = λ i. refl;
        front = λ i. sym (ap (λ xs. in_front nv i || has xs i) one ∙ ap (λ b. in_front nv i || b) (has_one j i) ∙ elim (cases_eq j i) [
          | inl q ↦ (let m : in_front nv i ≡ true = ap (in_front nv) (sym q) ∙ marked in or_left (in_front nv i) (j == i) m ∙ sym m)
          | inr ne ↦ ap (λ b. in_front nv i || b) (ne_eqb j i ne) ∙ or-false (in_front nv i)
        ]);
        left_is = let e = ap (λ xs. length (firsts (in_front nv) xs)) one in let f = ap length first in omega (arith, e, f);
      })
]

-- the next word of a list
pub meets_more : (iw : List ℤ) (from k : ℕ) {nv : List ℤ} {left : ℕ} {nv1 : List ℤ} {left1 : ℕ} {nv2 : List ℤ} {left2 : ℕ} (x : ℕ) →
    Meets nv (classes nv (rows iw from k)) left nv1 left1 → x ≡ place (word iw (from + k)) →
    Meets nv1 (classes nv1 (x ∷ [])) left1 nv2 left2 →
    Meets nv (classes nv (rows iw from (k + 1))) left nv2 left2
meets_more iw from k {nv} {left} {nv1} {left1} {nv2} {left2} x h is g =
    subst (λ xs. Meets nv xs left nv2 left2)
    (sym (ap (classes nv) (rows_more iw from k) ∙ filter-append (λ i.
    nat_lt 0 (size_of nv i)) (rows iw from k) (place (word iw (from + k)) ∷ [])
    ∙ ap (λ y. classes nv (rows iw from k) ++ classes nv (y ∷ [])) (sym is)))
    (meets_then h (subst (λ xs. Meets nv1 xs left1 nv2 left2) (classes_same nv nv1 h.sizes (x ∷ [])) g))

-- ---- rows are unmarked

pub unmarks_none : (nv : List ℤ) → Unmarks nv [] nv
unfolding has
unmarks_none nv = record { wide = refl; sizes = λ j. refl; front = λ j. sym (and-true (in_front nv j)) }

pub unmarks_then : {nv : List ℤ} {xs ys : List ℕ} {nv1 nv2 : List ℤ} → Unmarks nv xs nv1 → Unmarks nv1 ys nv2 → Unmarks nv (xs ++ ys) nv2
unmarks_then {nv} {xs} {ys} h k = record {
  wide = k.wide ∙ h.wide;
  sizes = λ j. k.sizes j ∙ h.sizes j;
  front = λ j. k.front j ∙ ap (λ b. b && not (has ys j)) (h.front j) ∙ both_not (in_front nv j) (has xs j) (has ys j)
      ∙ sym (ap (λ b. in_front nv j && not b) (has_append xs ys j));
}

pub unmarks_one : (nv nv' : List ℤ) (j : ℕ) → length nv' ≡ length nv → ((i : ℕ) → size_of nv' i ≡ size_of nv i) →
    ((i : ℕ) → in_front nv' i ≡ (in_front nv i && not (j == i))) → Unmarks nv (j ∷ []) nv'
unmarks_one nv nv' j wide sizes front = record {
  wide = wide;
  sizes = sizes;
  front = λ i. front i ∙ sym (ap (λ b. in_front nv i && not b) (has_one j i));
}

pub unmarks_other : (nv : List ℤ) (j : ℕ) → in_front nv j ≡ false → Unmarks nv (j ∷ []) nv
unmarks_other nv j free = unmarks_one nv nv j refl (λ i. refl) (λ i. elim (cases_eq j i) [
  | inl q ↦ ap (in_front nv) (sym q) ∙ free ∙ sym (ap (λ b. b && not (j == i)) (ap (in_front nv) (sym q) ∙ free))
  | inr ne ↦ sym (ap (λ b. in_front nv i && not b) (ne_eqb j i ne) ∙ and-true (in_front nv i))
])

pub unmarks_more : (iw : List ℤ) (from k : ℕ) {nv nv1 nv2 : List ℤ} (x : ℕ) → Unmarks nv (rows iw from k) nv1 →
    x ≡ place (word iw (from + k)) →
    Unmarks nv1 (x ∷ []) nv2 → Unmarks nv (rows iw from (k + 1)) nv2
unmarks_more iw from k {nv} {nv1} {nv2} x h is g =
    subst (λ xs. Unmarks nv xs nv2) (sym (rows_more iw from k ∙ ap (λ y. rows iw from k ++ y ∷ []) (sym is))) (unmarks_then h g)

-- ---- lists with the same sizes and marks are the same

same_word : (y z : ℤ) → rows_in y ≡ rows_in z → is_negative y ≡ is_negative z → y ≡ z
unfolding rows_in is_negative
same_word (pos n) (pos m) s f = ap pos s
same_word (pos n) (negsuc m) s f = absurd (true≢false (sym f))
same_word (negsuc n) (pos m) s f = absurd (true≢false f)
same_word (negsuc n) (negsuc m) s f = let e : n ≡ m = omega (arith, s) in ap negsuc e

pub same_sizes : (nv nv' : List ℤ) → length nv' ≡ length nv → ((j : ℕ) → size_of nv' j ≡ size_of nv j) →
    ((j : ℕ) → in_front nv' j ≡ in_front nv j) → nv' ≡ nv
same_sizes nv nv' wide sizes front = ext_get_or (pos 0) nv' nv wide (λ k l. same_word (word nv' k) (word nv k) (sizes k) (front k))

-- ---- the visitors take one list more

module _ {taken : List ℕ} {iw nv : List ℤ} {left : ℕ} {iw1 nv1 : List ℤ} {left1 : ℕ} (ys : List ℕ) where
  pub meeting_more : {nv2 : List ℤ} {left2 : ℕ} → IsMeeting taken iw nv left iw1 nv1 left1 →
      Meets nv1 (classes nv1 ys) left1 nv2 left2 → IsMeeting (taken ++ ys) iw nv left iw1 nv2 left2
  meeting_more {nv2} {left2} h k = record {
    meets = subst (λ xs. Meets nv xs left nv2 left2) (sym (classes_append nv taken ys))
        (meets_then h.meets (subst (λ xs. Meets nv1 xs left1 nv2 left2) (classes_same nv nv1 h.meets.sizes ys) k));
    same = h.same;
  }

  pub remainder_more : {count left2 : ℕ} → IsRemainder taken iw nv left iw1 nv1 left1 → length ys ≡ count → left2 ≡ left1 - count →
      IsRemainder (taken ++ ys) iw nv left iw1 nv1 left2
  remainder_more h long is = record {
    left_is = (let a = length-append taken ys in let b = h.left_is in omega (arith, a, b, long, is));
    same = h.same;
  }

-- ---- the lists around a pivot

module _ (iw nv nv1 pe : List ℤ) (len : List ℕ) (pivot m : ℕ) (sizes : (i : ℕ) → size_of nv1 i ≡ size_of nv i)
    (front1 : (i : ℕ) → in_front nv1 i ≡ (in_front nv i || pivot == i)) (clear : (j : ℕ) → in_front nv j ≡ false)
    {left : ℕ} {nv2 : List ℤ} {left2 : ℕ} (h : Meets nv1 (classes nv1 (named_around iw pe len pivot m)) left nv2 left2) where
  abbrev all : List ℕ
  all = classes nv (named_around iw pe len pivot m)

  front_is : firsts (λ x. x == pivot) all ≡ front_of iw nv pe len pivot m
  front_is = ap (firsts (λ x. x == pivot)) (classes_around iw nv pe len pivot m)

  whole : Meets nv1 all left nv2 left2
  whole = subst (λ xs. Meets nv1 xs left nv2 left2) (classes_same nv nv1 sizes (named_around iw pe len pivot m)) h

  alone : (j : ℕ) → in_front nv1 j ≡ (j == pivot)
  alone = pivot_marked iw nv nv1 pe len pivot m 0 sizes front1 clear

  pub meets_front_is : (j : ℕ) → in_front nv2 j ≡ (j == pivot || has (front_of iw nv pe len pivot m) j)
  unfolding has
  meets_front_is j = whole.front j ∙ ap (λ b. b || has all j) (alone j)
      ∙ sym (ap (λ xs. j == pivot || has xs j) (sym front_is)
      ∙ adds_marks (λ x. x == pivot) [] all j ∙ ap (λ b. b || has all j) (or-false (j == pivot)))

  pub meets_front_left : left2 ≡ left - length (front_of iw nv pe len pivot m)
  unfolding has
  meets_front_left = whole.left_is ∙ ap (λ xs. left - length xs)
      (same_adds (in_front nv1) (λ x. x == pivot) [] all (λ x. ap (λ b. b || has [] x) (alone x)) ∙ front_is)

-- each class of a front is named around its pivot
pub front_named : (iw nv pe : List ℤ) (len : List ℕ) (pivot m j : ℕ) → has (front_of iw nv pe len pivot m) j ≡ true →
    has (named_around iw pe len pivot m) j ≡ true
front_named iw nv pe len pivot m j h =
    let skip : (ℕ → Bool) = λ x. x == pivot in let f : (ℕ → List ℕ) = λ e. classes nv (list_in iw pe len e) in
    let xs : List ℕ = flat_map f (elements_at iw pe pivot m) in let ys : List ℕ = classes nv (variables_at iw pe len pivot m) in
    let named : has (xs ++ ys) j ≡ true = (firsts_gives skip (xs ++ ys) (front_of iw nv pe len pivot m) refl j h).0 in
    has_append (flat_map (list_in iw pe len) (elements_at iw pe pivot m)) (variables_at iw pe len pivot m) j
    ∙ elim (or_cases (has xs j) (has ys j) (sym (has_append xs ys j) ∙ named)) [
      | inl a ↦ or_left (has (flat_map (list_in iw pe len) (elements_at iw pe pivot m)) j) _
          (let e = flat_gives f (elements_at iw pe pivot m) j a in flat_from (list_in iw pe len) (elements_at iw pe pivot m) j e.0 e.1
          (filter_gives (λ i. nat_lt 0 (size_of nv i)) (list_in iw pe len e.0) j e.2).0)
      | inr b ↦ or_right (has (flat_map (list_in iw pe len) (elements_at iw pe pivot m)) j) (has (variables_at iw pe len pivot m) j)
          (filter_gives (λ i. nat_lt 0 (size_of nv i)) (variables_at iw pe len pivot m) j b).0
    ]

-- so they are all unmarked
pub unmarked : (iw nv pe : List ℤ) (len : List ℕ) (pivot m : ℕ) (nv1 nv2 : List ℤ) → ((j : ℕ) → in_front nv j ≡ false) →
    length nv1 ≡ length nv → ((j : ℕ) → size_of nv1 j ≡ size_of nv j) →
    ((j : ℕ) → in_front nv1 j ≡ (j == pivot || has (front_of iw nv pe len pivot m) j)) →
    Unmarks nv1 (pivot ∷ named_around iw pe len pivot m) nv2 → nv2 ≡ nv
unfolding has
unmarked iw nv pe len pivot m nv1 nv2 clear wide sizes front h = same_sizes nv nv2 (h.wide ∙ wide) (λ j. h.sizes j ∙ sizes j)
    (λ j. h.front j ∙ ap (λ b. b && not (has (pivot ∷ named_around iw pe len pivot m) j)) (front j) ∙ none j ∙ sym (clear j))
  where
    none : (j : ℕ) → ((j == pivot || has (front_of iw nv pe len pivot m) j)
        && not (pivot == j || has (named_around iw pe len pivot m) j)) ≡ false
    none j = elim (cases_Bool (j == pivot || has (front_of iw nv pe len pivot m) j)) [
      | inr q ↦ ap (λ b. b && not (pivot == j || has (named_around iw pe len pivot m) j)) q
      | inl some ↦ (let met : (pivot == j || has (named_around iw pe len pivot m) j) ≡ true =
          elim (or_cases (j == pivot) (has (front_of iw nv pe len pivot m) j) some) [
            | inl q ↦ or_left (pivot == j) _ (eq-eqb pivot j (sym (eqb-true j pivot q)))
            | inr k ↦ or_right (pivot == j) _ (front_named iw nv pe len pivot m j k)
          ] in ap (λ b. (j == pivot || has (front_of iw nv pe len pivot m) j) && not b) met
          ∙ and-false (j == pivot || has (front_of iw nv pe len pivot m) j))
    ]
