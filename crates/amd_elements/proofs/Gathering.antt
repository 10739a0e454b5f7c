-- A list that grows behind the others: steps, and what they come to.
use Rattle.amd_model.proofs.Counting.Below.{clash}
use Rattle.std.proofs.Common.{ℕ, ℤ, Bool, true, false, List, [], ◌∷◌, ◌++◌, ◌≡◌, ◌<◌, ◌≤◌, ◌+◌, ◌-◌, ◌&&◌, ◌||◌, not, inl, inr, refl}
use Rattle.std.proofs.Common.{sym, ◌^◌, add-sub_of_le}
use Rattle.std.proofs.Common.{subst, ap, ◌∙◌, arith, append_assoc, length, fold, sum_by, pos, set, length-set, get_or-set_same}
use Rattle.std.proofs.Common.{get_or-set_other, append-nil}
use Rattle.std.specs.Prelude.{nat_lt, ◌==◌}
use Rattle.std.proofs.Math.Bool.{or_assoc, or-false}
use Rattle.std.proofs.lemmas.Bool.{cases_Bool, cases_eq, ne_eqb, and_parts, not-true, or_left, or_right, or_cases, or_from, or_parts}
use Rattle.std.proofs.lemmas.Bool.{and_from, not_from_false, ltb-true, true≢false}
use Rattle.std.proofs.lemmas.List.{length-append}
use Rattle.std.proofs.lemmas.List.Sums.{fold-append, fold_push, sum_by-append, sum_by-cons}
use Rattle.amd_model.specs.Quotient.{has, add_new}
use Rattle.amd_model.proofs.Quotient.Lists.{add_old, add_fresh, has_append}
use Rattle.amd_round_laws.proofs.Lists.Added.{adds_marks}
use Rattle.amd_words.specs.Words.{is_place, place, word, size_of, in_front, classes, rows, Names}
use Rattle.amd_elements.specs.Element.{grown, Gathers}
use Rattle.amd_elements.specs.Premises.{CanGather}
use Rattle.amd_words.proofs.Classes.{classes_yes, classes_no, classes_split}
use Rattle.amd_words.proofs.RowLists.{rows_more, rows_same, rows_length}
use Rattle.amd_words.proofs.WordCounts.{within_count, next_place}
use Rattle.amd_words.proofs.WordMarks.{rows_start}
use Rattle.amd_elements.proofs.RoundWords.{adds_few, filter_few}

add_none : (n : ℕ) → n + 0 ≡ n
add_none n = omega arith

-- ---- what is added stands behind what was there

pub adds_tail : (skip : ℕ → Bool) (out xs : List ℕ) → (t : List ℕ) × (fold (add_new skip) out xs ≡ out ++ t)
adds_tail skip out [] = ([], sym (append-nil out))
adds_tail skip out (x ∷ xs) = elim (cases_Bool (skip x || has out x)) [
  | inl h ↦ (let a = adds_tail skip out xs in (a.0, ap (λ o. fold (add_new skip) o xs) (add_old skip out x h) ∙ a.1))
  | inr h ↦ (let a = adds_tail skip (out ++ x ∷ []) xs in (
    x ∷ a.0,
    ap (λ o. fold (add_new skip) o xs) (add_fresh skip out x h) ∙ a.1
        ∙ append_assoc out (x ∷ []) a.0,
  ))
]

-- so a part of what is gone through adds no more words, and no more rows
pub adds_part : (skip : ℕ → Bool) (out xs ys : List ℕ) → length (fold (add_new skip) out xs) ≤ length (fold (add_new skip) out (xs ++ ys))
adds_part skip out xs ys = let a = adds_tail skip (fold (add_new skip) out xs) ys in let e =
    ap length (fold-append (add_new skip) out xs ys ∙ a.1) in
    let b = length-append (fold (add_new skip) out xs) a.0 in omega (arith, e, b)

pub adds_part_sum : (f : ℕ → ℕ) (skip : ℕ → Bool) (out xs ys : List ℕ) →
    sum_by f (fold (add_new skip) out xs) ≤ sum_by f (fold (add_new skip) out (xs ++ ys))
adds_part_sum f skip out xs ys = let a = adds_tail skip (fold (add_new skip) out xs) ys in let e =
    ap (sum_by f) (fold-append (add_new skip) out xs ys ∙ a.1) in
    let b = sum_by-append f (fold (add_new skip) out xs) a.0 in omega (arith, e, b)

-- a number that is not met yet is added
pub adds_fresh : (skip : ℕ → Bool) (out xs : List ℕ) (y : ℕ) → ((j : ℕ) → has out j ≡ true → skip j ≡ true) → (skip y || has xs y) ≡ false →
    fold (add_new skip) out (xs ++ y ∷ []) ≡ fold (add_new skip) out xs ++ y ∷ []
adds_fresh skip out xs y known h = let p = or_parts (skip y) (has xs y) h in
    let not_out : has out y ≡ false = elim (cases_Bool (has out y)) [ inl k ↦ clash (known y k) p.0 | inr k ↦ k ] in
    fold_push (add_new skip) out xs y ∙ add_fresh skip (fold (add_new skip) out xs) y
    (adds_marks skip out xs y ∙ or_from (skip y || has out y) (has xs y) (or_from (skip y) (has out y) p.0 not_out) p.1)

-- one that was met is not
pub adds_old : (skip : ℕ → Bool) (out xs : List ℕ) (y : ℕ) → (skip y || has xs y) ≡ true →
    fold (add_new skip) out (xs ++ y ∷ []) ≡ fold (add_new skip) out xs
adds_old skip out xs y h = fold_push (add_new skip) out xs y ∙ add_old skip (fold (add_new skip) out xs) y
    (adds_marks skip out xs y ∙ elim (or_cases (skip y) (has xs y) h) [
      | inl k ↦ or_left (skip y || has out y) (has xs y) (or_left (skip y) (has out y) k)
      | inr k ↦ or_right (skip y || has out y)
          (has xs y) k
    ])

-- ---- a list in the workspace

pub gathers_none : (iw nv : List ℤ) (start free total : ℕ) → start ≤ free → Names (length nv) iw start (free - start) →
    ((j : ℕ) → has (rows iw start (free - start)) j ≡ true → in_front nv j ≡ true) →
    total ≡ sum_by (size_of nv) (rows iw start (free - start)) → Gathers iw nv start free [] iw nv free total
unfolding has
gathers_none iw nv start free total order names known total_is = record {
  long = refl;
  wide = refl;
  order = order;
  grows = omega arith;
  list = refl;
  names = names;
  below = λ k l. refl;
  above = λ k l. refl;
  sizes = λ j. refl;
  front = λ j. sym (or-false (in_front nv j));
  known = known;
  total_is = total_is;
}

-- a list that is not begun
pub gathers_empty : (iw nv : List ℤ) (free : ℕ) → Gathers iw nv free free [] iw nv free 0
unfolding has
gathers_empty iw nv free = gathers_none iw nv free free 0 (omega arith) (λ k l. absurd (omega (arith, l))) (λ j h.
    absurd (true≢false (sym h ∙ ap (λ l. has l j) (rows_start iw free)))) (sym (ap (sum_by (size_of nv)) (rows_start iw free)))

-- what is met again changes nothing
met_again : (nv : List ℤ) (xs : List ℕ) (y : ℕ) → (in_front nv y || has xs y) ≡ true → (j : ℕ) →
    (in_front nv j || (has xs j || has (y ∷ []) j)) ≡ (in_front nv j || has xs j)
unfolding has
met_again nv xs y f j = elim (cases_eq y j) [
  | inl q ↦ (let both : (in_front nv j || has xs j) ≡ true = subst (λ i. (in_front nv i || has xs i) ≡ true) q f in
      sym (or_assoc (in_front nv j) (has xs j) (y == j || false)) ∙ or_left (in_front nv j || has xs j) (y == j || false) both ∙ sym both)
  | inr ne ↦ ap (λ b. in_front nv j || (has xs j || (b || false))) (ne_eqb y j ne) ∙ ap (λ b. in_front nv j || b) (or-false (has xs j))
]

-- one more class was met
module _ {iw nv : List ℤ} {start free : ℕ} {xs : List ℕ} {iw' nv' : List ℤ} {end total : ℕ}
    (h : Gathers iw nv start free xs iw' nv' end total) (y : ℕ) where
  -- it is in the front already
  pub gathers_old : in_front nv' y ≡ true → Gathers iw nv start free (xs ++ y ∷ []) iw' nv' end total
  unfolding has
  gathers_old f = record {
    long = h.long;
    wide = h.wide;
    order = h.order;
    grows = h.grows;
    list = h.list ∙ sym (adds_old (in_front nv) (rows iw start (free - start)) xs y (sym (h.front y) ∙ f));
    names = h.names;
    below = h.below;
    above = h.above;
    sizes = h.sizes;
    front = λ j. h.front j ∙ sym (ap (λ b. in_front nv j || b) (has_append xs (y ∷ []) j) ∙ met_again nv xs y (sym (h.front y) ∙ f) j);
    known = h.known;
    total_is = h.total_is;
  }

  -- it is not: its word is copied behind the list, and it is put into the front
  pub gathers_new : (k : ℕ) (after : List ℤ) (sum : ℕ) → word iw' k ≡ word iw k → is_place (word iw k) ≡ true → place (word iw k) ≡ y →
      y < length nv → in_front nv' y ≡ false → end < length iw →
      length after ≡ length nv' → ((j : ℕ) → size_of after j ≡ size_of nv' j) →
      ((j : ℕ) → in_front after j ≡ (in_front nv' j || y == j)) → sum ≡ total + size_of nv' y →
      Gathers iw nv start free (xs ++ y ∷ []) (set iw' end (word iw' k)) after (end + 1) sum
  unfolding has
  gathers_new k after sum here is_one is small fresh room wide sizes front sum_is =
      let v : ℤ = word iw' k in
      let order = h.order in let grows = h.grows in let long = h.long in let total_is = h.total_is in
      let mine : word (set iw' end v) end ≡ v = get_or-set_same iw' end v (pos 0) (omega (arith, room, long)) in
      let other : (m : ℕ) → (m ≡ end → ⊥) → word (set iw' end v) m ≡ word iw' m = λ m ne. get_or-set_other iw' end m v (pos 0) ne in
      let count : (end + 1) - start ≡ (end - start) + 1 = omega (arith, order, grows) in
      let last : start + (end - start) ≡ end = omega (arith, order, grows) in
      let list : rows (set iw' end v) start ((end + 1) - start) ≡ grown iw nv start free (xs ++ y ∷ [])
      = ap (rows (set iw' end v) start) count ∙ rows_more (set iw' end v) start (end - start)
      ∙ ap (λ l. l ++ place (word (set iw' end v) (start + (end - start))) ∷ [])
      (rows_same iw' (set iw' end v) start start (end - start) (λ m l. other (start + m) (λ q. omega (arith, q, l, last))) ∙ h.list)
      ∙ ap (λ x. grown iw nv start free xs ++ x ∷ []) (ap place (ap (word (set iw' end v)) last ∙ mine ∙ here) ∙ is)
      ∙ sym (adds_fresh (in_front nv) (rows iw start (free - start)) xs y h.known (sym (h.front y) ∙ fresh)) in
      record {
        long = length-set iw' end v ∙ h.long;
        wide = wide ∙ h.wide;
        order = h.order;
        grows = omega (arith, grows);
        list = list;
        names = λ m l. elim (cases_eq m (end - start)) [
          | inl q ↦ (let at : start + m ≡ end = omega (arith, q, last) in
              let w : word (set iw' end v) (start + m) ≡ word iw k = ap (word (set iw' end v)) at ∙ mine ∙ here in
              (ap is_place w ∙ is_one, (let e = ap place w ∙ is in omega (arith, e, small))))
          | inr ne ↦ (let w : word (set iw' end v) (start + m)
              ≡ word iw' (start + m) = other (start + m) (λ q. ne (omega (arith, q, last))) in let n =
              h.names m (omega (arith, l, ne, count)) in
              (ap is_place w ∙ n.0, (let e = ap place w in let b = n.1 in omega (arith, e, b))))
        ];
        below = λ m l. other m (λ q. omega (arith, q, l, grows)) ∙ h.below m l;
        above = λ m l. other m (λ q. omega (arith, q, l)) ∙ h.above m (omega (arith, l));
        sizes = λ j. sizes j ∙ h.sizes j;
        front = λ j. front j ∙ ap (λ b. b || y == j) (h.front j) ∙ or_assoc (in_front nv j) (has xs j) (y == j)
            ∙ sym (ap (λ b. in_front nv j || b) (has_append xs (y ∷ []) j ∙ ap (λ b. has xs j || b) (or-false (y == j))));
        known = h.known;
        total_is = (let a = ap (sum_by (size_of nv)) (list ∙ adds_fresh (in_front nv) (rows iw start (free - start)) xs y h.known
            (sym (h.front y) ∙ fresh)) in
            let b = sum_by-append (size_of nv) (grown iw nv start free xs) (y ∷ []) in let c = ap (sum_by (size_of nv)) h.list in let d =
            h.sizes y in
            let e : sum_by (size_of nv) (y ∷ []) ≡ size_of nv y = sum_by-cons (size_of nv) y [] ∙ add_none (size_of nv y) in
            omega (arith, a, b, c, d, e, sum_is, total_is));
      }

  -- there is a word for it, and a number for the sum, where there are for all that is met
  pub gathers_room : (all zs : List ℕ) → all ≡ (xs ++ y ∷ []) ++ zs → in_front nv' y ≡ false →
      (end < start + length (grown iw nv start free all)) × (total + size_of nv y ≤ sum_by (size_of nv) (grown iw nv start free all))
  gathers_room all zs is fresh =
      let order = h.order in let grows = h.grows in let total_is = h.total_is in
      let added = adds_fresh (in_front nv) (rows iw start (free - start)) xs y h.known (sym (h.front y) ∙ fresh) in
      let l1 = ap length h.list in let l2 = rows_length iw' start (end - start) in
      let l3 = ap length added in let l4 = length-append (grown iw nv start free xs) (y ∷ []) in
      let l5 = adds_part (in_front nv) (rows iw start (free - start)) (xs ++ y ∷ []) zs in let l6 =
      ap (λ l. length (grown iw nv start free l)) is in
      let s1 = ap (sum_by (size_of nv)) h.list in let s3 = ap (sum_by (size_of nv)) added in let s4 =
      sum_by-append (size_of nv) (grown iw nv start free xs) (y ∷ []) in
      let s5 = adds_part_sum (size_of nv) (in_front nv) (rows iw start (free - start)) (xs ++ y ∷ []) zs in let s6 =
      ap (λ l. sum_by (size_of nv) (grown iw nv start free l)) is in
      let e : sum_by (size_of nv) (y ∷ []) ≡ size_of nv y = sum_by-cons (size_of nv) y [] ∙ add_none (size_of nv y) in
      ((omega (arith, order, grows, l1, l2, l3, l4, l5, l6)), (omega (arith, s1, s3, s4, s5, s6, e, total_is)))

-- what is added to a list is no more than what was gone through
pub grown_short : (iw nv : List ℤ) (start free from n : ℕ) →
    length (grown iw nv start free (classes nv (rows iw from n))) ≤ (free - start) + n
grown_short iw nv start free from n =
    let a = adds_few (in_front nv) (rows iw start (free - start)) (classes nv (rows iw from n)) in
    let b = rows_length iw start (free - start) in let c = filter_few (λ j. nat_lt 0 (size_of nv j)) (rows iw from n) in
    let d = rows_length iw from n in omega (arith, a, b, c, d)

pub gathers_end : {iw nv : List ℤ} {start free : ℕ} {iw' nv' : List ℤ} {end total : ℕ} (from n : ℕ) →
    Gathers iw nv start free (classes nv (rows iw from n)) iw' nv' end total → end ≤ free + n
gathers_end {iw} {nv} {start} {free} {iw'} {nv'} {end} {total} from n h =
    let a = ap length h.list in let b = rows_length iw' start (end - start) in let c = grown_short iw nv start free from n in
    let g = h.grows in let o = h.order in omega (arith, a, b, c, g, o)

-- the word at the place p, the next of count words from a place on
module _ {iw nv : List ℤ} {from count start free total : ℕ} {iw' nv' : List ℤ} {end sum : ℕ} (p : ℕ)
    (can : CanGather iw nv from count start free total)
    (h : Gathers iw nv start free (classes nv (rows iw from (p - from))) iw' nv' end sum) (after : from ≤ p) (there : p < from + count)
  where
    -- it stands as it was
    unchanged : word iw' p ≡ word iw p
    unchanged = elim can.apart [
      | inl b ↦ h.below p (let o = can.order in omega (arith, b, o, there))
      | inr b ↦ h.above p (let a = gathers_end from (p - from) h in omega (arith, a, b, after))
    ]

    word_is : word iw' p ≡ word iw (from + (p - from))
    word_is = unchanged ∙ ap (word iw) (sym (add-sub_of_le after))

    pub word_inside : p < length iw'
    word_inside = let i = can.span.inside in let l = h.long in omega (arith, i, l, there)

    pub word_one : is_place (word iw' p) ≡ true
    word_one = ap is_place word_is ∙ (can.span.names (p - from) (within_count after there)).0

    module _ (row : ℕ) (named : row ≡ place (word iw' p)) where
      abbrev y : ℕ
      y = place (word iw (from + (p - from)))

      row_is : row ≡ y
      row_is = named ∙ ap place word_is

      pub row_inside : row < length nv'
      row_inside = let s = (can.span.names (p - from) (within_count after there)).1 in let w = h.wide in omega (arith, row_is, s, w)

      -- what is no class, or is in the front, changes nothing
      pub row_passed : (nat_lt 0 (size_of nv' row) && not (in_front nv' row)) ≡ false →
          Gathers iw nv start free (classes nv (rows iw from (p + 1 - from))) iw' nv' end sum
      row_passed shut = subst (λ m. Gathers iw nv start free (classes nv (rows iw from m)) iw' nv' end sum) (sym (next_place after))
          (elim (cases_Bool (nat_lt 0 (size_of nv y))) [
            | inr q ↦ subst (λ xs. Gathers iw nv start free xs iw' nv' end sum) (sym (classes_no nv iw from (p - from) q)) h
            | inl q ↦ subst (λ xs. Gathers iw nv start free xs iw' nv' end sum) (sym (classes_yes nv iw from (p - from) q))
                (gathers_old h y (elim (cases_Bool (in_front nv' y)) [
                  | inl b ↦ b
                  | inr b ↦ clash (and_from (nat_lt 0 (size_of nv' y)) (not (in_front nv' y)) (ap (nat_lt 0) (h.sizes y) ∙ q)
                      (not_from_false (in_front nv' y) b))
                      (ap (λ x. nat_lt 0 (size_of nv' x) && not (in_front nv' x)) (sym row_is) ∙ shut)
                ]))
          ])

      -- a class outside the front is appended
      module _ (opened : (nat_lt 0 (size_of nv' row) && not (in_front nv' row)) ≡ true) where
        parts : (nat_lt 0 (size_of nv' row) ≡ true) × (not (in_front nv' row) ≡ true)
        parts = and_parts (nat_lt 0 (size_of nv' row)) (not (in_front nv' row)) opened

        class : nat_lt 0 (size_of nv y) ≡ true
        class = ap (nat_lt 0) (sym (h.sizes y)) ∙ ap (λ j. nat_lt 0 (size_of nv' j)) (sym row_is) ∙ parts.0

        pub row_class : 0 < size_of nv' row
        row_class = ltb-true 0 (size_of nv' row) parts.0

        pub row_fresh : in_front nv' row ≡ false
        row_fresh = not-true (in_front nv' row) parts.1

        room : (end < start + length (grown iw nv start free (classes nv (rows iw from count))))
            × (sum + size_of nv y ≤ sum_by (size_of nv) (grown iw nv start free (classes nv (rows iw from count))))
        room = gathers_room h y (classes nv (rows iw from count))
            (classes nv (rows iw (from + ((p - from) + 1)) (count - ((p - from) + 1))))
            (classes_split nv iw from (p - from) count (within_count after there) class) (ap (in_front nv') (sym row_is) ∙ row_fresh)

        pub end_inside : end < length iw'
        end_inside = let a = room.0 in let f = can.fits in let l = h.long in omega (arith, a, f, l)

        pub sum_fits : (size : ℕ) → size ≡ size_of nv' row → sum + size < 2 ^ 64
        sum_fits size is = let a = room.1 in let f = can.few in let s = h.sizes row in let e = ap (size_of nv) row_is in
            omega (arith, a, f, is, s, e)

        pub row_taken : (nv2 : List ℤ) (size : ℕ) → length nv2 ≡ length nv' → ((j : ℕ) → size_of nv2 j ≡ size_of nv' j) →
            ((j : ℕ) → in_front nv2 j ≡ (in_front nv' j || row == j)) → size ≡ size_of nv' row →
            Gathers iw nv start free (classes nv (rows iw from (p + 1 - from))) (set iw' end (word iw' p)) nv2 (end + 1) (sum + size)
        row_taken nv2 size wide sizes front is =
            subst (λ xs. Gathers iw nv start free xs (set iw' end (word iw' p)) nv2 (end + 1) (sum + size))
            (sym (ap (λ m. classes nv (rows iw from m)) (next_place after) ∙ classes_yes nv iw from (p - from) class))
            (gathers_new h y p nv2 (sum + size) unchanged (ap is_place (sym unchanged) ∙ word_one)
            (ap place (sym unchanged) ∙ sym named ∙ row_is) (can.span.names (p - from) (within_count after there)).1
            (ap (in_front nv') (sym row_is) ∙ row_fresh) (let a = end_inside in let l = h.long in omega (arith, a, l))
            wide sizes (λ j. front j ∙ ap (λ x. in_front nv' j || x == j) row_is)
            (ap (λ m. sum + m) (is ∙ ap (size_of nv') row_is)))
