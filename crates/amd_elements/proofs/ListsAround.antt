-- The lists around a pivot, one after another: where they stand, and what they name together.
use Rattle.amd_lists.specs.Layout.{list_in}
use Rattle.std.proofs.Common.{ℕ, ℤ, true, List, [], ◌∷◌, ◌++◌, ◌≡◌, ◌<◌, ◌≤◌, ◌+◌, ◌-◌, refl, sym, ap, subst, ◌∙◌, arith, length, flat_map}
use Rattle.std.proofs.Common.{append_assoc, append-nil}
use Rattle.std.specs.Prelude.{nat_lt}
use Rattle.std.proofs.lemmas.List.Elements.{filter-append}
use Rattle.std.proofs.lemmas.List.Concat.{flat_map-append}
use Rattle.amd_words.specs.Words.{num, is_place, place, word, start, size_of, classes, rows, Names}
use Rattle.amd_elements.specs.Element.{elements_at, variables_at, IsListLaid, ListsLaid}
use Rattle.amd_elements.specs.Room.{named_around}
use Rattle.amd_elements.specs.Visiting.{Visit, Visited, visited, CanTake, Takes}
use Rattle.amd_elements.specs.Premises.{HasListsAround}
use Rattle.amd_words.proofs.RowLists.{rows_more, rows_same, rows_both, rows_has, rows_at, names_at}
use Rattle.amd_words.proofs.WordCounts.{within_count, next_place}

-- the lists of the rows that words name
pub flat_next : (f : ℕ → List ℕ) (iw : List ℤ) (from k : ℕ) →
    flat_map f (rows iw from (k + 1)) ≡ flat_map f (rows iw from k) ++ f (place (word iw (from + k)))
flat_next f iw from k = ap (flat_map f) (rows_more iw from k)
    ∙ flat_map-append f (rows iw from k) (place (word iw (from + k)) ∷ [])
    ∙ ap (λ l. flat_map f (rows iw from k) ++ l) (append-nil (f (place (word iw (from + k)))))

-- the classes of several lists are those of each
pub classes_append : (nv : List ℤ) (xs ys : List ℕ) → classes nv (xs ++ ys) ≡ classes nv xs ++ classes nv ys
classes_append nv xs ys = filter-append (λ j. nat_lt 0 (size_of nv j)) xs ys

classes_flat : (nv : List ℤ) (f : ℕ → List ℕ) (xs : List ℕ) → classes nv (flat_map f xs) ≡ flat_map (λ e. classes nv (f e)) xs
classes_flat nv f [] = refl
classes_flat nv f (x ∷ xs) = classes_append nv (f x) (flat_map f xs) ∙ ap (λ l. classes nv (f x) ++ l) (classes_flat nv f xs)

pub classes_around : (iw nv pe : List ℤ) (len : List ℕ) (pivot m : ℕ) → classes nv (named_around iw pe len pivot m)
    ≡ flat_map (λ e. classes nv (list_in iw pe len e)) (elements_at iw pe pivot m) ++ classes nv (variables_at iw pe len pivot m)
classes_around iw nv pe len pivot m =
    classes_append nv (flat_map (list_in iw pe len) (elements_at iw pe pivot m)) (variables_at iw pe len pivot m)
    ∙ ap (λ l. l ++ classes nv (variables_at iw pe len pivot m)) (classes_flat nv (list_in iw pe len) (elements_at iw pe pivot m))

module _ (iw pe : List ℤ) (len : List ℕ) (n end pivot m : ℕ) (within : m ≤ num len pivot) (laid : ListsLaid iw pe len n end pivot m) where
  -- the words of the pivot
  pub own_word : (k : ℕ) → k < m → (is_place (word iw (start pe pivot + k)) ≡ true) × (place (word iw (start pe pivot + k)) < n)
      × (start pe pivot + k < end)
  own_word k l = let a = laid.0.2 k (omega (arith, l, within)) in (a.0, a.1, (let b = laid.0.1 in omega (arith, b, l, within)))

  pub own_element : (k : ℕ) → k < m → IsListLaid iw pe len n end (place (word iw (start pe pivot + k)))
  own_element k l = laid.1 (place (word iw (start pe pivot + k))) (rows_has iw (start pe pivot) m k l)

  pub own_variables : (start pe pivot + m + (num len pivot - m) ≤ end) × Names n iw (start pe pivot + m) (num len pivot - m)
  own_variables = (
    (let b = laid.0.1 in omega (arith, b, within)),
    λ k l. let at : start pe pivot + (m + k) ≡ (start pe pivot + m) + k = omega arith in
        subst (λ p. (is_place (word iw p) ≡ true) × (place (word iw p) < n)) at (laid.0.2 (m + k) (omega (arith, l, within))),
  )

-- the lists stand for any sizes of as many rows
pub around_wide : {me m : ℕ} {iw nv pe : List ℤ} {len : List ℕ} {end : ℕ} (nv' : List ℤ) → length nv' ≡ length nv →
    HasListsAround me m iw nv pe len end → HasListsAround me m iw nv' pe len end
around_wide {me} {m} {iw} {nv} {pe} {len} {end} nv' wide h = record {
  lengths = (h.lengths.0 ∙ sym wide, h.lengths.1 ∙ sym wide);
  elements = h.elements;
  laid = subst (λ n. ListsLaid iw pe len n end me m) (sym wide) h.laid;
}

-- ---- the lists, read where the words before their end are as they were

module _ {pivot m : ℕ} {iw nv pe : List ℤ} {len : List ℕ} {end : ℕ} (lists : HasListsAround pivot m iw nv pe len end) (iw' : List ℤ)
    (same : (k : ℕ) → k < end → word iw' k ≡ word iw k) {from : ℕ} (from_is : from ≡ start pe pivot) where
  still : (s count : ℕ) → s + count ≤ end → rows iw' s count ≡ rows iw s count
  still s count l = rows_same iw iw' s s count (λ k q. same (s + k) (omega (arith, l, q)))

  still_names : (s count : ℕ) → s + count ≤ end → Names (length nv) iw s count → Names (length nv) iw' s count
  still_names s count l names k q = let w = same (s + k) (omega (arith, l, q)) in let a = names k q in
      (ap is_place w ∙ a.0, (let e = ap place w in let b = a.1 in omega (arith, e, b)))

  -- the element that the word at a place of the pivot's list names
  module _ {p : ℕ} (after : from ≤ p) (there : p < from + m) where
    own : (is_place (word iw (start pe pivot + (p - from))) ≡ true) × (place (word iw (start pe pivot + (p - from))) < length nv)
        × (start pe pivot + (p - from) < end)
    own = own_word iw pe len (length nv) end pivot m lists.elements lists.laid (p - from) (within_count after there)

    word_is : word iw' p ≡ word iw (start pe pivot + (p - from))
    word_is = let at : p ≡ start pe pivot + (p - from) = omega (arith, from_is, after) in
        same p (let b = own.2 in omega (arith, b, at)) ∙ ap (word iw) at

    pub element_inside : p < end
    element_inside = let b = own.2 in omega (arith, b, from_is, after)

    pub element_one : is_place (word iw' p) ≡ true
    element_one = ap is_place word_is ∙ own.0

    module _ {e : ℕ} (e_is : e ≡ place (word iw' p)) where
      row_is : e ≡ place (word iw (start pe pivot + (p - from)))
      row_is = e_is ∙ ap place word_is

      pub element_small : e < length nv
      element_small = let b = own.1 in omega (arith, b, row_is)

      pub element_laid : IsListLaid iw pe len (length nv) end e
      element_laid = subst (IsListLaid iw pe len (length nv) end) (sym row_is)
          (own_element iw pe len (length nv) end pivot m lists.elements lists.laid (p - from) (within_count after there))

      module _ {first count : ℕ} (first_is : first ≡ start pe e) (count_is : count ≡ num len e) where
        pub list_before : first + count ≤ end
        list_before = let a = element_laid.1 in omega (arith, a, first_is, count_is)

        pub list_names : Names (length nv) iw' first count
        list_names = still_names first count list_before (names_at iw refl (sym first_is) (sym count_is) element_laid.2)

        list_next : flat_map (list_in iw pe len) (rows iw (start pe pivot) (p - from)) ++ rows iw' first count
            ≡ flat_map (list_in iw pe len) (rows iw (start pe pivot) (p + 1 - from))
        list_next = ap (λ l. flat_map (list_in iw pe len) (rows iw (start pe pivot) (p - from)) ++ l)
            (still first count list_before ∙ rows_at iw first_is count_is ∙ ap (list_in iw pe len) row_is)
            ∙ sym (flat_next (list_in iw pe len) iw (start pe pivot) (p - from))
            ∙ ap (λ k. flat_map (list_in iw pe len) (rows iw (start pe pivot) k)) (sym (next_place after))

        abbrev pub list_rest : List ℕ
        list_rest = flat_map (list_in iw pe len) (rows iw (start pe pivot + (p + 1 - from)) (m - (p + 1 - from)))
            ++ variables_at iw pe len pivot m

        list_split : named_around iw pe len pivot m
            ≡ (flat_map (list_in iw pe len) (rows iw (start pe pivot) (p - from)) ++ rows iw' first count) ++ list_rest
        list_split = let k : ℕ = p + 1 - from in let f : (ℕ → List ℕ) = list_in iw pe len in
            let e : m ≡ k + (m - k) = omega (arith, after, there) in
            ap (λ c. flat_map f (rows iw (start pe pivot) c) ++ variables_at iw pe len pivot m) e
            ∙ ap (λ xs. flat_map f xs ++ variables_at iw pe len pivot m) (rows_both iw (start pe pivot) k (m - k))
            ∙ ap (λ xs. xs ++ variables_at iw pe len pivot m)
            (flat_map-append f (rows iw (start pe pivot) k) (rows iw (start pe pivot + k) (m - k)))
            ∙ append_assoc (flat_map f (rows iw (start pe pivot) k)) (flat_map f (rows iw (start pe pivot + k) (m - k)))
            (variables_at iw pe len pivot m)
            ∙ ap (λ xs. xs ++ list_rest) (sym list_next)

        -- a visit comes to that list, and goes on behind it
        module _ {V : Type 0} (holds : Visit V) (initial : Visited V) {nv' : List ℤ} {visitor : V} (held : holds end
            (named_around iw pe len pivot m) (flat_map (list_in iw pe len) (rows iw (start pe pivot) (p - from))) initial
            (visited iw' nv' visitor)) where
          pub list_visit : CanTake holds end (rows iw' first count) (visited iw' nv' visitor)
          list_visit = record {
            all = named_around iw pe len pivot m;
            taken = flat_map (list_in iw pe len) (rows iw (start pe pivot) (p - from));
            rest = list_rest;
            first = initial;
            split = list_split;
            held = held;
          }

          pub list_visited : {after : Visited V} → Takes holds end (rows iw' first count) (visited iw' nv' visitor) after →
              holds end (named_around iw pe len pivot m) (flat_map (list_in iw pe len) (rows iw (start pe pivot) (p + 1 - from)))
              initial after
          unfolding list_visit
          list_visited {after} takes = subst (λ xs. holds end (named_around iw pe len pivot m) xs initial after) list_next
              (takes list_visit)

  -- the rest of the pivot's words
  module _ {count : ℕ} (count_is : count ≡ num len pivot) where
    own_rest : (start pe pivot + m + (num len pivot - m) ≤ end) × Names (length nv) iw (start pe pivot + m) (num len pivot - m)
    own_rest = own_variables iw pe len (length nv) end pivot m lists.elements lists.laid

    pub rest_before : from + m + (count - m) ≤ end
    rest_before = let a = own_rest.0 in omega (arith, a, from_is, count_is)

    pub rest_names : Names (length nv) iw' (from + m) (count - m)
    rest_names = still_names (from + m) (count - m) rest_before
        (names_at iw refl (sym (ap (λ s. s + m) from_is)) (sym (ap (λ c. c - m) count_is)) own_rest.1)

    rest_next : flat_map (list_in iw pe len) (elements_at iw pe pivot m) ++ rows iw' (from + m) (count - m)
        ≡ named_around iw pe len pivot m
    rest_next = ap (λ l. flat_map (list_in iw pe len) (elements_at iw pe pivot m) ++ l) (still (from + m) (count - m) rest_before
        ∙ rows_at iw (ap (λ s. s + m) from_is) (ap (λ c. c - m) count_is))

    rest_split : named_around iw pe len pivot m
        ≡ (flat_map (list_in iw pe len) (elements_at iw pe pivot m) ++ rows iw' (from + m) (count - m)) ++ []
    rest_split = sym rest_next ∙ sym (append-nil (flat_map (list_in iw pe len) (elements_at iw pe pivot m)
        ++ rows iw' (from + m) (count - m)))

    -- a visit comes to them, and ends behind them
    module _ {V : Type 0} (holds : Visit V) (initial : Visited V) {nv' : List ℤ} {visitor : V} (held : holds end
        (named_around iw pe len pivot m) (flat_map (list_in iw pe len) (elements_at iw pe pivot m)) initial
        (visited iw' nv' visitor)) where
      pub rest_visit : CanTake holds end (rows iw' (from + m) (count - m)) (visited iw' nv' visitor)
      rest_visit = record {
        all = named_around iw pe len pivot m;
        taken = flat_map (list_in iw pe len) (elements_at iw pe pivot m);
        rest = [];
        first = initial;
        split = rest_split;
        held = held;
      }

      pub rest_visited : {after : Visited V} → Takes holds end (rows iw' (from + m) (count - m)) (visited iw' nv' visitor) after →
          holds end (named_around iw pe len pivot m) (named_around iw pe len pivot m) initial after
      unfolding rest_visit
      rest_visited {after} takes = subst (λ xs. holds end (named_around iw pe len pivot m) xs initial after) rest_next
          (takes rest_visit)
