-- What vectors that hold columns tell: the columns fix them, and sums over the columns are sums over the pointers.
use Rattle.std.proofs.Common.{ℕ, zero, suc, ◌≡◌, ◌<◌, ◌≤◌, ◌+◌, ◌-◌, refl, sym, ◌∙◌, ap, arith, List, [], ◌∷◌, ◌++◌, length}
use Rattle.std.proofs.Common.{take, drop}
use Rattle.std.specs.Prelude.{slice_index, slice_index_or, slice_range, Option, None}
use Rattle.std.proofs.Math.Nat.{le-max_left, le-max_right}
use Rattle.std.proofs.Math.Seq.{take-length}
use Rattle.std.proofs.lemmas.List.{ext_get_or, get_or-map, take-append-drop, take-take, drop-take}
use Rattle.std.proofs.lemmas.List.Edits.{get_or-between}
use Rattle.amd_model.specs.Below.{sum_below}
use Rattle.amd_model.specs.Factor.{needed, needed_front}
use Rattle.amd_model.proofs.Counting.Below.{sum_same}
use Rattle.amd_count_laws.specs.Parts.{part_size}
use Rattle.amd_factor.specs.Columns.{first_of, HoldColumns}
use Rattle.amd_factor.proofs.Factors.PlaceSums.{sum_places}

-- the places before b are those before a, and the stretch between
next_stretch : (xs : List ℕ) (a b : ℕ) → a ≤ b → take b xs ≡ take a xs ++ slice_range xs a b
next_stretch xs a b h =
    let wide : a + (b - a) ≡ b = omega (arith, h) in
    sym (take-append-drop a (take b xs)) ∙ ap (λ ys. ys ++ drop a (take b xs)) (take-take a b xs h)
    ∙ ap (λ ys. take a xs ++ ys) (ap (λ m. drop a (take m xs)) (sym wide) ∙ drop-take a (b - a) xs)

-- a column with its diagonal has no more entries than the longest
pub front_most : (columns : List (List ℕ)) (k : ℕ) (d : List ℕ) → k < length columns →
    length (slice_index_or columns k d) + 1 ≤ needed_front columns
unfolding needed_front
front_most [] k d l = absurd (omega arith)
front_most (c ∷ cs) zero d l = let m = le-max_left (length c + 1) (needed_front cs) in omega (arith, m)
front_most (c ∷ cs) (suc k) d l = let r = front_most cs k d (omega (arith, l)) in let m = le-max_right (length c + 1) (needed_front cs) in
    omega (arith, r, m)

module _ (columns : List (List ℕ)) (ptr rows : List ℕ) (parent : List (Option ℕ)) (h : HoldColumns columns ptr rows parent) where
  -- the number of entries of a column
  pub size_is : (k : ℕ) (d : List ℕ) → k < length columns → part_size ptr k ≡ length (slice_index_or columns k d)
  size_is k d l = let e = h.ends k d l in omega (arith, e)

  -- what all columns need, by the pointers
  pub needed_is : (share : ℕ → ℕ) → needed share columns ≡ sum_below (length columns) (λ k. share (part_size ptr k))
  needed_is share = sum_places (λ c. share (length c)) columns []
      ∙ sum_same (length columns) (λ k. share (length (slice_index_or columns k []))) (λ k. share (part_size ptr k))
      (λ k l. ap share (sym (size_is k [] l)))

  -- the pointers are sums
  pub pointer_is : (k : ℕ) → k ≤ length columns → slice_index ptr k ≡ sum_below k (λ m. part_size ptr m)
  unfolding sum_below
  pointer_is zero l = h.first
  pointer_is (suc k) l =
      let r = pointer_is k (omega (arith, l)) in let e = h.ends k [] (omega (arith, l)) in let next : suc k ≡ k + 1 = omega arith in
      rw next (omega (arith, r, e))

  -- the parent of a column is its first entry
  pub parent_at : (k : ℕ) → k < length columns → slice_index_or parent k None ≡ first_of (slice_index_or columns k [])
  parent_at k l = ap (λ xs. slice_index_or xs k None) h.parents ∙ get_or-map first_of columns k [] None l

  -- the first entry of a column stands where the column begins
  pub first_at : (k x : ℕ) (xs : List ℕ) → k < length columns → slice_index_or columns k [] ≡ x ∷ xs →
      (slice_index ptr k < slice_index ptr (k + 1)) × (slice_index rows (slice_index ptr k) ≡ x)
  first_at k x xs l is =
      let e = h.ends k [] l in
      let long : length (slice_index_or columns k []) ≡ suc (length xs) = ap length is in
      let there : slice_index ptr k + 0 < slice_index ptr (k + 1) = omega (arith, e, long) in
      let none : slice_index ptr k + 0 ≡ slice_index ptr k = omega arith in (
        omega (arith, e, long),
        ap (slice_index rows) (sym none) ∙
            sym (get_or-between rows (slice_index ptr k) (slice_index ptr (k + 1)) 0 0 there) ∙
            ap (λ ys. slice_index ys 0) (h.each k [] l ∙ is),
      )

  module _ (ptr' rows' : List ℕ) (parent' : List (Option ℕ)) (h' : HoldColumns columns ptr' rows' parent') where
    pointers_at : (k : ℕ) → k ≤ length columns → slice_index ptr k ≡ slice_index ptr' k
    pointers_at zero l = h.first ∙ sym h'.first
    pointers_at (suc k) l =
        let r = pointers_at k (omega (arith, l)) in
        let e = h.ends k [] (omega (arith, l)) in let e' = h'.ends k [] (omega (arith, l)) in let next : suc k ≡ k + 1 = omega arith in
        rw next (omega (arith, r, e, e'))

    entries_to : (k : ℕ) → k ≤ length columns → take (slice_index ptr k) rows ≡ take (slice_index ptr' k) rows'
    entries_to zero l = rw (h.first, h'.first) refl
    entries_to (suc k) l =
        let low : k < length columns = omega (arith, l) in
        let e = h.ends k [] low in let e' = h'.ends k [] low in let next : suc k ≡ k + 1 = omega arith in
        ap (λ m. take (slice_index ptr m) rows) next
        ∙ next_stretch rows (slice_index ptr k) (slice_index ptr (k + 1)) (omega (arith, e))
        ∙ ap (λ ys. take (slice_index ptr k) rows ++ ys) (h.each k [] low ∙ sym (h'.each k [] low))
        ∙ ap (λ ys. ys ++ slice_range rows' (slice_index ptr' k) (slice_index ptr' (k + 1))) (entries_to k (omega (arith, l)))
        ∙ sym (next_stretch rows' (slice_index ptr' k) (slice_index ptr' (k + 1)) (omega (arith, e')))
        ∙ ap (λ m. take (slice_index ptr' m) rows') (sym next)

    -- the columns fix the vectors
    pub vectors_once : (ptr ≡ ptr') × (rows ≡ rows') × (parent ≡ parent')
    vectors_once =
        let size = h.pointers in let size' = h'.pointers in (
          ext_get_or 0 ptr ptr' (size ∙ sym size') (λ k l. pointers_at k (omega (arith, l, size))),
          sym (take-length rows) ∙ ap (λ m. take m rows) (sym h.total) ∙ entries_to (length columns) (omega arith) ∙
              ap (λ m. take m rows') h'.total ∙ take-length rows',
          h.parents ∙ sym h'.parents,
        )
