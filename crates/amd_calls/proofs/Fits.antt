-- The numbers that the columns of a factor have are numbers of a type that has the number of its rows, and -1.
use Rattle.std.proofs.Common.{ℕ, zero, suc, ℤ, pos, negsuc, true, ◌≡◌, ◌<◌, ◌≤◌, ◌+◌, ◌-◌, List, [], ◌∷◌, length, map}
use Rattle.std.proofs.Common.{refl, sym, ◌∙◌, ap, subst, arith}
use Rattle.std.specs.Prelude.{◌≤ℤ◌, slice_index, slice_index_or, Option, None}
use Rattle.std.specs.List.Sorted.{IsStrictlyIncreasing}
use Rattle.std.proofs.lemmas.Int.{ints}
use Rattle.std.proofs.lemmas.List.{length-map}
use Rattle.amd_model.specs.Factor.{IsColumn, IsFactor, needed}
use Rattle.amd_model.specs.Figures.{entries}
use Rattle.amd_model.specs.Graph.{Graph}
use Rattle.amd_model.specs.Quotient.{has}
use Rattle.amd_model.proofs.Counting.Places.{has_contains}
use Rattle.amd_model.proofs.Listings.Words.{has_head, has_tail}
use Rattle.amd_factor.specs.Columns.{HoldColumns, first_of}
use Rattle.amd_factor.proofs.Partitions.Cutting.{at-map}
use Rattle.amd_factor.proofs.Trees.FactorOnce.{first_least, tail_up}
use Rattle.amd_factor.proofs.Factors.Vectors.{needed_is, pointer_is}
use Rattle.amd_calls.specs.Columns.{parent_number}

-- a rising list of numbers from low on, below high, is no longer than these are
short : (xs : List ℕ) (low high : ℕ) → IsStrictlyIncreasing xs → ((j : ℕ) → has xs j ≡ true → (low ≤ j) × (j < high)) → low ≤ high →
    low + length xs ≤ high
short [] low high up all fits = omega (arith, fits)
short (x ∷ xs) low high up all fits =
    let here = all x (has_head x x xs refl) in
    let above : (j : ℕ) → has xs j ≡ true → (x + 1 ≤ j) × (j < high) = λ j h. (
      (let l = first_least x xs up j h in omega (arith, l)),
      (all j (has_tail j x xs h)).1,
    ) in
    let rest = short xs (x + 1) high (tail_up x xs up) above (omega (arith, here)) in
    omega (arith, here, rest)

-- a column has no more entries than there are rows, and its first one names a row
column-short : (g : Graph) (p : List ℕ) (k : ℕ) (column : List ℕ) → IsColumn g p k column → length column ≤ length p
column-short g p k column c =
    let most = short column 0 (length p) c.rising (λ j h. (omega arith, ((c.members j).0 (has_contains column j h)).1)) (omega arith) in
    omega (arith, most)

module _ (fits : ℤ → Type 0) (between : (x y z : ℤ) → fits x → fits z → x ≤ℤ y → y ≤ℤ z → fits y) (nought : fits (pos 0))
    (g : Graph) (p : List ℕ) (n : ℤ) (top : fits n) (rows : n ≡ pos (length p)) (columns : List (List ℕ))
    (factor : IsFactor g p columns) where
  -- a count up to the number of rows
  count-fits : (m : ℕ) → m ≤ length p → fits (pos m)
  count-fits m l = between (pos 0) (pos m) n nought top (omega (arith, ints)) (omega (arith, ints, l, rows))

  inside : (k : ℕ) → k < length columns → k < length p
  inside k l = let e = factor.places in omega (arith, l, e)

  pub sizes-fit : (sizes : List ℕ) → sizes ≡ map length columns → (k : ℕ) → k < length sizes → fits (pos (slice_index sizes k))
  sizes-fit sizes are k l =
      let here : k < length columns = let e = ap length are ∙ length-map columns length in omega (arith, l, e) in
      let is = ap (λ xs. slice_index xs k) are ∙ at-map length columns k [] 0 refl in
      let few = column-short g p k (slice_index_or columns k []) (factor.each k [] (inside k here)) in
      count-fits (slice_index sizes k) (omega (arith, is, few))

  first-fits : (k : ℕ) (column : List ℕ) → IsColumn g p k column → fits (negsuc 0) → fits (parent_number (first_of column))
  first-fits k [] c none = none
  first-fits k (x ∷ xs) c none =
      let low = ((c.members x).0 (has_contains (x ∷ xs) x (has_head x x xs refl))).1 in count-fits x (omega (arith, low))

  pub parents-fit : fits (negsuc 0) → (parent : List (Option ℕ)) → parent ≡ map first_of columns → (k : ℕ) → k < length parent →
      fits (parent_number (slice_index_or parent k None))
  parents-fit none parent are k l =
      let here : k < length columns = let e = ap length are ∙ length-map columns first_of in omega (arith, l, e) in
      let is = ap (λ xs. slice_index_or xs k None) are ∙ at-map first_of columns k [] None refl in
      subst (λ v. fits (parent_number v)) (sym is)
      (first-fits k (slice_index_or columns k []) (factor.each k [] (inside k here)) none)

module _ (columns : List (List ℕ)) (ptr rows : List ℕ) (parent : List (Option ℕ)) (h : HoldColumns columns ptr rows parent) where
  -- the pointers ascend
  up-to : (m k : ℕ) → k + m ≤ length columns → slice_index ptr k ≤ slice_index ptr (k + m)
  up-to zero k l = let e : k + 0 ≡ k = omega arith in rw e (omega arith)
  up-to (suc m) k l =
      let r = up-to m k (omega (arith, l)) in
      let e = h.ends (k + m) [] (omega (arith, l)) in
      let next : k + suc m ≡ k + m + 1 = omega arith in
      rw next (omega (arith, r, e))

  pointer-most : (k : ℕ) → k < length ptr → slice_index ptr k ≤ length rows
  pointer-most k l =
      let p = h.pointers in
      let r = up-to (length columns - k) k (omega (arith, l, p)) in
      let e : k + (length columns - k) ≡ length columns = omega (arith, l, p) in
      let t = h.total in
      omega (arith, rw e at r, t)

  -- a type that has the number of the entries has each pointer
  pub pointers-fit : (fits : ℤ → Type 0) → ((x y z : ℤ) → fits x → fits z → x ≤ℤ y → y ≤ℤ z → fits y) → fits (pos 0) → (most : ℕ) →
      fits (pos most) → length rows ≤ most → (k : ℕ) → k < length ptr → fits (pos (slice_index ptr k))
  pointers-fit fits between nought most top few k l =
      let low = pointer-most k l in
      between (pos 0) (pos (slice_index ptr k)) (pos most) nought top (omega (arith, ints)) (omega (arith, ints, low, few))

  -- there are as many entries as the columns need
  pub needed-are : needed entries columns ≡ length rows
  unfolding entries
  needed-are =
      needed_is columns ptr rows parent h entries ∙ sym (pointer_is columns ptr rows parent h (length columns) (omega arith)) ∙ h.total
