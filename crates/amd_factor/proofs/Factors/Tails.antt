-- What a column hands on: the entries of a child behind its first one. And parts of a list.
use Rattle.std.proofs.Common.{ℕ, suc, ◌≡◌, ◌<◌, ◌≤◌, ◌+◌, ◌-◌, ◌⊎◌, inl, inr, refl, sym, ◌∙◌, subst, arith, List, [], ◌∷◌}
use Rattle.std.proofs.Common.{◌++◌, ap, length, take, take_all, drop}
use Rattle.std.specs.Prelude.{slice_index, slice_range, Contains, Option, None, Some, ◌↔◌}
use Rattle.std.specs.List.Sorted.{IsStrictlyIncreasing}
use Rattle.std.proofs.lemmas.Bool.{cases_Bool}
use Rattle.std.proofs.lemmas.List.{drop_more, drop_at, take-take, take-append-le, length-append}
use Rattle.std.proofs.lemmas.List.Edits.{length-between}
use Rattle.std.proofs.lemmas.Slice.{between_is}
use Rattle.amd_model.specs.Quotient.{has}
use Rattle.amd_model.specs.Factor.{IsColumn}
use Rattle.amd_model.proofs.Counting.Below.{clash}
use Rattle.amd_model.proofs.Counting.Places.{contains_has, has_contains}
use Rattle.amd_model.proofs.Listings.Words.{has_head, has_tail, has_cases}
use Rattle.amd_factor.specs.Orders.{Order}
use Rattle.amd_factor.specs.Trees.{Entry, IsParent}
use Rattle.amd_factor.specs.Gathering.{Column, Inherits, Marks, MarksTell, StandAt}
use Rattle.amd_factor.proofs.Trees.FactorOnce.{first_least, tail_up}

-- a part of a list by its first element
pub range_first : (xs : List ℕ) (i j : ℕ) → i < j → j ≤ length xs → slice_range xs i j ≡ slice_index xs i ∷ slice_range xs (i + 1) j
range_first xs i j low most =
    let long : j - i ≡ suc (j - (i + 1)) = omega (arith, low) in
    ap (λ n. take n (drop i xs)) long ∙ ap (λ ys. take (suc (j - (i + 1))) ys) (drop_more xs i 0 (omega (arith, low, most)))

-- what was appended
pub range_last : (xs ys zs : List ℕ) (i j : ℕ) → zs ≡ xs ++ ys → i ≡ length xs → j ≡ length zs → slice_range zs i j ≡ ys
range_last xs ys zs i j e a b =
    let n : length ys ≤ j - i = (let s = ap length e in let t = length-append xs ys in omega (arith, s, t, a, b)) in
    ap (λ m. take (j - i) (drop i m)) e ∙ ap (take (j - i)) (drop_at xs ys i (sym a)) ∙ take_all (j - i) ys n

-- and what stood before it
pub range_before : (xs ys zs : List ℕ) (i : ℕ) → zs ≡ xs ++ ys → i ≡ length xs → take i zs ≡ take i xs
range_before xs ys zs i e a = ap (take i) e ∙ take-append-le i xs ys (omega (arith, a))

-- a part of the first elements
pub range_take : (xs : List ℕ) (m i j : ℕ) → j ≤ m → slice_range (take m xs) i j ≡ slice_range xs i j
range_take xs m i j l = between_is (take m xs) i j ∙ ap (drop i) (take-take j m xs l) ∙ sym (between_is xs i j)

-- a part of lists that begin alike
pub range_same : (xs ys : List ℕ) (m i j : ℕ) → j ≤ m → take m xs ≡ take m ys → slice_range xs i j ≡ slice_range ys i j
range_same xs ys m i j l e = sym (range_take xs m i j l) ∙ ap (λ zs. slice_range zs i j) e ∙ range_take ys m i j l

-- the first entry of a column is its parent, and the others stand behind it
module _ (o : Order) (child q x : ℕ) (xs : List ℕ) (column : IsColumn o.graph o.rows child (x ∷ xs)) (p : IsParent o.graph o.rows child q)
  where
    pub first_is : x ≡ q
    first_is =
        let low = p.first x ((column.members x).0 (has_contains (x ∷ xs) x (has_head x x xs refl))) in
        elim (has_cases q x xs (contains_has (x ∷ xs) q ((column.members q).1 p.entry))) [
          | inl e ↦ sym e
          | inr h ↦ (let l = first_least x xs column.rising q h in omega (arith, l, low))
        ]

    pub tail_members : (j : ℕ) → Contains xs j ↔ ((q < j) × Entry o.graph o.rows child j)
    tail_members j = (
      (λ h. (let t = contains_has xs j h in let l = first_least x xs column.rising j t in let f = first_is in (
        omega (arith, l, f),
        (column.members j).0 (has_contains (x ∷ xs) j (has_tail j x xs t)),
      ))),
      (λ h. elim (has_cases j x xs (contains_has (x ∷ xs) j ((column.members j).1 h.1))) [
        | inl e ↦ absurd (let f = first_is in let l = h.0 in omega (arith, e, f, l))
        | inr t ↦ has_contains xs j t
      ]),
    )

module _ (o : Order) (k : ℕ) (starts ends rows : List ℕ) (h : StandAt o k starts ends rows) (child q : ℕ) (low : child < k)
    (p : IsParent o.graph o.rows child q) where
  column : List ℕ
  column = slice_range rows (slice_index starts child) (slice_index ends child)

  is : IsColumn o.graph o.rows child column
  unfolding column
  is = h.each child low

  pub tail_ends : slice_index ends child ≤ length rows
  tail_ends = h.within child low

  -- a child has an entry
  pub tail_begins : slice_index starts child + 1 ≤ slice_index ends child
  unfolding column
  tail_begins = let c = (is.members q).1 p.entry in let l = c.1 in
      let s = length-between rows (slice_index starts child) (slice_index ends child) tail_ends in omega (arith, l, s)

  split : column ≡ slice_index rows (slice_index starts child) ∷ slice_range rows (slice_index starts child + 1) (slice_index ends child)
  unfolding column
  split = let b = tail_begins in range_first rows (slice_index starts child) (slice_index ends child) (omega (arith, b)) tail_ends

  split_is : IsColumn o.graph o.rows child
      (slice_index rows (slice_index starts child) ∷ slice_range rows (slice_index starts child + 1) (slice_index ends child))
  split_is = subst (IsColumn o.graph o.rows child) split is

  pub tail_rises : IsStrictlyIncreasing (slice_range rows (slice_index starts child + 1) (slice_index ends child))
  tail_rises = tail_up (slice_index rows (slice_index starts child)) _ split_is.rising

  pub tail_has : (j : ℕ) → Contains (slice_range rows (slice_index starts child + 1) (slice_index ends child)) j ↔
      ((q < j) × Entry o.graph o.rows child j)
  tail_has j = tail_members o child q (slice_index rows (slice_index starts child)) _ split_is p j

-- what a column takes over lies behind its place
pub inherited_behind : (c : Column) (base : Option ℕ) → Inherits c base → (j : ℕ) → Contains c.inherited j →
    (c.place < j) × (j < length c.order.rows)
inherited_behind c None h j x = absurd (let l = x.1 in omega (arith, h, l))
inherited_behind c (Some child) h j x = let r = (h.1 j).0 x in (r.0, r.1.1)

-- new marks
pub marks_begin : (c : Column) (base : Option ℕ) (column : Option ℕ) (stamp : ℕ) (old mark : List ℕ) → Inherits c base →
    MarksTell c.order c.place column stamp old → length mark ≡ length old →
    ((j : ℕ) → Contains c.inherited j → slice_index mark j ≡ c.place + 1) →
    ((j : ℕ) → (Contains c.inherited j → ⊥) → slice_index mark j ≡ slice_index old j) → Marks c (c.place + 1) [] mark
marks_begin c base column stamp old mark inherits before size marked others =
    let cases : (P : Type 0) (j : ℕ) → (Contains c.inherited j → P) → ((Contains c.inherited j → ⊥) → P) → P =
    (λ P j there never. elim (cases_Bool (has c.inherited j)) [
      | inl e ↦ there (has_contains c.inherited j e)
      | inr e ↦ never (λ h. clash (contains_has c.inherited j h) e)
    ]) in
    record {
      room = size ∙ before.room;
      recent = omega arith;
      low = λ j l. cases (slice_index mark j ≤ c.place + 1) j
          (λ h. (let m = marked j h in omega (arith, m)))
          (λ h. (let m = others j h in let b = before.low j l in omega (arith, m, b)));
      marked = λ j k l. (
        (λ e. cases (Contains c.inherited j ⊎ Contains [] j) j (λ h. inl h)
            (λ h. absurd (let m = others j h in let b = before.low j l in omega (arith, m, b, e)))),
        (λ h. elim h [ inl x ↦ marked j x | inr x ↦ absurd (let l = x.1 in omega (arith, l)) ]),
      );
      entries = λ j h. absurd (let l = h.1 in omega (arith, l));
      apart = λ j h x. absurd (let l = h.1 in omega (arith, l));
      once = λ j. omega arith;
      few = omega arith;
    }
