-- The fill that supernodes tell is that of the factor.
use Rattle.std.proofs.Common.{ℕ, zero, suc, ◌≡◌, ◌<◌, ◌≤◌, ◌+◌, ◌-◌, arith, List, [], length, sym, subst, ◌∙◌, ap, ⊎_elim, inl, inr}
use Rattle.std.specs.Prelude.{◌⊎◌, Contains, Option, map, pos, slice_index, slice_index_or, slice_range, max, min}
use Rattle.std.specs.List.{range_with_len}
use Rattle.std.proofs.lemmas.Bool.{cases_lt}
use Rattle.std.proofs.lemmas.List.Elements.{Contains-append_cases, Contains-append_left, Contains-append_right}
use Rattle.std.proofs.lemmas.List.FromFn.{length-range_with_len, get_or-range_with_len}
use Rattle.amd_model.specs.Factor.{IsFactor}
use Rattle.amd_factor.specs.Neighbours.{HasLater}
use Rattle.amd_factor.specs.Orders.{Order}
use Rattle.amd_factor.specs.Places.{ArePlaces}
use Rattle.amd_factor.specs.Supernodes.{AreRuns, HoldRowsBelow, IsSupernodesOf, Joined, rows_below}
use Rattle.amd_factor.proofs.Factors.PlaceNumbers.{counts_of}
use Rattle.amd_factor.proofs.Partitions.SupernodeFigures.{ends-in, ptr-most}
use Rattle.amd_types.specs.Naturals.{naturals}
use Rattle.amd_report.specs.declared.grids.Grid.{Grid}
use Rattle.amd_report.specs.Fills.{AreCuts, IsFillOf, ShowsFill}
use Rattle.amd_report.specs.Grids.{IsSquareFor}
use Rattle.amd_report.specs.Patterns.{column_rows}
use Rattle.amd_command.specs.DrawnFills.{DrawsFill, IsFactorFill, matrix_order}

-- the numbers from a on, m of them
range-has : (a m j : ℕ) → a ≤ j → j < a + m → Contains (range_with_len a m) j
range-has a m j low high =
    let long = length-range_with_len a m in
    let at : a + (j - a) ≡ j = omega (arith, low) in
    (j - a, omega (arith, long, low, high), get_or-range_with_len a m (j - a) j (omega (arith, low, high)) ∙ at)

range-only : (a m j : ℕ) → Contains (range_with_len a m) j → (a ≤ j) × (j < a + m)
range-only a m j has =
    let long = length-range_with_len a m in
    let inside : has.0 < m = (let l = has.1 in omega (arith, l, long)) in
    let at : a + has.0 ≡ j = sym (get_or-range_with_len a m has.0 j inside) ∙ has.2 in
    (omega (arith, at), omega (arith, at, inside))

-- rows between two pointers that rise within the list
between-same : (ap_ ai : List ℕ) (k : ℕ) → slice_index ap_ k ≤ slice_index ap_ (k + 1) → slice_index ap_ (k + 1) ≤ length ai
    → column_rows ap_ ai k ≡ slice_range ai (slice_index ap_ k) (slice_index ap_ (k + 1))
between-same ap_ ai k up most =
    let b : min (slice_index ap_ k) (length ai) ≡ slice_index ap_ k = omega (arith, up, most) in
    let e : max (min (slice_index ap_ (k + 1)) (length ai)) (slice_index ap_ k) ≡ slice_index ap_ (k + 1) = omega (arith, up, most) in
    ap (λ z. slice_range ai z (max (min (slice_index ap_ (k + 1)) (length ai)) z)) b ∙ ap (λ z. slice_range ai (slice_index ap_ k) z) e

module _ (o : Order) (n : ℕ) (columns : List (List ℕ)) (first ptr rows starts later : List ℕ) (parent : List (Option ℕ))
    (factor : IsFactor o.graph o.rows columns) (long : length o.rows ≡ n) (runs : AreRuns (Joined columns) (length columns) first)
    (h : HoldRowsBelow columns first ptr rows parent) (near : HasLater o starts later) where
  count : length columns ≡ n
  count = factor.places ∙ long

  pub cuts : AreCuts first n
  cuts s l = (runs.rises s l, subst (λ z. slice_index first (s + 1) ≤ z) count (ends-in columns first ptr rows parent runs h s l))

  -- the supernode of a column
  find : (k t : ℕ) → t < length first → k < slice_index first t →
      (s : ℕ) × (s + 1 < length first) × (slice_index first s ≤ k) × (k < slice_index first (s + 1))
  find k zero l low = absurd (let b = runs.begin in omega (arith, b, low))
  find k (suc t) l low =
      let e : suc t ≡ t + 1 = omega arith in
      ⊎_elim (λ less. find k t (omega (arith, l)) less)
      (λ more. (t, omega (arith, l), more, subst (λ z. k < slice_index first z) e low)) (cases_lt k (slice_index first t))

  below-same : (s : ℕ) → s + 1 < length first → column_rows ptr rows s ≡ rows_below ptr rows s
  below-same s l = between-same ptr rows s (h.ascending s l) (ptr-most columns first ptr rows parent runs h (s + 1) l)

  near-same : (k : ℕ) → k < n → column_rows starts later k ≡ slice_range later (slice_index starts k) (slice_index starts (k + 1))
  near-same k l = between-same starts later k (near.ascending k (omega (arith, l, long))) (near.within k (omega (arith, l, long)))

  -- what stands below a column by its supernode is an entry of it
  entry : (s k j : ℕ) → s + 1 < length first → slice_index first s ≤ k → k < slice_index first (s + 1) → k < j →
      (j < slice_index first (s + 1)) ⊎ Contains (column_rows ptr rows s) j → Contains (slice_index_or columns k []) j
  entry s k j l a b c is =
      subst (λ z. Contains z j) (sym (h.each s k l a b)) (⊎_elim
      (λ low. Contains-append_left (range_with_len (k + 1) (slice_index first (s + 1) - (k + 1))) (rows_below ptr rows s) j
      (range-has (k + 1) (slice_index first (s + 1) - (k + 1)) j (omega (arith, c)) (omega (arith, b, low))))
      (λ has. Contains-append_right (range_with_len (k + 1) (slice_index first (s + 1) - (k + 1))) (rows_below ptr rows s) j
      (subst (λ z. Contains z j) (below-same s l) has)) is)

  row : (s k j : ℕ) → s + 1 < length first → slice_index first s ≤ k → k < slice_index first (s + 1) →
      Contains (slice_index_or columns k []) j → (j < slice_index first (s + 1)) ⊎ Contains (column_rows ptr rows s) j
  row s k j l a b has = ⊎_elim
      (λ low. inl (let r = (range-only (k + 1) (slice_index first (s + 1) - (k + 1)) j low).1 in omega (arith, r, b)))
      (λ below. inr (subst (λ z. Contains z j) (sym (below-same s l)) below))
      (Contains-append_cases (range_with_len (k + 1) (slice_index first (s + 1) - (k + 1))) (rows_below ptr rows s) j
      (subst (λ z. Contains z j) (h.each s k l a b) has))

  to-factor : (k j : ℕ) → IsFillOf first ptr rows starts later (length first - 1) k j → IsFactorFill o columns k j
  to-factor k j is =
      let l : is.s + 1 < length first = (let i = is.inside in omega (arith, i)) in
      let c = cuts is.s l in
      let low : k < n = (let a = is.fill.1 in let b = c.1 in omega (arith, a, b)) in
      let has = entry is.s k j l is.fill.0 is.fill.1 is.fill.2.0.0 is.fill.2.0.1 in
      let member = ((factor.each k [] (omega (arith, low, long))).members j).0 has in (
        has,
        (λ edge. is.fill.2.1 (subst (λ z. Contains z j) (sym (near-same k low))
            ((near.each k (omega (arith, low, long)) j).1 (member.0, member.1, edge)))),
      )

  from-factor : (k j : ℕ) → k < n → IsFactorFill o columns k j → IsFillOf first ptr rows starts later (length first - 1) k j
  from-factor k j low is =
      let some = runs.some in
      let found = find k (length first - 1) (omega (arith, some)) (let e = runs.end in omega (arith, low, e, count)) in
      let member = ((factor.each k [] (omega (arith, low, long))).members j).0 is.0 in record {
        s = found.0;
        inside = (let l = found.1 in omega (arith, l));
        fill = (
          found.2,
          found.3,
          (
            (member.0, row found.0 k j found.1 found.2 found.3 is.0),
            (λ has. is.1 ((near.each k (omega (arith, low, long)) j).0 (subst (λ z. Contains z j) (near-same k low) has)).2),
          ),
        );
      }

  pub shows-factor : {A : Type 0} (g : Grid A) → ShowsFill g n (IsFillOf first ptr rows starts later (length first - 1)) →
      ShowsFill g n (IsFactorFill o columns)
  shows-factor g s = record {
    marked = λ k j a b is. s.marked k j a b (from-factor k j a is);
    only = λ cell some. (let p = s.only cell some in (p.0, p.1, to-factor p.0 p.1 p.2, p.3));
  }

-- and so for what the supernodes and the lists of a matrix tell
module _ (n : ℕ) (ap_ ai p places first ptr rows starts later : List ℕ) (parent : List (Option ℕ))
    (placed : ArePlaces n (naturals (map pos p)) places)
    (near : (order : List ℕ) → ArePlaces n order places → HasLater (matrix_order n ap_ ai order) starts later)
    (made : IsSupernodesOf (pos n) (map pos ap_) (map pos ai) (map pos p) first ptr rows parent) where
  lists : HasLater (matrix_order n ap_ ai made.order) starts later
  lists = near made.order (subst (λ z. ArePlaces n z places) (counts_of (map pos p) made.order made.permutes.listed) placed)

  pub cuts-of : AreCuts first n
  cuts-of = cuts (matrix_order n ap_ ai made.order) n made.holds.columns first ptr rows starts later parent made.holds.factor
      made.permutes.each.places made.holds.runs made.holds.holds lists

  pub draws : {A : Type 0} (g : Grid A) → IsSquareFor g n →
      ShowsFill g n (IsFillOf first ptr rows starts later (length first - 1)) → DrawsFill g n ap_ ai p
  draws g square shows = record {
    square = square;
    order = made.order;
    permutes = made.permutes;
    columns = made.holds.columns;
    factor = made.holds.factor;
    shows = shows-factor (matrix_order n ap_ ai made.order) n made.holds.columns first ptr rows starts later parent
        made.holds.factor made.permutes.each.places made.holds.runs made.holds.holds lists g shows;
  }
