use Rattle.std.proofs.Common.{ℕ, ℤ, List, ◌≡◌, ◌<◌, ◌≤◌, ◌∙◌, ap, arith, length, map, refl, sym}
use Rattle.std.specs.Prelude.{◌^◌, Some, slice_index, slice_range}
use Rattle.std.proofs.lemmas.Grind.{common_steps}
use Rattle.amd_model.specs.Factor.{IsColumn}
use Rattle.amd_factor.specs.Columns.{first_of}
use Rattle.amd_factor.specs.Orders.{Order}
use Rattle.amd_factor.specs.Trees.{IsParent}
use Rattle.amd_factor.proofs.Factors.PlaceNumbers.{counts_long}
use Rattle.amd_factor.proofs.Factors.Standing.{hold_next, tell_first_next, first_at, first_parent}
use Rattle.amd_factor.proofs.column.close_column.Goals as goal
use Rattle.amd_types.specs.Naturals.{naturals}

-- the end of a column is within the counts that the numbers are
stands_within : {N : Type 0} (value : N → ℤ) (numbers : List N) (end : ℕ) → end ≤ length numbers →
    end ≤ length (naturals (map value numbers))
stands_within value numbers end l = let n = counts_long value numbers in omega (arith, n, l)

below : (a b : ℕ) → a ≤ b → (a ≡ b → ⊥) → a < b
below a b l ne = omega (arith, l, ne)

-- a column that is not empty begins with its parent, which is a place
module _ (o : Order) (k : ℕ) (rows : List ℕ) (begin end : ℕ) (low : begin < end) (within : end ≤ length rows) where
  first_is : (q : ℕ) → q ≡ slice_index rows begin → first_of (slice_range rows begin end) ≡ Some q
  first_is q is = first_at rows begin end low within ∙ ap Some (sym is)

  module _ (column : IsColumn o.graph o.rows k (slice_range rows begin end)) where
    parent_is : (q : ℕ) → q ≡ slice_index rows begin → IsParent o.graph o.rows k q
    parent_is q is = first_parent o k q (slice_range rows begin end) column (first_is q is)

    parent_small : (m : ℕ) → m ≡ length o.rows → m < 2 ^ 64 → slice_index rows begin < 2 ^ 64
    parent_small m room small = let p = parent_is (slice_index rows begin) refl in let l = p.entry.1 in omega (arith, l, room, small)

pub returns-then-begin-end-clause-columns : goal.returns-then-begin-end-clause-columns
returns-then-begin-end-clause-columns g c =
    let can = c.requires.1 in
    hold_next g.o c.args.k c.args.ptr.now (naturals (map g.N.Index.value c.args.rows.now)) c.args.end can.columns can.place can.range
    (stands_within g.N.Index.value c.args.rows.now c.args.end can.within) can.column

pub place_at-first-requires-clause-small : goal.place_at-first-requires-clause-small
place_at-first-requires-clause-small g c =
    let can = c.requires.1 in
    parent_small g.o c.args.k (naturals (map g.N.Index.value c.args.rows.now)) (slice_index c.args.ptr.now c.args.k) c.args.end
    (below (slice_index c.args.ptr.now c.args.k) c.args.end can.range c.if-begin-end.false)
    (stands_within g.N.Index.value c.args.rows.now c.args.end can.within)
    can.column (length c.args.parent.now) can.parents.room (grind (arith, common_steps))

pub link_child-requires : goal.link_child-requires
link_child-requires g c = let can = c.requires.1 in (
  parent_is g.o c.args.k (naturals (map g.N.Index.value c.args.rows.now)) (slice_index c.args.ptr.now c.args.k) c.args.end
      (below (slice_index c.args.ptr.now c.args.k) c.args.end can.range c.if-begin-end.false)
      (stands_within g.N.Index.value c.args.rows.now c.args.end can.within) can.column
      c.place_at-first.result c.place_at-first.ensures,
  can.links,
)

pub returns-clause-columns : goal.returns-clause-columns
returns-clause-columns g c =
    let can = c.requires.1 in
    hold_next g.o c.args.k c.args.ptr.now (naturals (map g.N.Index.value c.args.rows.now)) c.args.end can.columns can.place can.range
    (stands_within g.N.Index.value c.args.rows.now c.args.end can.within) can.column

pub returns-clause-parents : goal.returns-clause-parents
returns-clause-parents g c =
    let can = c.requires.1 in
    tell_first_next g.o c.args.k c.args.ptr.now (naturals (map g.N.Index.value c.args.rows.now)) c.args.end can.columns can.place can.range
    (stands_within g.N.Index.value c.args.rows.now c.args.end can.within) can.column
    c.args.parent.now (Some c.place_at-first.result) can.parents
    (sym (first_is g.o c.args.k (naturals (map g.N.Index.value c.args.rows.now)) (slice_index c.args.ptr.now c.args.k) c.args.end
    (below (slice_index c.args.ptr.now c.args.k) c.args.end can.range c.if-begin-end.false)
    (stands_within g.N.Index.value c.args.rows.now c.args.end can.within)
    c.place_at-first.result c.place_at-first.ensures))
