use Rattle.std.proofs.Common.{ℕ, ℤ, ◌≤◌, List, arith, [], length, map, refl}
use Rattle.std.specs.Prelude.{MatchOption, None, Option, Some}
use Rattle.amd_types.specs.Naturals.{naturals}
use Rattle.amd_factor.specs.Gathering.{Column, IsChild}
use Rattle.amd_factor.proofs.Factors.PlaceNumbers.{counts_long}
use Rattle.amd_factor.proofs.column.plan_column.Goals as goal

-- the greatest child, if there is any, is a child
is_child : (c : Column) (base : Option ℕ) → MatchOption base ((m : ℕ) → IsChild c m → ⊥) (λ child. IsChild c child) →
    MatchOption base (Unit {0}) (λ child. IsChild c child)
is_child c None h = tt
is_child c (Some child) h = h

-- what ends within the places that numbers are ends within the numbers
ends_within : {N : Type 0} (value : N → ℤ) (numbers : List N) (to : ℕ) → to ≤ length (naturals (map value numbers)) → to ≤ length numbers
ends_within value numbers to l = let n = counts_long value numbers in omega (arith, l, n)

pub greatest_child-base-requires : goal.greatest_child-base-requires
greatest_child-base-requires g c = let can = c.requires.1.0 in let columns = c.requires.1.1 in record {
  place = refl;
  inside = can.place;
  links = columns.links;
  rows = naturals (map g.N.Index.value c.args.columns.rows.now);
  stand = columns.stand;
}

pub inherited-from-requires : goal.inherited-from-requires
inherited-from-requires g c =
    let columns = c.requires.1.1 in
    let column : Column = record { order = g.o; place = c.args.k; inherited = [] } in record {
      stands = (
        column,
        naturals (map g.N.Index.value c.args.columns.rows.now),
        columns.stand,
        is_child column c.greatest_child-base.result c.greatest_child-base.ensures.child,
      );
    }

pub new_rows-count-requires : goal.new_rows-count-requires
new_rows-count-requires g c κs inside =
    let columns = c.requires.1.1 in
    let can = c.requires.1.0 in let rows = naturals (map g.N.Index.value c.args.columns.rows.now) in
    let column : Column = record { order = g.o; place = c.args.k; inherited = [] } in
    let takes = c.inherited-from.ensures.takes column rows columns.stand
    (is_child column c.greatest_child-base.result c.greatest_child-base.ensures.child) in (
      inside,
      record {
        laws = can.laws;
        place = refl;
        inside = can.place;
        columns = columns;
        base = c.greatest_child-base.ensures.child;
        rows = refl;
        range = c.inherited-from.ensures.range;
        within = ends_within g.N.Index.value c.args.columns.rows.now c.inherited-from.result.1 takes.within;
        inherits = takes.inherits;
        later = can.later;
        marks = can.marks;
        long = can.long;
      },
    )

pub returns-clause-plans : goal.returns-clause-plans
returns-clause-plans g c =
    let columns = c.requires.1.1 in
    let rows = naturals (map g.N.Index.value c.args.columns.rows.now) in
    let column : Column = record { order = g.o; place = c.args.k; inherited = [] } in
    let takes = c.inherited-from.ensures.takes column rows columns.stand
    (is_child column c.greatest_child-base.result c.greatest_child-base.ensures.child) in record {
      range = c.inherited-from.ensures.range;
      within = takes.within;
      rising = takes.rising;
      completes = c.new_rows-count.ensures.completes;
    }
