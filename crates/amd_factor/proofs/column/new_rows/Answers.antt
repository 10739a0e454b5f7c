use Rattle.std.proofs.Common.{ℕ, List, ◌≡◌, ◌+◌, sym, ◌∙◌, subst, arith, length, take}
use Rattle.std.specs.Prelude.{Option}
use Rattle.std.proofs.lemmas.Bool.{eqb-true}
use Rattle.std.proofs.lemmas.List.{length-take-le, take_at}
use Rattle.std.proofs.lemmas.List.Sorted.{IsNonDecreasingBy-from_sort}
use Rattle.amd_factor.specs.Gathering.{Completes, MarksTell}
use Rattle.amd_factor.specs.Orders.{Order}
use Rattle.amd_factor.proofs.Factors.Completing.{all_marked, base_marked, completes_alone, inherited_gives, neighbour_gives, tell_next}
use Rattle.amd_factor.proofs.Factors.NewRows.{completes}
use Rattle.amd_factor.proofs.Factors.PlaceNumbers.{are_range, counts_range}
use Rattle.amd_factor.proofs.column.new_rows.Goals as goal

-- marks that tell a column still tell it one place later
tell_later : (o : Order) (k : ℕ) (column : Option ℕ) (stamp : ℕ) (mark : List ℕ) → MarksTell o k column stamp mark →
    MarksTell o (k + 1) column stamp mark
tell_later o k column stamp mark h = record {
  room = h.room;
  recent = (let r = h.recent in omega (arith, r));
  low = λ j l. (let a = h.low j l in omega (arith, a));
  tell = λ m e. ((let a = (h.tell m e).0 in omega (arith, a)), (h.tell m e).1);
}

pub returns-then-not-tells-clause-completes : goal.returns-then-not-tells-clause-completes
returns-then-not-tells-clause-completes g c =
    let can = c.requires.1 in
    let empty = c.is_empty.ensures in let t = c.if-is_empty.true in
    completes_alone g.c can.laws c.args.taken.base c.args.neighbours.now can.inherits can.base can.later
    (eqb-true (length c.args.neighbours.now) 0 (sym empty ∙ t)) (c.has_only_child.ensures.only c.if-has_only_child.true)

pub mark_base-stamp-requires : goal.mark_base-stamp-requires
mark_base-stamp-requires g c κs within =
    let value = g.N.Index.value in let can = c.requires.1 in let rows = c.args.columns.rows.now in
    let from = c.args.taken.from in let to = c.args.taken.to in (
      within,
      record {
        place = can.place;
        inside = can.inside;
        numbers = are_range value rows from to can.columns.numbers;
        taken = can.rows ∙ sym (counts_range value rows from to);
        inherits = can.inherits;
        marks = can.marks;
      },
    )

pub gather_children-count-requires : goal.gather_children-count-requires
gather_children-count-requires g c κs within =
    let m = c.mark_base-stamp.ensures in let u = c.unwrap_or.ensures in let can = c.requires.1 in (
      within,
      record {
        laws = can.laws;
        place = can.place;
        inside = can.inside;
        columns = can.columns;
        base_marked = base_marked g.c c.args.taken.base can.inherits c.args.k c.unwrap_or.result c.mark_base-stamp.result _ _ can.place u m;
        long = can.long;
        marks = m;
      },
    )

pub gather_places-count-requires : goal.gather_places-count-requires
gather_places-count-requires g c = let can = c.requires.1 in record {
  entries = neighbour_gives g.c can.laws c.args.neighbours.now can.later;
  listed = record {
    room = c.gather_children-count.auto.fresh ∙ can.long;
    within = c.gather_children-count.ensures.count;
    marks = c.gather_children-count.ensures.marks;
  };
}

pub returns-clause-completes : goal.returns-clause-completes
returns-clause-completes g c =
    let can = c.requires.1 in
    let ys = c.sort_unstable.new.self in
    let long : length ys ≡ c.gather_places-count.result =
    c.sort_unstable.ensures.len ∙ length-take-le c.gather_places-count.result c.gather_places-count.new.fresh
    c.gather_places-count.ensures.count in
    subst (Completes g.c) (sym (take_at ys _ c.gather_places-count.result long))
    (completes g.c c.mark_base-stamp.result (take c.gather_places-count.result c.gather_places-count.new.fresh)
    c.gather_places-count.new.mark c.gather_places-count.ensures.marks ys
    c.sort_unstable.ensures.permutation (IsNonDecreasingBy-from_sort (λ x. x) ys c.sort_unstable.ensures.sorted)
    (inherited_gives g.c can.laws c.args.taken.base can.inherits)
    (all_marked g.c can.laws c.args.neighbours.now c.gather_places-count.new.mark c.mark_base-stamp.result
    can.later c.gather_places-count.ensures.all
    (λ m j p behind x. c.gather_places-count.ensures.kept j (c.gather_children-count.ensures.children m j p behind x))))

pub returns-clause-marks : goal.returns-clause-marks
returns-clause-marks g c =
    let can = c.requires.1 in
    tell_next g.c can.laws c.args.taken.base can.inherits c.args.k c.mark_base-stamp.result _
    c.gather_places-count.new.mark can.place c.gather_places-count.ensures.marks
    (all_marked g.c can.laws c.args.neighbours.now c.gather_places-count.new.mark c.mark_base-stamp.result
    can.later c.gather_places-count.ensures.all
    (λ m j p behind x. c.gather_places-count.ensures.kept j (c.gather_children-count.ensures.children m j p behind x)))

pub returns-then-not-tells-clause-marks : goal.returns-then-not-tells-clause-marks
returns-then-not-tells-clause-marks g c =
    tell_later g.c.order g.c.place c.args.marked.column c.args.marked.stamp c.args.mark.now c.requires.1.marks
