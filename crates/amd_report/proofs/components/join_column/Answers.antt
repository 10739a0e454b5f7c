-- Each turn meets one entry more.
use Rattle.std.proofs.Common.{◌+◌, ◌<◌, ◌≤◌, ℕ, List, inl, refl, arith}
use Rattle.std.specs.Prelude.{slice_index}
use Rattle.amd_report.proofs.Connecting.{marked-begin, marked-end, marked-next}
use Rattle.amd_report.proofs.components.join_column.Goals as goal

pub places-init : goal.places-init
places-init c = record {
  size = refl;
  classes = λ g connects h. marked-begin g c.args.a_p.now c.args.a_i.now c.args.marks.now c.args.column c.args.links.now h;
}

pub meet_unmarked-requires-clause-names : goal.meet_unmarked-requires-clause-names
meet_unmarked-requires-clause-names c =
    let some = c.requires.classes in
    let h = c.places.invariant.classes some.0 some.1 some.2 in (h.classes.name, h.classes.names, h.marked)

pub places-preserved : goal.places-preserved
places-preserved c =
    let pointers : List ℕ = c.args.a_p.now in
    let rows : List ℕ = c.args.a_i.now in
    let column : ℕ = c.args.column in
    let place : ℕ = c.places.place in
    let before = c.places.invariant.size in
    let after = c.meet_unmarked.ensures.size in
    let inside = c.requires.inside in
    let low : slice_index pointers column ≤ place = omega arith in
    let high : place < slice_index pointers (column + 1) = omega arith in
    let row = c.requires.form.rows column place inside low high in
    record {
      size = omega (arith, before, after);
      classes = λ g connects h. marked-next g pointers rows c.args.marks.now column place c.places.links c.meet_unmarked.new.links
          (omega (arith, row, before)) (omega (arith, inside, before)) after
          (connects (slice_index rows place) column (record { at = place; from = low; to = high; row = refl; before = inl inside }))
          c.meet_unmarked.ensures.names (c.places.invariant.classes g connects h);
    }

pub returns-clause-classes : goal.returns-clause-classes
returns-clause-classes c g connects h =
    marked-end g c.args.a_p.now c.args.a_i.now c.args.marks.now c.args.column c.places.place c.places.links (omega arith)
    (c.places.invariant.classes g connects h)
