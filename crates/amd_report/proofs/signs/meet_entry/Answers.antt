-- An entry on the diagonal or with a mirror gives no edge, and another one gives one.
use Rattle.std.proofs.Common.{◌≡◌, ◌≢◌, ◌+◌, ◌<◌, ◌≤◌, ◌∙◌, ℕ, Bool, List, length, set, true, false}
use Rattle.std.proofs.Common.{subst, sym, arith, ltb-true, ltb, ◌&&◌, get_or}
use Rattle.std.specs.Prelude.{slice_index}
use Rattle.std.proofs.lemmas.Bool.{and_parts}
use Rattle.std.proofs.lemmas.Grind.{get_or_default_zero}
use Rattle.amd_types.specs.Naturals.{count_graph, is_before}
use Rattle.amd_edges.specs.Visits.{AreCounts, IsNewEdge}
use Rattle.amd_input.proofs.Counting.{mark_room, other_room, run_more}
use Rattle.amd_report.specs.Signs.{IsRisingForm, edge_met, was_met}
use Rattle.amd_report.proofs.Signing.{edge-new, edges-loop, edges-mirror, edges-next, mirror-met, row-in}
use Rattle.amd_report.proofs.Signing.{signs-before, signs-next, signs-same}
use Rattle.amd_report.proofs.signs.meet_entry.Goals as goal

pub has_mirror-requires-clause-form : goal.has_mirror-requires-clause-form
has_mirror-requires-clause-form c = rw c.requires.sizes c.requires.form

pub has_mirror-requires-clause-inside : goal.has_mirror-requires-clause-inside
has_mirror-requires-clause-inside c = rw c.requires.sizes c.requires.inside

pub has_mirror-requires-clause-signs : goal.has_mirror-requires-clause-signs
has_mirror-requires-clause-signs c =
    signs-before c.args.a_p.now c.args.a_i.now c.args.column c.args.place c.args.signs.now c.requires.signs

pub returns-then-row-column-clause-signs : goal.returns-then-row-column-clause-signs
returns-then-row-column-clause-signs c =
    signs-same c.args.a_p.now c.args.a_i.now c.args.column c.args.place c.args.signs.now
    (let e = c.if-row-column.true in omega (arith, e)) c.requires.signs

pub returns-then-row-column-clause-degrees : goal.returns-then-row-column-clause-degrees
returns-then-row-column-clause-degrees c =
    subst (λ s. AreCounts (count_graph (length c.args.degrees.now) c.args.a_p.now c.args.a_i.now) s
    (set c.args.degrees.now c.args.column c.args.degree))
    (edges-loop (length c.args.degrees.now) c.args.a_p.now c.args.a_i.now c.requires.form c.args.column c.args.place c.requires.inside
    c.requires.from c.requires.to c.if-row-column.true) c.requires.degrees

-- what a test of two parts says
above : (i j : ℕ) (b flag : Bool) → flag ≡ (ltb i j && b) → flag ≡ true → i < j
above i j b flag is holds = ltb-true i j (and_parts (ltb i j) b (sym is ∙ holds)).0

pub returns-then-has_mirror-clause-signs : goal.returns-then-has_mirror-clause-signs
returns-then-has_mirror-clause-signs c =
    signs-same c.args.a_p.now c.args.a_i.now c.args.column c.args.place c.args.signs.now
    (let l = above (slice_index c.args.a_i.now c.args.place) c.args.column (is_before c.args.a_p.now c.args.a_i.now
    (slice_index c.args.a_p.now (slice_index c.args.a_i.now c.args.place + 1)) c.args.column (slice_index c.args.a_i.now c.args.place))
    c.has_mirror.result c.has_mirror.ensures c.if-has_mirror.true in omega (arith, l)) c.requires.signs

pub returns-then-has_mirror-clause-degrees : goal.returns-then-has_mirror-clause-degrees
returns-then-has_mirror-clause-degrees c =
    let n : ℕ = length c.args.degrees.now in
    let met = mirror-met n c.args.a_p.now c.args.a_i.now c.requires.form c.args.column c.args.place c.requires.inside c.requires.from
    c.requires.to c.if-row-column.false in
    subst (λ s. AreCounts (count_graph n c.args.a_p.now c.args.a_i.now) s (set c.args.degrees.now c.args.column c.args.degree))
    (edges-mirror n c.args.a_p.now c.args.a_i.now c.requires.form c.args.column c.args.place c.requires.inside c.requires.from
    c.requires.to c.if-row-column.false (met ∙ sym c.has_mirror.ensures ∙ c.if-has_mirror.true)) c.requires.degrees

-- a new edge, counted
module _ (degrees pointers rows : List ℕ) (column place degree : ℕ) (form : IsRisingForm (length degrees) pointers rows)
    (inside : column < length degrees) (from : slice_index pointers column ≤ place) (to : place < slice_index pointers (column + 1))
    (ne : slice_index rows place ≢ column) (flag : Bool) (is : flag ≡ (ltb (slice_index rows place) column
    && is_before pointers rows (slice_index pointers (slice_index rows place + 1)) column (slice_index rows place))) (no : flag ≡ false)
    (h : AreCounts (count_graph (length degrees) pointers rows) (edge_met (length degrees) pointers rows column place)
    (set degrees column degree)) where
  row-inside : slice_index rows place < length degrees
  row-inside = row-in (length degrees) pointers rows form column place inside from to

  lone : was_met (length degrees) pointers rows column place column (slice_index rows place) ≡ false
  lone = mirror-met (length degrees) pointers rows form column place inside from to ne ∙ sym is ∙ no

  new : IsNewEdge (count_graph (length degrees) pointers rows) (edge_met (length degrees) pointers rows column place)
      (slice_index rows place) column
  new = edge-new (length degrees) pointers rows form column place inside from to ne lone

  same : slice_index degrees (slice_index rows place)
      ≡ get_or degrees (slice_index rows place) (slice_index degrees (slice_index rows place))
  same = sym (get_or_default_zero degrees (slice_index rows place) _ row-inside)

  row-room : slice_index degrees (slice_index rows place) < length degrees
  row-room = other_room (count_graph (length degrees) pointers rows) (edge_met (length degrees) pointers rows column place)
      (slice_index rows place) column degree new degrees h (slice_index degrees (slice_index rows place)) same

  own-room : degree < length degrees
  own-room = mark_room (count_graph (length degrees) pointers rows) (edge_met (length degrees) pointers rows column place)
      (slice_index rows place) column degree new degrees h (slice_index degrees (slice_index rows place)) same

  counted : AreCounts (count_graph (length degrees) pointers rows) (edge_met (length degrees) pointers rows column (place + 1))
      (set (set degrees (slice_index rows place) (slice_index degrees (slice_index rows place) + 1)) column (degree + 1))
  counted = subst (λ s. AreCounts (count_graph (length degrees) pointers rows) s
      (set (set degrees (slice_index rows place) (slice_index degrees (slice_index rows place) + 1)) column (degree + 1)))
      (edges-next (length degrees) pointers rows form column place inside from to ne lone)
      (run_more (count_graph (length degrees) pointers rows) (edge_met (length degrees) pointers rows column place)
      (slice_index rows place) column degree new degrees h (slice_index degrees (slice_index rows place)) same)

pub overflow_add-degrees : goal.overflow_add-degrees
overflow_add-degrees c =
    let room = row-room c.args.degrees.now c.args.a_p.now c.args.a_i.now c.args.column c.args.place c.args.degree c.requires.form
    c.requires.inside c.requires.from c.requires.to c.if-row-column.false c.has_mirror.result c.has_mirror.ensures c.if-has_mirror.false
    c.requires.degrees in
    omega (arith, room)

pub overflow_add-result : goal.overflow_add-result
overflow_add-result c =
    let room = own-room c.args.degrees.now c.args.a_p.now c.args.a_i.now c.args.column c.args.place c.args.degree c.requires.form
    c.requires.inside c.requires.from c.requires.to c.if-row-column.false c.has_mirror.result c.has_mirror.ensures c.if-has_mirror.false
    c.requires.degrees in
    omega (arith, room)

pub returns-clause-signs : goal.returns-clause-signs
returns-clause-signs c =
    let inside = row-in (length c.args.degrees.now) c.args.a_p.now c.args.a_i.now c.requires.form c.args.column c.args.place
    c.requires.inside c.requires.from c.requires.to in
    rw c.sign.ensures (signs-next c.args.a_p.now c.args.a_i.now c.args.column c.args.place c.args.signs.now
    (rw c.requires.sizes inside) c.requires.signs)

pub returns-clause-degrees : goal.returns-clause-degrees
returns-clause-degrees c = counted c.args.degrees.now c.args.a_p.now c.args.a_i.now c.args.column c.args.place c.args.degree c.requires.form
    c.requires.inside c.requires.from c.requires.to c.if-row-column.false c.has_mirror.result c.has_mirror.ensures c.if-has_mirror.false
    c.requires.degrees
