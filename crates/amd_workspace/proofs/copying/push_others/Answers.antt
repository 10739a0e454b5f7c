-- The rows before the diagonal, and then those behind it.
use Rattle.std.proofs.Common.{◌+◌, ◌++◌, arith, map, pos, length, get_or, ap, sym, ◌∙◌, subst, append_assoc}
use Rattle.std.proofs.Common.{◌≡◌, ◌≢◌, ◌<◌, ◌≤◌, ℕ, ℤ, List, refl}
use Rattle.std.specs.Prelude.{slice_range}
use Rattle.std.proofs.lemmas.List.{length-map, length-append, map-append}
use Rattle.amd_model.specs.Below.{list_below}
use Rattle.amd_model.specs.Input.Columns.{IsColumnForm, IsSorted}
use Rattle.amd_types.specs.Naturals.{naturals}
use Rattle.amd_edges.proofs.Forms.{sorted_form, pointer_read, row_read}
use Rattle.amd_edges.proofs.Reading.{IsReading, before_end, past_end}
use Rattle.amd_workspace.specs.Copying.{is_other}
use Rattle.amd_workspace.proofs.CopiedColumns.{reading_on, reading_off, others_parts, others_long}
use Rattle.amd_workspace.proofs.copying.push_others.Goals as goal
use Rattle.amd_workspace.proofs.copying.push_others.Goals.{then-place-stop+then-count_at-i, else-place-stop}
use Rattle.amd_workspace.proofs.copying.push_others.Goals.{else-place-stop-via-then-place-stop+else-count_at-i}
use Rattle.amd_workspace.proofs.copying.push_others.Goals.{else-place-stop-via-else-place-stop}

pub count_at-stop-requires : goal.count_at-stop-requires
count_at-stop-requires g c = let p = pointer_read g.I.Index.value c.args.a_p.now c.args.a_i.now c.args.size c.requires.form (c.args.i + 1)
    (let l = c.requires.row in omega (arith, l)) (omega (arith, c.well_formed)) in record { within = p.0; fits = p.1 }

pub count_at-requires : goal.count_at-requires
count_at-requires g c =
    let p = row_read g.I.Index.value c.args.a_p.now c.args.a_i.now c.args.size c.requires.form
    c.args.i c.push_before-place.result
    c.count_at-stop.result c.requires.row c.count_at-stop.ensures.count c.if-place-stop.true c.ranges.size.fits in
    record { within = p.0; fits = p.1 }

-- the rows behind the diagonal start behind the place where it is, or at that place where there is none
module _ (n : ℕ) (ap' ai : List ℤ) (form : IsColumnForm (pos n) n ap' ai) (sorted : IsSorted n ap' ai) (i p stop first : ℕ) (row : i < n)
    (from : get_or (naturals ap') i 0 ≤ p) (to : p ≤ get_or (naturals ap') (i + 1) 0)
    (before : (r : ℕ) → get_or (naturals ap') i 0 ≤ r → r < p → get_or (naturals ai) r 0 < i)
    (behind : (r : ℕ) → p ≤ r → r < get_or (naturals ap') (i + 1) 0 → i ≤ get_or (naturals ai) r 0)
    (ends : stop ≡ get_or (naturals ap') (i + 1) 0) where
  read_behind : (first ≡ p + 1 → p < stop → get_or (naturals ai) p 0 ≡ i →
      IsReading (naturals ai) (get_or (naturals ap') i 0) (get_or (naturals ap') (i + 1) 0) n (i + 1) first)
      × (first ≡ p → (p < stop → get_or (naturals ai) p 0 ≢ i) →
      IsReading (naturals ai) (get_or (naturals ap') i 0) (get_or (naturals ap') (i + 1) 0) n (i + 1) first)
  read_behind = let rising = sorted_form n ap' ai form sorted in (
    (λ first_is inside is. subst (IsReading (naturals ai) (get_or (naturals ap') i 0) (get_or (naturals ap') (i + 1) 0) n (i + 1)) (sym
        first_is)
        (reading_on n (naturals ap') (naturals ai) rising i p row from to before behind (before_end ends inside) is)),
    (λ first_is other. subst (IsReading (naturals ai) (get_or (naturals ap') i 0) (get_or (naturals ap') (i + 1) 0) n (i + 1)) (sym
        first_is)
        (reading_off n (naturals ap') (naturals ai) rising i p row from to before behind (λ inside. other (omega (arith, ends, inside))))),
  )

pub push_column-requires-clause-room : goal.push_column-requires-clause-room
push_column-requires-clause-room g c =
    let az = map g.I.Index.value c.args.a_p.now in let bz = map g.I.Index.value c.args.a_i.now in
    let n = c.args.size in let i = c.args.i in let first = c.if-place-stop.first in let before = list_below i (is_other n az bz i) in
    let r = c.requires in let room = r.room in let v = c.push_before-place.ensures in let wide = v.capacity in
    let read = read_behind n az bz r.form r.sorted i _ _ first r.row v.from v.to v.before v.behind c.count_at-stop.ensures.count in
    let so : IsReading (naturals bz) (get_or (naturals az) i 0) (get_or (naturals az) (i + 1) 0) n (i + 1) first = elim
    c.if-place-stop.branch [
      | then-place-stop+then-count_at-i w ↦ read.0 w.first-is w.if-place-stop.true (sym w.count_at.ensures.count ∙ w.if-count_at-i.true)
      | else-place-stop w ↦ read.1 w.first-is (λ inside same. elim w.else-place-stop.branch [
        | else-place-stop-via-then-place-stop+else-count_at-i u ↦ u.if-count_at-i.false (u.count_at.ensures.count ∙ same)
        | else-place-stop-via-else-place-stop u ↦ absurd (past_end refl u.if-place-stop.false inside)
      ])
    ] in
    let long = others_long n az bz r.form (sorted_form n az bz r.form r.sorted) i first r.row so in
    let whole = ap length v.items in let both = length-append c.args.iw.now.items (map pos before) in let size = length-map before pos in
    omega (arith, long, whole, both, size, room, wide)

pub returns-clause-items : goal.returns-clause-items
returns-clause-items g c =
    let az = map g.I.Index.value c.args.a_p.now in let bz = map g.I.Index.value c.args.a_i.now in
    let n = c.args.size in let i = c.args.i in let first = c.if-place-stop.first in let before = list_below i (is_other n az bz i) in
    let rest = slice_range (naturals bz) first (get_or (naturals az) (i + 1) 0) in
    let old = c.args.iw.now.items in let r = c.requires in let v = c.push_before-place.ensures in
    let read = read_behind n az bz r.form r.sorted i _ _ first r.row v.from v.to v.before v.behind c.count_at-stop.ensures.count in
    let so : IsReading (naturals bz) (get_or (naturals az) i 0) (get_or (naturals az) (i + 1) 0) n (i + 1) first = elim
    c.if-place-stop.branch [
      | then-place-stop+then-count_at-i w ↦ read.0 w.first-is w.if-place-stop.true (sym w.count_at.ensures.count ∙ w.if-count_at-i.true)
      | else-place-stop w ↦ read.1 w.first-is (λ inside same. elim w.else-place-stop.branch [
        | else-place-stop-via-then-place-stop+else-count_at-i u ↦ u.if-count_at-i.false (u.count_at.ensures.count ∙ same)
        | else-place-stop-via-else-place-stop u ↦ absurd (past_end refl u.if-place-stop.false inside)
      ])
    ] in
    c.push_column.ensures.items ∙ ap (λ xs. xs ++ map pos rest) v.items
    ∙ append_assoc old (map pos before) (map pos rest)
    ∙ ap (λ xs. old ++ xs) (sym (map-append pos before rest)
    ∙ ap (map pos) (others_parts n az bz r.form (sorted_form n az bz r.form r.sorted) i first r.row so))
