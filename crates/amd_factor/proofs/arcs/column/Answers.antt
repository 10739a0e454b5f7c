use Rattle.std.proofs.Common.{◌≡◌, ◌≢◌, ◌+◌, ◌<◌, ◌≤◌, ℕ, map, length, get_or, arith, add-one}
use Rattle.std.proofs.lemmas.List.{length-map}
use Rattle.std.proofs.lemmas.Grind.{common_steps}
use borrow.Author.Rules.{scaled_Fits}
use Rattle.amd_types.specs.Naturals.{naturals}
use Rattle.amd_edges.proofs.Forms.{pointer_fits, row_fits, place_within}
use Rattle.amd_factor.proofs.Lists.Entries.{far_first, far_last}
use Rattle.amd_factor.proofs.Lists.Steps.{pointers_rise, row_below, far_arc, far_same, next_arc}
use Rattle.amd_factor.proofs.arcs.column.Goals as goal
use Rattle.amd_factor.proofs.arcs.column.Goals.{then-there-here, else-there-here}

pub count_at-end-requires-clause-fits : goal.count_at-end-requires-clause-fits
count_at-end-requires-clause-fits g c = pointer_fits _ _ _ c.requires.form (c.args.column + 1) (omega arith) (simp length-map (omega arith))

pub count_at-entry-requires-clause-fits : goal.count_at-entry-requires-clause-fits
count_at-entry-requires-clause-fits g c = pointer_fits _ _ _ c.requires.form c.args.column (omega arith) (simp length-map (omega arith))

pub entries-init : goal.entries-init
entries-init g c =
    let ap' = naturals (map g.I.Index.value c.args.a_p.now) in
    let ai = naturals (map g.I.Index.value c.args.a_i.now) in
    let start = c.count_at-entry.ensures.count in
    record {
      from = omega (arith, start);
      held = rw (far_first c.args.places.now ap' ai c.args.column c.count_at-entry.result (omega (arith, start))) c.requires.held;
    }

pub count_at-requires-clause-within : goal.count_at-requires-clause-within
count_at-requires-clause-within g c =
    let end = c.count_at-end.ensures.count in
    let inside = place_within _ _ _ c.requires.form c.args.column c.entries.entry (omega arith) (omega arith) in
    simp length-map at inside

pub count_at-requires-clause-fits : goal.count_at-requires-clause-fits
count_at-requires-clause-fits g c =
    let end = c.count_at-end.ensures.count in
    row_fits _ _ _ c.requires.form c.args.column c.entries.entry (omega arith) (omega arith) (omega arith)

pub bounds-places-count_at : goal.bounds-places-count_at
bounds-places-count_at g c =
    let end = c.count_at-end.ensures.count in
    let row = c.count_at.ensures.count in
    let below = row_below c.args.size (map g.I.Index.value c.args.a_p.now) (map g.I.Index.value c.args.a_i.now) c.requires.form
    c.args.column c.entries.entry c.requires.column_in (omega arith) in
    let room = c.requires.places.1.room in
    omega (arith, row, below, room)

pub offset_bounds-places-count_at : goal.offset_bounds-places-count_at
offset_bounds-places-count_at g c =
    let end = c.count_at-end.ensures.count in
    let row = c.count_at.ensures.count in
    let below = row_below c.args.size (map g.I.Index.value c.args.a_p.now) (map g.I.Index.value c.args.a_i.now) c.requires.form
    c.args.column c.entries.entry c.requires.column_in (omega arith) in
    let room = c.requires.places.1.room in
    let inside : c.count_at.result < length c.args.places.now = omega (arith, row, below, room) in
    scaled_Fits _ (length c.args.places.now) _ inside (omega arith)

pub arc-requires : goal.arc-requires
arc-requires g c =
    let end = c.count_at-end.ensures.count in
    let row = c.count_at.ensures.count in
    let o = c.in_order-later.ensures in (
      _,
      _,
      _,
      c.entries.invariant.held,
      next_arc c.args.size _ _ c.requires.form c.args.column c.entries.entry c.requires.column_in (omega arith) c.requires.places.0
          c.args.places.now c.requires.places.1 c.entries.invariant.from c.in_order-later.result.0 c.in_order-later.result.1
          (rw (← row) o.up) (rw (← row) o.down) (rw (← row) c.if-there-here.true),
    )

pub entries-preserved : goal.entries-preserved
entries-preserved g c =
    let end = c.count_at-end.ensures.count in
    let row = c.count_at.ensures.count in
    let from = c.entries.invariant.from in
    let n = c.args.size in
    let j = c.args.column in
    let q = c.entries.entry in
    let places = c.args.places.now in
    let high : q < get_or (naturals (map g.I.Index.value c.args.a_p.now)) (j + 1) 0 =
    (let x = c.entries-test.true in omega (arith, x, end)) in
    let order = c.requires.places in
    record {
      from = omega (arith, from);
      held = elim c.if-there-here.branch [
        | then-there-here w ↦ (
            let o = w.in_order-later.ensures in
            let later : ℕ = w.in_order-later.result.0 in
            let earlier : ℕ = w.in_order-later.result.1 in
            let there : ℕ = get_or places (get_or (naturals (map g.I.Index.value c.args.a_i.now)) q 0) 0 in
            let up : there < get_or places j 0 → (later ≡ get_or places j 0) × (earlier ≡ there) = rw (← row) o.up in
            let down : get_or places j 0 ≤ there → (later ≡ there) × (earlier ≡ get_or places j 0) = rw (← row) o.down in
            let differ : there ≢ get_or places j 0 = rw (← row) w.if-there-here.true in
            rw (
              w.starts-is,
              w.neighbours-is,
              far_arc n _ _ c.requires.form j q c.requires.column_in high order.0 places order.1 from later earlier up down
                  differ,
            )
            (w.arc.ensures _ _ _ c.entries.invariant.held
            (next_arc n _ _ c.requires.form j q c.requires.column_in high order.0 places order.1 from later earlier up down differ)))
        | else-there-here w ↦ (
            let same : get_or places (get_or (naturals (map g.I.Index.value c.args.a_i.now)) q 0) 0 ≡ get_or places j 0 =
            rw (← row) w.if-there-here.false in
            rw (
              w.starts-is,
              w.neighbours-is,
              far_same n _ _ c.requires.form j q c.requires.column_in high order.0 places order.1 from
                  (omega (arith, same)) (omega (arith, same)),
            ) c.entries.invariant.held)
      ];
    }

pub returns : goal.returns
returns g c =
    let ap' = naturals (map g.I.Index.value c.args.a_p.now) in
    let ai = naturals (map g.I.Index.value c.args.a_i.now) in
    let end = c.count_at-end.ensures.count in
    let start = c.count_at-entry.ensures.count in
    let rise = pointers_rise c.args.size _ _ c.requires.form c.args.column c.requires.column_in in
    let most = c.entries.auto.entry-end (omega (arith, start, end, rise)) in
    let least = c.entries-test.false in
    let all : c.entries.entry ≡ get_or ap' (c.args.column + 1) 0 = omega (arith, end, most, least) in
    record { held = rw (add-one, ← far_last c.args.places.now ap' ai c.args.column c.entries.entry all) c.entries.invariant.held }

pub count_at-entry-requires-clause-within : goal.count_at-entry-requires-clause-within
count_at-entry-requires-clause-within g c = grind (arith, common_steps)

pub count_at-end-requires-clause-within : goal.count_at-end-requires-clause-within
count_at-end-requires-clause-within g c = grind (arith, common_steps)
