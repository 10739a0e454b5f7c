use Rattle.std.proofs.Common.{◌≡◌, ◌+◌, ◌^◌, ◌<◌, ◌≤◌, ◌≢◌, ◌++◌, ◌∷◌, [], ℕ, ℤ, List, pos, map}
use Rattle.std.proofs.Common.{get_or, arith, ap, sym, true, false, refl, ◌∙◌, subst, subst₂}
use Rattle.std.proofs.Common.{le_refl, le_of_lt, le_trans, le_of_eq, lt_of_lt_of_le, lt_of_le_of_lt}
use Rattle.std.proofs.lemmas.Bool.{eqb-true, eqb-false, true≢false, le-ltb}
use Rattle.std.proofs.lemmas.List.{length-map}
use borrow.Author.Count.{falls}
use Rattle.amd_model.specs.Input.Columns.{IsColumnForm, IsSorted}
use Rattle.amd_types.specs.Naturals.{naturals, count_graph, is_entry}
use Rattle.amd_edges.specs.Visits.{arcs_of, with_arc, IsNew}
use Rattle.amd_edges.specs.Walk.{IsScan, met}
use Rattle.amd_edges.proofs.Forms.{pointer_fits, pointer_read, row_fits, place_in, place_up, sorted_form}
use Rattle.amd_edges.proofs.Orders.{edges_until, until_start, until_next, until_end}
use Rattle.amd_edges.proofs.Reading.{IsReading, row_below, row_from, before_end, past_end, reading_start, reading_next}
use Rattle.amd_edges.proofs.Uppers.{IsUpper, IsOver, upper_next, upper_new, upper_after, upper_scan, exit_gap, over_entry, over_none}
use Rattle.amd_edges.proofs.walk.column.Goals as goal
use Rattle.amd_edges.proofs.walk.column.Goals.{then-upper-test+else-count_at-k, else-upper-test, then-place-end, else-place-end}
use Rattle.amd_edges.proofs.walk.column.Goals.{then-diagonal, else-diagonal}

pub count_at-end-requires-clause-fits : goal.count_at-end-requires-clause-fits
count_at-end-requires-clause-fits g c = pointer_fits c.args.size (map g.I.Index.value c.args.a_p.now)
    (map g.I.Index.value c.args.a_i.now) c.requires.form (c.args.k + 1)
    (let a = c.requires.k_in in omega (arith, a)) (subst (λ x. x < 2 ^ 64) (sym (length-map c.args.a_i.now g.I.Index.value))
    (omega (arith, c.well_formed)))

pub count_at-place-requires-clause-fits : goal.count_at-place-requires-clause-fits
count_at-place-requires-clause-fits g c = pointer_fits c.args.size (map g.I.Index.value c.args.a_p.now)
    (map g.I.Index.value c.args.a_i.now) c.requires.form c.args.k
    (le_of_lt c.requires.k_in) (subst (λ x. x < 2 ^ 64) (sym (length-map c.args.a_i.now g.I.Index.value)) (omega (arith, c.well_formed)))

pub count_at-requires-clause-within : goal.count_at-requires-clause-within
count_at-requires-clause-within g c = place_in g.I.Index.value c.args.a_i.now c.args.size (map g.I.Index.value c.args.a_p.now)
    c.requires.form c.args.k c.upper.place
    c.count_at-end.result c.requires.k_in c.count_at-end.ensures.count c.upper-test.true

pub count_at-requires-clause-fits : goal.count_at-requires-clause-fits
count_at-requires-clause-fits g c = row_fits c.args.size (map g.I.Index.value c.args.a_p.now) (map g.I.Index.value c.args.a_i.now)
    c.requires.form c.args.k
    c.upper.place c.requires.k_in (before_end c.count_at-end.ensures.count c.upper-test.true) c.ranges.size.fits

pub count_at-j-requires-clause-within : goal.count_at-j-requires-clause-within
count_at-j-requires-clause-within g c = place_in g.I.Index.value c.args.a_i.now c.args.size (map g.I.Index.value c.args.a_p.now)
    c.requires.form c.args.k c.upper.place
    c.count_at-end.result c.requires.k_in c.count_at-end.ensures.count c.upper-test.true

pub count_at-j-requires-clause-fits : goal.count_at-j-requires-clause-fits
count_at-j-requires-clause-fits g c = row_fits c.args.size (map g.I.Index.value c.args.a_p.now) (map g.I.Index.value c.args.a_i.now)
    c.requires.form c.args.k
    c.upper.place c.requires.k_in (before_end c.count_at-end.ensures.count c.upper-test.true) c.ranges.size.fits

pub count_at-requires-then-place-end-clause-within : goal.count_at-requires-then-place-end-clause-within
count_at-requires-then-place-end-clause-within g c = place_in g.I.Index.value c.args.a_i.now c.args.size
    (map g.I.Index.value c.args.a_p.now) c.requires.form c.args.k c.upper.place
    c.count_at-end.result c.requires.k_in c.count_at-end.ensures.count c.if-place-end.true

pub count_at-requires-then-place-end-clause-fits : goal.count_at-requires-then-place-end-clause-fits
count_at-requires-then-place-end-clause-fits g c = row_fits c.args.size (map g.I.Index.value c.args.a_p.now)
    (map g.I.Index.value c.args.a_i.now) c.requires.form c.args.k
    c.upper.place c.requires.k_in (before_end c.count_at-end.ensures.count c.if-place-end.true) c.ranges.size.fits

-- the next row above the diagonal: its pair, whose arcs are new, what was met with them, and where the pointers stand
record IsNextRow (n : ℕ) (ap' ai t : List ℕ) (k m j : ℕ) : Type 0 where
  upper : IsUpper n ap' ai k m j
  new : IsNew (count_graph n ap' ai) (met n ap' ai t k m) j k × IsNew (count_graph n ap' ai) (with_arc (met n ap' ai t k m) j k) k j
  after : with_arc (with_arc (met n ap' ai t k m) j k) k j ≡ met n ap' ai t k (j + 1)
  scan : IsScan n ap' ai t k j

-- the row at the place, read twice, is the next one
module _ {n k m end p first j : ℕ} {ap' ai : List ℤ} {t : List ℕ} (form : IsColumnForm (pos n) n ap' ai) (sorted : IsSorted n ap' ai)
    (k_in : k < n) (scan : IsScan n (naturals ap') (naturals ai) t k m) (end_is : end ≡ get_or (naturals ap') (k + 1) 0)
    (so : IsReading (naturals ai) (get_or (naturals ap') k 0) end k m p) (first_is : first ≡ get_or (naturals ai) p 0)
    (is : j ≡ get_or (naturals ai) p 0) (inside : p < end) (below : first < k) where
  next_row : IsNextRow n (naturals ap') (naturals ai) t k m j
  next_row = let rising = sorted_form n ap' ai form sorted in
      let low = row_below first_is is below in
      let u = upper_next n (naturals ap') (naturals ai) rising t k m k_in scan end p j end_is so is inside low in record {
        upper = u;
        new = upper_new n (naturals ap') (naturals ai) rising t k m k_in scan j u.up u.pair u.low u.gap;
        after = upper_after n (naturals ap') (naturals ai) rising t k m k_in scan j u.up u.pair u.low u.gap;
        scan = upper_scan n (naturals ap') (naturals ai) rising t k m k_in scan j u.up u.pair u.low u.gap;
      }

pub arc-requires : goal.arc-requires
arc-requires g c =
    let i = c.upper.invariant.1 in let r = c.requires in
    let row = next_row r.form r.sorted r.k_in i.scan c.count_at-end.ensures.count i.place c.count_at.ensures.count
    c.count_at-j.ensures.count c.upper-test.true c.if-count_at-k.true in
    (_, _, _, i.held, row.new.0)

pub arc-requires-in-upper : goal.arc-requires-in-upper
arc-requires-in-upper g c =
    let i = c.upper.invariant.1 in let r = c.requires in
    let row = next_row r.form r.sorted r.k_in i.scan c.count_at-end.ensures.count i.place c.count_at.ensures.count
    c.count_at-j.ensures.count c.upper-test.true c.if-count_at-k.true in
    (_, _, _, c.arc.ensures.held _ _ _ i.held row.new.0, row.new.1)

-- the clauses have an answer each: stated as one goal, they take far longer to check
pub lower-requires-clause-form : goal.lower-requires-clause-form
lower-requires-clause-form g c = c.requires.form

pub lower-requires-clause-sorted : goal.lower-requires-clause-sorted
lower-requires-clause-sorted g c = c.requires.sorted

pub lower-requires-clause-fits : goal.lower-requires-clause-fits
lower-requires-clause-fits g c = c.requires.fits

pub lower-requires-clause-before : goal.lower-requires-clause-before
lower-requires-clause-before g c = row_below c.count_at.ensures.count c.count_at-j.ensures.count c.if-count_at-k.true

pub lower-requires-clause-k_in : goal.lower-requires-clause-k_in
lower-requires-clause-k_in g c = le_of_lt c.requires.k_in

pub lower-requires-clause-mirror : goal.lower-requires-clause-mirror
lower-requires-clause-mirror g c = λ x.
    let i = c.upper.invariant.1 in let r = c.requires in
    (next_row r.form r.sorted r.k_in i.scan c.count_at-end.ensures.count i.place c.count_at.ensures.count
    c.count_at-j.ensures.count c.upper-test.true c.if-count_at-k.true).upper.pair

pub lower-requires-clause-scan : goal.lower-requires-clause-scan
lower-requires-clause-scan g c =
    let i = c.upper.invariant.1 in let r = c.requires in
    (next_row r.form r.sorted r.k_in i.scan c.count_at-end.ensures.count i.place c.count_at.ensures.count
    c.count_at-j.ensures.count c.upper-test.true c.if-count_at-k.true).scan

pub lower-requires-clause-held : goal.lower-requires-clause-held
lower-requires-clause-held g c =
    let i = c.upper.invariant.1 in let r = c.requires in
    let row = next_row r.form r.sorted r.k_in i.scan c.count_at-end.ensures.count i.place c.count_at.ensures.count
    c.count_at-j.ensures.count c.upper-test.true c.if-count_at-k.true in
    let n = c.args.size in let k = c.args.k in let j = c.count_at-j.result in
    let ap' = naturals (map g.I.Index.value c.args.a_p.now) in let ai = naturals (map g.I.Index.value c.args.a_i.now) in
    let arcs = (arcs_of (edges_until (is_entry n ap' ai) k c.upper.invariant.0) ++ (j, k) ∷ []) ++ (k, j) ∷ [] in (
      arcs,
      subst (λ s. g.V.Visitor.holds (count_graph n ap' ai) s arcs c.arc-in-upper.new.self) row.after
          (c.arc-in-upper.ensures.held _ _ _ (c.arc.ensures.held _ _ _ i.held row.new.0) row.new.1),
    )

pub upper-preserved : goal.upper-preserved
upper-preserved g c =
    let i = c.upper.invariant.1 in let r = c.requires in let m = c.upper.invariant.0 in let k = c.args.k in
    let n = c.args.size in let j = c.count_at-j.result in
    let ap' = naturals (map g.I.Index.value c.args.a_p.now) in let ai = naturals (map g.I.Index.value c.args.a_i.now) in
    let form = sorted_form n (map g.I.Index.value c.args.a_p.now) (map g.I.Index.value c.args.a_i.now) r.form r.sorted in
    let row = next_row r.form r.sorted r.k_in i.scan c.count_at-end.ensures.count i.place c.count_at.ensures.count
    c.count_at-j.ensures.count c.upper-test.true c.if-count_at-k.true in
    let arcs = (arcs_of (edges_until (is_entry n ap' ai) k m) ++ (j, k) ∷ []) ++ (k, j) ∷ [] in
    let u = row.upper in let e = c.lower.ensures in (
      j + 1,
      record {
        place = reading_next n ap' ai form k (get_or ap' k 0) c.count_at-end.result k m c.upper.place j r.k_in (le_refl (get_or ap' k 0))
            c.count_at-end.ensures.count i.place c.count_at-j.ensures.count c.upper-test.true u.up;
        room = e.room ∙ i.room;
        kept = e.kept ∙ c.arc-in-upper.ensures.kept ∙ c.arc.ensures.kept ∙ i.kept;
        scan = e.scan;
        held = subst (λ l. g.V.Visitor.holds (count_graph n ap' ai) (met n ap' ai c.lower.new.next.items k (j + 1)) l c.lower.new.visitor)
            (until_next (is_entry n ap' ai) k m j u.low u.gap u.pair)
            (e.held arcs (subst (λ s. g.V.Visitor.holds (count_graph n ap' ai) s arcs c.arc-in-upper.new.self) row.after
            (c.arc-in-upper.ensures.held _ _ _ (c.arc.ensures.held _ _ _ i.held row.new.0) row.new.1)));
      },
    )

pub upper-init : goal.upper-init
upper-init g c =
    let r = c.requires in
    let n = c.args.size in let k = c.args.k in
    let ap' = naturals (map g.I.Index.value c.args.a_p.now) in let ai = naturals (map g.I.Index.value c.args.a_i.now) in
    let form = sorted_form n (map g.I.Index.value c.args.a_p.now) (map g.I.Index.value c.args.a_i.now) r.form r.sorted in (
      0,
      record {
        place = reading_start ai (get_or ap' k 0) c.count_at-end.result k c.count_at-place.result c.count_at-place.ensures.count
            (row_from (sym c.count_at-end.ensures.count) (form.rising k r.k_in));
        room = refl;
        kept = refl;
        scan = r.scan;
        held = subst (λ l. g.V.Visitor.holds (count_graph n ap' ai) (met n ap' ai c.args.next.now.items k 0) (arcs_of l)
            c.args.visitor.now)
            (sym (until_start (is_entry n ap' ai) k)) r.held;
      },
    )

pub cell_of-requires : goal.cell_of-requires
cell_of-requires g c =
    let r = c.requires in let to = c.upper.invariant.1.place.to in
    place_up c.args.size (map g.I.Index.value c.args.a_p.now) (map g.I.Index.value c.args.a_i.now) r.form r.k_in
    c.count_at-end.ensures.count (elim c.if-diagonal.branch [
      | then-diagonal w ↦ (let is = w.place-is in let inside = diagonal_inside w.if-diagonal.true in omega (arith, is, inside))
      | else-diagonal w ↦ (let is = w.place-is in omega (arith, is, to))
    ]) r.fits
  where
    diagonal_inside : c.if-place-end.diagonal ≡ true → c.upper.place < c.count_at-end.result
    diagonal_inside e = elim c.if-place-end.branch [
      | then-place-end w ↦ w.if-place-end.true
      | else-place-end w ↦ absurd (true≢false (sym e ∙ w.diagonal-is ∙ le-ltb c.upper.place c.count_at-end.result w.if-place-end.false))
    ]

pub returns : goal.returns
returns g c =
    let v = c.upper.invariant.1 in let i = v.place in let r = c.requires in
    let m = c.upper.invariant.0 in let t = c.upper.next.items in let k = c.args.k in let p = c.upper.place in let n = c.args.size in
    let ap' = naturals (map g.I.Index.value c.args.a_p.now) in let ai = naturals (map g.I.Index.value c.args.a_i.now) in
    let form = sorted_form n (map g.I.Index.value c.args.a_p.now) (map g.I.Index.value c.args.a_i.now) r.form r.sorted in
    let ends = c.count_at-end.ensures.count in
    let to = le_trans i.to (le_of_eq ends) in
    let diagonal = c.if-place-end.diagonal in let next = c.if-diagonal.place in
    let stop : p < get_or ap' (k + 1) 0 → k ≤ get_or ai p 0 = λ inside. elim c.upper-test.branch [
      | then-upper-test+else-count_at-k w ↦ row_from w.count_at.ensures.count w.if-count_at-k.false
      | else-upper-test w ↦ absurd (past_end ends w.upper-test.false inside)
    ] in
    let found : diagonal ≡ true → (p < get_or ap' (k + 1) 0) × (get_or ai p 0 ≡ k) = λ e. elim c.if-place-end.branch [
      | then-place-end w ↦ (
        before_end ends w.if-place-end.true,
        sym w.count_at-then-place-end.ensures.count ∙ eqb-true w.count_at-then-place-end.result k (sym w.diagonal-is ∙ e),
      )
      | else-place-end w ↦ absurd (true≢false (sym e ∙ w.diagonal-is ∙ le-ltb p c.count_at-end.result w.if-place-end.false))
    ] in
    let missed : diagonal ≡ false → p < get_or ap' (k + 1) 0 → get_or ai p 0 ≢ k = λ e inside. elim c.if-place-end.branch [
      | then-place-end w ↦ λ same. eqb-false w.count_at-then-place-end.result k (sym w.diagonal-is ∙ e)
          (w.count_at-then-place-end.ensures.count ∙ same)
      | else-place-end w ↦ absurd (past_end ends w.if-place-end.false inside)
    ] in
    let over : IsOver n ap' ai t k m next diagonal = elim c.if-diagonal.branch [
      | then-diagonal w ↦ (let is = found w.if-diagonal.true in
          over_entry n ap' ai form t k m r.k_in v.scan p i.from stop i.low i.read to next diagonal w.if-diagonal.true w.place-is is.0
          is.1)
      | else-diagonal w ↦ over_none n ap' ai form t k m r.k_in v.scan p i.from stop i.low i.read to next diagonal w.if-diagonal.false
          w.place-is
          (missed w.if-diagonal.false)
    ] in
    let items = ap (λ x. t ++ x ∷ []) (sym c.cell_of.ensures) ∙ sym c.push_reserved.ensures.items in
    record {
      scan = subst (λ l. IsScan n ap' ai l (k + 1) 0) items over.scan;
      held = subst₂ (λ s l. g.V.Visitor.holds (count_graph n ap' ai) s (arcs_of l) c.upper.visitor)
          (over.same ∙ ap (λ l. met n ap' ai l (k + 1) 0) items)
          (sym (until_end (is_entry n ap' ai) k m i.low (exit_gap n ap' ai form t k m r.k_in v.scan p i.from stop i.low i.read))) v.held;
      room = c.push_reserved.ensures.capacity ∙ v.room;
      kept = v.kept;
      diagonal = over.entry;
    }

pub count_at-end-requires-clause-within : goal.count_at-end-requires-clause-within
count_at-end-requires-clause-within g c = (pointer_read g.I.Index.value c.args.a_p.now c.args.a_i.now c.args.size
    c.requires.form (c.args.k + 1) (let l = c.requires.k_in in omega (arith, l)) (omega (arith, c.well_formed))).0

pub count_at-place-requires-clause-within : goal.count_at-place-requires-clause-within
count_at-place-requires-clause-within g c = (pointer_read g.I.Index.value c.args.a_p.now c.args.a_i.now c.args.size
    c.requires.form c.args.k (le_of_lt c.requires.k_in) (omega (arith, c.well_formed))).0

pub overflow_add-k : goal.overflow_add-k
overflow_add-k g c = let l = c.requires.k_in in let top = c.ranges.size.fits in omega (arith, l, top)

pub push_reserved-requires : goal.push_reserved-requires
push_reserved-requires g c =
    let i = c.upper.invariant.1 in lt_of_lt_of_le (lt_of_le_of_lt (le_of_eq (c.upper.next.ok.0 ∙ i.scan.size)) c.requires.k_in)
    (le_trans c.requires.room (le_of_eq (sym i.room)))

pub overflow_add-place : goal.overflow_add-place
overflow_add-place g c =
    let inside = place_in g.I.Index.value c.args.a_i.now c.args.size (map g.I.Index.value c.args.a_p.now) c.requires.form c.args.k
    c.upper.place c.count_at-end.result c.requires.k_in c.count_at-end.ensures.count c.upper-test.true in
    omega (arith, inside, c.well_formed)

pub upper-smaller : goal.upper-smaller
upper-smaller g c = falls c.count_at-end.result c.upper.place c.upper-test.true
