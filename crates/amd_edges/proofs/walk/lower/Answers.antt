use Rattle.std.proofs.Common.{◌≡◌, ◌+◌, ◌<◌, ◌≤◌, ◌++◌, ◌^◌, ℕ, suc, arith, map}
use Rattle.std.proofs.Common.{get_or, set, ap, sym, refl, ◌∙◌, subst, subst₂, le_trans}
use Rattle.std.proofs.Common.{le_of_eq, lt_of_lt_of_le, le-add_right}
use Rattle.std.proofs.lemmas.List.{length-map}
use Rattle.std.proofs.lemmas.Grind.{get_or_default_zero}
use borrow.Author.Count.{falls}
use Rattle.amd_types.specs.Naturals.{naturals, count_graph, is_entry}
use Rattle.amd_edges.specs.Visits.{arcs_of}
use Rattle.amd_edges.specs.Walk.{IsScan, met}
use Rattle.amd_edges.proofs.Orders.{met_above, above_start, above_push, above_end}
use Rattle.amd_edges.proofs.Forms.{pointer_fits, pointer_read, row_fits, place_in, place_up, sorted_form}
use Rattle.amd_edges.proofs.Reading.{row_from, row_past, before_end, past_end, next_upto}
use Rattle.amd_edges.proofs.Reading.{reading_start, reading_next, reading_behind, reading_behind_next}
use Rattle.amd_edges.proofs.Scans.{met_still, lower_mirror, lower_end, lower_behind, lower_next}
use Rattle.amd_edges.proofs.NextRows.{next_row}
use Rattle.amd_edges.proofs.walk.lower.Goals as goal
use Rattle.amd_edges.proofs.walk.lower.Goals.{then-place-end+then-count_at-k-2, else-place-end}
use Rattle.amd_edges.proofs.walk.lower.Goals.{else-place-end-via-then-place-end+else-count_at-k-2, else-place-end-via-else-place-end}
use Rattle.amd_edges.proofs.walk.lower.Goals.{then-rows-test+else-count_at-k, else-rows-test}

pub count_at-end-requires-clause-fits : goal.count_at-end-requires-clause-fits
count_at-end-requires-clause-fits g c = pointer_fits c.args.size (map g.I.Index.value c.args.a_p.now)
    (map g.I.Index.value c.args.a_i.now) c.requires.form (c.args.j + 1)
    (let a = c.requires.before in let b = c.requires.k_in in omega (arith, a, b))
    (subst (λ x. x < 2 ^ 64) (sym (length-map c.args.a_i.now g.I.Index.value)) (omega (arith, c.well_formed)))

pub count_at-requires-clause-within : goal.count_at-requires-clause-within
count_at-requires-clause-within g c = place_in g.I.Index.value c.args.a_i.now c.args.size (map g.I.Index.value c.args.a_p.now)
    c.requires.form c.args.j c.rows.place
    c.count_at-end.result (lt_of_lt_of_le c.requires.before c.requires.k_in) c.count_at-end.ensures.count c.rows-test.true

pub count_at-requires-clause-fits : goal.count_at-requires-clause-fits
count_at-requires-clause-fits g c = row_fits c.args.size (map g.I.Index.value c.args.a_p.now) (map g.I.Index.value c.args.a_i.now)
    c.requires.form c.args.j
    c.rows.place (lt_of_lt_of_le c.requires.before c.requires.k_in) (before_end c.count_at-end.ensures.count c.rows-test.true)
    c.ranges.size.fits

pub count_at-requires-in-rows-clause-within : goal.count_at-requires-in-rows-clause-within
count_at-requires-in-rows-clause-within g c = place_in g.I.Index.value c.args.a_i.now c.args.size (map g.I.Index.value c.args.a_p.now)
    c.requires.form c.args.j c.rows.place
    c.count_at-end.result (lt_of_lt_of_le c.requires.before c.requires.k_in) c.count_at-end.ensures.count c.rows-test.true

pub count_at-requires-in-rows-clause-fits : goal.count_at-requires-in-rows-clause-fits
count_at-requires-in-rows-clause-fits g c = row_fits c.args.size (map g.I.Index.value c.args.a_p.now)
    (map g.I.Index.value c.args.a_i.now) c.requires.form c.args.j
    c.rows.place (lt_of_lt_of_le c.requires.before c.requires.k_in) (before_end c.count_at-end.ensures.count c.rows-test.true)
    c.ranges.size.fits

pub count_at-requires-then-place-end-clause-within : goal.count_at-requires-then-place-end-clause-within
count_at-requires-then-place-end-clause-within g c = place_in g.I.Index.value c.args.a_i.now c.args.size
    (map g.I.Index.value c.args.a_p.now) c.requires.form c.args.j c.rows.place
    c.count_at-end.result (lt_of_lt_of_le c.requires.before c.requires.k_in) c.count_at-end.ensures.count c.if-place-end.true

pub count_at-requires-then-place-end-clause-fits : goal.count_at-requires-then-place-end-clause-fits
count_at-requires-then-place-end-clause-fits g c = row_fits c.args.size (map g.I.Index.value c.args.a_p.now)
    (map g.I.Index.value c.args.a_i.now) c.requires.form c.args.j
    c.rows.place (lt_of_lt_of_le c.requires.before c.requires.k_in) (before_end c.count_at-end.ensures.count c.if-place-end.true)
    c.ranges.size.fits

pub rows-init : goal.rows-init
rows-init g c =
    let r = c.requires in
    let n = c.args.size in let j = c.args.j in let k = c.args.k in let t = c.args.next.now.items in
    let ap' = naturals (map g.I.Index.value c.args.a_p.now) in let ai = naturals (map g.I.Index.value c.args.a_i.now) in
    let form = sorted_form n (map g.I.Index.value c.args.a_p.now) (map g.I.Index.value c.args.a_i.now) r.form r.sorted in
    let place = c.number_of-place.result in
    let is : place ≡ get_or t j 0 = c.number_of-place.ensures.is ∙ c.index.ensures
    ∙ get_or_default_zero t j c.index.result.now (before_end (sym r.scan.size) r.before) in
    let stop = r.scan.stop j r.before (lt_of_lt_of_le r.before r.k_in) in (
      0,
      record {
        place = reading_start ai (get_or t j 0) c.count_at-end.result k place is (row_from (sym c.count_at-end.ensures.count) stop);
        kept = refl;
        held = λ arcs h. subst₂ (λ s l. g.V.Visitor.runs (count_graph n ap' ai) s l j c.begin-mark.result c.args.visitor.now)
            (met_still n ap' ai form t k (j + 1) j place is) (above_start (is_entry n ap' ai) k j arcs)
            (c.begin-mark.ensures (count_graph n ap' ai) (met n ap' ai t k (j + 1)) arcs h);
      },
    )

pub begin-mark-requires : goal.begin-mark-requires
begin-mark-requires g c = let r = c.requires in (_, _, r.held.0, r.held.1, lt_of_lt_of_le r.before r.k_in)

pub edge-mark-requires : goal.edge-mark-requires
edge-mark-requires g c =
    let v = c.rows.invariant.1 in let r = c.requires in
    let next = next_row r.form r.sorted r.before r.k_in r.scan c.count_at-end.ensures.count v.place c.count_at.ensures.count
    c.count_at-in-rows.ensures.count c.rows-test.true c.if-count_at-k.true in
    (_, _, _, v.held _ r.held.1, next.new)

pub end-requires : goal.end-requires
end-requires g c = let r = c.requires in (_, _, _, c.rows.invariant.1.held _ r.held.1, lt_of_lt_of_le r.before r.k_in)

pub cell_of-requires : goal.cell_of-requires
cell_of-requires g c =
    let r = c.requires in let ends = c.count_at-end.ensures.count in let to = c.rows.invariant.1.place.to in
    place_up c.args.size (map g.I.Index.value c.args.a_p.now) (map g.I.Index.value c.args.a_i.now) r.form
    (lt_of_lt_of_le r.before r.k_in) ends (elim c.if-place-end.branch [
      | then-place-end+then-count_at-k-2 w ↦ (let is = w.place-is in let inside = w.if-place-end.true in omega (arith, is, inside))
      | else-place-end w ↦ (let is = w.place-is in omega (arith, is, to))
    ]) r.fits

pub rows-preserved : goal.rows-preserved
rows-preserved g c =
    let b = c.rows.invariant.0 in let v = c.rows.invariant.1 in let i = v.place in let r = c.requires in
    let n = c.args.size in let j = c.args.j in let k = c.args.k in let q = c.rows.place in let t = c.args.next.now.items in
    let ap' = naturals (map g.I.Index.value c.args.a_p.now) in let ai = naturals (map g.I.Index.value c.args.a_i.now) in
    let form = sorted_form n (map g.I.Index.value c.args.a_p.now) (map g.I.Index.value c.args.a_i.now) r.form r.sorted in
    let row = c.count_at-in-rows.result in let same = c.count_at-in-rows.ensures.count in
    let next = next_row r.form r.sorted r.before r.k_in r.scan c.count_at-end.ensures.count i c.count_at.ensures.count same
    c.rows-test.true c.if-count_at-k.true in
    let row_in = lt_of_lt_of_le r.before r.k_in in (
      row + 1,
      record {
        place = reading_next n ap' ai form j (get_or t j 0) c.count_at-end.result k b q row row_in (r.scan.start j r.before row_in)
            c.count_at-end.ensures.count i same c.rows-test.true next.below;
        kept = c.edge-mark.ensures.kept ∙ v.kept;
        held = λ arcs h. subst₂ (λ s l. g.V.Visitor.runs (count_graph n ap' ai) s l j c.edge-mark.result c.edge-mark.new.self) next.after
            (above_push n ap' ai form t k j q r.scan r.before r.k_in i.from b i.read row same next.inside next.least arcs)
            (c.edge-mark.ensures.held (count_graph n ap' ai) (met n ap' ai (set t j q) k (j + 1))
            (arcs ++ arcs_of (met_above (is_entry n ap' ai) k j b)) (v.held arcs h) next.new);
      },
    )

pub returns : goal.returns
returns g c =
    let b = c.rows.invariant.0 in let v = c.rows.invariant.1 in let i = v.place in let r = c.requires in
    let n = c.args.size in let j = c.args.j in let k = c.args.k in let q = c.rows.place in let t = c.args.next.now.items in
    let ap' = naturals (map g.I.Index.value c.args.a_p.now) in let ai = naturals (map g.I.Index.value c.args.a_i.now) in
    let form = sorted_form n (map g.I.Index.value c.args.a_p.now) (map g.I.Index.value c.args.a_i.now) r.form r.sorted in
    let ends = c.count_at-end.ensures.count in
    let row : j < n = lt_of_lt_of_le r.before r.k_in in
    let stop : q < get_or ap' (j + 1) 0 → k ≤ get_or ai q 0 = λ inside. elim c.rows-test.branch [
      | then-rows-test+else-count_at-k w ↦ row_from w.count_at.ensures.count w.if-count_at-k.false
      | else-rows-test w ↦ absurd (past_end ends w.rows-test.false inside)
    ] in
    let left = lower_behind n ap' ai form t k j q r.scan r.before r.k_in i.from k stop in
    let all = above_end n ap' ai form t k j q r.scan r.before r.k_in i.from b i.read i.low left in
    let moved : (x y : ℕ) → x ≡ y → met n ap' ai (set t j y) k (j + 1) ≡ met n ap' ai (set t j x) k (j + 1) =
    λ x y e. ap (λ z. met n ap' ai (set t j z) k (j + 1)) (sym e) in
    elim c.if-place-end.branch [
      | then-place-end+then-count_at-k-2 w ↦ (
          let same = w.count_at-then-place-end.ensures.count in
          let inside = before_end ends w.if-place-end.true in
          let here = w.if-count_at-k-2.true in
          let from : get_or t j 0 ≤ q + 1 = le_trans i.from (le-add_right q 1) in
          record {
            scan = subst (λ x. IsScan n ap' ai (set t j x) k (j + 1)) (sym (c.cell_of.ensures ∙ w.place-is))
                (lower_end n ap' ai form t k j (q + 1) r.scan r.before r.k_in from (next_upto inside) r.mirror
                (reading_behind_next i (sym same ∙ here))
                (lower_next n ap' ai form t k j q r.scan r.before r.k_in i.from w.count_at-then-place-end.result same inside here));
            held = λ arcs h. subst₂ (λ s l. g.V.Visitor.holds (count_graph n ap' ai) s l c.end.new.self)
                (sym (lower_mirror n ap' ai form t k j q r.scan r.before r.k_in i.from w.count_at-then-place-end.result same inside here
                r.mirror)
                ∙ moved c.cell_of.result (q + 1) (c.cell_of.ensures ∙ w.place-is))
                (ap (λ l. arcs ++ arcs_of l) (sym all)) (c.end.ensures.held (count_graph n ap' ai) (met n ap' ai (set t j q) k (j + 1))
                (arcs ++ arcs_of (met_above (is_entry n ap' ai) k j b)) (v.held arcs h) row);
            room = refl;
            kept = c.end.ensures.kept ∙ v.kept;
          })
      | else-place-end w ↦ (
          let other : q < get_or ap' (j + 1) 0 → k < get_or ai q 0 = λ inside. elim w.else-place-end.branch [
            | else-place-end-via-then-place-end+else-count_at-k-2 u ↦
                row_past u.count_at-then-place-end.ensures.count u.if-count_at-k-2.false (stop inside)
            | else-place-end-via-else-place-end u ↦ absurd (past_end ends u.if-place-end.false inside)
          ] in
          record {
            scan = subst (λ x. IsScan n ap' ai (set t j x) k (j + 1)) (sym (c.cell_of.ensures ∙ w.place-is))
                (lower_end n ap' ai form t k j q r.scan r.before r.k_in i.from (le_trans i.to (le_of_eq ends)) r.mirror
                (reading_behind i) (lower_behind n ap' ai form t k j q r.scan r.before r.k_in i.from (suc k) other));
            held = λ arcs h. subst₂ (λ s l. g.V.Visitor.holds (count_graph n ap' ai) s l c.end.new.self)
                (moved c.cell_of.result q (c.cell_of.ensures ∙ w.place-is)) (ap (λ l. arcs ++ arcs_of l) (sym all))
                (c.end.ensures.held (count_graph n ap' ai) (met n ap' ai (set t j q) k (j + 1))
                (arcs ++ arcs_of (met_above (is_entry n ap' ai) k j b)) (v.held arcs h) row);
            room = refl;
            kept = c.end.ensures.kept ∙ v.kept;
          })
    ]

pub count_at-end-requires-clause-within : goal.count_at-end-requires-clause-within
count_at-end-requires-clause-within g c = (pointer_read g.I.Index.value c.args.a_p.now c.args.a_i.now c.args.size
    c.requires.form (c.args.j + 1) (let a = c.requires.before in let b = c.requires.k_in in omega (arith, a, b))
    (omega (arith, c.well_formed))).0

pub overflow_add-j : goal.overflow_add-j
overflow_add-j g c = let a = c.requires.before in let b = c.requires.k_in in let top = c.ranges.size.fits in omega (arith, a, b, top)

pub index-requires : goal.index-requires
index-requires g c = lt_of_lt_of_le c.requires.before (le_of_eq (sym (c.args.next.now.ok.0 ∙ c.requires.scan.size)))

pub index_mut-requires : goal.index_mut-requires
index_mut-requires g c = lt_of_lt_of_le c.requires.before (le_of_eq (sym (c.args.next.now.ok.0 ∙ c.requires.scan.size)))

pub rows-smaller : goal.rows-smaller
rows-smaller g c = falls c.count_at-end.result c.rows.place c.rows-test.true

pub overflow_add-place : goal.overflow_add-place
overflow_add-place g c =
    let inside = place_in g.I.Index.value c.args.a_i.now c.args.size (map g.I.Index.value c.args.a_p.now) c.requires.form c.args.j
    c.rows.place c.count_at-end.result (lt_of_lt_of_le c.requires.before c.requires.k_in) c.count_at-end.ensures.count
    c.rows-test.true in omega (arith, inside, c.well_formed)
