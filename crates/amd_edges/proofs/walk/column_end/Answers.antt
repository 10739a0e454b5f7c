-- What is left of the column reaches to its end, and each row is below the size.
use Rattle.std.proofs.Common.{◌+◌, ◌<◌, ◌++◌, ◌^◌, arith, map}
use Rattle.std.proofs.Common.{set, ap, sym, refl, ◌∙◌, subst, subst₂, le_refl, le_of_eq, le_trans}
use Rattle.std.proofs.lemmas.List.{length-map}
use Rattle.amd_types.specs.Naturals.{naturals, count_graph, is_entry}
use Rattle.amd_edges.specs.Visits.{arcs_of}
use Rattle.amd_edges.specs.Walk.{met}
use Rattle.amd_edges.proofs.Orders.{met_above, above_start, above_push, above_end}
use Rattle.amd_edges.proofs.Forms.{pointer_fits, pointer_read, row_fits, place_in, sorted_form}
use Rattle.amd_edges.proofs.Reading.{row_from, before_end, past_end, reading_start, reading_next, reading_of, reading_end, row_in}
use Rattle.amd_edges.proofs.Scans.{met_still, lower_behind}
use Rattle.amd_edges.proofs.NextRows.{next_row}
use Rattle.amd_edges.proofs.walk.column_end.Goals as goal

pub count_at-end-requires-clause-fits : goal.count_at-end-requires-clause-fits
count_at-end-requires-clause-fits g c = pointer_fits c.args.size (map g.I.Index.value c.args.a_p.now)
    (map g.I.Index.value c.args.a_i.now) c.requires.form (c.args.j + 1) (let a = c.requires.row in omega (arith, a))
    (subst (λ x. x < 2 ^ 64) (sym (length-map c.args.a_i.now g.I.Index.value)) (omega (arith, c.well_formed)))

pub count_at-requires-clause-within : goal.count_at-requires-clause-within
count_at-requires-clause-within g c = place_in g.I.Index.value c.args.a_i.now c.args.size (map g.I.Index.value c.args.a_p.now)
    c.requires.form c.args.j c.rows.place c.count_at-end.result c.requires.row c.count_at-end.ensures.count c.rows-test.true

pub count_at-requires-clause-fits : goal.count_at-requires-clause-fits
count_at-requires-clause-fits g c = row_fits c.args.size (map g.I.Index.value c.args.a_p.now) (map g.I.Index.value c.args.a_i.now)
    c.requires.form c.args.j c.rows.place c.requires.row (before_end c.count_at-end.ensures.count c.rows-test.true)
    c.ranges.size.fits

pub rows-init : goal.rows-init
rows-init g c =
    let r = c.requires in let n = c.args.size in let j = c.args.j in
    let ap' = naturals (map g.I.Index.value c.args.a_p.now) in let ai = naturals (map g.I.Index.value c.args.a_i.now) in
    let form = sorted_form n (map g.I.Index.value c.args.a_p.now) (map g.I.Index.value c.args.a_i.now) r.form r.sorted in
    let at = r.held.2 in let stop = at.scan.stop j r.row r.row in (
      0,
      record {
        place = reading_start ai c.args.first c.count_at-end.result n c.args.first refl
            (row_from (sym c.count_at-end.ensures.count) (le_trans (le_of_eq (sym at.place)) stop));
        kept = refl;
        held = λ t arcs s h. subst₂ (λ x l. g.V.Visitor.runs (count_graph n ap' ai) x l j c.begin-mark.result c.args.visitor.now)
            (met_still n ap' ai form t n (j + 1) j c.args.first (sym s.place)) (above_start (is_entry n ap' ai) n j arcs)
            (c.begin-mark.ensures (count_graph n ap' ai) (met n ap' ai t n (j + 1)) arcs h);
      },
    )

pub edge-mark-requires : goal.edge-mark-requires
edge-mark-requires g c =
    let v = c.rows.invariant.1 in let r = c.requires in let same = c.count_at.ensures.count in
    let form = sorted_form c.args.size (map g.I.Index.value c.args.a_p.now) (map g.I.Index.value c.args.a_i.now) r.form r.sorted in
    let at = r.held.2 in let so = reading_of r.held.0 c.args.j at.place v.place in
    let below = row_in form at.scan r.row r.row so.from (before_end c.count_at-end.ensures.count c.rows-test.true) same in
    let next = next_row r.form r.sorted r.row (le_refl c.args.size) at.scan c.count_at-end.ensures.count so same same
    c.rows-test.true below in
    (_, _, _, v.held r.held.0 r.held.1 at r.held.3, next.new)

pub rows-preserved : goal.rows-preserved
rows-preserved g c =
    let b = c.rows.invariant.0 in let v = c.rows.invariant.1 in let i = v.place in let r = c.requires in
    let n = c.args.size in let j = c.args.j in let q = c.rows.place in
    let ap' = naturals (map g.I.Index.value c.args.a_p.now) in let ai = naturals (map g.I.Index.value c.args.a_i.now) in
    let form = sorted_form n (map g.I.Index.value c.args.a_p.now) (map g.I.Index.value c.args.a_i.now) r.form r.sorted in
    let row = c.count_at.result in let same = c.count_at.ensures.count in
    let at = r.held.2 in let from = (reading_of r.held.0 c.args.j at.place i).from in
    let below = row_in form at.scan r.row r.row from (before_end c.count_at-end.ensures.count c.rows-test.true) same in (
      row + 1,
      record {
        place = reading_next n ap' ai form j c.args.first c.count_at-end.result n b q row r.row
            (le_trans (at.scan.start j r.row r.row) (le_of_eq at.place)) c.count_at-end.ensures.count i same c.rows-test.true below;
        kept = c.edge-mark.ensures.kept ∙ v.kept;
        held = λ t arcs s h. (let so = reading_of t j s.place i in
            let next = next_row r.form r.sorted r.row (le_refl n) s.scan c.count_at-end.ensures.count so same same c.rows-test.true below in
            subst₂ (λ x l. g.V.Visitor.runs (count_graph n ap' ai) x l j c.edge-mark.result c.edge-mark.new.self) next.after
            (above_push n ap' ai form t n j q s.scan r.row (le_refl n) so.from b so.read row same next.inside next.least arcs)
            (c.edge-mark.ensures.held (count_graph n ap' ai) (met n ap' ai (set t j q) n (j + 1))
            (arcs ++ arcs_of (met_above (is_entry n ap' ai) n j b)) (v.held t arcs s h) next.new));
      },
    )

pub end-requires : goal.end-requires
end-requires g c =
    let v = c.rows.invariant.1 in let held = c.requires.held in (_, _, _, v.held held.0 held.1 held.2 held.3, c.requires.row)

pub returns-clause-held : goal.returns-clause-held
returns-clause-held g c =
    let b = c.rows.invariant.0 in let v = c.rows.invariant.1 in let i = v.place in let r = c.requires in
    let n = c.args.size in let j = c.args.j in let q = c.rows.place in
    let ap' = naturals (map g.I.Index.value c.args.a_p.now) in let ai = naturals (map g.I.Index.value c.args.a_i.now) in
    let form = sorted_form n (map g.I.Index.value c.args.a_p.now) (map g.I.Index.value c.args.a_i.now) r.form r.sorted in
    let ends = c.count_at-end.ensures.count in let past = c.rows-test.false in let end = reading_end i past ∙ ends in
    λ t arcs s h. (let so = reading_of t j s.place i in
    let left = lower_behind n ap' ai form t n j q s.scan r.row (le_refl n) so.from n (λ inside. absurd (past_end ends past inside)) in
    let all = above_end n ap' ai form t n j q s.scan r.row (le_refl n) so.from b so.read so.low left in
    subst₂ (λ x l. g.V.Visitor.holds (count_graph n ap' ai) (met n ap' ai (set t j x) n (j + 1)) l c.end.new.self)
    end (ap (λ l. arcs ++ arcs_of l) (sym all))
    (c.end.ensures.held (count_graph n ap' ai) (met n ap' ai (set t j q) n (j + 1))
    (arcs ++ arcs_of (met_above (is_entry n ap' ai) n j b)) (v.held t arcs s h) r.row))

pub returns-clause-kept : goal.returns-clause-kept
returns-clause-kept g c = c.end.ensures.kept ∙ c.rows.invariant.1.kept

pub count_at-end-requires-clause-within : goal.count_at-end-requires-clause-within
count_at-end-requires-clause-within g c = (pointer_read g.I.Index.value c.args.a_p.now c.args.a_i.now c.args.size
    c.requires.form (c.args.j + 1) (let l = c.requires.row in omega (arith, l)) (omega (arith, c.well_formed))).0

pub overflow_add-j : goal.overflow_add-j
overflow_add-j g c = let l = c.requires.row in let top = c.ranges.size.fits in omega (arith, l, top)
