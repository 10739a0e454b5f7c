-- The lower entries that were not read yet reach to the end of the column.
use Rattle.std.proofs.Common.{◌≡◌, ◌+◌, ◌<◌, ◌++◌, ◌^◌, arith, map}
use Rattle.std.proofs.Common.{get_or, set, refl, sym, ◌∙◌, subst, le_refl, le_of_eq, lt_of_lt_of_le}
use Rattle.std.proofs.lemmas.List.{length-map}
use Rattle.std.proofs.lemmas.Grind.{get_or_default_zero}
use Rattle.amd_types.specs.Naturals.{naturals, count_graph, is_entry}
use Rattle.amd_model.specs.Quotient.{met_below}
use Rattle.amd_edges.specs.Visits.{arcs_of}
use Rattle.amd_edges.specs.Walk.{IsReadTo, IsScan, met}
use Rattle.amd_edges.proofs.Forms.{pointer_fits, pointer_read, place_up, sorted_form}
use Rattle.amd_edges.proofs.Scans.{scan_ended}
use Rattle.amd_edges.proofs.walk.column_rest.Goals as goal

pub count_at-requires-clause-fits : goal.count_at-requires-clause-fits
count_at-requires-clause-fits g c = pointer_fits c.args.size (map g.I.Index.value c.args.a_p.now)
    (map g.I.Index.value c.args.a_i.now) c.requires.form (c.args.j + 1) (let a = c.requires.row in omega (arith, a))
    (subst (λ x. x < 2 ^ 64) (sym (length-map c.args.a_i.now g.I.Index.value)) (omega (arith, c.well_formed)))

pub cell_of-requires : goal.cell_of-requires
cell_of-requires g c =
    place_up c.args.size (map g.I.Index.value c.args.a_p.now) (map g.I.Index.value c.args.a_i.now) c.requires.form c.requires.row
    c.count_at.ensures.count (le_refl c.count_at.result) c.requires.fits

pub column_end-requires-clause-held : goal.column_end-requires-clause-held
column_end-requires-clause-held g c =
    let r = c.requires in let t = c.args.next.now.items in let j = c.args.j in
    let is : c.number_of-first.result ≡ get_or t j 0 = c.number_of-first.ensures.is ∙ c.index.ensures
    ∙ get_or_default_zero t j c.index.result.now (lt_of_lt_of_le r.row (le_of_eq (sym r.scan.size))) in
    (t, r.held.0, record { scan = r.scan; place = sym is }, r.held.1)

pub returns-clause-scan : goal.returns-clause-scan
returns-clause-scan g c =
    let r = c.requires in let n = c.args.size in let j = c.args.j in let t = c.args.next.now.items in
    let ap' = naturals (map g.I.Index.value c.args.a_p.now) in let ai = naturals (map g.I.Index.value c.args.a_i.now) in
    let form = sorted_form n (map g.I.Index.value c.args.a_p.now) (map g.I.Index.value c.args.a_i.now) r.form r.sorted in
    subst (λ x. IsScan n ap' ai (set t j x) n (j + 1)) (sym (c.cell_of.ensures ∙ c.count_at.ensures.count))
    (scan_ended n ap' ai form t j r.row r.scan)

pub returns-clause-held : goal.returns-clause-held
returns-clause-held g c =
    let r = c.requires in let n = c.args.size in let j = c.args.j in let t = c.args.next.now.items in
    let ap' = naturals (map g.I.Index.value c.args.a_p.now) in let ai = naturals (map g.I.Index.value c.args.a_i.now) in
    let is : c.number_of-first.result ≡ get_or t j 0 = c.number_of-first.ensures.is ∙ c.index.ensures
    ∙ get_or_default_zero t j c.index.result.now (lt_of_lt_of_le r.row (le_of_eq (sym r.scan.size))) in
    let so : IsReadTo n (map g.I.Index.value c.args.a_p.now) (map g.I.Index.value c.args.a_i.now) t j c.number_of-first.result =
    record { scan = r.scan; place = sym is } in
    λ arcs h. subst (λ x. g.V.Visitor.holds (count_graph n ap' ai) (met n ap' ai (set t j x) n (j + 1))
    (arcs ++ arcs_of (met_below (is_entry n ap' ai) n j)) c.column_end.new.visitor)
    (sym (c.cell_of.ensures ∙ c.count_at.ensures.count)) (c.column_end.ensures.held t arcs so h)

pub index-requires : goal.index-requires
index-requires g c = lt_of_lt_of_le c.requires.row (le_of_eq (sym (c.args.next.now.ok.0 ∙ c.requires.scan.size)))

pub index_mut-requires : goal.index_mut-requires
index_mut-requires g c = lt_of_lt_of_le c.requires.row (le_of_eq (sym (c.args.next.now.ok.0 ∙ c.requires.scan.size)))

pub column_end-requires-clause-form : goal.column_end-requires-clause-form
column_end-requires-clause-form g c = c.requires.form

pub column_end-requires-clause-sorted : goal.column_end-requires-clause-sorted
column_end-requires-clause-sorted g c = c.requires.sorted

pub column_end-requires-clause-row : goal.column_end-requires-clause-row
column_end-requires-clause-row g c = c.requires.row

pub overflow_add-j : goal.overflow_add-j
overflow_add-j g c = let l = c.requires.row in let top = c.ranges.size.fits in omega (arith, l, top)

pub count_at-requires-clause-within : goal.count_at-requires-clause-within
count_at-requires-clause-within g c = (pointer_read g.I.Index.value c.args.a_p.now c.args.a_i.now c.args.size
    c.requires.form (c.args.j + 1) (let l = c.requires.row in omega (arith, l)) (omega (arith, c.well_formed))).0

pub returns-clause-room : goal.returns-clause-room
returns-clause-room g c = refl

pub returns-clause-kept : goal.returns-clause-kept
returns-clause-kept g c = c.column_end.ensures.kept
