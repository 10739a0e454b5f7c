-- Once the last column was read, every edge was met.
use Rattle.std.proofs.Common.{◌+◌, map, arith, sym, refl, ◌∙◌, subst}
use Rattle.amd_types.specs.Naturals.{naturals, count_graph, is_entry}
use Rattle.amd_edges.specs.Visits.{arcs_of}
use Rattle.amd_edges.specs.Walk.{met}
use Rattle.amd_edges.proofs.Forms.{sorted_form}
use Rattle.amd_edges.proofs.Ends.{rest_met}
use Rattle.amd_edges.proofs.Orders.{edges_after, after_start, after_next}
use Rattle.amd_edges.proofs.Walked.{all_walked}
use Rattle.amd_edges.proofs.walk.rest.Goals as goal

pub column_rest-requires-clause-form : goal.column_rest-requires-clause-form
column_rest-requires-clause-form g c = c.requires.form

pub column_rest-requires-clause-sorted : goal.column_rest-requires-clause-sorted
column_rest-requires-clause-sorted g c = c.requires.sorted

pub column_rest-requires-clause-fits : goal.column_rest-requires-clause-fits
column_rest-requires-clause-fits g c = c.requires.fits

pub column_rest-requires-clause-row : goal.column_rest-requires-clause-row
column_rest-requires-clause-row g c = c.columns-test.true

pub column_rest-requires-clause-scan : goal.column_rest-requires-clause-scan
column_rest-requires-clause-scan g c = c.columns.invariant.scan

pub column_rest-requires-clause-held : goal.column_rest-requires-clause-held
column_rest-requires-clause-held g c =
    let n = c.args.size in let j = c.columns.j in let t = c.columns.next.items in
    let ap' = naturals (map g.I.Index.value c.args.a_p.now) in let ai = naturals (map g.I.Index.value c.args.a_i.now) in
    let form = sorted_form n (map g.I.Index.value c.args.a_p.now) (map g.I.Index.value c.args.a_i.now) c.requires.form
    c.requires.sorted in
    let arcs = arcs_of (edges_after (is_entry n ap' ai) n j) in (
      arcs,
      subst (λ s. g.V.Visitor.holds (count_graph n ap' ai) s arcs c.columns.visitor) (sym (rest_met n ap' ai form t j))
          c.columns.invariant.held,
    )

pub columns-init : goal.columns-init
columns-init g c =
    let n = c.args.size in
    let ap' = naturals (map g.I.Index.value c.args.a_p.now) in let ai = naturals (map g.I.Index.value c.args.a_i.now) in
    record {
      room = refl;
      kept = refl;
      scan = c.requires.scan;
      held = subst (λ l. g.V.Visitor.holds (count_graph n ap' ai) (met n ap' ai c.args.next.now.items n 0) (arcs_of l) c.args.visitor.now)
          (sym (after_start (is_entry n ap' ai) n)) c.requires.held;
    }

pub columns-preserved : goal.columns-preserved
columns-preserved g c =
    let n = c.args.size in let j = c.columns.j in let t = c.columns.next.items in
    let ap' = naturals (map g.I.Index.value c.args.a_p.now) in let ai = naturals (map g.I.Index.value c.args.a_i.now) in
    let form = sorted_form n (map g.I.Index.value c.args.a_p.now) (map g.I.Index.value c.args.a_i.now) c.requires.form
    c.requires.sorted in
    let arcs = arcs_of (edges_after (is_entry n ap' ai) n j) in
    record {
      room = c.column_rest.ensures.room ∙ c.columns.invariant.room;
      kept = c.column_rest.ensures.kept ∙ c.columns.invariant.kept;
      scan = c.column_rest.ensures.scan;
      held = subst (λ l. g.V.Visitor.holds (count_graph n ap' ai) (met n ap' ai c.column_rest.new.next.items n (j + 1)) l
          c.column_rest.new.visitor)
          (after_next (is_entry n ap' ai) n j)
          (c.column_rest.ensures.held arcs (subst (λ s. g.V.Visitor.holds (count_graph n ap' ai) s arcs c.columns.visitor)
          (sym (rest_met n ap' ai form t j)) c.columns.invariant.held));
    }

pub returns : goal.returns
returns g c =
    let r = c.requires in let i = c.columns.invariant in let x = c.columns-test.false in let y = c.columns.auto.j-end in
    record {
      held = all_walked c.args.size (map g.I.Index.value c.args.a_p.now) (map g.I.Index.value c.args.a_i.now) r.form r.sorted
          (λ h s l. g.V.Visitor.holds h s l c.columns.visitor) c.columns.j c.columns.next.items (omega (arith, x, y)) i.scan i.held;
      room = i.room;
      kept = i.kept;
    }
