-- Once the last column was read, every edge was met.
use Rattle.std.proofs.Common.{◌≡◌, ◌+◌, ◌≤◌, ℕ, true, arith, get_or, map, refl, set, subst, sym, ◌∙◌, le_refl}
use Rattle.std.proofs.Common.{get_or-set_other}
use Rattle.amd_types.specs.Naturals.{naturals, count_graph, is_entry}
use Rattle.amd_edges.specs.Visits.{arcs_of}
use Rattle.amd_edges.specs.Walk.{met}
use Rattle.amd_edges.proofs.Forms.{same_graph, same_pair, sorted_form}
use Rattle.amd_edges.proofs.Ends.{rest_met}
use Rattle.amd_edges.proofs.LowerWalks.{lower_edges, lower_met, lower_scan, starts, starts_are}
use Rattle.amd_edges.proofs.Orders.{after_next, edges_after}
use Rattle.amd_edges.proofs.Scans.{scan_ended}
use Rattle.amd_edges.proofs.Walked.{all_walked}
use Rattle.amd_edges.proofs.walk.walk_lower.Goals as goal

pub columns-init : goal.columns-init
columns-init g c =
    let r = c.requires in let n = c.args.size in
    let az = map g.I.Index.value c.args.a_p.now in let bz = map g.I.Index.value c.args.a_i.now in
    let ap' = naturals az in let ai = naturals bz in let form = sorted_form n az bz r.form r.sorted in
    let lower : (i j : ℕ) → is_entry n ap' ai i j ≡ true → j ≤ i = λ i j e. r.lower i j (same_pair n az bz r.form i j ∙ e) in (
      starts n ap' ai form lower,
      record {
        kept = refl;
        scan = lower_scan n ap' ai form lower;
        left = λ a from a_in. starts_are n ap' ai form lower a a_in;
        held = rw (lower_edges n ap' ai form lower, ← same_graph n az bz r.form, lower_met n ap' ai form lower) r.held;
      },
    )

pub column_end-requires-clause-held : goal.column_end-requires-clause-held
column_end-requires-clause-held g c =
    let r = c.requires in let n = c.args.size in let j = c.columns.j in
    let az = map g.I.Index.value c.args.a_p.now in let bz = map g.I.Index.value c.args.a_i.now in
    let ap' = naturals az in let ai = naturals bz in let form = sorted_form n az bz r.form r.sorted in
    let t = c.columns.invariant.0 in let i = c.columns.invariant.1 in let arcs = arcs_of (edges_after (is_entry n ap' ai) n j) in (
      t,
      arcs,
      record { scan = i.scan; place = i.left j (le_refl j) c.columns-test.true ∙ sym c.lower_first-first.ensures },
      subst (λ s. g.V.Visitor.holds (count_graph n ap' ai) s arcs c.columns.visitor) (sym (rest_met n ap' ai form t j)) i.held,
    )

pub columns-preserved : goal.columns-preserved
columns-preserved g c =
    let r = c.requires in let n = c.args.size in let j = c.columns.j in let j_in = c.columns-test.true in
    let az = map g.I.Index.value c.args.a_p.now in let bz = map g.I.Index.value c.args.a_i.now in
    let ap' = naturals az in let ai = naturals bz in let form = sorted_form n az bz r.form r.sorted in
    let t = c.columns.invariant.0 in let i = c.columns.invariant.1 in let arcs = arcs_of (edges_after (is_entry n ap' ai) n j) in
    let stop = get_or ap' (j + 1) 0 in (
      set t j stop,
      record {
        kept = c.column_end.ensures.kept ∙ i.kept;
        scan = scan_ended n ap' ai form t j j_in i.scan;
        left = λ a from a_in. get_or-set_other t j a stop 0 (λ e. omega (arith, from, e)) ∙ i.left a (omega (arith, from)) a_in;
        held = subst (λ l. g.V.Visitor.holds (count_graph n ap' ai) (met n ap' ai (set t j stop) n (j + 1)) l c.column_end.new.visitor)
            (after_next (is_entry n ap' ai) n j) (c.column_end.ensures.held t arcs
            (record { scan = i.scan; place = i.left j (le_refl j) j_in ∙ sym c.lower_first-first.ensures })
            (subst (λ s. g.V.Visitor.holds (count_graph n ap' ai) s arcs c.columns.visitor) (sym (rest_met n ap' ai form t j)) i.held));
      },
    )

pub returns-clause-held : goal.returns-clause-held
returns-clause-held g c =
    let r = c.requires in let i = c.columns.invariant.1 in let x = c.columns-test.false in let y = c.columns.auto.j-end in
    all_walked c.args.size (map g.I.Index.value c.args.a_p.now) (map g.I.Index.value c.args.a_i.now) r.form r.sorted
    (λ h s l. g.V.Visitor.holds h s l c.columns.visitor) c.columns.j c.columns.invariant.0 (omega (arith, x, y)) i.scan i.held

pub returns-clause-kept : goal.returns-clause-kept
returns-clause-kept g c = c.columns.invariant.1.kept
