use Rattle.std.proofs.Common.{◌≡◌, ◌+◌, ℕ, Bool, map, arith, sym, ◌∙◌, refl, ap, add-one, suc, cond}
use Rattle.amd_model.specs.Below.{sum_below, count_below}
use Rattle.amd_types.specs.Naturals.{naturals, is_entry}
use Rattle.amd_edges.proofs.Forms.{sorted_form, same_graph, same_diagonals}
use Rattle.amd_edges.proofs.Ends.{start_met, start_scan, start_zeros}
use Rattle.amd_edges.proofs.Orders.{start_edges}
use Rattle.amd_edges.proofs.walk.walk.Goals as goal
use Rattle.amd_edges.proofs.walk.walk.Goals.{then-column, else-column}

abbrev one_if : Bool → ℕ
one_if b = cond b 1 0

-- Each clause of a `requires` has an answer of its own: stated all at once, the clauses take long to check.
pub column-requires-clause-form : goal.column-requires-clause-form
column-requires-clause-form g c = c.requires.form

pub column-requires-clause-sorted : goal.column-requires-clause-sorted
column-requires-clause-sorted g c = c.requires.sorted

pub column-requires-clause-fits : goal.column-requires-clause-fits
column-requires-clause-fits g c = c.requires.fits

pub column-requires-clause-k_in : goal.column-requires-clause-k_in
column-requires-clause-k_in g c = c.columns-test.true

pub column-requires-clause-room : goal.column-requires-clause-room
column-requires-clause-room g c = let r = c.requires.room in let i = c.columns.invariant.room in omega (arith, r, i)

pub column-requires-clause-scan : goal.column-requires-clause-scan
column-requires-clause-scan g c = c.columns.invariant.scan

pub column-requires-clause-held : goal.column-requires-clause-held
column-requires-clause-held g c = c.columns.invariant.held

pub columns-init : goal.columns-init
unfolding count_below sum_below
columns-init g c =
    let r = c.requires in
    let n = c.args.size in
    let ap' = naturals (map g.I.Index.value c.args.a_p.now) in let ai = naturals (map g.I.Index.value c.args.a_i.now) in
    let form = sorted_form n _ _ r.form r.sorted in
    let graph = same_graph n _ _ r.form in
    record {
      count = refl;
      small = omega arith;
      kept = refl;
      room = refl;
      scan = start_scan n ap' ai form c.args.next.now.items r.empty;
      held = rw (
        start_edges (is_entry n ap' ai),
        ← graph,
        start_met n ap' ai form c.args.next.now.items
            (start_zeros n ap' ai form c.args.next.now.items r.empty),
      ) r.held;
    }

pub columns-preserved : goal.columns-preserved
unfolding count_below sum_below
columns-preserved g c =
    let i = c.columns.invariant in
    let e = c.column.ensures in
    let n = c.args.size in
    let ap' = naturals (map g.I.Index.value c.args.a_p.now) in let ai = naturals (map g.I.Index.value c.args.a_i.now) in
    let last : count_below (suc c.columns.k) (λ j. is_entry n ap' ai j j) ≡ one_if (is_entry n ap' ai c.columns.k c.columns.k) + count_below
    c.columns.k (λ j. is_entry n ap' ai j j) = refl in
    let here : one_if c.column.result ≡ one_if (is_entry n ap' ai c.columns.k c.columns.k) = ap one_if e.diagonal in
    let plus : c.if-column.diagonals ≡ c.columns.diagonals + one_if c.column.result = elim c.if-column.branch [
      | then-column w ↦ rw w.if-column.true w.diagonals-is
      | else-column w ↦ rw w.if-column.false (w.diagonals-is ∙ omega arith)
    ] in
    record {
      count = (let x = i.count in rw add-one (omega (arith, last, here, plus, x)));
      small = elim c.if-column.branch [
        | then-column w ↦ (let y = w.diagonals-is in let x = i.small in omega arith)
        | else-column w ↦ (let y = w.diagonals-is in let x = i.small in omega arith)
      ];
      kept = e.kept ∙ i.kept;
      room = e.room ∙ i.room;
      scan = e.scan;
      held = e.held;
    }

pub rest-requires-clause-form : goal.rest-requires-clause-form
rest-requires-clause-form g c = c.requires.form

pub rest-requires-clause-sorted : goal.rest-requires-clause-sorted
rest-requires-clause-sorted g c = c.requires.sorted

pub rest-requires-clause-fits : goal.rest-requires-clause-fits
rest-requires-clause-fits g c = c.requires.fits

pub rest-requires-clause-scan : goal.rest-requires-clause-scan
rest-requires-clause-scan g c =
    let e : c.columns.k ≡ c.args.size = (let x = c.columns-test.false in let y = c.columns.auto.k-end in omega arith) in
    rw e at c.columns.invariant.scan

pub rest-requires-clause-held : goal.rest-requires-clause-held
rest-requires-clause-held g c =
    let e : c.columns.k ≡ c.args.size = (let x = c.columns-test.false in let y = c.columns.auto.k-end in omega arith) in
    rw e at c.columns.invariant.held

pub returns : goal.returns
returns g c =
    let n = c.args.size in
    let e : c.columns.k ≡ n = (let x = c.columns-test.false in let y = c.columns.auto.k-end in omega arith) in
    record {
      held = c.rest.ensures.held;
      room = c.rest.ensures.room ∙ c.columns.invariant.room;
      kept = c.rest.ensures.kept ∙ c.columns.invariant.kept;
      diagonals = rw e at c.columns.invariant.count ∙ sym (same_diagonals n _ _ c.requires.form);
    }
