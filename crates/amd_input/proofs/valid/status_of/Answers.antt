use Rattle.std.proofs.Common.{◌≡◌, ◌<◌, ◌≤◌, ◌+◌, map, pos, arith, sym, ap, ◌∙◌, inl, inr, length}
use Rattle.std.proofs.lemmas.List.{length-map}
use Rattle.std.proofs.lemmas.Int.{ints}
use Rattle.amd_model.specs.Input.Columns.{at}
use Rattle.amd_input.proofs.Classes.{form_none, sorted_none, no_columns, few_pointers, no_first, bad_first, no_count, bad_pointer, bad_row}
use Rattle.amd_input.proofs.Classes.{form_more, run_more, descent_jumbles, class_of}
use Rattle.amd_input.proofs.valid.status_of.Goals as goal
use Rattle.amd_input.proofs.valid.status_of.Goals.{in-OK, in-OkButJumbled}

pub returns-in_default : goal.returns-in_default
returns-in_default g c = no_columns _ _ _ _ (simp length-map (omega arith)) c.in_default.ensures

pub returns-then-columns-a_p : goal.returns-then-columns-a_p
returns-then-columns-a_p g c = few_pointers _ _ _ _ c.in-Some.columns c.in-Some.ensures.1 (simp length-map c.if-columns-a_p.true)

pub returns-in_default-to_count : goal.returns-in_default-to_count
returns-in_default-to_count g c = no_first _ _ _ _ _ c.value_at.ensures c.in_default-to_count.ensures

pub returns-then-first-ne0 : goal.returns-then-first-ne0
returns-then-first-ne0 g c = bad_first _ _ _ _ c.in-Some-to_count.first (c.in-Some-to_count.ensures.1 ∙ c.value_at.ensures)
    c.if-first-ne0.true

pub columns-init : goal.columns-init
columns-init g c =
    let start = sym (c.in-Some-to_count.ensures.1 ∙ c.value_at.ensures) ∙ ap pos c.if-first-ne0.false in
    record {
      form = form_none _ _ _ start (simp length-map (omega arith));
      class = sorted_none (g.I.Index.value c.args.n_row) _ _;
      start
          = start;
    }

pub column_status-requires : goal.column_status-requires
column_status-requires g c = record { ordered = c.if-to-from.false; within = c.if-to-a_i.false }

pub returns-in_default-to_count-2 : goal.returns-in_default-to_count-2
returns-in_default-to_count-2 g c =
    no_count _ _ _ _ _ c.columns.j _ c.in-Some.ensures.1 (omega arith) (simp length-map (omega arith)) c.value_at-in-columns.ensures
    c.in_default-to_count-2.ensures

pub returns-then-to-from : goal.returns-then-to-from
returns-then-to-from g c = bad_pointer _ _ _ _ _ c.columns.j c.columns.from c.in-Some-to_count-2.to c.in-Some.ensures.1 (omega arith)
    c.columns.invariant.start (sym c.value_at-in-columns.ensures ∙ sym c.in-Some-to_count-2.ensures.1)
    (simp length-map (elim c.then-to-from.either [ inl x ↦ inl x | inr x ↦ inr x.1 ]))

pub returns-in-Invalid : goal.returns-in-Invalid
returns-in-Invalid g c = bad_row _ _ _ _ _ c.columns.j c.columns.from c.in-Some-to_count-2.to c.in-Some.ensures.1 (omega arith)
    c.columns.invariant.start (sym c.value_at-in-columns.ensures ∙ sym c.in-Some-to_count-2.ensures.1) c.in-Invalid.ensures

pub columns-preserved : goal.columns-preserved
columns-preserved g c =
    let n = g.I.Index.value in
    let a = c.columns.invariant.start in
    let b : at (map n c.args.a_p.now) (c.columns.j + 1) ≡ pos c.in-Some-to_count-2.to = sym c.value_at-in-columns.ensures ∙
    sym c.in-Some-to_count-2.ensures.1 in
    let from = c.columns.from in
    let to = c.in-Some-to_count-2.to in
    let inside : to ≤ length (map n c.args.a_i.now) = simp length-map (omega arith) in
    let room : c.columns.j + 1 < length (map n c.args.a_p.now) = simp length-map (omega arith) in
    elim c.match-column_status.branch [
      | in-OK w ↦ record {
        form = form_more _ _ _ c.columns.j from to c.columns.invariant.form a b (omega arith) inside room w.in-OK.ensures.0;
        class = rw w.status-is (run_more (n c.args.n_row) _ _ c.columns.j from to c.columns.status a b w.in-OK.ensures.1
            c.columns.invariant.class);
        start = b;
      }
      | in-OkButJumbled w ↦ record {
        form = form_more _ _ _ c.columns.j from to c.columns.invariant.form a b (omega arith) inside room w.in-OkButJumbled.ensures.0;
        class = rw w.status-is (descent_jumbles (n c.args.n_row) _ _ c.columns.j from to a b w.in-OkButJumbled.ensures.1);
        start = b;
      }
    ]

pub returns : goal.returns
returns g c = class_of _ _ _ _ c.columns.j c.columns.status (let e = c.in-Some.ensures.1 in omega (arith, ints, e)) c.columns.invariant.form
    c.columns.invariant.class
