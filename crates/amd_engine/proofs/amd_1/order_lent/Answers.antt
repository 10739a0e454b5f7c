use Rattle.std.proofs.Common.{sym, ◌∙◌}
use Rattle.amd_engine.proofs.LentLists.{answers_listed}
use Rattle.amd_engine.proofs.amd_1.order_lent.Goals as goal

pub returns-clause-orders : goal.returns-clause-orders
returns-clause-orders g c = λ graph lists info lays.
    let told = c.run_growing-told in let run = told.ensures.loans in let listed = c.list_rows.ensures in let l = listed.loans in
    rw (
      c.head-1.given.1.1 (sym (l.6 ∙ run.6)),
      c.w-1.given.1.1 (sym (l.5 ∙ run.5)),
      c.nv-1.given.1.1 (sym (l.3 ∙ run.3)),
      c.e_len-1.given.1.1 (sym (l.2 ∙ run.2)),
      c.laid-3-1.given.1 (sym (l.0 ∙ run.0)),
    ) (answers_listed _ _ _ _ _ _ _ told.new.rows c.list_rows.new.rows told.ensures.runs told.ensures.over.words.0 listed.listed
    c.requires.some c.dense_threshold-threshold.ensures graph lists info lays)
