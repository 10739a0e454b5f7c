-- What stands in the caller's arrays is what the ordering wrote.
use Rattle.std.proofs.Common.{subst, rules, SFits, w32}
use Rattle.std.specs.Option.{option_copied}
use Rattle.std.proofs.lemmas.Int.{to_z-of_z}
use Rattle.amd.specs.Answers.{IsOrderingHolding}
use Rattle.amd.specs.Within.{IsIntoRefusal}
use Rattle.amd_engine.specs.InPlace.{values}
use Rattle.amd_calls.specs.Calls.{memory}
use Rattle.amd_calls.proofs.Blocks.{refuses_into}
use Rattle.amd_calls.proofs.Leaving.{answer_is, leaves_chosen}
use Rattle.amd_calls.proofs.writing.order_into_narrow.Goals as goal

pub returns-in-Ok : goal.returns-in-Ok
returns-in-Ok g c =
    let a = c.args in let matrix = a.matrix in let new = c.order_into_narrow.new in let info = c.in-Ok.info in
    let fits : SFits w32 matrix.n = search rules in let hold = option_copied a.hold in
    let chosen = c.control_of-control in let tell = c.tell in
    let ordered = subst (λ n. IsOrderingHolding hold n chosen.result.dense chosen.result.aggressive
    (values matrix.a_p.now) (values matrix.a_i.now) (values new.p) (values new.p_inv) info) (to_z-of_z w32 matrix.n fits)
    c.in-Ok.ensures.ordering in
    record {
      status = info.status;
      answer = answer_is info.status _ tell.ensures.number;
      left = leaves_chosen hold matrix.n a.parameters.now chosen.result (values matrix.a_p.now) (values matrix.a_i.now)
          (memory (values a.p.now) (values a.p_inv.now) a.statistics.now)
          (memory (values new.p) (values new.p_inv) tell.new.statistics) info chosen.ensures.dense chosen.ensures.aggressive ordered
          tell.ensures.told;
    }

pub returns-in-Err : goal.returns-in-Err
returns-in-Err g c =
    let a = c.args in let matrix = a.matrix in let new = c.order_into_narrow.new in let told = a.statistics.now in
    let fits : SFits w32 matrix.n = search rules in let hold = option_copied a.hold in
    let e = c.in-Err.ensures in let status = c.in-Err.status in
    let refused = subst (λ n. IsIntoRefusal hold n (values matrix.a_p.now) (values matrix.a_i.now) (values a.p.now)
    (values a.p_inv.now) status) (to_z-of_z w32 matrix.n fits) e.refusal in
    record {
      status = status;
      answer = answer_is status _ c.number_of.ensures;
      left = refuses_into hold matrix.n a.parameters.now (values matrix.a_p.now) (values matrix.a_i.now)
          (memory (values a.p.now) (values a.p_inv.now) told) (memory (values new.p) (values new.p_inv) told) status
          refused (λ i. memory (values (e.kept.0 i)) (values (e.kept.1 i)) told);
    }
