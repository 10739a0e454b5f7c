-- What stands in the caller's arrays is what the ordering wrote.
use Rattle.std.proofs.Common.{List, ℤ, map}
use Rattle.std.specs.Option.{option_copied}
use Rattle.amd_calls.specs.Calls.{memory}
use Rattle.amd_calls.proofs.Blocks.{refuses_into}
use Rattle.amd_calls.proofs.Leaving.{answer_is, leaves_chosen}
use Rattle.amd_calls.proofs.writing.order_into.Goals as goal

pub returns-in-Ok : goal.returns-in-Ok
returns-in-Ok g c =
    let value = g.I.Index.value in let a = c.args in let new = c.order_into.new in let info = c.in-Ok.info in
    let chosen = c.control_of-control in let tell = c.tell in
    record {
      status = info.status;
      answer = answer_is info.status _ tell.ensures.number;
      left = leaves_chosen (option_copied a.hold) (value a.matrix.n) a.parameters.now chosen.result
          (map value a.matrix.a_p.now) (map value a.matrix.a_i.now)
          (memory (map value a.p.now) (map value a.p_inv.now) a.statistics.now)
          (memory (map value new.p) (map value new.p_inv) tell.new.statistics) info chosen.ensures.dense chosen.ensures.aggressive
          c.in-Ok.ensures.ordering tell.ensures.told;
    }

pub returns-in-Err : goal.returns-in-Err
returns-in-Err g c =
    let value = g.I.Index.value in let matrix = c.args.matrix in let told = c.args.statistics.now in
    let hold = option_copied c.args.hold in
    let z : ℤ = value matrix.n in let a_p : List ℤ = map value matrix.a_p.now in let a_i : List ℤ = map value matrix.a_i.now in
    let old = memory (map value c.args.p.now) (map value c.args.p_inv.now) told in
    let new = memory (map value c.order_into.new.p) (map value c.order_into.new.p_inv) told in
    let e = c.in-Err.ensures in let status = c.in-Err.status in
    record {
      status = status;
      answer = answer_is status _ c.number_of.ensures;
      left = refuses_into hold z c.args.parameters.now a_p a_i old new status e.refusal
          (λ i. memory (map value (e.kept.0 i)) (map value (e.kept.1 i)) told);
    }
