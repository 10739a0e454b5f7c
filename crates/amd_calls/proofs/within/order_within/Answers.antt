-- What stands in the caller's arrays is what the ordering answered.
use Rattle.std.proofs.Common.{List, ℤ, map, subst}
use Rattle.std.specs.Option.{option_copied}
use Rattle.amd.specs.Blocks.{IsBlockRefusal}
use Rattle.amd_types.specs.declared.amd.Status.TheVariants.{Invalid, OutOfMemory}
use Rattle.amd_calls.specs.Calls.{memory}
use Rattle.amd_calls.proofs.Blocks.{refuses_invalid, refuses_short, tells_ordered}
use Rattle.amd_calls.proofs.Leaving.{answer_is, leaves_chosen}
use Rattle.amd_calls.proofs.within.order_within.Goals as goal

pub returns-in-Ok : goal.returns-in-Ok
returns-in-Ok g c =
    let value = g.I.Index.value in let a = c.args in let matrix = a.matrix in let new = c.order_in_block.new in
    let info = c.in-Ok.info in let hold = option_copied a.hold in
    let chosen = c.control_of-control in let tell = c.tell in let e = c.in-Ok.ensures in record {
      status = info.status;
      answer = answer_is info.status _ tell.ensures.number;
      left = leaves_chosen hold (value matrix.n) a.parameters.now chosen.result (map value matrix.a_p.now)
          (map value matrix.a_i.now) (memory (map value a.p.now) (map value a.p_inv.now) a.statistics.now)
          (memory (map value new.p) (map value new.p_inv) tell.new.statistics) info chosen.ensures.dense chosen.ensures.aggressive
          e.ordering tell.ensures.told;
      block = tells_ordered hold (value matrix.n) _ chosen.result.aggressive (map value matrix.a_p.now)
          (map value matrix.a_i.now) (map value new.p) (map value new.p_inv) a.block.size info e.ordering e.inside;
    }

pub returns-in-Err-Invalid : goal.returns-in-Err-Invalid
returns-in-Err-Invalid g c =
    let value = g.I.Index.value in let matrix = c.args.matrix in let told = c.args.statistics.now in
    let hold = option_copied c.args.hold in
    let z : ℤ = value matrix.n in let a_p : List ℤ = map value matrix.a_p.now in let a_i : List ℤ = map value matrix.a_i.now in
    let p : List ℤ = map value c.args.p.now in let q : List ℤ = map value c.args.p_inv.now in
    let e = c.in-Err-Invalid.ensures in
    let refusal = subst (λ r. IsBlockRefusal hold z a_p a_i p q c.args.block.size r) c.in-Err-Invalid.field-0-is e.refusal in
    record {
      status = Invalid;
      answer = answer_is Invalid _ c.number_of.ensures;
      left = (
        refuses_invalid hold z a_p a_i (memory p q told) refusal,
        λ i. memory (map value (e.kept.0 i)) (map value (e.kept.1 i)) told,
      );
      block = tt;
    }

pub returns-in-Err-TooLarge : goal.returns-in-Err-TooLarge
returns-in-Err-TooLarge g c =
    let value = g.I.Index.value in let matrix = c.args.matrix in let told = c.args.statistics.now in
    let hold = option_copied c.args.hold in
    let z : ℤ = value matrix.n in let a_p : List ℤ = map value matrix.a_p.now in let a_i : List ℤ = map value matrix.a_i.now in
    let p : List ℤ = map value c.args.p.now in let q : List ℤ = map value c.args.p_inv.now in
    let size = c.args.block.size in let e = c.in-Err-TooLarge.ensures in
    let refusal = subst (λ r. IsBlockRefusal hold z a_p a_i p q size r) c.in-Err-TooLarge.field-0-is e.refusal in
    record {
      status = OutOfMemory;
      answer = answer_is OutOfMemory _ c.number_of-in-Err-TooLarge.ensures;
      left = (
        refuses_short hold z a_p a_i size (memory p q told) refusal.0 refusal.1,
        λ i. memory (map value (e.kept.0 i)) (map value (e.kept.1 i)) told,
      );
      block = refusal.1;
    }
