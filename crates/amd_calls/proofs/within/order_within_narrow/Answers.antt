-- What stands in the caller's arrays is what the ordering wrote.
use Rattle.std.proofs.Common.{ℤ, subst, rules, SFits, to_z, of_z, w32}
use Rattle.std.specs.Option.{option_copied}
use Rattle.std.proofs.lemmas.Int.{to_z-of_z}
use Rattle.amd.specs.Answers.{IsOrderingHolding}
use Rattle.amd.specs.Blocks.{FitsInBlock, IsBlockRefusal}
use Rattle.amd.specs.declared.refusal.Refusal.TheVariants as refuses
use Rattle.amd_engine.specs.InPlace.{values}
use Rattle.amd_types.specs.declared.amd.Status.TheVariants.{Invalid, OutOfMemory}
use Rattle.amd_calls.specs.Calls.{memory}
use Rattle.amd_calls.proofs.Blocks.{refuses_invalid, refuses_short, tells_ordered}
use Rattle.amd_calls.proofs.Leaving.{answer_is, leaves_chosen}
use Rattle.amd_calls.proofs.within.order_within_narrow.Goals as goal

pub returns-in-Ok : goal.returns-in-Ok
returns-in-Ok c =
    let a = c.args in let matrix = a.matrix in let new = c.order_in_block_narrow.new in let info = c.in-Ok.info in
    let fits : SFits w32 matrix.n = search rules in let hold = option_copied a.hold in
    let chosen = c.control_of-control in let tell = c.tell in let e = c.in-Ok.ensures in
    let ap' = values matrix.a_p.now in let ai = values matrix.a_i.now in
    let ordered = subst (λ n. IsOrderingHolding hold n chosen.result.dense chosen.result.aggressive ap' ai (values new.p)
    (values new.p_inv) info) (to_z-of_z w32 matrix.n fits) e.ordering in
    let inside = subst (λ n. FitsInBlock n ap' a.block.size) (to_z-of_z w32 matrix.n fits) e.inside in record {
      status = info.status;
      answer = answer_is info.status _ tell.ensures.number;
      left = leaves_chosen hold matrix.n a.parameters.now chosen.result ap' ai
          (memory (values a.p.now) (values a.p_inv.now) a.statistics.now)
          (memory (values new.p) (values new.p_inv) tell.new.statistics) info chosen.ensures.dense chosen.ensures.aggressive ordered
          tell.ensures.told;
      block = tells_ordered hold matrix.n _ chosen.result.aggressive ap' ai (values new.p) (values new.p_inv) a.block.size info
          ordered inside;
    }

pub returns-in-Err-Invalid : goal.returns-in-Err-Invalid
returns-in-Err-Invalid c =
    let a = c.args in let matrix = a.matrix in let told = a.statistics.now in let hold = option_copied a.hold in
    let fits : SFits w32 matrix.n = search rules in let e = c.in-Err-Invalid.ensures in
    let ap' = values matrix.a_p.now in let ai = values matrix.a_i.now in let p = values a.p.now in let q = values a.p_inv.now in
    let z : ℤ = to_z w32 (of_z w32 matrix.n) in
    let refusal = subst (λ n. IsBlockRefusal hold n ap' ai p q a.block.size refuses.Invalid) (to_z-of_z w32 matrix.n fits)
    (subst (λ r. IsBlockRefusal hold z ap' ai p q a.block.size r) c.in-Err-Invalid.field-0-is e.refusal) in
    record {
      status = Invalid;
      answer = answer_is Invalid _ c.number_of.ensures;
      left = (
        refuses_invalid hold matrix.n ap' ai (memory p q told) refusal,
        λ i. memory (values (e.kept.0 i)) (values (e.kept.1 i)) told,
      );
      block = tt;
    }

pub returns-in-Err-TooLarge : goal.returns-in-Err-TooLarge
returns-in-Err-TooLarge c =
    let a = c.args in let matrix = a.matrix in let told = a.statistics.now in let hold = option_copied a.hold in
    let fits : SFits w32 matrix.n = search rules in let e = c.in-Err-TooLarge.ensures in
    let ap' = values matrix.a_p.now in let ai = values matrix.a_i.now in let p = values a.p.now in let q = values a.p_inv.now in
    let z : ℤ = to_z w32 (of_z w32 matrix.n) in
    let refusal = subst (λ n. IsBlockRefusal hold n ap' ai p q a.block.size refuses.TooLarge) (to_z-of_z w32 matrix.n fits)
    (subst (λ r. IsBlockRefusal hold z ap' ai p q a.block.size r) c.in-Err-TooLarge.field-0-is e.refusal) in
    record {
      status = OutOfMemory;
      answer = answer_is OutOfMemory _ c.number_of-in-Err-TooLarge.ensures;
      left = (
        refuses_short hold matrix.n ap' ai a.block.size (memory p q told) refusal.0 refusal.1,
        λ i. memory (values (e.kept.0 i)) (values (e.kept.1 i)) told,
      );
      block = refusal.1;
    }
