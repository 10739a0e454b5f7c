use Rattle.std.proofs.Common.{ℤ, List, Some, ◌≡◌, map, rules}
use Rattle.std.specs.Prelude.{IfErr}
use Rattle.amd_factor.specs.declared.factor.Fault.TheVariants.{OutOfMemory}
use Rattle.amd_symbolic.specs.Faults.{IsFaultHolding}
use Rattle.amd_factor.proofs.Calls.Faults.{memory_of}
use Rattle.amd_symbolic.proofs.Reserved.{fault_for, input_of, lent_order}
use Rattle.amd_symbolic.proofs.analysis.analyze_holding.Goals as goal

pub returns-in-Err-clause-fault : goal.returns-in-Err-clause-fault
returns-in-Err-clause-fault g c =
    let z : ℤ = g.I.Number.value c.args.n in
    let a_p : List ℤ = map g.I.Number.value c.args.a_p.now in
    let a_i : List ℤ = map g.I.Number.value c.args.a_i.now in
    fault_for (Some c.args.hold.now) z a_p a_i c.in-Err.refusal c.fault_of.result c.in-Err.ensures.refusal c.fault_of.ensures.form
    c.fault_of.ensures.memory

pub reserved_columns-requires : goal.reserved_columns-requires
reserved_columns-requires g c = record {
  ordering = (
    Some c.args.hold.now,
    c.args.control.now.dense,
    c.args.control.now.aggressive,
    map g.I.Number.value c.in-Ok.answer.1.items,
    lent_order g.I.Number.value c.deref.ensures.value c.in-Ok.ensures.ordering,
  );
}

pub returns-in_err-factor-clause-fault : goal.returns-in_err-factor-clause-fault
returns-in_err-factor-clause-fault g c =
    let z : ℤ = g.I.Number.value c.args.n in
    let a_p : List ℤ = map g.I.Number.value c.args.a_p.now in
    let a_i : List ℤ = map g.I.Number.value c.args.a_i.now in
    let memory : IfErr c.from_residual.result (λ e. e ≡ OutOfMemory) = search rules in
    memory_of c.from_residual.result (IsFaultHolding (Some c.args.hold.now) z a_p a_i) memory
    (λ some. input_of (Some c.args.hold.now) z _ _ _ _ _ _ _ c.in-Ok.ensures.ordering some)

pub returns-clause-factor : goal.returns-clause-factor
returns-clause-factor g c =
    rw c.deref.ensures.value at c.in_ok-factor.ensures.factor
