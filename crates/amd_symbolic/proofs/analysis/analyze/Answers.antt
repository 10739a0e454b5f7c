use Rattle.std.proofs.Common.{ℤ, List, None, ◌≡◌, map, rules}
use Rattle.std.specs.Prelude.{IfErr}
use Rattle.amd.specs.Answers.{IsOrderingHolding}
use Rattle.amd_factor.specs.declared.factor.Fault.TheVariants.{OutOfMemory}
use Rattle.amd_symbolic.specs.Faults.{IsFaultHolding}
use Rattle.amd_factor.proofs.Calls.Faults.{memory_of}
use Rattle.amd_symbolic.proofs.Reserved.{fault_for, input_of}
use Rattle.amd_symbolic.proofs.analysis.analyze.Goals as goal

pub returns-in-Err-clause-fault : goal.returns-in-Err-clause-fault
returns-in-Err-clause-fault g c =
    let z : ℤ = g.I.Number.value c.args.n in
    let a_p : List ℤ = map g.I.Number.value c.args.a_p.now in
    let a_i : List ℤ = map g.I.Number.value c.args.a_i.now in
    fault_for None z a_p a_i c.in-Err.refusal c.fault_of.result c.in-Err.ensures.refusal c.fault_of.ensures.form c.fault_of.ensures.memory

pub reserved_columns-requires : goal.reserved_columns-requires
reserved_columns-requires g c =
    let z : ℤ = g.I.Number.value c.args.n in
    let a_p : List ℤ = map g.I.Number.value c.args.a_p.now in
    let a_i : List ℤ = map g.I.Number.value c.args.a_i.now in
    let o : IsOrderingHolding None z c.args.control.now.dense c.args.control.now.aggressive a_p a_i
    (map g.I.Number.value c.deref.result.now) (map g.I.Number.value c.in-Ok.answer.1.items) c.in-Ok.answer.2 =
    rw c.deref.ensures.value c.in-Ok.ensures.ordering in
    record { ordering = (None, c.args.control.now.dense, c.args.control.now.aggressive, map g.I.Number.value c.in-Ok.answer.1.items, o) }

pub returns-in_err-factor-clause-fault : goal.returns-in_err-factor-clause-fault
returns-in_err-factor-clause-fault g c =
    let z : ℤ = g.I.Number.value c.args.n in
    let a_p : List ℤ = map g.I.Number.value c.args.a_p.now in
    let a_i : List ℤ = map g.I.Number.value c.args.a_i.now in
    let memory : IfErr c.from_residual.result (λ e. e ≡ OutOfMemory) = search rules in
    memory_of c.from_residual.result (IsFaultHolding None z a_p a_i) memory
    (λ some. input_of None z _ _ _ _ _ _ _ c.in-Ok.ensures.ordering some)

pub returns-clause-factor : goal.returns-clause-factor
returns-clause-factor g c =
    rw c.deref.ensures.value at c.in_ok-factor.ensures.factor
