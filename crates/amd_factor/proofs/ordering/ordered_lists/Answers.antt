use Rattle.std.proofs.Common.{pos, ◌≡◌, map, rules, arith}
use Rattle.std.specs.Prelude.{IfErr}
use Rattle.std.proofs.lemmas.Grind.{common_steps}
use Rattle.amd_types.specs.Naturals.{naturals}
use Rattle.amd_factor.specs.declared.factor.Fault.TheVariants.{OutOfMemory}
use Rattle.amd_factor.specs.Counted.{IsCountsFault}
use Rattle.amd_factor.proofs.Calls.Faults.{memory_of}
use Rattle.amd_factor.proofs.ordering.ordered_lists.Goals as goal

pub returns-in_err-places-clause-fault : goal.returns-in_err-places-clause-fault
returns-in_err-places-clause-fault g c =
    let memory : IfErr c.from_residual.result (λ e. e ≡ OutOfMemory) = search rules in
    memory_of c.from_residual.result (IsCountsFault (pos c.args.size) (map g.I.Index.value c.args.a_p.now)
    (map g.I.Index.value c.args.a_i.now) (map g.I.Index.value c.args.p.now)) memory
    (λ _. c.requires.form)

pub returns-in_default-clause-fault : goal.returns-in_default-clause-fault
returns-in_default-clause-fault g c = ((λ _. c.requires.form), rw c.in_default.is at c.in_ok-places.ensures.none)

pub earlier_lists-requires-clause-places : goal.earlier_lists-requires-clause-places
earlier_lists-requires-clause-places g c =
    (naturals (map g.I.Index.value c.args.p.now), rw c.deref.ensures.value (rw c.in-Some.is at c.in_ok-places.ensures.places))

pub returns-clause-lists : goal.returns-clause-lists
returns-clause-lists g c = grind (arith, common_steps)
