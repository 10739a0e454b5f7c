use Rattle.std.proofs.Common.{ℤ, pos, ◌≡◌, List, map, rules}
use Rattle.std.specs.Prelude.{IfErr}
use Rattle.amd_types.specs.Naturals.{naturals}
use Rattle.amd_factor.specs.declared.factor.Fault.TheVariants.{OutOfMemory}
use Rattle.amd_factor.specs.Factors.{IsFault}
use Rattle.amd_factor.proofs.Calls.Faults.{memory_of}
use Rattle.amd_factor.proofs.Calls.ColumnParts.{laws, later_of, factor_of, too_many}
use Rattle.amd_factor.proofs.factor.form_columns.Goals as goal

pub returns-in_err-places-clause-fault : goal.returns-in_err-places-clause-fault
returns-in_err-places-clause-fault g c =
    let memory : IfErr c.from_residual.result (λ e. e ≡ OutOfMemory) = search rules in
    memory_of c.from_residual.result (IsFault (pos c.args.size) (map g.I.Index.value c.args.a_p.now) (map g.I.Index.value c.args.a_i.now)
    (map g.I.Index.value c.args.p.now) c.args.room) memory
    (λ _. c.requires.1.1.form)

pub returns-in_err-lists-clause-fault : goal.returns-in_err-lists-clause-fault
returns-in_err-lists-clause-fault g c =
    let memory : IfErr c.from_residual-in_err-lists.result (λ e. e ≡ OutOfMemory) = search rules in
    memory_of c.from_residual-in_err-lists.result (IsFault (pos c.args.size) (map g.I.Index.value c.args.a_p.now)
    (map g.I.Index.value c.args.a_i.now) (map g.I.Index.value c.args.p.now) c.args.room) memory
    (λ _. c.requires.1.1.form)

pub written_factor-requires : goal.written_factor-requires
written_factor-requires g c κs within =
    let posed = c.requires.1.1 in
    let a_p : List ℤ = map g.I.Index.value c.args.a_p.now in
    let a_i : List ℤ = map g.I.Index.value c.args.a_i.now in
    let p : List ℤ = map g.I.Index.value c.args.p.now in (
      within,
      (
        laws c.args.size a_p a_i p g.o posed.graph posed.rows,
        later_of c.args.size a_p a_i p g.o posed.graph posed.rows c.deref-2.result.now c.deref-3.result.now
            (rw (c.deref-2.ensures.value, c.deref-3.ensures.value)
            (c.in_ok-lists.ensures (naturals p) (rw c.deref.ensures.value (rw c.in-Some.is at c.in_ok-places.ensures.places)))),
      ),
    )

pub returns-in_err-factor-clause-fault : goal.returns-in_err-factor-clause-fault
returns-in_err-factor-clause-fault g c =
    let memory : IfErr c.from_residual-in_err-factor.result (λ e. e ≡ OutOfMemory) = search rules in
    memory_of c.from_residual-in_err-factor.result (IsFault (pos c.args.size) (map g.I.Index.value c.args.a_p.now)
    (map g.I.Index.value c.args.a_i.now) (map g.I.Index.value c.args.p.now) c.args.room) memory
    (λ _. c.requires.1.1.form)

pub returns-in-Some-2-clause-factor : goal.returns-in-Some-2-clause-factor
returns-in-Some-2-clause-factor g c =
    let posed = c.requires.1.1 in
    factor_of c.args.size (map g.I.Index.value c.args.a_p.now) (map g.I.Index.value c.args.a_i.now) (map g.I.Index.value c.args.p.now)
    g.o posed.graph posed.rows posed.form
    (rw c.in-Some.is at c.in_ok-places.ensures.permutation) c.in-Some-2.factor.ptr.items c.in-Some-2.factor.rows.items
    c.in-Some-2.factor.parent.items
    (rw c.in-Some-2.is at c.in_ok-factor.ensures.factor)

pub returns-clause-fault : goal.returns-clause-fault
returns-clause-fault g c =
    let posed = c.requires.1.1 in
    too_many c.args.size (map g.I.Index.value c.args.a_p.now) (map g.I.Index.value c.args.a_i.now) (map g.I.Index.value c.args.p.now) g.o
    posed.graph posed.rows posed.form
    (rw c.in-Some.is at c.in_ok-places.ensures.permutation) c.args.room (rw c.in-None.is at c.in_ok-factor.ensures.factor)
