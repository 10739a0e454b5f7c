use Rattle.std.proofs.Common.{ℤ, pos, ◌≡◌, ap, arith, length, List, map, rules}
use Rattle.std.specs.Prelude.{IfErr}
use Rattle.amd_types.specs.Naturals.{naturals}
use Rattle.amd_factor.specs.declared.factor.Fault.TheVariants.{OutOfMemory}
use Rattle.amd_factor.specs.Factors.{IsFault}
use Rattle.amd_factor.proofs.Calls.Faults.{memory_of}
use Rattle.amd_factor.proofs.Calls.ColumnParts.{laws, later_of, factor_of, too_many}
use Rattle.amd_factor.proofs.into.form_columns_into.Goals as goal

pub returns-in_err-places-clause-fault : goal.returns-in_err-places-clause-fault
returns-in_err-places-clause-fault g c =
    let memory : IfErr c.from_residual.result (λ e. e ≡ OutOfMemory) = search rules in
    memory_of c.from_residual.result (IsFault (pos c.args.size) (map g.I.Index.value c.args.a_p.now) (map g.I.Index.value c.args.a_i.now)
    (map g.I.Index.value c.args.p.now) (length c.args.rows.now)) memory
    (λ _. c.requires.1.1.posed.form)

pub returns-in_err-lists-clause-fault : goal.returns-in_err-lists-clause-fault
returns-in_err-lists-clause-fault g c =
    let memory : IfErr c.from_residual-in_err-lists.result (λ e. e ≡ OutOfMemory) = search rules in
    memory_of c.from_residual-in_err-lists.result (IsFault (pos c.args.size) (map g.I.Index.value c.args.a_p.now)
    (map g.I.Index.value c.args.a_i.now) (map g.I.Index.value c.args.p.now) (length c.args.rows.now)) memory
    (λ _. c.requires.1.1.posed.form)

pub written_into-requires : goal.written_into-requires
written_into-requires g c κs within =
    let order = c.requires.1.1 in
    let a_p : List ℤ = map g.I.Index.value c.args.a_p.now in
    let a_i : List ℤ = map g.I.Index.value c.args.a_i.now in
    let p : List ℤ = map g.I.Index.value c.args.p.now in
    let permutes = rw c.in-Some.is at c.in_ok-places.ensures.permutation in (
      within.0,
      (
        within.1,
        record {
          laws = laws c.args.size a_p a_i p g.o order.posed.graph order.posed.rows;
          most = λ j l. order.fit j
              (let rows = ap length order.posed.rows in let all = permutes.each.places in omega (arith, l, rows, all));
          later_are = later_of c.args.size a_p a_i p g.o order.posed.graph order.posed.rows c.deref-2.result.now
              c.deref-3.result.now (rw (c.deref-2.ensures.value, c.deref-3.ensures.value)
              (c.in_ok-lists.ensures (naturals p) (rw c.deref.ensures.value (rw c.in-Some.is at c.in_ok-places.ensures.places))));
        },
      ),
    )

pub returns-in_err-frame-clause-fault : goal.returns-in_err-frame-clause-fault
returns-in_err-frame-clause-fault g c =
    let memory : IfErr c.from_residual-in_err-frame.result (λ e. e ≡ OutOfMemory) = search rules in
    memory_of c.from_residual-in_err-frame.result (IsFault (pos c.args.size) (map g.I.Index.value c.args.a_p.now)
    (map g.I.Index.value c.args.a_i.now) (map g.I.Index.value c.args.p.now) (length c.args.rows.now)) memory
    (λ _. c.requires.1.1.posed.form)

pub returns-in-Some-2-clause-factor : goal.returns-in-Some-2-clause-factor
returns-in-Some-2-clause-factor g c =
    let order = c.requires.1.1 in
    let f = rw c.in-Some-2.is at c.in_ok-frame.ensures.factor in record {
      entries = f.0;
      factor = factor_of c.args.size (map g.I.Index.value c.args.a_p.now) (map g.I.Index.value c.args.a_i.now)
          (map g.I.Index.value c.args.p.now) g.o order.posed.graph order.posed.rows order.posed.form
          (rw c.in-Some.is at c.in_ok-places.ensures.permutation) c.in-Some-2.frame.ptr.items f.0 c.in-Some-2.frame.parent.items f.2;
      written = f.1;
    }

pub returns-clause-fault : goal.returns-clause-fault
returns-clause-fault g c =
    let order = c.requires.1.1 in
    too_many c.args.size (map g.I.Index.value c.args.a_p.now) (map g.I.Index.value c.args.a_i.now) (map g.I.Index.value c.args.p.now) g.o
    order.posed.graph order.posed.rows order.posed.form
    (rw c.in-Some.is at c.in_ok-places.ensures.permutation) (length c.args.rows.now) (rw c.in-None.is at c.in_ok-frame.ensures.factor)
