use Rattle.std.proofs.Common.{arith}
use Rattle.amd_factor.proofs.Factors.Tails.{tail_begins, tail_ends, tail_rises, tail_has}
use Rattle.amd_factor.proofs.column.inherited.Goals as goal

pub overflow_add-result : goal.overflow_add-result
overflow_add-result c =
    let h = c.requires.stands in let p = rw c.in-Some.is at h.3 in
    let a = tail_begins h.0.order h.0.place c.args.starts.now c.args.ends.now h.1 h.2 c.in-Some.child h.0.place p.entry.0 p in
    let f = c.type_inv.ends c.in-Some.child in omega (arith, a, f)

pub returns-in-Some-clause-range : goal.returns-in-Some-clause-range
returns-in-Some-clause-range c =
    let h = c.requires.stands in let p = rw c.in-Some.is at h.3 in
    tail_begins h.0.order h.0.place c.args.starts.now c.args.ends.now h.1 h.2 c.in-Some.child h.0.place p.entry.0 p

pub returns-in-Some-clause-takes : goal.returns-in-Some-clause-takes
returns-in-Some-clause-takes c =
    let child = c.in-Some.child in let starts = c.args.starts.now in let ends = c.args.ends.now in λ column rows h is. (
    let p = rw c.in-Some.is at is in record {
      within = tail_ends column.order column.place starts ends rows h child column.place p.entry.0 p;
      rising = tail_rises column.order column.place starts ends rows h child column.place p.entry.0 p;
      inherits = rw c.in-Some.is (p, λ j. tail_has column.order column.place starts ends rows h child column.place p.entry.0 p j);
    })
