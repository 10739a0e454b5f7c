use Rattle.std.proofs.Common.{◌+◌, [], subst, sym, arith}
use Rattle.std.specs.Prelude.{Contains}
use Rattle.amd_factor.specs.Gathering.{Marks}
use Rattle.amd_factor.proofs.Factors.Tails.{inherited_behind, marks_begin}
use Rattle.amd_factor.proofs.column.mark_base.Goals as goal

pub mark_rows-requires-clause-within : goal.mark_rows-requires-clause-within
mark_rows-requires-clause-within g c =
    let can = c.requires.1 in
    λ j h. (
    let b = inherited_behind g.c c.args.base can.inherits j (subst (λ xs. Contains xs j) (sym can.taken) h) in
    let room = can.marks.room in let l = b.1 in omega (arith, room, l))

pub returns : goal.returns
returns g c =
    let can = c.requires.1 in
    let place = can.place in
    subst (λ n. Marks g.c (n + 1) [] c.mark_rows.new.mark) place
    (marks_begin g.c c.args.base c.args.marked.column c.args.marked.stamp c.args.mark.now c.mark_rows.new.mark can.inherits
    can.marks c.mark_rows.auto.mark
    (λ j h. (let m = c.mark_rows.ensures.marked j (subst (λ xs. Contains xs j) can.taken h) in omega (arith, m, place)))
    (λ j h. c.mark_rows.ensures.others j (λ x. h (subst (λ xs. Contains xs j) (sym can.taken) x))))
