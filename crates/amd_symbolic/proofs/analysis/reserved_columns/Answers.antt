use Rattle.std.proofs.Common.{ℤ, List, map}
use Rattle.amd_factor.specs.declared.factor.Fault.TheVariants.{NotColumnForm, NotPermutation, RoomTooSmall}
use Rattle.amd_factor.specs.Factors.{IsFault}
use Rattle.amd_symbolic.proofs.Reserved.{never_small, permutes}
use Rattle.amd_symbolic.proofs.analysis.reserved_columns.Goals as goal

pub unreachable-requires : goal.unreachable-requires
unreachable-requires g c =
    let z : ℤ = g.I.Index.value c.args.n in
    let a_p : List ℤ = map g.I.Index.value c.args.a_p.now in let a_i : List ℤ = map g.I.Index.value c.args.a_i.now in
    let fault : IsFault z a_p a_i (map g.I.Index.value c.args.p.now) c.args.info.now.lnz NotColumnForm =
    rw c.in-Err-NotColumnForm.field-0-is at c.in-Err-NotColumnForm.ensures.fault in
    fault.1 (c.requires.ordering.4.form fault.0)

pub unreachable-requires-in-Err-NotPermutation : goal.unreachable-requires-in-Err-NotPermutation
unreachable-requires-in-Err-NotPermutation g c =
    let z : ℤ = g.I.Index.value c.args.n in
    let a_p : List ℤ = map g.I.Index.value c.args.a_p.now in let a_i : List ℤ = map g.I.Index.value c.args.a_i.now in
    let fault : IsFault z a_p a_i (map g.I.Index.value c.args.p.now) c.args.info.now.lnz NotPermutation =
    rw c.in-Err-NotPermutation.field-0-is at c.in-Err-NotPermutation.ensures.fault in
    let there = permutes _ _ _ _ _ _ _ _ z c.requires.ordering.4 in
    fault.1 there.0 there.1

pub unreachable-requires-in-Err-RoomTooSmall : goal.unreachable-requires-in-Err-RoomTooSmall
unreachable-requires-in-Err-RoomTooSmall g c =
    let z : ℤ = g.I.Index.value c.args.n in
    let a_p : List ℤ = map g.I.Index.value c.args.a_p.now in let a_i : List ℤ = map g.I.Index.value c.args.a_i.now in
    let fault : IsFault z a_p a_i (map g.I.Index.value c.args.p.now) c.args.info.now.lnz RoomTooSmall =
    rw c.in-Err-RoomTooSmall.field-0-is at c.in-Err-RoomTooSmall.ensures.fault in
    never_small _ _ _ _ _ _ _ _ z c.requires.ordering.4 c.if-info.false fault.1 fault.2 fault.3
