use Rattle.std.proofs.Common.{ℤ, List, map}
use Rattle.amd_factor.specs.declared.factor.Fault.TheVariants.{NotColumnForm, NotPermutation, RoomTooSmall}
use Rattle.amd_factor.specs.Counted.{IsCountsFault}
use Rattle.amd_symbolic.proofs.Reserved.{permutes}
use Rattle.amd_symbolic.proofs.counting.ordered_counts.Goals as goal

pub unreachable-requires : goal.unreachable-requires
unreachable-requires g c =
    let z : ℤ = g.I.Index.value c.args.n in
    let a_p : List ℤ = map g.I.Index.value c.args.a_p.now in let a_i : List ℤ = map g.I.Index.value c.args.a_i.now in
    let fault : IsCountsFault z a_p a_i (map g.I.Index.value c.args.p.now) NotColumnForm =
    rw c.in-Err-NotColumnForm.field-0-is at c.in-Err-NotColumnForm.ensures.fault in
    fault.1 (c.requires.ordering.4.form fault.0)

pub unreachable-requires-in-Err-NotPermutation : goal.unreachable-requires-in-Err-NotPermutation
unreachable-requires-in-Err-NotPermutation g c =
    let z : ℤ = g.I.Index.value c.args.n in
    let a_p : List ℤ = map g.I.Index.value c.args.a_p.now in let a_i : List ℤ = map g.I.Index.value c.args.a_i.now in
    let fault : IsCountsFault z a_p a_i (map g.I.Index.value c.args.p.now) NotPermutation =
    rw c.in-Err-NotPermutation.field-0-is at c.in-Err-NotPermutation.ensures.fault in
    let there = permutes _ _ _ _ _ _ _ _ z c.requires.ordering.4 in
    fault.1 there.0 there.1

pub unreachable-requires-in-Err-RoomTooSmall : goal.unreachable-requires-in-Err-RoomTooSmall
unreachable-requires-in-Err-RoomTooSmall g c =
    let z : ℤ = g.I.Index.value c.args.n in
    let a_p : List ℤ = map g.I.Index.value c.args.a_p.now in let a_i : List ℤ = map g.I.Index.value c.args.a_i.now in
    let fault : IsCountsFault z a_p a_i (map g.I.Index.value c.args.p.now) RoomTooSmall =
    rw c.in-Err-RoomTooSmall.field-0-is at c.in-Err-RoomTooSmall.ensures.fault in
    fault
