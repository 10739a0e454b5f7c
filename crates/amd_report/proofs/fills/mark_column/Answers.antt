-- Rows that are opened, or were ready, are sifted.
use Rattle.std.proofs.Common.{⊎_elim, length, subst, sym, ap, arith, ◌+◌, ◌≤◌, ◌∙◌, List, ℕ}
use Rattle.std.specs.Prelude.{slice_index}
use Rattle.amd_report.specs.Grids.{HasCells}
use Rattle.amd_report.specs.Fills.{AddsFill, IsColumnFill, IsReady}
use Rattle.amd_report.proofs.Pushed.{written-over}
use Rattle.amd_report.proofs.Sifting.{ready-opened}
use Rattle.amd_report.proofs.fills.mark_column.Goals as goal

pub sift_column-requires-clause-covers : goal.sift_column-requires-clause-covers
sift_column-requires-clause-covers g c = subst (HasCells c.args.grid.now) (sym (ap length c.deref_mut.ensures.value)) c.requires.covers

pub sift_column-requires-clause-column : goal.sift_column-requires-clause-column
sift_column-requires-clause-column g c =
    let room = ap length c.deref_mut.ensures.value in let column = c.requires.column in omega (arith, room, column)

pub sift_column-requires-clause-stamps : goal.sift_column-requires-clause-stamps
sift_column-requires-clause-stamps g c =
    λ j. subst (λ z. slice_index z j ≤ c.args.k) (sym c.deref_mut.ensures.value) (c.requires.stamps j)

pub returns-clause-room : goal.returns-clause-room
returns-clause-room g c =
    let edge = c.args.work.now.edge in let new : List ℕ = c.sift_column.new.edge in
    let room = c.in_ok-sift_column.ensures.room ∙ ap length c.deref_mut.ensures.value in
    let all = written-over new edge.items edge.len (let a = edge.ok.0 in omega (arith, room, a)) in
    ap length all ∙ room

pub returns-clause-stamps : goal.returns-clause-stamps
returns-clause-stamps g c =
    let edge = c.args.work.now.edge in let new : List ℕ = c.sift_column.new.edge in
    let room = c.in_ok-sift_column.ensures.room ∙ ap length c.deref_mut.ensures.value in
    let all = written-over new edge.items edge.len (let a = edge.ok.0 in omega (arith, room, a)) in
    λ j. subst (λ z. slice_index z j ≤ c.args.k + 1) (sym all) (c.in_ok-sift_column.ensures.stamps j)

pub returns-clause-adds : goal.returns-clause-adds
returns-clause-adds g c =
    let n : ℕ = length c.args.work.now.edge.items in
    let opened : List ℕ = c.open_column.new.open.items in
    let ready : IsReady c.args.grid.now n c.args.k c.args.end c.args.below.now opened = ⊎_elim
    (λ kept. subst (IsReady c.args.grid.now n c.args.k c.args.end c.args.below.now) (sym kept.1) (c.requires.ready kept.0))
    (λ new. ready-opened c.args.grid.now n c.args.k c.args.end c.args.below.now opened new) c.in_ok-open_column.ensures in
    let room = ap length c.deref_mut.ensures.value in
    subst (λ z. AddsFill c.args.grid.now c.sift_column.new.grid z (IsColumnFill c.args.k c.args.end c.args.below.now c.args.later.now)) room
    (c.in_ok-sift_column.ensures.adds c.args.end c.args.below.now
    (subst (λ z. IsReady c.args.grid.now z c.args.k c.args.end c.args.below.now c.deref.result.now) (sym room)
    (subst (IsReady c.args.grid.now n c.args.k c.args.end c.args.below.now) (sym c.deref.ensures.value) ready)))

pub returns-clause-ready : goal.returns-clause-ready
returns-clause-ready g c column =
    let n : ℕ = length c.args.work.now.edge.items in
    let opened : List ℕ = c.open_column.new.open.items in
    let ready : IsReady c.args.grid.now n c.args.k c.args.end c.args.below.now opened = ⊎_elim
    (λ kept. subst (IsReady c.args.grid.now n c.args.k c.args.end c.args.below.now) (sym kept.1) (c.requires.ready kept.0))
    (λ new. ready-opened c.args.grid.now n c.args.k c.args.end c.args.below.now opened new) c.in_ok-open_column.ensures in
    let room = ap length c.deref_mut.ensures.value in
    subst (λ z. IsReady c.sift_column.new.grid n (c.args.k + 1) c.args.end c.args.below.now z)
    (ap (λ v. v.items) (sym c.swap.ensures.x_after))
    (subst (λ z. IsReady c.sift_column.new.grid z (c.args.k + 1) c.args.end c.args.below.now c.sift_column.new.kept.items) room
    (c.in_ok-sift_column.ensures.ready c.args.end c.args.below.now column
    (subst (λ z. IsReady c.args.grid.now z c.args.k c.args.end c.args.below.now c.deref.result.now) (sym room)
    (subst (IsReady c.args.grid.now n c.args.k c.args.end c.args.below.now) (sym c.deref.ensures.value) ready))))
