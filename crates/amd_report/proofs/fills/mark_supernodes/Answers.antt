-- Each turn marks the fill of one supernode more.
use Rattle.std.proofs.Common.{◌≡◌, ◌≤◌, ◌-◌, length, arith, refl, subst, ◌∙◌}
use Rattle.std.specs.Prelude.{slice_index}
use Rattle.amd_report.specs.Fills.{AddsFill, IsBlockFill, IsFillOf}
use Rattle.amd_report.proofs.Cells.{covers-same}
use Rattle.amd_report.proofs.Filling.{fill-next, fill-none}
use Rattle.amd_report.proofs.fills.mark_supernodes.Goals as goal

pub supernodes-init : goal.supernodes-init
supernodes-init g c = (
  refl,
  c.requires.covers,
  (λ j. (let z = c.requires.stamps j in omega (arith, z))),
  fill-none _ _ _ _ _ _ _,
)

pub supernodes-preserved : goal.supernodes-preserved
supernodes-preserved g c =
    let i = c.supernodes.invariant in
    let e = c.in_ok-mark_supernode.ensures in (
      e.room ∙ i.0,
      covers-same c.supernodes.grid c.mark_supernode.new.grid (length c.args.work.now.edge.items) e.adds.same i.1,
      (λ j. subst (λ z. slice_index c.mark_supernode.new.work.edge.items j ≤ z) c.number_at-end.ensures (e.stamps j)),
      fill-next c.args.grid.now c.supernodes.grid c.mark_supernode.new.grid (length c.args.work.now.edge.items) c.args.first.now
          c.args.ptr.now c.args.rows.now c.args.starts.now c.args.later.now c.rows_between-below.result.now c.supernodes.s _ _
          c.number_at-begin.ensures c.number_at-end.ensures c.rows_between-below.ensures i.3
          (subst (λ z. AddsFill c.supernodes.grid c.mark_supernode.new.grid z (IsBlockFill c.number_at-begin.result
          c.number_at-end.result c.rows_between-below.result.now c.args.starts.now c.args.later.now)) i.0 e.adds),
    )

pub returns : goal.returns
returns g c =
    let t = c.supernodes-test.false in let a = c.supernodes.auto.s-end in let b = c.saturating_sub-s-end.ensures in
    let e : c.supernodes.s ≡ length c.args.first.now - 1 = omega (arith, t, a, b) in
    subst (λ z. AddsFill c.args.grid.now c.supernodes.grid (length c.args.work.now.edge.items)
    (IsFillOf c.args.first.now c.args.ptr.now c.args.rows.now c.args.starts.now c.args.later.now z)) e c.supernodes.invariant.3
