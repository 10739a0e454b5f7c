-- Each turn paints one supernode more.
use Rattle.std.proofs.Common.{◌∙◌, ap, arith, subst, length, ◌≡◌, ◌-◌, ℕ}
use Rattle.std.specs.Prelude.{slice_index}
use Rattle.amd_report.specs.Canvases.{ShowsFronts}
use Rattle.amd_report.proofs.Painting.{fronts-none, fronts-step}
use Rattle.amd_report.proofs.canvas.canvas_of.Goals as goal

pub supernodes-init : goal.supernodes-init
supernodes-init g c =
    fronts-none c.in_ok-canvas.canvas c.args.first.now c.args.ptr.now c.args.layout.now.left.items c.args.layout.now.width.items
    c.args.layout.now.level.items c.in_ok-canvas.ensures

pub paint-requires : goal.paint-requires
paint-requires g c =
    let is = c.requires.1 in let s : ℕ = c.supernodes.s in
    let count : length c.requires.0 ≡ c.saturating_sub-count.result =
    (let a = is.room in let b = is.widths.room in let d = c.saturating_sub-count.ensures in let e = c.len.ensures in
    omega (arith, a, b, d, e)) in
    let inside = is.within s (let t = c.supernodes-test.true in omega (arith, t, count)) in
    let left = c.number_at-left.ensures ∙ ap (λ z. slice_index z s) c.deref-in-supernodes.ensures.value in
    let width = c.number_at-width.ensures ∙ ap (λ z. slice_index z s) c.deref-in-supernodes-2.ensures.value in
    let all = c.number_at-columns.ensures ∙ ap (λ z. slice_index z c.saturating_sub-count.result) c.deref.ensures.value in
    let same = ap (slice_index c.args.layout.now.width.items) count in
    let fits = c.number_at-columns.type_inv in omega (arith, inside, left, width, all, same, fits)

pub supernodes-preserved : goal.supernodes-preserved
supernodes-preserved g c =
    fronts-step _ _ c.args.first.now c.args.ptr.now c.args.layout.now.left.items c.args.layout.now.width.items
    c.args.layout.now.level.items c.supernodes.s _ _ _ _
    (c.number_at-left.ensures ∙ ap (λ z. slice_index z c.supernodes.s) c.deref-in-supernodes.ensures.value)
    (c.number_at-width.ensures ∙ ap (λ z. slice_index z c.supernodes.s) c.deref-in-supernodes-2.ensures.value)
    (c.number_at-level.ensures ∙ ap (λ z. slice_index z c.supernodes.s) c.deref-in-supernodes-3.ensures.value)
    c.front_of.ensures c.supernodes.invariant c.paint.ensures.same c.paint.ensures.paints

pub returns : goal.returns
returns g c =
    let e : c.supernodes.s ≡ length c.args.layout.now.width.items - 1 =
    (let t = c.supernodes-test.false in let a = c.supernodes.auto.s-end in let b = c.saturating_sub-count.ensures in
    let d = c.len.ensures in omega (arith, t, a, b, d)) in
    subst (ShowsFronts c.supernodes.canvas c.args.first.now c.args.ptr.now c.args.layout.now.left.items
    c.args.layout.now.width.items c.args.layout.now.level.items) e c.supernodes.invariant
