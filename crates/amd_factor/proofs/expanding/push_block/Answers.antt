use Rattle.std.proofs.Common.{◌≡◌, arith, take, subst}
use Rattle.amd_factor.specs.Columns.{HoldColumns}
use Rattle.amd_factor.proofs.expanding.push_block.Goals as goal

pub places-preserved : goal.places-preserved
places-preserved g c = λ columns most each held. let t = c.places-test.true in let lo = c.places.auto.k in
    c.in_ok-push_column.ensures columns (omega (arith, most, t)) (each c.places.k lo t) (c.places.invariant columns most each held)

pub returns : goal.returns
returns g c = λ columns most each held. let t = c.places-test.false in let e = c.places.auto.k-end in
    let last : c.places.k ≡ c.args.end = omega (arith, t, e) in
    subst (λ k. HoldColumns (take k columns) c.places.ptr.items c.places.rows.items c.places.parent.items) last
    (c.places.invariant columns most each held)
