use Rattle.std.proofs.Common.{◌∙◌, ap, subst}
use Rattle.std.specs.Prelude.{◌↔◌, ◌<ℤ◌, IsTrue}
use Rattle.amd_types.proofs.Comparing.{below_is}
use Rattle.amd_types.proofs.index.AnyIndex.is_negative.Goals as goal

pub returns : goal.returns
returns g c =
    let value = g.I.Number.value in let exact = g.met.I.Integral.exact_law in let zero = c.zero.result in
    subst (λ y. IsTrue c.lt.result ↔ (value c.args.self <ℤ y)) (ap value c.zero.ensures ∙ g.met.I.Zero.zero_law exact)
    (below_is g.I.PartialOrd.partial_cmp c.args.self zero (value c.args.self) (value zero) c.lt.result
    (g.met.I.Number.order_law c.args.self zero exact) c.lt.ensures)
