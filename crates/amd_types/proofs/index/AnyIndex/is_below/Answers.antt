use Rattle.amd_types.proofs.Comparing.{below_is}
use Rattle.amd_types.proofs.index.AnyIndex.is_below.Goals as goal

pub returns : goal.returns
returns g c =
    let value = g.I.Number.value in
    below_is g.I.PartialOrd.partial_cmp c.args.self c.args.other (value c.args.self) (value c.args.other) c.lt.result
    (g.met.I.Number.order_law c.args.self c.args.other g.met.I.Integral.exact_law) c.lt.ensures
