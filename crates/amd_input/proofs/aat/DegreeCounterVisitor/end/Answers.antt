use Rattle.std.proofs.Common.{arith}
use Rattle.amd_input.proofs.Counting.{mark_most}
use Rattle.amd_input.proofs.aat.DegreeCounterVisitor.end.Goals as goal

pub cell_of-requires : goal.cell_of-requires
cell_of-requires g c =
    let r = c.requires in
    let most = mark_most r.0 r.1 c.args.j c.args.mark c.args.self.now.degrees.items r.3.0 r.4 in
    let fits = r.3.1 in omega (arith, most, fits)
