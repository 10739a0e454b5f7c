use Rattle.std.proofs.Common.{arith}
use Rattle.amd_model.specs.Figures.{cut, entries, ldl_steps, lu_steps}
use Rattle.amd_types.proofs.FrontShares.{none}
use Rattle.amd_types.proofs.internal.front_counts.Goals as goal

pub returns-then-f-eq0 : goal.returns-then-f-eq0
returns-then-f-eq0 c = record {
  lnz = none entries c.args.f c.args.r c.if-f-eq0.true;
  ldl = none ldl_steps c.args.f c.args.r c.if-f-eq0.true;
  lu = none lu_steps c.args.f c.args.r c.if-f-eq0.true;
}

pub returns-then-r-le-SMALL_FRONT : goal.returns-then-r-le-SMALL_FRONT
unfolding cut
returns-then-r-le-SMALL_FRONT c = record {
  lnz = omega arith;
  ldl = omega arith;
  lu = omega arith;
}
