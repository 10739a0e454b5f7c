use Rattle.std.proofs.Common.{◌≡◌, length, subst, arith}
use Rattle.amd_engine_tests.proofs.Forests.{ArePlaced, forest_from}
use Rattle.amd_engine_tests.proofs.tests.trees.is_forest.Goals as goal

pub returns : goal.returns
returns c = λ _.
    let parent = c.args.parent.now in let nv = c.args.nv.now in let f_size = c.args.f_size.now in let rank = c.args.rank.now in
    let most = c.elements.auto.e-end in let least = c.elements-test.false in
    let all : c.elements.e ≡ length parent = omega (arith, most, least) in
    forest_from (length parent) parent nv f_size rank (subst (ArePlaced (length parent) parent nv f_size rank) all c.elements.invariant)
