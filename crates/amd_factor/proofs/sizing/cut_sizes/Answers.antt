use Rattle.amd_factor.proofs.Partitions.Cutting.{have-parents}
use Rattle.amd_factor.proofs.Partitions.CutSizes.{sizes-told}
use Rattle.amd_factor.proofs.sizing.cut_sizes.Goals as goal

pub number_places-supernodes-requires-clause-parents : goal.number_places-supernodes-requires-clause-parents
number_places-supernodes-requires-clause-parents g c =
    let k = c.requires.1.0 in have-parents g.o k.columns k.factor c.args.sizes.now c.args.parent.now k.sizes_are k.parents

pub returns : goal.returns
returns g c =
    let laws = c.requires.0 in let counts = c.requires.1.0 in
    sizes-told g.o laws c.args.sizes.now c.number_places-supernodes.new.owner c.args.parent.now counts
    c.number_places-supernodes.result c.in-Some.rows c.number_places-supernodes.ensures c.in-Some.ensures
