use Rattle.amd_factor.proofs.Partitions.SupernodeFigures.{supernodes-tell-needs}
use Rattle.amd_factor.proofs.supernode_laws.law_supernodes_tell_needs.Goals as goal

pub returns : goal.returns
returns c = supernodes-tell-needs
