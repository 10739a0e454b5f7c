use Rattle.amd.proofs.BytesGrow.{bytes_grow}
use Rattle.amd.proofs.laws.law_fewer_bytes.Goals as goal

pub returns : goal.returns
returns c = λ n e m f rows entries. bytes_grow n e m f rows entries
