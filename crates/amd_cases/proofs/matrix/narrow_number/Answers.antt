-- The number is that of the four bytes that were read.
use Rattle.std.proofs.Common.{◌∙◌, w32}
use Rattle.std.proofs.Math.Facts.{to_z-of_z}
use Rattle.amd_cases.specs.Matrices.{narrow_of}
use Rattle.amd_cases.proofs.MatrixLemmas.{reads-one}
use Rattle.amd_cases.proofs.matrix.narrow_number.Goals as goal

pub returns : goal.returns
returns g c = reads-one 4 narrow_of _ _ c.read_exact.new.buf _ c.read_exact.auto.buf
    (to_z-of_z {w = w32} (record { sfits = c.from_le_bytes.type_inv }) ∙ c.from_le_bytes.ensures) c.in_ok-read_exact.ensures.bytes
