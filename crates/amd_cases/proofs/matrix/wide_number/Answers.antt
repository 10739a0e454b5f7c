-- The number is that of the eight bytes that were read.
use Rattle.std.proofs.Common.{◌∙◌, w64}
use Rattle.std.proofs.Math.Facts.{to_z-of_z}
use Rattle.amd_cases.specs.Matrices.{wide_of}
use Rattle.amd_cases.proofs.MatrixLemmas.{reads-one}
use Rattle.amd_cases.proofs.matrix.wide_number.Goals as goal

pub returns : goal.returns
returns g c = reads-one 8 wide_of _ _ c.read_exact.new.buf _ c.read_exact.auto.buf
    (to_z-of_z {w = w64} (record { sfits = c.from_le_bytes.type_inv }) ∙ c.from_le_bytes.ensures) c.in_ok-read_exact.ensures.bytes
