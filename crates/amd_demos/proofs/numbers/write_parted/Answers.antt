-- The first number is written, and then the others.
use Rattle.std.proofs.Common.{rules, w32}
use Rattle.std.proofs.Math.Facts.{to_z-of_z}
use Rattle.amd_demos.proofs.Parts.{parted-none, parted-some}
use Rattle.amd_demos.proofs.numbers.write_parted.Goals as goal

pub returns-in_default : goal.returns-in_default
returns-in_default g c = parted-none _ _ c.in_default.ensures.cases

pub returns : goal.returns
returns g c = parted-some _ _ _ _ _ _ _ c.in-Some.ensures.cases.0 (to_z-of_z {w = w32} (search rules)) c.in_ok-write.ensures.bytes
    c.in_ok-write_each.ensures
