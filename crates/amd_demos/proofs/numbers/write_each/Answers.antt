-- The numbers so far are written.
use Rattle.std.proofs.Common.{rules, arith, pos, w32}
use Rattle.std.proofs.KnownBytes.{Appends-nil}
use Rattle.std.proofs.Math.Facts.{to_z-of_z}
use Rattle.amd_demos.proofs.Written.{each-next, each-whole, number-named}
use Rattle.amd_demos.proofs.numbers.write_each.Goals as goal

pub loop-number-init : goal.loop-number-init
loop-number-init g c = Appends-nil _

pub loop-number-preserved : goal.loop-number-preserved
loop-number-preserved g c =
    let shown = number-named _ _ _ _ _ (to_z-of_z {w = w32} (search rules)) c.in_ok-write.ensures.bytes in
    each-next _ _ _ (pos 0) _ _ _ (omega arith) c.loop-number.invariant shown

pub returns : goal.returns
returns g c = each-whole _ _ _ _ _ (omega arith) c.loop-number.invariant
