use Rattle.std.proofs.Common.{◌-◌, ◌<◌, arith, sym, rules}
use Rattle.amd_input.proofs.Classes.{rising_rows}
use Rattle.amd_input.proofs.valid.column_status.Goals as goal
use Rattle.amd_input.proofs.valid.column_status.Goals.{then-is_negative-via-then-is_negative}
use Rattle.amd_input.proofs.valid.column_status.Goals.{then-is_negative-via-else-is_negative+then-not-is_below}

pub returns-then-is_negative : goal.returns-then-is_negative
returns-then-is_negative g c = elim c.then-is_negative.branch [
  | then-is_negative-via-then-is_negative w ↦ (c.args.from, omega arith, omega arith, rw (sym c.value_at.ensures) (search rules))
  | then-is_negative-via-else-is_negative+then-not-is_below w ↦
      (c.args.to - 1, omega arith, omega arith, rw (sym c.value_at-last.ensures) (search rules))
]

pub returns-then-rises : goal.returns-then-rises
returns-then-rises g c =
    let up = c.rises.ensures.rise c.if-rises.true in
    let some : c.args.from < c.args.to = omega arith in
    let first = c.value_at.ensures in
    let last = c.value_at-last.ensures in
    (rising_rows _ _ c.args.from c.args.to some up (rw (sym first) (search rules)) (rw (sym last) (search rules)), up)
