use Rattle.std.proofs.Common.{ℕ, arith, refl}
use Rattle.amd_model.specs.Below.{count_below, sum_below}
use Rattle.amd_model.proofs.Counting.Below.{count_most}
use Rattle.amd_plain.specs.Views.{mark_at}
use Rattle.amd_round_laws.proofs.Lists.Rising.{count_yes, count_no}
use Rattle.amd_plain.proofs.start.count_marks.Goals as goal
use Rattle.amd_plain.proofs.start.count_marks.Goals.{then-mark, else-mark}

pub loop-mark-init : goal.loop-mark-init
unfolding count_below sum_below
loop-mark-init c = record { count = refl }

pub overflow_add-count : goal.overflow_add-count
overflow_add-count c =
    let is = c.loop-mark.invariant.count in
    let most = count_most c.loop-mark.mark-index (mark_at c.args.marks.now) in
    let here = c.loop-mark-test.true in
    omega (arith, is, most, here)

pub loop-mark-preserved : goal.loop-mark-preserved
loop-mark-preserved c =
    let k : ℕ = c.loop-mark.mark-index in
    record {
      count = elim c.if-mark.branch [
        | then-mark w ↦ rw w.count-is (count_yes (mark_at c.args.marks.now) k c.loop-mark.count c.loop-mark.invariant.count w.if-mark.true)
        | else-mark w ↦ rw w.count-is (count_no (mark_at c.args.marks.now) k c.loop-mark.count c.loop-mark.invariant.count w.if-mark.false)
      ];
    }
