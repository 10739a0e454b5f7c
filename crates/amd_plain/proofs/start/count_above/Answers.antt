use Rattle.std.proofs.Common.{ℕ, Bool, arith, refl}
use Rattle.std.specs.Prelude.{nat_lt}
use Rattle.std.proofs.lemmas.Bool.{lt-ltb, le-ltb}
use Rattle.amd_model.specs.Below.{count_below, sum_below}
use Rattle.amd_model.proofs.Counting.Below.{count_most}
use Rattle.amd_plain.specs.Views.{num}
use Rattle.amd_round_laws.proofs.Lists.Rising.{count_yes, count_no}
use Rattle.amd_plain.proofs.start.count_above.Goals as goal
use Rattle.amd_plain.proofs.start.count_above.Goals.{then-k-limit, else-k-limit}

pub loop-k-init : goal.loop-k-init
unfolding count_below sum_below
loop-k-init c = record { count = refl }

pub overflow_add-count : goal.overflow_add-count
overflow_add-count c =
    let is = c.loop-k.invariant.count in
    let most = count_most c.loop-k.k-index (λ i. nat_lt c.args.limit (num c.args.numbers.now i)) in
    let here = c.loop-k-test.true in
    omega (arith, is, most, here)

pub loop-k-preserved : goal.loop-k-preserved
loop-k-preserved c =
    let k : ℕ = c.loop-k.k-index in
    let p : ℕ → Bool = λ i. nat_lt c.args.limit (num c.args.numbers.now i) in
    record {
      count = elim c.if-k-limit.branch [
        | then-k-limit w ↦ rw w.count-is (count_yes p k c.loop-k.count c.loop-k.invariant.count
            (lt-ltb c.args.limit (num c.args.numbers.now k) w.if-k-limit.true))
        | else-k-limit w ↦ rw w.count-is (count_no p k c.loop-k.count c.loop-k.invariant.count
            (le-ltb c.args.limit (num c.args.numbers.now k) w.if-k-limit.false))
      ];
    }
