use Rattle.std.proofs.Common.{◌≡◌, ◌-◌, true}
use Rattle.std.specs.Prelude.{◌==◌}
use Rattle.amd_model.specs.Quotient.{each}
use Rattle.amd_words.specs.Words.{num, rows}
use Rattle.amd_merging.proofs.merging.all_marked.Given as goal

abbrev pub invariant-loop-q : goal.invariant-loop-q
invariant-loop-q g l = each (λ x. num l.w x == l.flag) (rows l.iw l.from (l.q - l.from)) ≡ true
