use Rattle.std.specs.Prelude.{◌≡◌, ◌+◌, ◌++◌, List, ℤ, length}
use Rattle.std.specs.Vec.{vec_capacity}
use Rattle.amd_engine.proofs.running.grow.Given as goal

abbrev pub invariant-words : goal.invariant-words
invariant-words g l = record {
  words : (more : List ℤ) × (l.iw.items ≡ l.fn.iw.items ++ more);
  long : length l.iw.items ≡ length l.fn.iw.items + l.counter;
  capacity : vec_capacity l.iw ≡ vec_capacity l.fn.iw;
}
