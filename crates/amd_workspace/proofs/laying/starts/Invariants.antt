use Rattle.std.proofs.Common.{◌≡◌, ◌<◌, ℕ, length, map, get_or, pos}
use Rattle.std.specs.Vec.{vec_capacity}
use Rattle.amd_model.specs.Below.{sum_below}
use Rattle.amd_words.specs.Words.{num}
use Rattle.amd_workspace.proofs.laying.starts.Given as goal

abbrev pub invariant-rows : goal.invariant-rows
invariant-rows g l = record {
  pe_room : vec_capacity l.places ≡ vec_capacity l.fn.pe;
  next_room : vec_capacity l.ends ≡ vec_capacity l.fn.next;
  size : length l.ends.items ≡ l.row;
  each : (a : ℕ) → a < l.row → get_or l.ends.items a 0 ≡ sum_below a (num l.degrees);
  words : l.places.items ≡ map pos l.ends.items;
  total : l.total ≡ sum_below l.row (num l.degrees);
}
