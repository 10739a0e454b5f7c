-- The rows so far link to themselves.
use Rattle.std.proofs.Common.{◌≡◌, ◌<◌, ℕ, length}
use Rattle.std.specs.Prelude.{slice_index}
use Rattle.amd_report.proofs.components.own_links.Given as goal

abbrev pub invariant-rows : goal.invariant-rows
invariant-rows g l = record {
  size : length l.links.items ≡ l.row;
  own : (i : ℕ) → i < l.row → slice_index l.links.items i ≡ i;
}
