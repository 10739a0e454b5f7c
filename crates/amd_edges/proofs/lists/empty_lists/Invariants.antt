use Rattle.std.proofs.Common.{◌≡◌, ◌<◌, ◌≤◌, ℕ, [], length, map, get_or}
use Rattle.std.specs.Vec.{vec_capacity}
use Rattle.amd_edges.proofs.lists.empty_lists.Given as goal

abbrev pub invariant-rows : goal.invariant-rows
invariant-rows g l = record {
  room : length l.degrees ≤ vec_capacity l.rows;
  size : length l.rows.items ≡ l.degree-index;
  empty : (a : ℕ) → a < l.degree-index → get_or (map (λ v. v.items) l.rows.items) a [] ≡ [];
  rooms : (a : ℕ) → a < l.degree-index → get_or l.degrees a 0 ≤ get_or (map vec_capacity l.rows.items) a 0;
}
