use Rattle.std.proofs.Common.{◌≡◌, ◌<◌, ℕ, map, length}
use Rattle.std.specs.Vec.{vec_capacity}
use Rattle.amd_words.specs.Words.{num}
use Rattle.amd_workspace.specs.Lower.{own_start}
use Rattle.amd_workspace.specs.Bands.{own_from}
use Rattle.amd_workspace.proofs.bands.push_heads.Given as goal

abbrev pub invariant-columns : goal.invariant-columns
invariant-columns g l = record {
  end : l.end ≡ own_start l.size (map g.I.Index.value l.a_p) (map g.I.Index.value l.a_i) l.j;
  long : length l.heads.items ≡ l.j;
  capacity : vec_capacity l.heads ≡ vec_capacity l.fn.heads;
  each : (i : ℕ) → i < l.j → num l.heads.items i ≡ own_from l.size (map g.I.Index.value l.a_p) (map g.I.Index.value l.a_i) i 0;
}
