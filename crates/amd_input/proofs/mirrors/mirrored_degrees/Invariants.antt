-- The columns before `k` were read, and each upper entry has its mirror.
use Rattle.std.proofs.Common.{◌≡◌, ◌≤◌, map}
use Rattle.std.specs.Vec.{vec_capacity}
use Rattle.amd_model.specs.Below.{count_below}
use Rattle.amd_types.specs.Naturals.{naturals, is_entry}
use Rattle.amd_input.specs.Mirrors.{HaveMirrors, CountOthers}
use Rattle.amd_input.proofs.mirrors.mirrored_degrees.Given as goal

abbrev pub invariant-columns : goal.invariant-columns
invariant-columns g l = record {
  count : l.diagonals ≡ count_below l.k (λ j. is_entry l.fn.size (naturals (map g.I.Index.value l.a_p)) (naturals (map g.I.Index.value
      l.a_i))
      j j);
  small : l.diagonals ≤ l.k;
  next : vec_capacity l.next ≡ vec_capacity l.fn.next;
  degrees : vec_capacity l.degrees ≡ vec_capacity l.fn.degrees;
  read : HaveMirrors l.fn.size (naturals (map g.I.Index.value l.a_p)) (naturals (map g.I.Index.value l.a_i)) l.next.items l.k 0;
  others : CountOthers l.fn.size (naturals (map g.I.Index.value l.a_p)) (naturals (map g.I.Index.value l.a_i)) l.k l.degrees.items;
}
