-- The rows of the column above row m were read.
use Rattle.std.proofs.Common.{◌≡◌, ◌-◌, ℕ, map, get_or}
use Rattle.std.specs.Vec.{vec_capacity}
use Rattle.amd_types.specs.Naturals.{naturals}
use Rattle.amd_edges.proofs.Reading.{IsReading}
use Rattle.amd_input.specs.Mirrors.{HaveMirrors}
use Rattle.amd_input.proofs.mirrors.uppers.Given as goal

abbrev pub invariant-uppers : goal.invariant-uppers
invariant-uppers g l = (m : ℕ) × record {
  place : IsReading (naturals (map g.I.Index.value l.a_i)) (get_or (naturals (map g.I.Index.value l.a_p)) l.k 0) l.end l.k m l.place;
  room : vec_capacity l.next ≡ vec_capacity l.fn.next;
  read : HaveMirrors l.size (naturals (map g.I.Index.value l.a_p)) (naturals (map g.I.Index.value l.a_i)) l.next.items l.k m;
}

abbrev pub decreases-uppers : goal.decreases-uppers
decreases-uppers g l = l.end - l.place
