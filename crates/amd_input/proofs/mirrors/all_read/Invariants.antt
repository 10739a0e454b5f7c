use Rattle.std.proofs.Common.{◌≡◌, ◌+◌, ◌<◌, ℕ, map, get_or}
use Rattle.amd_types.specs.Naturals.{naturals}
use Rattle.amd_input.proofs.mirrors.all_read.Given as goal

abbrev pub invariant-columns : goal.invariant-columns
invariant-columns g l = (a : ℕ) → a < l.j → get_or l.next a 0 ≡ get_or (naturals (map g.I.Index.value l.a_p)) (a + 1) 0
