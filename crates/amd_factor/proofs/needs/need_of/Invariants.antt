use Rattle.std.proofs.Common.{◌≡◌, ℕ, List, take, slice_index}
use Rattle.amd_factor.specs.Needs.{IsNeed, IsSmall, TellSizes}
use Rattle.amd_factor.proofs.needs.need_of.Given as goal

abbrev pub invariant-columns : goal.invariant-columns
invariant-columns l =
    ((columns : List (List ℕ)) → TellSizes columns l.ptr → IsNeed (take l.k columns) l.need)
    × (l.need.lnz ≡ slice_index l.ptr l.k) × IsSmall l.need
