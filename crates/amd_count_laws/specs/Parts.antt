-- Parts of a list: part k stands from the place ptr[k] on, before ptr[k + 1].
use Rattle.std.specs.Prelude.{ℕ, ◌+◌, ◌-◌, List, slice_index, slice_range}

-- how many places part k has
abbrev pub part_size : List ℕ → ℕ → ℕ
part_size ptr k = slice_index ptr (k + 1) - slice_index ptr k

-- what stands in part k of a list
abbrev pub part_of : List ℕ → List ℕ → ℕ → List ℕ
part_of ptr xs k = slice_range xs (slice_index ptr k) (slice_index ptr (k + 1))
