-- What a factor needs, by where its columns begin and end.
use Rattle.std.specs.Prelude.{◌≡◌, ◌≤◌, ◌<◌, ◌+◌, ◌*◌, ℕ, List, length, slice_index, slice_index_or}
use Rattle.amd_model.specs.Factor.{needed, needed_front}
use Rattle.amd_model.specs.Figures.{entries, ldl_steps, lu_steps}
use Rattle.amd_factor.specs.declared.needs.Need.{Need}

-- by the pointers each column has so many entries
pub record TellSizes (columns : List (List ℕ)) (ptr : List ℕ) : Type 0 where
  pub pointers : length ptr ≡ length columns + 1
  pub first : slice_index ptr 0 ≡ 0
  pub ends : (k : ℕ) (d : List ℕ) → k < length columns → slice_index ptr (k + 1) ≡ slice_index ptr k
      + length (slice_index_or columns k d)

-- the needs of a factor with these columns
pub record IsNeed (columns : List (List ℕ)) (need : Need) : Type 0 where
  pub lnz : need.lnz ≡ needed entries columns
  pub ldl : need.n_mult_subs_ldl ≡ needed ldl_steps columns
  pub lu : need.n_mult_subs_lu ≡ needed lu_steps columns
  pub greatest : need.d_max ≡ needed_front columns

-- the steps are no more than fit beside the entries
pub record IsSmall (need : Need) : Type 0 where
  pub ldl : need.n_mult_subs_ldl ≤ need.lnz * need.lnz
  pub lu : need.n_mult_subs_lu ≤ need.lnz * need.lnz
