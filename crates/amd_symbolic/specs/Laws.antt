-- The record of an ordering bounds the factor under its order, and what that needs.
use Rattle.std.specs.Prelude.{ℕ, ℤ, Bool, ◌<◌, ◌≤◌, ◌+◌, List, Option, length, unsigned_abs}
use Rattle.amd_model.specs.Below.{sum_below}
use Rattle.amd_model.specs.Figures.{ldl_steps, lu_steps}
use Rattle.amd_types.specs.declared.amd.Info.{Info}
use Rattle.amd_count_laws.specs.Parts.{part_size}
use Rattle.amd.specs.Answers.{IsOrderingHolding}
use Rattle.amd_factor.specs.Counted.{IsCountsOf}
use Rattle.amd_factor.specs.Factors.{IsFactorOf}
use Rattle.amd_factor.specs.declared.needs.Need.{Need}

-- the record bounds the columns, each figure where it was not cut
pub record FiguresBound (n : ℕ) (ptr rows : List ℕ) (info : Info) : Type 0 where
  pub lnz : info.lnz < 18446744073709551615 → length rows ≤ info.lnz
  pub divisions : info.n_div < 18446744073709551615 → length rows ≤ info.n_div
  pub ldl : info.n_mult_subs_ldl < 18446744073709551615 →
      sum_below n (λ k. ldl_steps (part_size ptr k)) ≤ info.n_mult_subs_ldl
  pub lu : info.n_mult_subs_lu < 18446744073709551615 →
      sum_below n (λ k. lu_steps (part_size ptr k)) ≤ info.n_mult_subs_lu
  pub greatest : (k : ℕ) → k < n → part_size ptr k + 1 ≤ info.d_max

-- the record of an ordering bounds the factor under its order
abbrev pub FiguresReserve : Type 0
FiguresReserve =
    (hold : Option (List Bool)) (n t : ℤ) (aggressive : Bool) (ap ai p q : List ℤ) (info : Info) (ptr rows : List ℕ)
    (parent : List (Option ℕ)) → IsOrderingHolding hold n t aggressive ap ai p q info →
    IsFactorOf n ap ai p ptr rows parent →
    FiguresBound (unsigned_abs n) ptr rows info

-- no need is more than the figure of a record, where that was not cut
pub record NeedsWithin (need : Need) (info : Info) : Type 0 where
  pub lnz : info.lnz < 18446744073709551615 → need.lnz ≤ info.lnz
  pub divisions : info.n_div < 18446744073709551615 → need.lnz ≤ info.n_div
  pub ldl : info.n_mult_subs_ldl < 18446744073709551615 → need.n_mult_subs_ldl ≤ info.n_mult_subs_ldl
  pub lu : info.n_mult_subs_lu < 18446744073709551615 → need.n_mult_subs_lu ≤ info.n_mult_subs_lu
  pub greatest : need.d_max ≤ info.d_max

-- the record of an ordering bounds the needs under its order
abbrev pub FiguresBoundNeeds : Type 0
FiguresBoundNeeds =
    (hold : Option (List Bool)) (n t : ℤ) (aggressive : Bool) (ap ai p q : List ℤ) (info : Info) (sizes : List ℕ)
    (parent : List (Option ℕ)) (need : Need) → IsOrderingHolding hold n t aggressive ap ai p q info →
    IsCountsOf n ap ai p sizes parent need → NeedsWithin need info
