-- What is not fit for a factor is a fault of the calls that make one.
use Rattle.std.proofs.Common.{ℕ, ℤ, List, ◌≡◌, subst, sym}
use Rattle.amd_factor.specs.Counted.{IsCountsFault}
use Rattle.amd_factor.specs.Factors.{IsFault}
use Rattle.amd_factor.specs.Unfit.{IsUnfit, fault_of}
use Rattle.amd_factor.specs.declared.entrance.Unfit.{Unfit}
use Rattle.amd_factor.specs.declared.entrance.Unfit.TheVariants.{NotColumnForm, NotPermutation}
use Rattle.amd_factor.specs.declared.factor.Fault.{Fault}

module _ (z : ℤ) (ap' ai p : List ℤ) where
  pub counts_fault : (e : Unfit) (r : Fault) → r ≡ fault_of e → IsUnfit z ap' ai p e → IsCountsFault z ap' ai p r
  counts_fault NotColumnForm r is h = subst (IsCountsFault z ap' ai p) (sym is) h
  counts_fault NotPermutation r is h = subst (IsCountsFault z ap' ai p) (sym is) ((λ some. absurd (some h.0)), h.1)

  pub columns_fault : (room : ℕ) (e : Unfit) (r : Fault) → r ≡ fault_of e → IsUnfit z ap' ai p e → IsFault z ap' ai p room r
  columns_fault room NotColumnForm r is h = subst (IsFault z ap' ai p room) (sym is) h
  columns_fault room NotPermutation r is h = subst (IsFault z ap' ai p room) (sym is) ((λ some. absurd (some h.0)), h.1)
