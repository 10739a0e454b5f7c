-- What the calls for the counts of a factor's columns leave in a caller's arrays and record, and which number they
-- answer.
use Rattle.std.specs.Prelude.{◌≡◌, ◌≢◌, ℕ, ℤ, pos, Option, Result, Ok, Err, List, map}
use Rattle.amd_model.specs.Figures.{cut}
use Rattle.amd_factor.specs.Counted.{IsCountsFault, IsCountsOf}
use Rattle.amd_factor.specs.declared.factor.Fault.{Fault}
use Rattle.amd_factor.specs.declared.factor.Fault.TheVariants.{NotColumnForm}
use Rattle.amd_factor.specs.declared.needs.Need.{Need}
use Rattle.amd_calls.specs.Calls.{HasPlaces}
use Rattle.amd_calls.specs.Columns.{number_of_end, parent_number}
use Rattle.amd_calls.specs.declared.records.SaturatedNeed.{SaturatedNeed}

-- what stands in a caller's arrays for the sizes and the parents, and in the record of needs
pub record Tallies : Type 0 where
  pub sizes : List ℤ
  pub parent : List ℤ
  pub needs : SaturatedNeed

abbrev pub tallies : List ℤ → List ℤ → SaturatedNeed → Tallies
tallies sizes parent needs = record { sizes = sizes; parent = parent; needs = needs }

-- the needs, each cut at the greatest number of its field
abbrev pub saturated_need : Need → SaturatedNeed
saturated_need need = record {
  lnz = cut need.lnz;
  n_mult_subs_ldl = cut need.n_mult_subs_ldl;
  n_mult_subs_lu = cut need.n_mult_subs_lu;
  d_max = cut need.d_max;
}

-- the arrays hold the counts of the factor under the order p, and the record what the factor needs
pub record HoldsCounts (n : ℤ) (ap ai p : List ℤ) (m : Tallies) : Type 0 where
  pub sizes : List ℕ
  pub parent : List (Option ℕ)
  pub need : Need
  pub counts : IsCountsOf n ap ai p sizes parent need
  pub written : m.sizes ≡ map pos sizes
  pub parents : m.parent ≡ map parent_number parent
  pub told : m.needs ≡ saturated_need need

-- a fault: that of the counts, or `NotColumnForm` where an array has not n places
abbrev pub RefusesCounts : ℤ → List ℤ → List ℤ → List ℤ → Tallies → Fault → Type 0
RefusesCounts n ap ai p m e =
    (HasPlaces n m.sizes m.parent → IsCountsFault n ap ai p e) ×
    (e ≢ NotColumnForm → HasPlaces n m.sizes m.parent)

-- what a call with this outcome leaves: the counts, or after a fault all as it was
abbrev pub LeavesCounts : ℤ → List ℤ → List ℤ → List ℤ → Tallies → Tallies → Result (Unit {0}) Fault → Type 0
LeavesCounts n ap ai p old new (Ok _) = HoldsCounts n ap ai p new
LeavesCounts n ap ai p old new (Err e) = RefusesCounts n ap ai p old e × (new ≡ old)

-- the number is that of an outcome, and the call leaves what this says
pub record CountsInto (n : ℤ) (ap ai p : List ℤ) (old new : Tallies) (number : ℤ) : Type 0 where
  pub outcome : Result (Unit {0}) Fault
  pub answer : number ≡ number_of_end outcome
  pub left : LeavesCounts n ap ai p old new outcome
