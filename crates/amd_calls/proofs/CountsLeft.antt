-- What the counts of a factor's columns leave in a caller's arrays, and the same for the integers of C, whose values are themselves.
use Rattle.std.proofs.Common.{ℤ, List, ◌≡◌, ◌∙◌, ap, to_z, of_z, w32}
use Rattle.std.specs.Prelude.{Result}
use Rattle.std.proofs.lemmas.List.{map-id}
use Rattle.amd_factor.specs.declared.factor.Fault.{Fault}
use Rattle.amd_calls.specs.Columns.{number_of_end}
use Rattle.amd_calls.specs.Counting.{Tallies, tallies, LeavesCounts, CountsInto}
use Rattle.amd_calls.specs.declared.records.SaturatedNeed.{SaturatedNeed}
use Rattle.amd_calls.proofs.ColumnsLeft.{end_is}
use Rattle.amd_calls.proofs.Leaving.{memory_renamed, order_of_values}
use Rattle.amd_engine.specs.InPlace.{values}

tallies_of_values : (sizes parent : List ℤ) (needs : SaturatedNeed) →
    tallies (values sizes) (values parent) needs ≡ tallies sizes parent needs
tallies_of_values sizes parent needs =
    ap (λ x. tallies x (values parent) needs) (map-id sizes) ∙ ap (λ x. tallies sizes x needs) (map-id parent)

-- what a call leaves in the values is what it leaves in the integers
pub left_counts : (m n : ℤ) (a_p a_i p xs ys us vs : List ℤ) (before after : SaturatedNeed) (outcome : Result (Unit {0}) Fault) → m ≡ n →
    LeavesCounts m (values a_p) (values a_i) (values p) (tallies (values xs) (values ys) before)
    (tallies (values us) (values vs) after) outcome →
    LeavesCounts n a_p a_i p (tallies xs ys before) (tallies us vs after) outcome
left_counts m n a_p a_i p xs ys us vs before after outcome same left =
    let old : Tallies = tallies (values xs) (values ys) before in
    let new : Tallies = tallies (values us) (values vs) after in
    memory_renamed (λ x y. LeavesCounts n a_p a_i p x y outcome) (tallies_of_values xs ys before) (tallies_of_values us vs after)
    (order_of_values (λ k bs cs ds. LeavesCounts k bs cs ds old new outcome) m n a_p a_i p same left)

pub counts_into : (m n : ℤ) (a_p a_i p xs ys us vs : List ℤ) (before after : SaturatedNeed) (outcome : Result (Unit {0}) Fault)
    (number : ℤ) → m ≡ n → LeavesCounts m (values a_p) (values a_i) (values p) (tallies (values xs) (values ys) before)
    (tallies (values us) (values vs) after) outcome → number ≡ number_of_end outcome →
    CountsInto n a_p a_i p (tallies xs ys before) (tallies us vs after) (to_z w32 (of_z w32 number))
counts_into m n a_p a_i p xs ys us vs before after outcome number same left is = record {
  outcome = outcome;
  answer = end_is outcome number is;
  left = left_counts m n a_p a_i p xs ys us vs before after outcome same left;
}
