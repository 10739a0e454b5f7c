-- What the columns of a factor leave in a caller's arrays, and the same for the integers of C, whose values are themselves.
use Rattle.std.proofs.Common.{ℕ, ℤ, List, ◌≡◌, ◌++◌, map, drop, length, refl, sym, ◌∙◌, ap, to_z, of_z, w32}
use Rattle.std.specs.Prelude.{Result, Ok, Err}
use Rattle.std.proofs.lemmas.List.{drop-map, map-append, map-id}
use Rattle.amd_factor.specs.declared.factor.Fault.{Fault}
use Rattle.amd_factor.specs.declared.factor.Fault.TheVariants.{NotColumnForm, NotPermutation, RoomTooSmall, OutOfMemory}
use Rattle.amd_calls.specs.Columns.{Arrays, arrays, number_of_end, LeavesColumns, ColumnsInto}
use Rattle.amd_calls.proofs.Leaving.{memory_renamed, order_of_values}
use Rattle.amd_engine.specs.InPlace.{values}

-- the number of an outcome has 32 bits
number_comes_back : (outcome : Result (Unit {0}) Fault) → to_z w32 (of_z w32 (number_of_end outcome)) ≡ number_of_end outcome
number_comes_back (Ok _) = refl
number_comes_back (Err OutOfMemory) = refl
number_comes_back (Err NotColumnForm) = refl
number_comes_back (Err NotPermutation) = refl
number_comes_back (Err RoomTooSmall) = refl

pub end_is : (outcome : Result (Unit {0}) Fault) (number : ℤ) → number ≡ number_of_end outcome →
    to_z w32 (of_z w32 number) ≡ number_of_end outcome
end_is outcome number is = ap (λ x. to_z w32 (of_z w32 x)) is ∙ number_comes_back outcome

pub arrays_of_values : (ptr rows parent : List ℤ) → arrays (values ptr) (values rows) (values parent) ≡ arrays ptr rows parent
arrays_of_values ptr rows parent =
    ap (λ x. arrays x (values rows) (values parent)) (map-id ptr) ∙ ap (λ x. arrays ptr x (values parent)) (map-id rows)
    ∙ ap (λ x. arrays ptr rows x) (map-id parent)

-- what a call leaves in the values is what it leaves in the integers
pub columns_into : (m n : ℤ) (a_p a_i p ptr rows parent qtr sows qarent : List ℤ) (outcome : Result (Unit {0}) Fault) (number : ℤ) → m ≡ n →
    LeavesColumns m (values a_p) (values a_i) (values p) (arrays (values ptr) (values rows) (values parent))
    (arrays (values qtr) (values sows) (values qarent)) outcome → number ≡ number_of_end outcome →
    ColumnsInto n a_p a_i p (arrays ptr rows parent) (arrays qtr sows qarent) (to_z w32 (of_z w32 number))
columns_into m n a_p a_i p ptr rows parent qtr sows qarent outcome number same left is =
    let old : Arrays = arrays (values ptr) (values rows) (values parent) in
    let new : Arrays = arrays (values qtr) (values sows) (values qarent) in
    let one = order_of_values (λ k xs ys zs. LeavesColumns k xs ys zs old new outcome) m n a_p a_i p same left in record {
      outcome = outcome;
      answer = end_is outcome number is;
      left = memory_renamed (λ x y. LeavesColumns n a_p a_i p x y outcome) (arrays_of_values ptr rows parent)
          (arrays_of_values qtr sows qarent) one;
    }

-- numbers that were written to the front of an array
pub front_values : {X Y : Type 0} (value : X → ℤ) (number : Y → ℤ) (xs old : List X) (ys : List Y) (k : ℕ) →
    map value xs ≡ map number ys → k ≡ length ys → map value (xs ++ drop k old) ≡ map number ys ++ drop (length ys) (map value old)
front_values value number xs old ys k same size =
    map-append value xs (drop k old)
    ∙ ap (λ zs. zs ++ map value (drop k old)) same
    ∙ ap (λ zs. map number ys ++ zs) (sym (drop-map value k old))
    ∙ ap (λ j. map number ys ++ drop j (map value old)) size
