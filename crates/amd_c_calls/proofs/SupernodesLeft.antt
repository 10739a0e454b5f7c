-- What the supernodes of a factor leave in a caller's arrays, and the same for the integers of C, which are their values.
use Rattle.std.proofs.Common.{ℤ, List, ◌≡◌, ◌∙◌, ap, to_z, of_z, w32}
use Rattle.std.specs.Prelude.{Result}
use Rattle.std.proofs.lemmas.List.{map-id}
use Rattle.amd_factor.specs.declared.factor.Fault.{Fault}
use Rattle.amd_calls.specs.Columns.{number_of_end}
use Rattle.amd_c_calls.specs.Supernodal.{
  Blocks,
  LeavesSizes,
  LeavesSupernodes,
  SizesInto,
  SupernodesAndSizes,
  SupernodesInto,
  TellsSizes,
  blocks,
}
use Rattle.amd_calls.specs.declared.records.SupernodeSizes.{SupernodeSizes}
use Rattle.amd_calls.proofs.ColumnsLeft.{end_is}
use Rattle.amd_calls.proofs.Leaving.{memory_renamed, order_of_values}
use Rattle.amd_engine.specs.InPlace.{values}

blocks_of_values : (first ptr rows parent : List ℤ) →
    blocks (values first) (values ptr) (values rows) (values parent) ≡ blocks first ptr rows parent
blocks_of_values first ptr rows parent =
    ap (λ x. blocks x (values ptr) (values rows) (values parent)) (map-id first)
    ∙ ap (λ x. blocks first x (values rows) (values parent)) (map-id ptr)
    ∙ ap (λ x. blocks first ptr x (values parent)) (map-id rows)
    ∙ ap (λ x. blocks first ptr rows x) (map-id parent)

-- what a call leaves in the values is what it leaves in the integers
left_values : (m n : ℤ) (a_p a_i p first ptr rows parent first' ptr' rows' parent' : List ℤ)
    (outcome : Result (Unit {0}) Fault) → m ≡ n →
    LeavesSupernodes m (values a_p) (values a_i) (values p) (blocks (values first) (values ptr) (values rows) (values parent))
    (blocks (values first') (values ptr') (values rows') (values parent')) outcome →
    LeavesSupernodes n a_p a_i p (blocks first ptr rows parent) (blocks first' ptr' rows' parent') outcome
left_values m n a_p a_i p first ptr rows parent first' ptr' rows' parent' outcome same left =
    let old : Blocks = blocks (values first) (values ptr) (values rows) (values parent) in
    let new : Blocks = blocks (values first') (values ptr') (values rows') (values parent') in
    memory_renamed (λ x y. LeavesSupernodes n a_p a_i p x y outcome) (blocks_of_values first ptr rows parent)
    (blocks_of_values first' ptr' rows' parent')
    (order_of_values (λ k xs ys zs. LeavesSupernodes k xs ys zs old new outcome) m n a_p a_i p same left)

pub supernodes_into : (m n : ℤ) (a_p a_i p first ptr rows parent first' ptr' rows' parent' : List ℤ)
    (outcome : Result (Unit {0}) Fault) (number : ℤ) → m ≡ n →
    LeavesSupernodes m (values a_p) (values a_i) (values p) (blocks (values first) (values ptr) (values rows) (values parent))
    (blocks (values first') (values ptr') (values rows') (values parent')) outcome → number ≡ number_of_end outcome →
    SupernodesInto n a_p a_i p (blocks first ptr rows parent) (blocks first' ptr' rows' parent') (to_z w32 (of_z w32 number))
supernodes_into m n a_p a_i p first ptr rows parent first' ptr' rows' parent' outcome number same left is = record {
  outcome = outcome;
  answer = end_is outcome number is;
  left = left_values m n a_p a_i p first ptr rows parent first' ptr' rows' parent' outcome same left;
}

-- and so with the sizes
pub supernodes_and_sizes : (m n : ℤ) (a_p a_i p first ptr rows parent first' ptr' rows' parent' : List ℤ)
    (before after : SupernodeSizes) (outcome : Result (Unit {0}) Fault) (number : ℤ) → m ≡ n →
    LeavesSupernodes m (values a_p) (values a_i) (values p) (blocks (values first) (values ptr) (values rows) (values parent))
    (blocks (values first') (values ptr') (values rows') (values parent')) outcome →
    TellsSizes m (values a_p) (values a_i) (values p) before after outcome → number ≡ number_of_end outcome →
    SupernodesAndSizes n a_p a_i p (blocks first ptr rows parent) (blocks first' ptr' rows' parent') before after
    (to_z w32 (of_z w32 number))
supernodes_and_sizes m n a_p a_i p first ptr rows parent first' ptr' rows' parent' before after outcome number same left told is = record {
  outcome = outcome;
  answer = end_is outcome number is;
  left = left_values m n a_p a_i p first ptr rows parent first' ptr' rows' parent' outcome same left;
  told = order_of_values (λ k xs ys zs. TellsSizes k xs ys zs before after outcome) m n a_p a_i p same told;
}

pub sizes_into : (m n : ℤ) (a_p a_i p : List ℤ) (before after : SupernodeSizes) (outcome : Result (Unit {0}) Fault) (number : ℤ) → m ≡ n →
    LeavesSizes m (values a_p) (values a_i) (values p) before after outcome → number ≡ number_of_end outcome →
    SizesInto n a_p a_i p before after (to_z w32 (of_z w32 number))
sizes_into m n a_p a_i p before after outcome number same left is = record {
  outcome = outcome;
  answer = end_is outcome number is;
  left = order_of_values (λ k xs ys zs. LeavesSizes k xs ys zs before after outcome) m n a_p a_i p same left;
}
