-- What an ordering in a lent block leaves, and the same in the integers of C, whose values are themselves.
use Rattle.std.proofs.Common.{ℕ, ℤ, List, pos, ◌≡◌, ◌≢◌, Bool, refl, to_z, of_z, w32}
use Rattle.std.specs.Prelude.{Option}
use Rattle.amd_types.specs.declared.amd.Info.{Info}
use Rattle.amd_types.specs.declared.amd.Status.{Status}
use Rattle.amd_types.specs.declared.amd.Status.TheVariants.{OK, Invalid, OkButJumbled, OutOfMemory}
use Rattle.amd.specs.Answers.{IsInputHolding, IsOrderingHolding}
use Rattle.amd.specs.Blocks.{FitsInBlock}
use Rattle.amd.specs.Within.{IsCall, IsIntoRefusal}
use Rattle.amd_calls.specs.declared.records.Parameters.{Parameters}
use Rattle.amd_calls.specs.declared.records.Statistics.{Statistics}
use Rattle.amd_calls.specs.Calls.{HasPlaces, Leaves, Memory, OrdersWithin, Refuses, TellsBlock, memory}
use Rattle.amd_calls.proofs.Leaving.{answer_is, leaves_values, matrix_of_values, not_without_memory}
use Rattle.amd_engine.specs.InPlace.{values}

-- places for n rows make a call, where its input is one
called : (hold : Option (List Bool)) (n : ℤ) (ap' ai p q : List ℤ) → HasPlaces n p q → (n ≢ pos 0 → IsInputHolding hold n ap' ai) →
    IsCall hold n ap' ai p q
called hold n ap' ai p q has input = record { places = (has.0, cc); input = input }

-- a call that is not valid is refused as such
pub refuses_invalid : (hold : Option (List Bool)) (n : ℤ) (ap' ai : List ℤ) (m : Memory) → ¬ (IsCall hold n ap' ai m.p m.q) →
    Refuses hold n ap' ai m Invalid
refuses_invalid hold n ap' ai m not has = (
  λ e. not (called hold n ap' ai m.p m.q has (λ some. absurd (some e))),
  λ input. not (called hold n ap' ai m.p m.q has (λ some. input)),
)

-- and a valid one for whose matrix the block is not enough, for want of memory
pub refuses_short : (hold : Option (List Bool)) (n : ℤ) (ap' ai : List ℤ) (size : ℕ) (m : Memory) → IsCall hold n ap' ai m.p m.q →
    ¬ (FitsInBlock n ap' size) → Refuses hold n ap' ai m OutOfMemory
refuses_short hold n ap' ai size m call short =
    let some : n ≢ pos 0 = λ e. short (λ not. absurd (not e)) in
    ((call.places.0, cc), (some, call.input some))

-- a refusal that an ordering into lists tells is one of the call, after which all is as before
pub refuses_into : (hold : Option (List Bool)) (n : ℤ) (choice : Parameters) (ap' ai : List ℤ) (old new : Memory) (status : Status) →
    IsIntoRefusal hold n ap' ai old.p old.q status → new ≡ old → Leaves hold n choice ap' ai old new status
refuses_into hold n choice ap' ai old new OK refusal kept = absurd refusal
refuses_into hold n choice ap' ai old new Invalid refusal kept = (refuses_invalid hold n ap' ai old refusal, kept)
refuses_into hold n choice ap' ai old new OkButJumbled refusal kept = absurd refusal
refuses_into hold n choice ap' ai old new OutOfMemory refusal kept =
    let some = refusal.0 in let call = refusal.1 in (((call.places.0, cc), (some, call.input some)), kept)

-- for an ordering the block was enough
tells_by : (hold : Option (List Bool)) (n t : ℤ) (aggressive : Bool) (ap' ai p q : List ℤ) (size : ℕ) (info : Info) (status : Status) →
    info.status ≡ status → IsOrderingHolding hold n t aggressive ap' ai p q info → FitsInBlock n ap' size →
    TellsBlock n ap' size status
tells_by hold n t aggressive ap' ai p q size info OK e o fits = fits
tells_by hold n t aggressive ap' ai p q size info OkButJumbled e o fits = fits
tells_by hold n t aggressive ap' ai p q size info Invalid e o fits = tt
tells_by hold n t aggressive ap' ai p q size info OutOfMemory e o fits =
    absurd (not_without_memory hold n t aggressive ap' ai p q info o e)

pub tells_ordered : (hold : Option (List Bool)) (n t : ℤ) (aggressive : Bool) (ap' ai p q : List ℤ) (size : ℕ) (info : Info) →
    IsOrderingHolding hold n t aggressive ap' ai p q info → FitsInBlock n ap' size → TellsBlock n ap' size info.status
tells_ordered hold n t aggressive ap' ai p q size info o fits =
    tells_by hold n t aggressive ap' ai p q size info info.status refl o fits

-- what a call leaves in the values is what it leaves in the integers
pub orders_within : (hold : Option (List Bool)) (m n : ℤ) (choice : Parameters) (a_p a_i : List ℤ) (size : ℕ) (p q r s : List ℤ)
    (before after : Statistics) (number : ℤ) → m ≡ n →
    OrdersWithin hold m choice (values a_p) (values a_i) size (memory (values p) (values q) before)
    (memory (values r) (values s) after) number →
    OrdersWithin hold n choice a_p a_i size (memory p q before) (memory r s after) (to_z w32 (of_z w32 number))
orders_within hold m n choice a_p a_i size p q r s before after number same o =
    record {
      status = o.status;
      answer = answer_is o.status number o.answer;
      left = leaves_values hold m n choice a_p a_i p q r s before after o.status same o.left;
      block = matrix_of_values (λ k xs ys. TellsBlock k xs size o.status) m n a_p a_i same o.block;
    }
