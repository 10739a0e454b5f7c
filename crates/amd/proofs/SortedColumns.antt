-- A matrix that is not jumbled is one with sorted columns, and is ordered by its own pairs.
use Rattle.std.proofs.Common.{ℕ, ℤ, Bool, false, List, ◌≡◌, subst, sym}
use Rattle.std.specs.Prelude.{Option}
use Rattle.amd_model.specs.Input.Pattern.{is_pair}
use Rattle.amd_types.specs.declared.amd.Control.{Control}
use Rattle.amd_types.specs.declared.amd.Info.{Info}
use Rattle.amd.specs.Answers.{OrdersMatrix}
use Rattle.amd.specs.Within.{IsGiven, pairs_by}

pub sorted_given : (hold : Option (List Bool)) (jumbled : Bool) (a_p a_i : List ℤ) (n m : ℕ) → jumbled ≡ false →
    IsGiven hold jumbled a_p a_i n m → IsGiven hold false a_p a_i n m
sorted_given hold jumbled a_p a_i n m low given = subst (λ j. IsGiven hold j a_p a_i n m) low given

pub sorted_orders : (hold : Option (List Bool)) (jumbled : Bool) (n : ℕ) (control : Control) (a_p a_i p q : List ℤ) (info : Info) →
    jumbled ≡ false → OrdersMatrix hold n control (is_pair n a_p a_i) a_p a_i p q info →
    OrdersMatrix hold n control (pairs_by jumbled n a_p a_i) a_p a_i p q info
sorted_orders hold jumbled n control a_p a_i p q info low o =
    subst (λ j. OrdersMatrix hold n control (pairs_by j n a_p a_i) a_p a_i p q info) (sym low) o
