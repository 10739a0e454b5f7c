-- What an ordering leaves in a caller's arrays, and the same for the integers of C, whose values are themselves.
use Rattle.std.proofs.Common.{ℤ, List, zero, suc, pos, negsuc, ◌≡◌, Bool, refl, sym, ◌∙◌, ap, subst, to_z, of_z, w32}
use Rattle.std.specs.Prelude.{Option}
use Rattle.std.proofs.lemmas.List.{map-id}
use Rattle.amd_types.specs.Statuses.{IsStatusOf}
use Rattle.amd_types.specs.declared.amd.Control.{Control}
use Rattle.amd_types.specs.declared.amd.Info.{Info}
use Rattle.amd_types.specs.declared.amd.Status.{Status}
use Rattle.amd_types.specs.declared.amd.Status.TheVariants.{OK, Invalid, OkButJumbled, OutOfMemory}
use Rattle.amd.specs.Answers.{IsOrderingHolding}
use Rattle.amd_engine.specs.InPlace.{values}
use Rattle.amd_calls.specs.declared.records.Parameters.{Parameters}
use Rattle.amd_calls.specs.declared.records.Statistics.{Statistics}
use Rattle.amd_calls.specs.Numbers.{number_of, statistics_of}
use Rattle.amd_calls.specs.Calls.{Memory, memory, Leaves, OrdersInto, ClassifiesInput}

-- the status of an ordering is that of its input, or for n = 0 that of nothing; so it is no refusal
not_invalid : (hold : Option (List Bool)) (n t : ℤ) (aggressive : Bool) (a_p a_i p q : List ℤ) (info : Info) →
    IsOrderingHolding hold n t aggressive a_p a_i p q info → info.status ≡ Invalid → ⊥
not_invalid hold (pos zero) t aggressive a_p a_i p q info o e =
    let fresh : OK ≡ Invalid = sym (ap (λ x. x.status) (o.nothing refl).fresh) ∙ e in cc
not_invalid hold (pos (suc k)) t aggressive a_p a_i p q info o e =
    let n : ℤ = pos (suc k) in
    let is : IsStatusOf n n a_p a_i Invalid = subst (λ s. IsStatusOf n n a_p a_i s) e (o.status (λ z. cc)) in
    is (o.form (λ z. cc))
not_invalid hold (negsuc k) t aggressive a_p a_i p q info o e = absurd (o.form (λ z. cc))

pub not_without_memory : (hold : Option (List Bool)) (n t : ℤ) (aggressive : Bool) (a_p a_i p q : List ℤ) (info : Info) →
    IsOrderingHolding hold n t aggressive a_p a_i p q info → info.status ≡ OutOfMemory → ⊥
not_without_memory hold (pos zero) t aggressive a_p a_i p q info o e =
    let fresh : OK ≡ OutOfMemory = sym (ap (λ x. x.status) (o.nothing refl).fresh) ∙ e in cc
not_without_memory hold (pos (suc k)) t aggressive a_p a_i p q info o e =
    let n : ℤ = pos (suc k) in
    subst (λ s. IsStatusOf n n a_p a_i s) e (o.status (λ z. cc))
not_without_memory hold (negsuc k) t aggressive a_p a_i p q info o e = absurd (o.form (λ z. cc))

leaves_by : (hold : Option (List Bool)) (n : ℤ) (choice : Parameters) (a_p a_i : List ℤ) (old new : Memory) (info : Info)
    (status : Status) →
    info.status ≡ status → IsOrderingHolding hold n choice.dense choice.aggressive a_p a_i new.p new.q info →
    new.statistics ≡ statistics_of info → Leaves hold n choice a_p a_i old new status
leaves_by hold n choice a_p a_i old new info OK e o told = record { info = info; ordering = o; told = told; status_is = e }
leaves_by hold n choice a_p a_i old new info OkButJumbled e o told = record { info = info; ordering = o; told = told; status_is = e }
leaves_by hold n choice a_p a_i old new info Invalid e o told =
    absurd (not_invalid hold n choice.dense choice.aggressive a_p a_i new.p new.q info o e)
leaves_by hold n choice a_p a_i old new info OutOfMemory e o told =
    absurd (not_without_memory hold n choice.dense choice.aggressive a_p a_i new.p new.q info o e)

-- an ordering that was written is what its status says
pub leaves_chosen : (hold : Option (List Bool)) (n : ℤ) (choice : Parameters) (control : Control) (a_p a_i : List ℤ) (old new : Memory)
    (info : Info) → control.dense ≡ choice.dense → control.aggressive ≡ choice.aggressive →
    IsOrderingHolding hold n control.dense control.aggressive a_p a_i new.p new.q info →
    new.statistics ≡ statistics_of info → Leaves hold n choice a_p a_i old new info.status
leaves_chosen hold n choice control a_p a_i old new info dense aggressive o told =
    leaves_by hold n choice a_p a_i old new info info.status refl
    (subst (λ t. IsOrderingHolding hold n t choice.aggressive a_p a_i new.p new.q info) dense
    (subst (λ b. IsOrderingHolding hold n control.dense b a_p a_i new.p new.q info) aggressive o)) told

-- the number of a status has 32 bits
number_comes_back : (status : Status) → to_z w32 (of_z w32 (number_of status)) ≡ number_of status
number_comes_back OK = refl
number_comes_back OkButJumbled = refl
number_comes_back OutOfMemory = refl
number_comes_back Invalid = refl

pub answer_is : (status : Status) (number : ℤ) → number ≡ number_of status → to_z w32 (of_z w32 number) ≡ number_of status
answer_is status number is = ap (λ x. to_z w32 (of_z w32 x)) is ∙ number_comes_back status

-- what holds of the values of a matrix holds of its integers
pub matrix_of_values : (H : ℤ → List ℤ → List ℤ → Type 0) (m n : ℤ) (a_p a_i : List ℤ) → m ≡ n →
    H m (values a_p) (values a_i) → H n a_p a_i
matrix_of_values H m n a_p a_i same h =
    subst (λ x. H n a_p x) (map-id a_i)
    (subst (λ x. H n x (values a_i)) (map-id a_p)
    (subst (λ x. H x (values a_p) (values a_i)) same h))

-- and so with an order
pub order_of_values : (H : ℤ → List ℤ → List ℤ → List ℤ → Type 0) (m n : ℤ) (a_p a_i p : List ℤ) → m ≡ n →
    H m (values a_p) (values a_i) (values p) → H n a_p a_i p
order_of_values H m n a_p a_i p same h =
    subst (H n a_p a_i) (map-id p) (matrix_of_values (λ k xs ys. H k xs ys (values p)) m n a_p a_i same h)

-- and what holds of the memory before and after a call holds of the same under other names
pub memory_renamed : {M : Type 0} (H : M → M → Type 0) {old new before after : M} → old ≡ before → new ≡ after → H old new →
    H before after
memory_renamed H {old} {new} {before} {after} was is h = subst (H before) is (subst (λ x. H x new) was h)

memory_of_values : (p q : List ℤ) (statistics : Statistics) → memory (values p) (values q) statistics ≡ memory p q statistics
memory_of_values p q statistics =
    ap (λ x. memory x (values q) statistics) (map-id p) ∙ ap (λ x. memory p x statistics) (map-id q)

-- what a call leaves in the values is what it leaves in the integers
pub leaves_values : (hold : Option (List Bool)) (m n : ℤ) (choice : Parameters) (a_p a_i p q r s : List ℤ) (before after : Statistics)
    (status : Status) → m ≡ n →
    Leaves hold m choice (values a_p) (values a_i) (memory (values p) (values q) before) (memory (values r) (values s) after) status →
    Leaves hold n choice a_p a_i (memory p q before) (memory r s after) status
leaves_values hold m n choice a_p a_i p q r s before after status same left =
    let old : Memory = memory (values p) (values q) before in
    let new : Memory = memory (values r) (values s) after in
    memory_renamed (λ x y. Leaves hold n choice a_p a_i x y status) (memory_of_values p q before) (memory_of_values r s after)
    (matrix_of_values (λ k xs ys. Leaves hold k choice xs ys old new status) m n a_p a_i same left)

pub orders_into : (hold : Option (List Bool)) (m n : ℤ) (choice : Parameters) (a_p a_i p q r s : List ℤ) (before after : Statistics)
    (number : ℤ) → m ≡ n →
    OrdersInto hold m choice (values a_p) (values a_i) (memory (values p) (values q) before) (memory (values r) (values s) after)
    number →
    OrdersInto hold n choice a_p a_i (memory p q before) (memory r s after) (to_z w32 (of_z w32 number))
orders_into hold m n choice a_p a_i p q r s before after number same o = record {
  status = o.status;
  answer = answer_is o.status number o.answer;
  left = leaves_values hold m n choice a_p a_i p q r s before after o.status same o.left;
}

-- and so for the status of an input
pub classifies_input : (k l m n : ℤ) (a_p a_i : List ℤ) (status : Status) (number : ℤ) → k ≡ m → l ≡ n →
    IsStatusOf k l (values a_p) (values a_i) status → number ≡ number_of status →
    ClassifiesInput m n a_p a_i (to_z w32 (of_z w32 number))
classifies_input k l m n a_p a_i status number rows columns is number_is =
    let one = subst (λ x. IsStatusOf x l (values a_p) (values a_i) status) rows is in record {
      status = status;
      answer = answer_is status number number_is;
      is_status = matrix_of_values (λ x xs ys. IsStatusOf m x xs ys status) l n a_p a_i columns one;
    }
