-- What the status of an input says: by which columns it is ordered, and with what it is refused. An ordering by these columns is one of
-- the input.
use Rattle.std.proofs.Common.{ℕ, ℤ, List, Bool, pos, ◌≡◌, ◌≢◌, refl, sym, ap, subst, inl, inr}
use Rattle.std.specs.Prelude.{unsigned_abs, Option, None, Some, Result, Ok, Err, IfOk, ◌⊎◌, true, false}
use Rattle.std.specs.Option.{is_some}
use Rattle.amd_model.specs.Input.Columns.{IsColumnForm, IsInput, IsSorted}
use Rattle.num_traits.specs.Laws.{Checks}
use Rattle.amd_model.specs.Input.Held.{HasMarks}
use Rattle.amd_types.specs.Statuses.{IsStatusOf}
use Rattle.amd_types.specs.declared.amd.Control.{Control}
use Rattle.amd_types.specs.declared.amd.Info.{Info}
use Rattle.amd_types.specs.declared.amd.Status.{Status}
use Rattle.amd_types.specs.declared.amd.Status.TheVariants.{OK, Invalid, OkButJumbled, OutOfMemory}
use Rattle.amd.specs.Answers.{OrdersMatrix, IsOrderingHolding, IsInputHolding, IsRefusalHolding, ordered_pairs, refusal_of}
use Rattle.amd.specs.Within.{jumbled_by, pairs_by}
use Rattle.amd_input.specs.Transposes.{IsCleanForm}
use Rattle.amd_input.proofs.PatternLemmas.{input_form, input_sorted}

-- what is known of an input once it has a status
pub record HasStatus (hold : Option (List Bool)) (z : ℤ) (a_p a_i : List ℤ) (status : Status) : Type 0 where
  pub some : z ≢ pos 0
  pub marks : status ≢ Invalid → HasMarks hold (unsigned_abs z)
  pub is : HasMarks hold (unsigned_abs z) → IsStatusOf z z a_p a_i status

-- a transpose in lists that are lent
pub lent_clean : {L : Type 0} (numbers : L → List ℤ) {k : ℕ} {a_p a_i : List ℤ} {b_p b_i lent_p lent_i : L} → lent_p ≡ b_p →
    lent_i ≡ b_i → IsCleanForm k a_p a_i (numbers b_p) (numbers b_i) → IsCleanForm k a_p a_i (numbers lent_p) (numbers lent_i)
lent_clean numbers same_p same_i clean = rw (same_p, same_i) clean

-- no input has the status of refused memory
not_memory : (hold : Option (List Bool)) (z : ℤ) (a_p a_i : List ℤ) (status : Status) → HasStatus hold z a_p a_i status →
    status ≢ OutOfMemory
not_memory hold z a_p a_i OK h = λ e. cc
not_memory hold z a_p a_i Invalid h = λ e. cc
not_memory hold z a_p a_i OkButJumbled h = λ e. cc
not_memory hold z a_p a_i OutOfMemory h = λ e. h.is (h.marks (λ i. cc))

-- an input that is valid is a column form
pub valid_form : (hold : Option (List Bool)) (z : ℤ) (a_p a_i : List ℤ) (status : Status) → HasStatus hold z a_p a_i status →
    status ≢ Invalid → IsInput z z a_p a_i
valid_form hold z a_p a_i OK h valid = (h.is (h.marks valid)).0
valid_form hold z a_p a_i Invalid h valid = absurd (valid refl)
valid_form hold z a_p a_i OkButJumbled h valid = (h.is (h.marks valid)).0
valid_form hold z a_p a_i OutOfMemory h valid = absurd (h.is (h.marks valid))

-- a number that is a count other than 0 is not 0
pub not_nothing : (count : ℕ) (z : ℤ) → pos count ≡ z → count ≢ 0 → z ≢ pos 0
not_nothing count z is some e = let zero : count ≡ 0 = cc in some zero

-- marks for a count are marks for the number
marks_for : (hold : Option (List Bool)) (count : ℕ) (z : ℤ) → pos count ≡ z → HasMarks hold count → HasMarks hold (unsigned_abs z)
marks_for hold count z is marks = subst (λ m. HasMarks hold (unsigned_abs m)) is marks

marks_back : (hold : Option (List Bool)) (count : ℕ) (z : ℤ) → pos count ≡ z → HasMarks hold (unsigned_abs z) → HasMarks hold count
marks_back hold count z is marks = subst (λ m. HasMarks hold (unsigned_abs m)) (sym is) marks

pub has_status : (hold : Option (List Bool)) (count : ℕ) (z : ℤ) (a_p a_i : List ℤ) (status : Status) → pos count ≡ z → count ≢ 0 →
    (status ≢ Invalid → HasMarks hold count) → (HasMarks hold count → IsStatusOf z z a_p a_i status) → HasStatus hold z a_p a_i status
has_status hold count z a_p a_i status is some marks status_is = record {
  some = not_nothing count z is some;
  marks = λ v. marks_for hold count z is (marks v);
  is = λ m. status_is (marks_back hold count z is m);
}

-- an input with marks
holding_input : (hold : Option (List Bool)) (z : ℤ) (a_p a_i : List ℤ) → IsInput z z a_p a_i → HasMarks hold (unsigned_abs z) →
    IsInputHolding hold z a_p a_i
holding_input None z a_p a_i form marks = form
holding_input (Some m) z a_p a_i form marks = (form, marks)

held_marks : (hold : Option (List Bool)) (z : ℤ) (a_p a_i : List ℤ) → IsInputHolding hold z a_p a_i → HasMarks hold (unsigned_abs z)
held_marks None z a_p a_i holding = tt
held_marks (Some m) z a_p a_i holding = holding.1

held_form : (hold : Option (List Bool)) (z : ℤ) (a_p a_i : List ℤ) → IsInputHolding hold z a_p a_i → IsInput z z a_p a_i
held_form None z a_p a_i holding = holding
held_form (Some m) z a_p a_i holding = holding.0

-- a valid input is refused for want of memory alone
pub refused : (hold : Option (List Bool)) (z : ℤ) (a_p a_i : List ℤ) (status e : Status) → HasStatus hold z a_p a_i status →
    status ≢ Invalid → e ≡ OutOfMemory → IsRefusalHolding hold z a_p a_i e
refused hold z a_p a_i status e h valid is = subst (IsRefusalHolding hold z a_p a_i) (sym is)
    (h.some, holding_input hold z a_p a_i (valid_form hold z a_p a_i status h valid) (h.marks valid))

-- and any input as its status says
pub refused_by : (hold : Option (List Bool)) (z : ℤ) (a_p a_i : List ℤ) (status e : Status) → HasStatus hold z a_p a_i status →
    e ≡ refusal_of status → IsRefusalHolding hold z a_p a_i e
refused_by hold z a_p a_i OK e h is = refused hold z a_p a_i OK e h (λ i. cc) is
refused_by hold z a_p a_i Invalid e h is = subst (IsRefusalHolding hold z a_p a_i) (sym is)
    (h.some, λ holding. h.is (held_marks hold z a_p a_i holding) (held_form hold z a_p a_i holding))
refused_by hold z a_p a_i OkButJumbled e h is = refused hold z a_p a_i OkButJumbled e h (λ i. cc) is
refused_by hold z a_p a_i OutOfMemory e h is = refused hold z a_p a_i OutOfMemory e h (λ i. cc) is

-- the status of a column form says which pairs order it
pub pairs_ordered : (status : Status) (jumbled : Bool) → jumbled_by status ≡ Some jumbled → (n : ℕ) (a_p a_i : List ℤ) →
    pairs_by jumbled n a_p a_i ≡ ordered_pairs status n a_p a_i
pairs_ordered OK false is n a_p a_i = refl
pairs_ordered OK true is n a_p a_i = cc
pairs_ordered Invalid jumbled is n a_p a_i = cc
pairs_ordered OkButJumbled false is n a_p a_i = cc
pairs_ordered OkButJumbled true is n a_p a_i = refl
pairs_ordered OutOfMemory jumbled is n a_p a_i = cc

-- one that is no column form is not jumbled, and one that is says so
pub not_jumbled : (status : Status) → jumbled_by status ≡ None → (status ≡ Invalid) ⊎ (status ≡ OutOfMemory)
not_jumbled OK is = cc
not_jumbled Invalid is = inl refl
not_jumbled OkButJumbled is = cc
not_jumbled OutOfMemory is = inr refl

pub jumbled_valid : (status : Status) (jumbled : Bool) → jumbled_by status ≡ Some jumbled → status ≢ Invalid
jumbled_valid OK jumbled is = λ e. cc
jumbled_valid Invalid jumbled is = λ e. cc
jumbled_valid OkButJumbled jumbled is = λ e. cc
jumbled_valid OutOfMemory jumbled is = λ e. cc

pub sorted_status : (status : Status) → jumbled_by status ≡ Some false → status ≡ OK
sorted_status OK is = refl
sorted_status Invalid is = cc
sorted_status OkButJumbled is = cc
sorted_status OutOfMemory is = cc

-- the form of an input with a status, by its number of rows
pub status_form : (hold : Option (List Bool)) (n : ℕ) (z : ℤ) (a_p a_i : List ℤ) (status : Status) → pos n ≡ z →
    HasStatus hold z a_p a_i status → status ≢ Invalid → IsColumnForm (pos n) n a_p a_i
status_form hold n z a_p a_i status is h valid =
    subst (λ m. IsColumnForm (pos m) m a_p a_i) (sym (ap unsigned_abs is))
    (input_form z a_p a_i (valid_form hold z a_p a_i status h valid))

-- and that its columns are sorted where it is not jumbled
pub status_sorted : (hold : Option (List Bool)) (n : ℕ) (z : ℤ) (a_p a_i : List ℤ) (status : Status) → pos n ≡ z →
    HasStatus hold z a_p a_i status → jumbled_by status ≡ Some false → IsSorted n a_p a_i
status_sorted hold n z a_p a_i status is h sorted =
    let ok : status ≡ OK = sorted_status status sorted in
    let here : HasStatus hold z a_p a_i OK = subst (HasStatus hold z a_p a_i) ok h in
    subst (λ m. IsSorted m a_p a_i) (sym (ap unsigned_abs is)) (input_sorted z a_p a_i (here.is (here.marks (λ e. cc))).1)

-- an ordering by the pairs that its status says is one of the input
pub ordering : (hold : Option (List Bool)) (n : ℕ) (z : ℤ) (control : Control) (jumbled : Bool) (a_p a_i p q : List ℤ) (info : Info)
    (status : Status) → pos n ≡ z → HasStatus hold z a_p a_i status → jumbled_by status ≡ Some jumbled → info.status ≡ status →
    OrdersMatrix hold n control (pairs_by jumbled n a_p a_i) a_p a_i p q info →
    IsOrderingHolding hold z control.dense control.aggressive a_p a_i p q info
ordering hold n z control jumbled a_p a_i p q info status is h by told o =
    let valid : status ≢ Invalid = jumbled_valid status jumbled by in
    let marks = h.marks valid in
    let here : OrdersMatrix hold n control (ordered_pairs info.status n a_p a_i) a_p a_i p q info =
    subst (λ s. OrdersMatrix hold n control (ordered_pairs s n a_p a_i) a_p a_i p q info) (sym told)
    (subst (λ pair. OrdersMatrix hold n control pair a_p a_i p q info) (pairs_ordered status jumbled by n a_p a_i) o) in
    record {
      nothing = λ e. absurd (h.some e);
      form = λ _. valid_form hold z a_p a_i status h valid;
      marks = λ _. marks;
      status = λ _. subst (IsStatusOf z z a_p a_i) (sym told) (h.is marks);
      orders = λ _. subst (λ m. OrdersMatrix hold m control (ordered_pairs info.status m a_p a_i) a_p a_i p q info)
          (ap unsigned_abs is) here;
    }

-- what a checked number says where there is one
pub checked_fits : {T : Type 0} (value : T → ℤ) (fits : ℤ → Type 0) (z : ℤ) (r : Option T) → Checks value fits z r → is_some r ≡ true →
    fits z
checked_fits value fits z None checks is = cc
checked_fits value fits z (Some y) checks is = checks.0

-- what holds of a result where it is one gives what follows from it
pub ok_gives : {T E : Type 0} {P Q : T → Type 0} (r : Result T E) → ((a : T) → P a → Q a) → IfOk r P → IfOk r Q
ok_gives (Ok a) follows is = follows a is
ok_gives (Err e) follows is = tt
