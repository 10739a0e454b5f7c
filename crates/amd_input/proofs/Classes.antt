-- Classes of columns, one more row or column at a time.
use Rattle.std.proofs.Common.{◌≡◌, ◌+◌, ◌-◌, ◌^◌, ◌<◌, ◌≤◌, ◌≤ℤ◌, ◌<ℤ◌, ◌⊎◌, ◌≢◌, ◌∙◌, inl, inr, refl, ℕ, ℤ, zero, suc, pos, negsuc, List}
use Rattle.std.proofs.Common.{length}
use Rattle.std.proofs.Common.{arith, sym, subst, below_more}
use native.Mathlib.Decide.{dec_lt}
use Prim.{yes, no}
use Rattle.std.specs.Int.{FitsUnsignedBits}
use Rattle.std.proofs.lemmas.Int.{ints}
use Rattle.amd_model.specs.Input.Columns.{at, IsColumnForm, IsSorted, IsJumbled, IsInput}
use Rattle.amd_model.proofs.Patterns.Pointers.{pointer_in, small_fits}
use Rattle.amd_types.specs.Statuses.{IsStatusOf}
use Rattle.amd_input.specs.Scans.{AreRowNumbers, Rise, HaveDescent, IsColumnClass}
use Rattle.amd_types.specs.declared.amd.Status.{Status}
use Rattle.amd_types.specs.declared.amd.Status.TheVariants.{OK, Invalid, OkButJumbled, OutOfMemory}

-- numbers that rise: none is below the first of them
pub from_first : (ai : List ℤ) (a k d : ℕ) → a + d ≡ k → Rise ai a (k + 1) → at ai a ≤ℤ at ai k
from_first ai a k zero e up = let same : a ≡ k = omega (arith, e) in rw same (omega (arith, ints))
from_first ai a k (suc d) e up =
    let below = from_first ai a (a + d) d refl (λ i low high. up i low (omega (arith, e))) in
    let step = up (a + d) (omega arith) (omega (arith, e)) in
    let more : at ai (a + d) <ℤ at ai k = (let last : a + d + 1 ≡ k = omega (arith, e) in rw (sym last) step) in
    omega (arith, ints, below, more)

-- one more number that rises
pub rise_more : (ai : List ℤ) (a j k : ℕ) → k ≡ j + 1 → Rise ai a k → at ai j <ℤ at ai k → Rise ai a (k + 1)
rise_more ai a j k next up last i low high = elim (dec_lt (i + 1) k) [
  | yes x ↦ up i low x
  | no x ↦ (let e : j ≡ i = omega (arith, next, high, x) in
      subst (λ z. at ai z <ℤ at ai (z + 1)) e (subst (λ z. at ai j <ℤ at ai z) next last))
]

-- a number that is not below 0
pub not_below : (z : ℤ) → (z <ℤ pos 0 → ⊥) → pos 0 ≤ℤ z
not_below (pos n) h = omega (arith, ints)
not_below (negsuc n) h = absurd (h (omega (arith, ints)))

-- one more row
pub rows_more : (m : ℤ) (ai : List ℤ) (a k : ℕ) → AreRowNumbers m ai a k → (at ai k <ℤ pos 0 → ⊥) → at ai k <ℤ m →
    AreRowNumbers m ai a (k + 1)
rows_more m ai a k rows first last i low high = elim (dec_lt i k) [
  | yes x ↦ rows i low x
  | no x ↦ (let e : k ≡ i = omega (arith, high, x) in
      subst (λ z. (pos 0 ≤ℤ at ai z) × (at ai z <ℤ m)) e (not_below (at ai k) first, last))
]

-- rows that rise lie in range where the first and the last of them do
pub rising_rows : (m : ℤ) (ai : List ℤ) (a b : ℕ) → a < b → Rise ai a b → pos 0 ≤ℤ at ai a → at ai (b - 1) <ℤ m → AreRowNumbers m ai a b
rising_rows m ai a b some up first last k low high =
    let above = from_first ai a k (k - a) (omega arith) (λ i from below. up i from (omega arith)) in
    let under = from_first ai k (b - 1) (b - 1 - k) (omega arith) (λ i from below. up i (omega arith) (omega arith)) in
    (omega (arith, ints, first, above), omega (arith, ints, last, under))

-- the class of the columns read so far, which were well formed
abbrev pub IsRunSoFar : ℕ → List ℤ → List ℤ → Status → Type 0
IsRunSoFar j ap ai OK = IsSorted j ap ai
IsRunSoFar j ap ai Invalid = ⊥
IsRunSoFar j ap ai OkButJumbled = IsJumbled j ap ai
IsRunSoFar j ap ai OutOfMemory = ⊥

module _ (m : ℤ) (ap ai : List ℤ) where
  -- an input with a count of columns that is natural
  pub input_of : (n : ℤ) (k : ℕ) → pos k ≡ n → IsInput m n ap ai → IsColumnForm m k ap ai
  input_of n k e f = let P : ℤ → Type 0 = λ z. IsInput m z ap ai in subst P (sym e) f

  -- no column is read yet
  pub form_none : at ap 0 ≡ pos 0 → 0 < length ap → IsColumnForm m 0 ap ai
  form_none e some = record {
    enough = some;
    first = e;
    ascending = λ j h. absurd (omega (arith, h));
    within = omega (arith, ints, e);
    rows = λ k h. absurd (omega (arith, ints, e, h));
  }

  pub sorted_none : IsSorted 0 ap ai
  sorted_none j k h low high = absurd (omega (arith, h))

  -- where the columns are no count, where they have too few pointers, and where the first pointer is not 0
  pub no_columns : (n : ℤ) → length ap < 2 ^ 64 → (FitsUnsignedBits 64 n → ⊥) → IsInput m n ap ai → ⊥
  no_columns (pos n) short never f = let enough = f.enough in never (omega (arith, enough, short))
  no_columns (negsuc n) short never f = f

  pub few_pointers : (n : ℤ) (k : ℕ) → pos k ≡ n → length ap ≤ k → IsInput m n ap ai → ⊥
  few_pointers n k e few f = let enough = (input_of n k e f).enough in omega (arith, enough, few)

  pub no_first : (n z : ℤ) → z ≡ at ap 0 → (FitsUnsignedBits 64 z → ⊥) → IsInput m n ap ai → ⊥
  no_first (pos n) z is never f = never (subst (FitsUnsignedBits 64) (sym f.first ∙ sym is) (omega arith))
  no_first (negsuc n) z is never f = f

  pub bad_first : (n : ℤ) (first : ℕ) → pos first ≡ at ap 0 → first ≢ 0 → IsInput m n ap ai → ⊥
  bad_first (pos n) first is ne f = ne (let e = is ∙ f.first in omega (arith, ints, e))
  bad_first (negsuc n) first is ne f = f

  pub no_count : (n : ℤ) (k j : ℕ) (z : ℤ) → pos k ≡ n → j < k → length ai < 2 ^ 64 → z ≡ at ap (j + 1) → (FitsUnsignedBits 64 z → ⊥) →
      IsInput m n ap ai → ⊥
  no_count n k j z e h short is never f =
      let form = input_of n k e f in
      let p = pointer_in m k ap ai form (j + 1) (omega arith) in
      never (small_fits z (length ai) (rw is p.0) (rw is p.2) short)

  pub bad_pointer : (n : ℤ) (k j from to : ℕ) → pos k ≡ n → j < k → at ap j ≡ pos from → at ap (j + 1) ≡ pos to →
      (to < from) ⊎ (length ai < to) → IsInput m n ap ai → ⊥
  bad_pointer n k j from to e h a b c f =
      let form = input_of n k e f in
      let p = pointer_in m k ap ai form (j + 1) (omega arith) in
      let r = form.ascending j h in
      let p2 = p.2 in
      elim c [ inl x ↦ omega (arith, ints) | inr x ↦ omega (arith, ints) ]

  pub bad_row : (n : ℤ) (k j from to : ℕ) → pos k ≡ n → j < k → at ap j ≡ pos from → at ap (j + 1) ≡ pos to →
      IsColumnClass m ai from to Invalid → IsInput m n ap ai → ⊥
  bad_row n k j from to e h a b (q, low, high, never) f =
      let form = input_of n k e f in
      let p = pointer_in m k ap ai form (j + 1) (omega arith) in
      let p1 = p.1 in
      never (form.rows q (omega (arith, ints)))

  pub form_more : (j from to : ℕ) → IsColumnForm m j ap ai → at ap j ≡ pos from → at ap (j + 1) ≡ pos to → from ≤ to → to ≤ length ai →
      j + 1 < length ap → AreRowNumbers m ai from to → IsColumnForm m (j + 1) ap ai
  form_more j from to f a b up within room rows = record {
    enough = room;
    first = f.first;
    ascending = below_more _ _ f.ascending (omega (arith, ints));
    within = omega (arith, ints);
    rows = λ k h. elim (dec_lt k from) [ yes x ↦ f.rows k (omega (arith, ints)) | no x ↦ rows k (omega arith) (omega (arith, ints)) ];
  }

  pub run_more : (j from to : ℕ) (s : Status) → at ap j ≡ pos from → at ap (j + 1) ≡ pos to → Rise ai from to → IsRunSoFar j ap ai s →
      IsRunSoFar (j + 1) ap ai s
  run_more j from to OK a b rise run = λ i k h low high. elim
      (dec_lt i j) [
        | yes x ↦ run i k x low high
        | no x ↦ (let e : i ≡ j = omega arith in
            rise k (let l = rw e at low in omega (arith, ints)) (let l = rw e at high in omega (arith, ints)))
      ]
  run_more j from to OkButJumbled a b rise (i, k, h, low, high, down) = (i, k, omega arith, low, high, down)
  run_more j from to Invalid a b rise run = absurd run
  run_more j from to OutOfMemory a b rise run = absurd run

  pub descent_jumbles : (j from to : ℕ) → at ap j ≡ pos from → at ap (j + 1) ≡ pos to → HaveDescent ai from to → IsJumbled (j + 1) ap ai
  descent_jumbles j from to a b (k, low, high, down) = (j, k, omega arith, omega (arith, ints), omega (arith, ints), down)

  pub class_of : (n : ℤ) (k : ℕ) (s : Status) → pos k ≡ n → IsColumnForm m k ap ai → IsRunSoFar k ap ai s → IsStatusOf m n ap ai s
  class_of n k OK e f run = let P : ℤ → Type 0 = λ z. IsStatusOf m z ap ai OK in subst P e (f, run)
  class_of n k OkButJumbled e f run = let P : ℤ → Type 0 = λ z. IsStatusOf m z ap ai OkButJumbled in subst P e (f, run)
  class_of n k Invalid e f run = absurd run
  class_of n k OutOfMemory e f run = absurd run
