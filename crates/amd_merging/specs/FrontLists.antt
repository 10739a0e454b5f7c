-- The list of a front in a workspace: what merging and placing its classes need of it, and what they leave.
use Rattle.std.specs.Prelude.{ℕ, ℤ, true, false, List, ◌≡◌, ◌<◌, ◌≤◌, ◌+◌, ◌==◌, length, filter}
use Rattle.amd_model.specs.Quotient.{has, Once}
use Rattle.amd_words.specs.Words.{num, in_front, classes, rows, Names}
use Rattle.amd_lists.specs.Chains.{DegreeLists}
use Rattle.amd_lists.specs.Sizes.{bucket_count}
use Rattle.amd_merging.specs.Classes.{Classes, Placing}
use Rattle.amd_merging.specs.Merging.{MergesAll, represents_in, bucket_of}
use Rattle.amd_merging.specs.Restoring.{IsPlaceable, marked_in, bound_in, put_all}

-- count words from a place on are a list of rows below n, each named once
abbrev pub IsList : ℕ → List ℤ → ℕ → ℕ → Type 0
IsList n iw from count = (from + count ≤ length iw) × Names n iw from count × Once (rows iw from count)

-- the lists that merging uses have n items each, and one for each bucket
abbrev pub LongToMerge : ℕ → Classes → Type 0
LongToMerge n p = (length p.pe ≡ n) × (length p.e_len ≡ n) × (length p.nv ≡ n) × (length p.len ≡ n) × (length p.w ≡ n) ×
    (length p.hash ≡ bucket_count n) × (length p.next ≡ n) × (length p.last ≡ n)

-- the lists that placing uses have n items each, and one for each bucket
abbrev pub LongToPlace : ℕ → Placing → Type 0
LongToPlace n p = (length p.nv ≡ n) × (length p.degree ≡ n) × (length p.head ≡ n) × (length p.next ≡ n) ×
    (length p.last ≡ n) × (length p.hash ≡ bucket_count n)

-- no list by bound names one of the given rows
abbrev pub AreOutside : ℕ → (ℕ → List ℕ) → List ℕ → Type 0
AreOutside n lists xs = (b x : ℕ) → b < n → has (lists b) x ≡ true → has xs x ≡ false

-- a bucket that is not empty has one of the given rows at its head, which belongs into it, and the list of the front
-- has more than one word
abbrev pub AreHeads : ℕ → ℕ → List ℕ → List ℕ → List ℕ → Type 0
AreHeads n count xs hash last = (b : ℕ) → b < bucket_count n → num hash b < n → (1 < count) ×
    (has xs (num hash b) ≡ true) × (bucket_of count last (num hash b) ≡ b)

-- the classes of a list were merged into their representatives, which alone are classes now; lists by bound of other
-- rows stay
pub record MergesList (n from count : ℕ) (p v : Classes) : Type 0 where
  pub merged : MergesAll (classes p.nv (rows p.iw from count))
      (represents_in p.iw p.pe p.e_len p.len (classes p.nv (rows p.iw from count))) p v
  pub made : classes v.nv (rows p.iw from count) ≡ filter
      (λ i. represents_in p.iw p.pe p.e_len p.len (classes p.nv (rows p.iw from count)) i == i)
      (classes p.nv (rows p.iw from count))
  pub heads : AreHeads n count (classes v.nv (rows p.iw from count)) v.hash p.last
  pub linked : (head degree : List ℕ) (lists : ℕ → List ℕ) → AreOutside n lists (classes p.nv (rows p.iw from count)) →
      DegreeLists n head p.next p.last degree lists → DegreeLists n head v.next p.last degree lists

-- the classes of a list that are marked can be placed
abbrev pub CanPlace : ℕ → ℕ → List ℤ → List ℕ → List ℕ → List ℕ → Type 0
CanPlace n border nv degree last xs = (i : ℕ) → has xs i ≡ true → in_front nv i ≡ true →
    IsPlaceable n border nv degree last i

-- there are lists by bound, outside the given rows
abbrev pub HasListsByBound : ℕ → List ℕ → List ℕ → List ℕ → List ℕ → List ℕ → Type 0
HasListsByBound n xs head next last degree = (lists : ℕ → List ℕ) × DegreeLists n head next last degree lists ×
    AreOutside n lists xs

-- the marked rows of a list are put at the heads of the lists of their bounds
abbrev pub PutsAll : ℕ → ℕ → ℕ → List ℕ → Placing → Placing → Type 0
PutsAll n border left xs p v = (lists : ℕ → List ℕ) → AreOutside n lists xs →
    DegreeLists n p.head p.next p.last p.degree lists → DegreeLists n v.head v.next v.last v.degree
    (put_all (bound_in border left p.nv p.degree) (marked_in p.nv xs) lists)
