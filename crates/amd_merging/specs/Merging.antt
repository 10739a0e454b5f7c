-- Classes of a front that keep the same lists, found through buckets and merged in their places.
use Rattle.std.specs.Prelude.{ℕ, ℤ, zero, suc, Bool, true, false, List, [], ◌∷◌, ◌≡◌, ◌<◌, ◌≤◌, ◌+◌, ◌-◌, ◌/◌, ◌^◌}
use Rattle.std.specs.Prelude.{◌==◌, ◌&&◌, ◌⊎◌}
use Rattle.std.specs.Prelude.{bit_and, negsuc, not, nat_lt, cond, length, sum_by, filter, slice_set}
use Rattle.amd_model.specs.Quotient.{has, each, Once, last_that}
use Rattle.amd_words.specs.Words.{num, is_place, place, word, start, size_of, in_front, flip_of, rows, Names}
use Rattle.amd_lists.specs.Layout.{variables_in}
use Rattle.amd_lists.specs.Renewal.{key_of}
use Rattle.amd_lists.specs.Chains.{Chain}
use Rattle.amd_lists.specs.Sizes.{bucket_count}
use Rattle.amd_merging.specs.Classes.{Lists, Classes}
use Rattle.amd_round_laws.specs.Rounds.{alike_in}

-- the rows to which the links from x on lead, as many as the fuel at most
unfoldable pub links : ℕ → List ℕ → ℕ → ℕ → List ℕ
links n next zero x = []
links n next (suc fuel) x = cond (nat_lt x n) (x ∷ links n next fuel (num next x)) []

-- the rows of a bucket with the given head
abbrev pub bucket : List ℕ → ℕ → List ℕ
bucket next head = links (length next) next (length next) head

-- what a class of a front keeps: its elements behind the new one, its variables, and both
abbrev pub kept_of : List ℤ → List ℤ → List ℤ → ℕ → List ℕ
kept_of iw pe e_len i = rows iw (start pe i + 1) (place (word e_len i) - 1)

abbrev pub words_of : List ℤ → List ℤ → List ℕ → ℕ → List ℕ
words_of iw pe len i = rows iw (start pe i + 1) (num len i - 1)

-- the list of a class of a front was renewed: the new element, other elements, and variables
pub record IsRenewed (n : ℕ) (iw pe e_len : List ℤ) (len : List ℕ) (i : ℕ) : Type 0 where
  pub row : i < n
  pub starts : is_place (word pe i) ≡ true
  pub counts : is_place (word e_len i) ≡ true
  pub some : 1 ≤ place (word e_len i)
  pub parts : place (word e_len i) ≤ num len i
  pub within : start pe i + num len i ≤ length iw
  pub names : Names n iw (start pe i + 1) (num len i - 1)
  pub once : Once (words_of iw pe len i)

-- no element that one of two classes keeps is a variable of the other
abbrev pub AreApart : List ℤ → List ℤ → List ℤ → List ℕ → ℕ → ℕ → Type 0
AreApart iw pe e_len len i j = ((x : ℕ) → has (kept_of iw pe e_len i) x ≡ true →
    has (variables_in iw pe e_len len j) x ≡ false)
    × ((x : ℕ) → has (kept_of iw pe e_len j) x ≡ true → has (variables_in iw pe e_len len i) x ≡ false)

-- the class j has as many words and elements as given
abbrev pub as_long : List ℤ → List ℕ → ℕ → ℕ → ℕ → Bool
as_long e_len len count few j = num len j == count && place (word e_len j) == few

-- so it has, and all its words are marked with the flag
abbrev pub looks : Lists → List ℕ → ℕ → ℕ → ℕ → ℕ → Bool
looks p w count few flag j = as_long p.e_len p.len count few j
    && each (λ x. num w x == flag) (words_of p.iw p.pe p.len j)

-- the class j of a bucket is near the class i, so that their lists are compared: it has its key, and as many words and
-- elements
abbrev pub is_near : List ℤ → List ℕ → List ℕ → ℕ → ℕ → Bool
is_near e_len len last i j = num last j == num last i && as_long e_len len (num len i) (place (word e_len i)) j

-- some row passes, and none does
abbrev pub HasSome : (ℕ → Bool) → List ℕ → Type 0
HasSome p members = (x : ℕ) × (has members x ≡ true) × (p x ≡ true)

abbrev pub HasNone : (ℕ → Bool) → List ℕ → Type 0
HasNone p members = (x : ℕ) → has members x ≡ true → p x ≡ false

-- what a search among some rows below n finds: one that passes, or n if none does
abbrev pub Finds : ℕ → (ℕ → Bool) → List ℕ → ℕ → Type 0
Finds n p members r = ((r < n) × (has members r ≡ true) × (p r ≡ true)) ⊎
    ((r ≡ n) × ((x : ℕ) → has members x ≡ true → p x ≡ false))

-- the bits of a sixteenth of a key that choose a bucket: the lowest ten for a front whose list has few words, so that
-- the buckets in use stand close together, and all bits for another one
abbrev pub mask_of : ℕ → ℕ
mask_of count = cond (nat_lt count 256) 1023 (2 ^ 64 - 1)

-- the bucket of a class of a front whose list has so many words
unfoldable pub bucket_of : ℕ → List ℕ → ℕ → ℕ
bucket_of count last i = bit_and (num last i / 16) (mask_of count)

-- the class i of the front was merged into the class r
pub record MergesInto (i r : ℕ) (p v : Classes) : Type 0 where
  pub links : v.pe ≡ slice_set p.pe i (flip_of r)
  pub lists : v.e_len ≡ slice_set p.e_len i (negsuc 0)
  pub sizes : (x : ℕ) → size_of v.nv x
      ≡ cond (x == i) 0 (cond (x == r) (size_of p.nv r + size_of p.nv i) (size_of p.nv x))
  pub front : (x : ℕ) → in_front v.nv x ≡ (in_front p.nv x && not (x == i))
  pub heads : v.hash ≡ p.hash
  pub nexts : v.next ≡ p.next

-- the class i was put at the head of the bucket key
pub record Pushes (i key : ℕ) (p v : Classes) : Type 0 where
  pub heads : v.hash ≡ slice_set p.hash key i
  pub nexts : v.next ≡ slice_set p.next i (num p.hash key)
  pub links : v.pe ≡ p.pe
  pub lists : v.e_len ≡ p.e_len
  pub sizes : v.nv ≡ p.nv

-- the class i was looked for among the members of the bucket key: it is merged into one alike, or, if there is none, it
-- is put into the bucket
abbrev pub Settles : (ℕ → ℕ → Bool) → List ℕ → ℕ → ℕ → Classes → Classes → Type 0
Settles alike members i key p v =
    ((r : ℕ) × (has members r ≡ true) × (alike i r ≡ true) × MergesInto i r p v)
    ⊎ (((x : ℕ) → has members x ≡ true → alike i x ≡ false) × Pushes i key p v)

-- a class of a bucket, into which another one can be merged
pub record IsMember (n : ℕ) (p : Classes) (i j : ℕ) : Type 0 where
  pub renewed : IsRenewed n p.iw p.pe p.e_len p.len j
  pub apart : AreApart p.iw p.pe p.e_len p.len i j
  pub other : j ≡ i → ⊥
  pub marked : in_front p.nv j ≡ true
  pub small : size_of p.nv j + size_of p.nv i ≤ n

-- the class i stands ready to be looked for in its bucket, and to be merged or put there
pub record IsReady (n count i : ℕ) (p : Classes) : Type 0 where
  pub key : bucket_of count p.last i < bucket_count n
  pub chain : Chain n p.next (num p.hash (bucket_of count p.last i))
      (links n p.next n (num p.hash (bucket_of count p.last i)))
  pub here : IsRenewed n p.iw p.pe p.e_len p.len i
  pub marked : in_front p.nv i ≡ true
  pub members : (j : ℕ) → has (links n p.next n (num p.hash (bucket_of count p.last i))) j ≡ true → IsMember n p i j
  pub keys : (j : ℕ) → has (links n p.next n (num p.hash (bucket_of count p.last i))) j ≡ true →
      alike_in (kept_of p.iw p.pe p.e_len) (variables_in p.iw p.pe p.e_len p.len) i j ≡ true →
      num p.last j ≡ num p.last i
  pub standing : (x : ℕ) → has (words_of p.iw p.pe p.len i) x ≡ true → 0 < num p.w x

-- what is known of the classes of a front, with rows of their own and lists that were renewed, before they are merged:
-- each has its key in `last`, and what it lists has a counter that is not 0
pub record AreRenewed (n : ℕ) (p : Classes) (rest : List ℕ) : Type 0 where
  pub renewed : (i : ℕ) → has rest i ≡ true → IsRenewed n p.iw p.pe p.e_len p.len i
  pub apart : (i j : ℕ) → has rest i ≡ true → has rest j ≡ true → AreApart p.iw p.pe p.e_len p.len i j
  pub keys : (i : ℕ) → has rest i ≡ true → num p.last i ≡ key_of n (words_of p.iw p.pe p.len i)
  pub marked : (i : ℕ) → has rest i ≡ true → in_front p.nv i ≡ true
  pub small : sum_by (size_of p.nv) rest ≤ n
  pub standing : (i x : ℕ) → has rest i ≡ true → has (words_of p.iw p.pe p.len i) x ≡ true → 0 < num p.w x

-- the representative of a class: the last one alike
abbrev pub represents_in : List ℤ → List ℤ → List ℤ → List ℕ → List ℕ → ℕ → ℕ
represents_in iw pe e_len len rest x = last_that (alike_in (kept_of iw pe e_len) (variables_in iw pe e_len len) x) x
    rest

-- each class of a list was merged into its representative: that one has the rows of all, and the others end; other
-- links stay
pub record MergesAll (rest : List ℕ) (rep : ℕ → ℕ) (p v : Classes) : Type 0 where
  pub sizes : (x : ℕ) → size_of v.nv x ≡ cond (has rest x)
      (cond (rep x == x) (sum_by (size_of p.nv) (filter (λ j. rep j == x) rest)) 0)
      (size_of p.nv x)
  pub links : (x : ℕ) → word v.pe x ≡ cond (has rest x && not (rep x == x)) (flip_of (rep x)) (word p.pe x)
  pub lists : (x : ℕ) → word v.e_len x ≡ cond (has rest x && not (rep x == x)) (negsuc 0) (word p.e_len x)
  pub front : (x : ℕ) → in_front v.nv x ≡ cond (has rest x && not (rep x == x)) false (in_front p.nv x)
  pub nexts : (x : ℕ) → has rest x ≡ false → num v.next x ≡ num p.next x
