-- What merging the classes of a front and placing those that are left leave behind, each between what it found and what
-- it left.
use Rattle.std.specs.Prelude.{ℕ, ℤ, Bool, false, List, ◌∷◌, ◌≡◌, ◌<◌, ◌≤◌, ◌+◌, ◌==◌, ◌&&◌, ◌⊎◌, not, cond}
use Rattle.std.specs.Prelude.{nat_lt, length, slice_set}
use Rattle.amd_model.specs.Quotient.{has}
use Rattle.amd_round_laws.specs.Rounds.{alike_in}
use Rattle.amd_words.specs.Sides.{nexts}
use Rattle.amd_words.specs.Words.{num, size_of, in_front, rows}
use Rattle.amd_lists.specs.Chains.{DegreeLists}
use Rattle.amd_lists.specs.Layout.{variables_in}
use Rattle.amd_lists.specs.Lengths.{row_count}
use Rattle.amd_lists.specs.Renewal.{Filters}
use Rattle.amd_lists.specs.Spans.{span, sifted}
use Rattle.amd_merging.specs.Classes.{Lists, Classes, Placing}
use Rattle.amd_merging.specs.declared.restoring.Front.{Front}
use Rattle.amd_merging.specs.FrontLists.{LongToMerge, LongToPlace, MergesList, PutsAll}
use Rattle.amd_lists.specs.Sizes.{bucket_count}
use Rattle.amd_merging.specs.Merging.{bucket, bucket_of, kept_of, words_of, is_near, Finds, HasNone, HasSome, Settles}
use Rattle.amd_merging.specs.Restoring.{bound_in, Restores}

-- where some member of a bucket is near a class, the words of that class are marked with the flag, which rises by 1;
-- else counters and flag stay
abbrev pub Spreads : (ℕ → Bool) → List ℕ → List ℕ → ℕ → List ℕ → List ℕ → ℕ → Type 0
Spreads near members words flag w w' flag' = (HasNone near members × (flag' ≡ flag) × (w' ≡ w))
    ⊎ (HasSome near members × (flag' ≡ flag + 1) × ((x : ℕ) → num w' x ≡ cond (has words x) flag (num w x)))

-- a class alike to i was looked for in a bucket, after the words of i were marked with the flag
pub record FindsAlike (flag i head : ℕ) (p : Lists) (w : List ℕ) (sides : List (ℕ × ℕ)) (w' : List ℕ) (found_at : ℕ)
    : Type 0 where
  pub found : Finds (row_count sides) (alike_in (kept_of p.iw p.pe p.e_len) (variables_in p.iw p.pe p.e_len p.len) i)
      (bucket (nexts sides) head) found_at
  pub long : length w' ≡ length w
  pub marked : (x : ℕ) → num w' x ≡ cond (has (words_of p.iw p.pe p.len i) x) flag (num w x)

-- the rows of the class i of the front are those of j now
pub record AddsInside (i j : ℕ) (nv nv' : List ℤ) : Type 0 where
  pub long : length nv' ≡ length nv
  pub sizes : (x : ℕ) → size_of nv' x ≡ cond (x == i) 0 (cond (x == j) (size_of nv j + size_of nv i) (size_of nv x))
  pub front : (x : ℕ) → in_front nv' x ≡ (in_front nv x && not (x == i))

-- the class i was merged into one of its bucket that is alike, or put into it; counters stay below the flag, which
-- rises by 1 where the list of i was spread and else stays, and those that are 0 stay 0
pub record MergesOne (count i flag : ℕ) (p v : Classes) (flag' : ℕ) : Type 0 where
  pub settles : Settles (alike_in (kept_of p.iw p.pe p.e_len) (variables_in p.iw p.pe p.e_len p.len))
      (bucket p.next (num p.hash (bucket_of count p.last i))) i (bucket_of count p.last i) p v
  pub lengths : LongToMerge (length p.next) v
  pub keys : v.last ≡ p.last
  pub spreads : Spreads (is_near p.e_len p.len p.last i) (bucket p.next (num p.hash (bucket_of count p.last i)))
      (words_of p.iw p.pe p.len i) flag p.w v.w flag'
  pub rises : (flag ≤ flag') × (flag' ≤ flag + 1)
  pub under : (x : ℕ) → num v.w x < flag'
  pub zeros : (x : ℕ) → (num v.w x == 0) ≡ (num p.w x == 0)

-- so was each class of a front, whose list stands in count words
pub record MergesClasses (from count flag : ℕ) (p v : Classes) (flag' : ℕ) : Type 0 where
  pub merges : MergesList (length p.next) from count p v
  pub lengths : LongToMerge (length p.next) v
  pub keys : v.last ≡ p.last
  pub rises : (flag ≤ flag') × (flag' ≤ flag + count)
  pub under : (x : ℕ) → num v.w x < flag'
  pub zeros : (x : ℕ) → (num v.w x == 0) ≡ (num p.w x == 0)

-- the class i stands by its new bound, with no mark, and its bucket is empty
pub record PlacesClass (front : Front) (i : ℕ) (p v : Placing) (bound : ℕ) : Type 0 where
  pub lengths : LongToPlace (length p.next) v
  pub sizes : (j : ℕ) → size_of v.nv j ≡ size_of p.nv j
  pub marks : (j : ℕ) → in_front v.nv j ≡ (in_front p.nv j && not (i == j))
  pub bound_is : bound ≡ bound_in front.border front.left p.nv p.degree i
  pub degrees : v.degree ≡ slice_set p.degree i bound
  pub emptied : v.hash ≡ cond (nat_lt 1 front.count)
      (slice_set p.hash (bucket_of front.count p.last i) (length p.next)) p.hash
  pub others : (x : ℕ) → (x ≡ i → ⊥) → (x ≡ num p.head bound → ⊥) → num v.last x ≡ num p.last x
  pub linked : (lists : ℕ → List ℕ) → ((b : ℕ) → b < length p.next → has (lists b) i ≡ false) →
      DegreeLists (length p.next) p.head p.next p.last p.degree lists →
      DegreeLists (length p.next) v.head v.next v.last v.degree (λ b. cond (b == bound) (i ∷ lists b) (lists b))

-- so does each class that is left of a front, whose list keeps these alone, to `end`
pub record RestoresFront (front : Front) (least : ℕ) (iw : List ℤ) (p : Placing) (iw' : List ℤ) (v : Placing)
    (end least' : ℕ) : Type 0 where
  pub filters : Filters (length p.next) (in_front p.nv) (λ j. 0) 0 (span iw front.from front.count) front.from
      (sifted iw' end 0)
  pub placed : Restores (rows iw front.from front.count) front.border front.left least p.nv p.degree v.nv v.degree
      least'
  pub empty : (b : ℕ) → b < bucket_count (length p.next) → length p.next ≤ num v.hash b
  pub linked : PutsAll (length p.next) front.border front.left (rows iw front.from front.count) p v
  pub lengths : LongToPlace (length p.next) v
