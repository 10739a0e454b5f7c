-- What the parts of turning a front over to its element leave behind, each between what it found and what it left.
use Rattle.std.specs.Prelude.{ℕ, ℤ, Bool, true, List, ◌≡◌, ◌<◌, ◌≤◌, ◌+◌, ◌==◌, ◌&&◌, ◌++◌, cond}
use Rattle.std.specs.Prelude.{length}
use Rattle.amd_model.specs.Quotient.{has}
use Rattle.amd_words.specs.Words.{num, word, flip_of}
use Rattle.amd_lists.specs.Lengths.{KeepsLinks}
use Rattle.amd_lists.specs.Chains.{DegreeLists, without}
use Rattle.amd_lists.specs.Layout.{elements_in, list_in, RenewsOne}
use Rattle.amd_lists.specs.Workspaces.{Workspace}
use Rattle.amd_lists.specs.Renewal.{is_kept, is_outside, hashed}
use Rattle.amd_fronts.specs.Tallies.{settled_in, ends_in, front_at, CountsFront, EndsCounted, LeavesLists}
use Rattle.amd_fronts.specs.Fronts.{kept_in, near_in, reach_of, renewed_in, RenewsOrEnds, RenewsFront}
use Rattle.amd_fronts.specs.Turning.{TurnsFront}
use Rattle.amd_fronts.specs.declared.outside.Tally.{Tally}

-- the counters of the elements xs have lost the rows of a class; where one ended, its start names the pivot
pub record TouchesAll (tally : Tally) (xs degree : List ℕ) (pe : List ℤ) (w : List ℕ) (pe' : List ℤ) (w' : List ℕ)
    : Type 0 where
  pub long : (length w' ≡ length w) × (length pe' ≡ length pe)
  pub counted : (e : ℕ) → num w' e ≡ cond (has xs e) (settled_in tally degree w e) (num w e)
  pub starts : (e : ℕ) → word pe' e ≡ cond (has xs e && ends_in tally degree w e) (flip_of tally.me) (word pe e)

-- the class i has left the list of its bound, and its rows the counters of the elements that it lists
pub record CountsClass (tally : Tally) (i : ℕ) (p v : Workspace) : Type 0 where
  pub touches : TouchesAll tally (elements_in p.iw p.pe p.e_len i) p.degree p.pe p.w v.pe v.w
  pub lengths : KeepsLinks p.head p.next p.last v.head v.next v.last
  pub linked : (lists : ℕ → List ℕ) → has (lists (num p.degree i)) i ≡ true →
      DegreeLists (length p.w) p.head p.next p.last p.degree lists →
      DegreeLists (length p.w) v.head v.next v.last p.degree (λ d. without i (lists d))
  pub same : v ≡ record p { pe = v.pe; w = v.w; head = v.head; next = v.next; last = v.last }

-- the classes of a front have left the lists by bound, and their rows the counters of the elements that they list
pub record CountsOutside (aggressive : Bool) (me : ℕ) (front : List ℕ) (p v : Workspace) : Type 0 where
  pub long : (length v.w ≡ length p.w) × (length v.pe ≡ length p.pe)
  pub counted : CountsFront aggressive front p v.w
  pub starts : EndsCounted aggressive me front p v.pe
  pub lengths : KeepsLinks p.head p.next p.last v.head v.next v.last
  pub linked : LeavesLists (length p.w) front p v
  pub same : v ≡ record p { pe = v.pe; w = v.w; head = v.head; next = v.next; last = v.last }

-- below the greatest cell less the count of counters the flag stays, and so do the counters; from there on it is 2, and
-- each counter is 1 that is not 0
abbrev pub KeepsOrResets : ℕ → ℕ → List ℕ → List ℕ → ℕ → Type 0
KeepsOrResets most_cell flag w w' flag' =
    (flag + length w < most_cell → (flag' ≡ flag) × (w' ≡ w)) ×
    (most_cell ≤ flag + length w → (flag' ≡ 2) × ((e : ℕ) → num w' e ≡ cond (num w e == 0) 0 1))

-- so do the flag and the counters; then these are below it, there is room for a count above it, and what was 0 alone
-- is 0
pub record RenewsFlag (most_cell flag : ℕ) (w w' : List ℕ) (flag' : ℕ) : Type 0 where
  pub renewed : KeepsOrResets most_cell flag w w' flag'
  pub long : length w' ≡ length w
  pub two : 2 ≤ flag'
  pub under : (e : ℕ) → num w' e < flag'
  pub zeros : (e : ℕ) → (num w' e == 0) ≡ (num w e == 0)
  pub room : flag' + length w ≤ most_cell

-- the list of the class i was renewed, and has count words; it reaches so many rows outside the front, and hash is the
-- sum of what it keeps, as a word wraps it
pub record RenewsClass (me i : ℕ) (p v : Workspace) (count reach hash : ℕ) : Type 0 where
  pub renews : RenewsOne (length p.w) me (is_kept p.w) (is_outside p.nv) i p v
  pub count_is : count ≡ num v.len i
  pub outside : reach ≡ reach_of p i
  pub hash_is : hash ≡ hashed 0
      (kept_in (is_kept p.w) p.iw p.pe p.e_len i ++ near_in (is_outside p.nv) p.iw p.pe p.e_len p.len i)
  pub same : v ≡ record p { iw = v.iw; e_len = v.e_len; len = v.len }

-- the class i was renewed, or ended and gone rows go with the pivot
pub record RenewsOrRetires (me i : ℕ) (p v : Workspace) (gone : ℕ) : Type 0 where
  pub renews : RenewsOrEnds (length p.w) me i p v gone
  pub lengths : (length v.pe ≡ length p.pe) × (length v.e_len ≡ length p.e_len) × (length v.nv ≡ length p.nv) ×
      (length v.degree ≡ length p.degree) × (length v.last ≡ length p.last)
  pub same : v ≡ renewed_in p v

-- so was each class of the front of the new element me
pub record RenewsAllClasses (me : ℕ) (p v : Workspace) (gone : ℕ) : Type 0 where
  pub renews : RenewsFront (length p.w) me (list_in p.iw p.pe p.len me) p v gone
  pub same : v ≡ renewed_in p v

-- the front of the new element me was turned over to it, out of the lists by bound
pub record Turns (aggressive : Bool) (me : ℕ) (p v : Workspace) (gone : ℕ) : Type 0 where
  pub turns : TurnsFront aggressive (length p.w) me p v gone
  pub linked : LeavesLists (length p.w) (front_at p me) p v
  pub lengths : (length v.w ≡ length p.w) × (length v.head ≡ length p.head) × (length v.next ≡ length p.next)
  pub more_lengths : (length v.pe ≡ length p.w) × (length v.last ≡ length p.w)
  pub same : v ≡ record (renewed_in p v) { w = v.w; head = v.head; next = v.next }
