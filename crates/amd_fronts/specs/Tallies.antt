-- What the classes of a front do to the counters of the elements that they list, and to the lists by bound.
use Rattle.std.specs.Prelude.{ℕ, ℤ, Bool, true, false, List, ◌≡◌, ◌<◌, ◌≤◌, not, cond, filter, length}
use Rattle.amd_model.specs.Quotient.{has}
use Rattle.amd_words.specs.Words.{num, word, size_of, flip_of}
use Rattle.amd_lists.specs.Chains.{DegreeLists}
use Rattle.amd_lists.specs.Layout.{elements_in, list_in, rows_met}
use Rattle.amd_lists.specs.Workspaces.{Workspace}
use Rattle.amd_fronts.specs.Counts.{touched, counter, ends, settled, IsListed}
use Rattle.amd_fronts.specs.declared.outside.Tally.{Tally}

-- the list of the element me, which names the classes of its front
abbrev pub front_at : Workspace → ℕ → List ℕ
front_at p me = list_in p.iw p.pe p.len me

-- what the class i takes off the counters of the elements that it lists, in the front of the pivot me
abbrev pub tally_of : Bool → ℕ → ℕ → Workspace → Tally
tally_of aggressive me i p = record { more = size_of p.nv i; flag = p.flag; me = me; aggressive = aggressive }

-- the counter of the element e once a class with this tally is met
abbrev pub touched_in : Tally → List ℕ → List ℕ → ℕ → ℕ
touched_in tally degree w e = touched tally.flag (num degree e) tally.more (num w e)

-- the pivot absorbs it then
abbrev pub ends_in : Tally → List ℕ → List ℕ → ℕ → Bool
ends_in tally degree w e = ends tally.aggressive tally.flag (touched_in tally degree w e)

-- the counter that is left of it
abbrev pub settled_in : Tally → List ℕ → List ℕ → ℕ → ℕ
settled_in tally degree w e = settled tally.aggressive tally.flag (touched_in tally degree w e)

-- a class of a front can be counted: there is a list for its bound, and it lists no row of the front as an element
pub record IsCounted (front : List ℕ) (p : Workspace) (i : ℕ) : Type 0 where
  pub listed : IsListed p i
  pub apart : (e : ℕ) → has front e ≡ true → has (elements_in p.iw p.pe p.e_len i) e ≡ false
  pub bound : num p.degree i < length p.w

-- the rows of an element that are in a front are among those of its border
abbrev pub IsPart : List ℕ → Workspace → Type 0
IsPart front p = (e : ℕ) → 0 < num p.w e → rows_met p.iw p.pe p.e_len p.nv front e ≤ num p.degree e

-- the counter of the element e once all classes of a front are met
abbrev pub counted_in : List ℕ → Workspace → ℕ → ℕ
counted_in front p e = counter p.flag (num p.w e) (num p.degree e) (rows_met p.iw p.pe p.e_len p.nv front e)

-- the counters are those of the rows outside a front
abbrev pub CountsFront : Bool → List ℕ → Workspace → List ℕ → Type 0
CountsFront aggressive front p w' = (e : ℕ) → num w' e ≡ settled aggressive p.flag (counted_in front p e)

-- the elements of which no row is outside a front have ended: the pivot me absorbed them
abbrev pub EndsCounted : Bool → ℕ → List ℕ → Workspace → List ℤ → Type 0
EndsCounted aggressive me front p pe' =
    (e : ℕ) → word pe' e ≡ cond (ends aggressive p.flag (counted_in front p e)) (flip_of me) (word p.pe e)

-- the classes of a front, each of which stands in the list of its bound, have left the lists by bound
abbrev pub LeavesLists : ℕ → List ℕ → Workspace → Workspace → Type 0
LeavesLists n front p v = (lists : ℕ → List ℕ) →
    ((i : ℕ) → has front i ≡ true → has (lists (num p.degree i)) i ≡ true) →
    DegreeLists n p.head p.next p.last p.degree lists →
    DegreeLists n v.head v.next v.last v.degree (λ d. filter (λ j. not (has front j)) (lists d))
