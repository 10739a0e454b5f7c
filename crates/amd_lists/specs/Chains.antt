-- Rows in doubly linked lists, one for each bound. The number of rows stands for no row.
use Rattle.std.specs.Prelude.{ℕ, true, false, List, [], ◌∷◌, ◌≡◌, ◌<◌, ◌≤◌, ◌==◌, not, cond, filter, length, slice_set}
use Rattle.amd_model.specs.Quotient.{has, Once}
use Rattle.amd_words.specs.Sides.{nexts, lasts}
use Rattle.amd_words.specs.Words.{num}
use Rattle.amd_lists.specs.Lengths.{row_count, HasSides}

-- the links from x on lead through the rows of a list, and then to no row
abbrev pub Chain : ℕ → List ℕ → ℕ → List ℕ → Type 0
Chain n next x [] = n ≤ x
Chain n next x (y ∷ ys) = (x ≡ y) × (y < n) × Chain n next (num next y) ys

-- each row of the list is linked back to the one before it, the first one to p
abbrev pub Back : List ℕ → ℕ → List ℕ → Type 0
Back last p [] = Unit {0}
Back last p (y ∷ ys) = (num last y ≡ p) × Back last y ys

-- for each bound the rows of that bound, in the order in which they are linked
pub record DegreeLists (n : ℕ) (head next last degree : List ℕ) (lists : ℕ → List ℕ) : Type 0 where
  pub chains : (d : ℕ) → d < n → Chain n next (num head d) (lists d)
  pub backs : (d : ℕ) → d < n → Back last n (lists d)
  pub bounds : (d x : ℕ) → d < n → has (lists d) x ≡ true → num degree x ≡ d
  pub once : (d : ℕ) → d < n → Once (lists d)

-- a list without a row
abbrev pub without : ℕ → List ℕ → List ℕ
without i xs = filter (λ j. not (j == i)) xs

-- a row was taken out of its list
pub record Unlinks (n i d : ℕ) (head next last head' next' last' : List ℕ) : Type 0 where
  pub lasts : (x : ℕ) → (x ≡ num next i → ⊥) → num last' x ≡ num last x
  pub last_is : num next i < n → num last' (num next i) ≡ num last i
  pub nexts : (x : ℕ) → (x ≡ num last i → ⊥) → num next' x ≡ num next x
  pub next_is : num last i < n → num next' (num last i) ≡ num next i
  pub heads : (b : ℕ) → (b ≡ d → ⊥) → num head' b ≡ num head b
  pub head_stays : num last i < n → num head' d ≡ num head d
  pub head_is : n ≤ num last i → num head' d ≡ num next i

-- a row was put at the head of a list
pub record Relinks (n i d : ℕ) (head next last head' next' last' : List ℕ) : Type 0 where
  pub nexts : (x : ℕ) → (x ≡ i → ⊥) → num next' x ≡ num next x
  pub next_is : num next' i ≡ num head d
  pub lasts : (x : ℕ) → (x ≡ i → ⊥) → (x ≡ num head d → ⊥) → num last' x ≡ num last x
  pub last_is : num last' i ≡ n
  pub last_after : num head d < n → (num head d ≡ i → ⊥) → num last' (num head d) ≡ i
  pub heads : (b : ℕ) → (b ≡ d → ⊥) → num head' b ≡ num head b
  pub head_is : num head' d ≡ i

-- of the bounds from b on, one has a row in its list
abbrev pub SomeFrom : ℕ → List ℕ → ℕ → Type 0
SomeFrom n head b = (x : ℕ) × (b ≤ x) × (x < n) × (num head x < n)

-- a pivot was chosen: the first row of the least bound, from `least` on, that has one
pub record Chooses (n least : ℕ) (lists : ℕ → List ℕ) (pivot bound : ℕ) : Type 0 where
  pub from : least ≤ bound
  pub inside : bound < n
  pub row : pivot < n
  pub first : (rest : List ℕ) × (lists bound ≡ pivot ∷ rest)
  pub below : (b : ℕ) → least ≤ b → b < bound → lists b ≡ []

-- lists by bound of n rows, linked through their sides
abbrev pub Linked : ℕ → List ℕ → List (ℕ × ℕ) → List ℕ → (ℕ → List ℕ) → Type 0
Linked n head sides degree lists = DegreeLists n head (nexts sides) (lasts sides) degree lists

-- a row with a bound, where there is a head and a bound for each row
pub record IsBounded (i : ℕ) (head degree : List ℕ) (sides : List (ℕ × ℕ)) : Type 0 where
  pub lengths : (length head ≡ row_count sides) × (length degree ≡ row_count sides)
  pub row : (i < row_count sides) × (num degree i < row_count sides)

-- a row was taken out of the list of its bound
pub record TakesOut (i : ℕ) (degree head : List ℕ) (sides : List (ℕ × ℕ)) (head' : List ℕ) (sides' : List (ℕ × ℕ))
    : Type 0 where
  pub lengths : HasSides (row_count sides) head' sides'
  pub linked : (lists : ℕ → List ℕ) → has (lists (num degree i)) i ≡ true →
      Linked (row_count sides) head sides degree lists →
      Linked (row_count sides) head' sides' degree (λ d. without i (lists d))

-- a row can be put into the list of the bound d, where there is a head and a bound for each row
pub record CanPutHead (most_cell i d : ℕ) (head degree : List ℕ) (sides : List (ℕ × ℕ)) : Type 0 where
  pub lengths : (length head ≡ row_count sides) × (length degree ≡ row_count sides)
  pub short : row_count sides ≤ most_cell
  pub row : (i < row_count sides) × (d < row_count sides)

-- a row of no list has the bound d now, and stands at the head of its list
pub record PutsHead (i d : ℕ) (head : List ℕ) (sides : List (ℕ × ℕ)) (degree head' : List ℕ) (sides' : List (ℕ × ℕ))
    (degree' : List ℕ) : Type 0 where
  pub lengths : HasSides (row_count sides) head' sides'
  pub linked : (lists : ℕ → List ℕ) → ((b : ℕ) → b < row_count sides → has (lists b) i ≡ false) →
      Linked (row_count sides) head sides degree lists →
      Linked (row_count sides) head' sides' degree' (λ b. cond (b == d) (i ∷ lists b) (lists b))
  pub degrees : degree' ≡ slice_set degree i d
  pub others : (x : ℕ) → (x ≡ i → ⊥) → (x ≡ num head d → ⊥) → num (lasts sides') x ≡ num (lasts sides) x

-- a pivot of the bound given was chosen among the bounds from `least` on, and taken out of its list
pub record ChoosesRow (least : ℕ) (head : List ℕ) (sides : List (ℕ × ℕ)) (head' : List ℕ) (sides' : List (ℕ × ℕ))
    (pivot bound : ℕ) : Type 0 where
  pub lengths : HasSides (row_count sides) head' sides'
  pub row : (pivot < row_count sides) × (bound < row_count sides)
  pub chosen : (degree : List ℕ) (lists : ℕ → List ℕ) → Linked (row_count sides) head sides degree lists →
      Chooses (row_count sides) least lists pivot bound
  pub linked : (degree : List ℕ) (lists : ℕ → List ℕ) → Linked (row_count sides) head sides degree lists →
      Linked (row_count sides) head' sides' degree (λ b. without pivot (lists b))
