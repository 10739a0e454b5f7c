-- The start of an elimination in a workspace that is laid, row by row.
use Rattle.std.specs.Prelude.{ℕ, ℤ, pos, negsuc, Bool, Option, List, ◌≡◌, ◌<◌, ◌==◌, ◌&&◌, ◌||◌, not, cond, nat_lt}
use Rattle.std.specs.Prelude.{length}
use Rattle.amd_model.specs.Below.{list_below}
use Rattle.amd_model.specs.Input.Held.{is_marked}
use Rattle.amd_words.specs.Words.{num, word, flip_of}
use Rattle.amd_workspace.specs.declared.rows.RowLists.{RowLists}

-- what the lists say of the rows: where the list of each row starts, its count of elements, its size, its length, its
-- bound and its counter
pub record Rows : Type 0 where
  pub pe : List ℤ
  pub e_len : List ℤ
  pub nv : List ℤ
  pub len : List ℕ
  pub degree : List ℕ
  pub w : List ℕ

-- what the lists that are lent say of them
abbrev pub rows_in : {S P U : Type 0} → RowLists S P U → Rows
rows_in l = record { pe = l.pe.now; e_len = l.e_len.now; nv = l.nv.now; len = l.len.now; degree = l.degree.now; w = l.w.now }

-- all lists are those that were lent
abbrev pub KeepsRows : {S P U : Type 0} → RowLists S P U → RowLists S P U → Type 0
KeepsRows old new = (new.pe.ghost_name ≡ old.pe.ghost_name) × (new.len.ghost_name ≡ old.len.ghost_name)
    × (new.e_len.ghost_name ≡ old.e_len.ghost_name) × (new.nv.ghost_name ≡ old.nv.ghost_name)
    × (new.degree.ghost_name ≡ old.degree.ghost_name) × (new.w.ghost_name ≡ old.w.ghost_name)
    × (new.head.ghost_name ≡ old.head.ghost_name) × (new.sides.ghost_name ≡ old.sides.ghost_name)
    × (new.hash.ghost_name ≡ old.hash.ghost_name)

-- there is a place for each of n rows in each of them
pub record AreLong (n : ℕ) (p : Rows) : Type 0 where
  pub pe : length p.pe ≡ n
  pub e_len : length p.e_len ≡ n
  pub nv : length p.nv ≡ n
  pub len : length p.len ≡ n
  pub degree : length p.degree ≡ n
  pub w : length p.w ≡ n

-- they say the same of a row
pub record IsSame (j : ℕ) (p q : Rows) : Type 0 where
  pub pe : word q.pe j ≡ word p.pe j
  pub e_len : word q.e_len j ≡ word p.e_len j
  pub nv : word q.nv j ≡ word p.nv j
  pub len : num q.len j ≡ num p.len j
  pub degree : num q.degree j ≡ num p.degree j
  pub w : num q.w j ≡ num p.w j

-- a row is held last if it is marked, or if its list is longer than the threshold
abbrev pub held_in : Option (List Bool) → ℕ → List ℕ → ℕ → Bool
held_in marks threshold len i = is_marked marks i || nat_lt threshold (num len i)

-- a row is a class if it is neither held last nor empty
abbrev pub begins_class : (ℕ → Bool) → List ℕ → ℕ → Bool
begins_class held len i = nat_lt 0 (num len i) && not (held i)

-- the classes below i of the bound b, rising
abbrev pub classes_of : (ℕ → Bool) → List ℕ → ℕ → ℕ → List ℕ
classes_of held len i b = list_below i (λ j. begins_class held len j && num len j == b)

-- a class keeps its list, lists no element, has one row, its degree as its bound and a counter above 0; another row has
-- no list, and is an element of one row if it is not held last
pub record BeginsRow (begins_class held : Bool) (i : ℕ) (p q : Rows) : Type 0 where
  pub starts : word q.pe i ≡ cond begins_class (word p.pe i) (negsuc 0)
  pub counts : word q.e_len i ≡ cond begins_class (pos 0) (cond held (negsuc 0) (flip_of 1))
  pub sizes : word q.nv i ≡ pos (cond begins_class 1 0)
  pub lengths : num q.len i ≡ cond begins_class (num p.len i) 0
  pub bounds : num q.degree i ≡ cond begins_class (num p.len i) 0
  pub counters : num q.w i ≡ cond begins_class 1 0

-- each row below i begins
pub record BeginsRows (i n : ℕ) (held : ℕ → Bool) (p q : Rows) : Type 0 where
  pub long : AreLong n q
  pub rows : (j : ℕ) → j < i → BeginsRow (begins_class held p.len j) (held j) j p q
