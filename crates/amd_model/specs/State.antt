-- The state of an elimination with element absorption: where each row is, the bound of each class, and the border and
-- the parent of each element. A class (a supervariable) is named by its representative, and an element by its pivot
-- row. A pivot leaves an element behind: its block, the rows eliminated with it, and its border, the live rows that
-- they reached. A state is four functions of a row; a bound, border or parent at a number that names no class or
-- element means nothing. Source: Amestoy, Davis and Duff 1996 (quotient graph, elements, supervariables).
use Rattle.std.specs.Prelude.{ℕ, Bool, true, false, Option, None, ◌==◌, ◌&&◌, ◌||◌, not, is_none, ◌≡◌, ◌≤◌, ◌<◌}
use Rattle.amd_model.specs.Below.{any_below, all_below}
use Rattle.amd_model.specs.Graph.{Graph, degree}

-- a row is held last (a dense row), is live in the class of a representative, or is eliminated in the block of a pivot
-- row
pub data Home : Type 0 where
  Last : Home
  Live : ℕ → Home
  Gone : ℕ → Home

-- where each row is, the bound of each class, and the border and the parent of each element
pub record State : Type 0 where
  pub home : ℕ → Home
  pub bound : ℕ → ℕ
  pub border : ℕ → ℕ → Bool
  pub parent : ℕ → Option ℕ

-- a home says: live
unfoldable pub live_at : Home → Bool
live_at Last = false
live_at (Live c) = true
live_at (Gone e) = false

-- a home says: eliminated
unfoldable pub gone_at : Home → Bool
gone_at Last = false
gone_at (Live c) = false
gone_at (Gone e) = true

-- a home says: in the class c
unfoldable pub class_at : ℕ → Home → Bool
class_at c Last = false
class_at c (Live d) = d == c
class_at c (Gone e) = false

-- a home says: in the block of e
unfoldable pub block_at : ℕ → Home → Bool
block_at e Last = false
block_at e (Live d) = false
block_at e (Gone f) = f == e

-- row v is live
abbrev pub live : State → ℕ → Bool
live s v = live_at (s.home v)

-- row v was eliminated
abbrev pub eliminated : State → ℕ → Bool
eliminated s v = gone_at (s.home v)

-- row v is in the class c
abbrev pub in_class : State → ℕ → ℕ → Bool
in_class s c v = class_at c (s.home v)

-- row v is in the block of the element e
abbrev pub in_block : State → ℕ → ℕ → Bool
in_block s e v = block_at e (s.home v)

-- a class is named by one of its rows
abbrev pub is_class : State → ℕ → Bool
is_class s c = in_class s c c

-- an element is named by its pivot row
abbrev pub is_element : State → ℕ → Bool
is_element s e = in_block s e e

-- an element stands if it has no parent and its border is not empty
unfoldable pub stands : Graph → State → ℕ → Bool
stands g s e = is_element s e && is_none (s.parent e) && any_below g.size (s.border e)

-- each row that passes p passes q
unfoldable pub inside : Graph → (ℕ → Bool) → (ℕ → Bool) → Bool
inside g p q = all_below g.size (λ v. not (p v) || q v)

-- a standing element holds the classes that lie inside its border
unfoldable pub holds : Graph → State → ℕ → ℕ → Bool
holds g s e c = stands g s e && is_class s c && inside g (in_class s c) (s.border e)

-- an edge joins a row of c with a row of d
unfoldable pub joined : Graph → State → ℕ → ℕ → Bool
joined g s c d = any_below g.size (λ v. in_class s c v && any_below g.size (λ w. in_class s d w && g.edge v w))

-- two different classes that an edge joins, and that no standing element holds both
unfoldable pub neighbours : Graph → State → ℕ → ℕ → Bool
neighbours g s c d = is_class s c && is_class s d && not (c == d) && joined g s c d
    && not (any_below g.size (λ e. holds g s e c && holds g s e d))

-- the front of a class, L(c): the borders of the standing elements that hold it and the rows of its direct neighbours,
-- without its own rows. (The front whose columns a figure counts is another thing: a block, its border, and the rows
-- held last.)
unfoldable pub front : Graph → State → ℕ → ℕ → Bool
front g s c v = not (in_class s c v)
    && (any_below g.size (λ e. holds g s e c && s.border e v) ||
    any_below g.size (λ d. neighbours g s c d && in_class s d v))

-- the start: dense rows last, empty rows eliminated, each other row a class with its degree as bound
pub record IsStart (g : Graph) (dense : ℕ → Bool) (s : State) : Type 0 where
  pub last : (v : ℕ) → v < g.size → dense v ≡ true → s.home v ≡ Last
  pub empty : (v : ℕ) → v < g.size → dense v ≡ false → degree g v ≡ 0 → s.home v ≡ Gone v
  pub alone : (v : ℕ) → v < g.size → dense v ≡ false → 0 < degree g v → s.home v ≡ Live v
  -- numbers that name no row count as held last
  pub outside : (v : ℕ) → g.size ≤ v → s.home v ≡ Last
  pub bounds : (v : ℕ) → s.home v ≡ Live v → s.bound v ≡ degree g v
  pub borders : (e v : ℕ) → s.border e v ≡ false
  pub parents : (e : ℕ) → s.parent e ≡ None
