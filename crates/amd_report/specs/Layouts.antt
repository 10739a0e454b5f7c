-- Where the blocks of a tree of supernodes lie in a picture. A block that has no parent goes up to the number of
-- supernodes, which stands over all.
use Rattle.std.specs.Prelude.{◌≡◌, ◌≢◌, ◌+◌, ◌<◌, ◌≤◌, ◌⊎◌, ℕ, List, Option, None, Some, length, slice_index}
use Rattle.std.specs.Prelude.{slice_index_or}
use Rattle.amd_count_laws.specs.Parts.{part_size}
use Rattle.amd_count_laws.specs.Rising.{GoesUp, under}

-- supernode q is the parent of supernode s, and stands behind it
abbrev pub IsOver : List (Option ℕ) → ℕ → ℕ → Type 0
IsOver parent s q = (slice_index_or parent s None ≡ Some q) × (s < q) × (q < length parent)

-- each supernode goes up to its parent, where it has one behind it
abbrev pub GoesToParents : List (Option ℕ) → List ℕ → Type 0
GoesToParents parent up = (s q : ℕ) → IsOver parent s q → slice_index up s ≡ q

-- the second widths are the first ones and those of the blocks that go up to each
pub record AddsUnder (up old new : List ℕ) : Type 0 where
  pub room : length new ≡ length old
  pub each : (q : ℕ) → q ≤ length up → slice_index new q ≡ slice_index old q + under up new q (length up)

-- each block is as wide as its own columns and the blocks that go up to it
pub record AreWidths (first up width : List ℕ) : Type 0 where
  pub room : length width ≡ length up + 1
  pub each : (q : ℕ) → q ≤ length up → slice_index width q ≡ part_size first q + under up width q (length up)

-- two blocks have no column in common
abbrev pub AreApart : List ℕ → List ℕ → ℕ → ℕ → Type 0
AreApart left width s t = (slice_index left s + slice_index width s ≤ slice_index left t) ⊎
    (slice_index left t + slice_index width t ≤ slice_index left s)

-- the supernodes from k on are laid, and the next one that goes up to q is to begin at column next[q]
pub record AreLaid (first up width left level next : List ℕ) (k : ℕ) : Type 0 where
  pub lefts : length left ≡ length up + 1
  pub levels_room : length level ≡ length up + 1
  pub nexts_room : length next ≡ length up + 1
  pub reached : k ≤ length up
  pub top : slice_index level (length up) ≡ 0
  pub low : (q : ℕ) → k ≤ q → q ≤ length up → slice_index level q + q ≤ length up
  pub nexts : (q : ℕ) → k ≤ q → q ≤ length up → slice_index next q + under up width q k + part_size first q
      ≡ slice_index left q + slice_index width q
  pub grown : (q : ℕ) → k ≤ q → q ≤ length up → slice_index left q ≤ slice_index next q
  pub begins : (s : ℕ) → k ≤ s → s < length up → slice_index left (slice_index up s) ≤ slice_index left s
  pub ends : (s : ℕ) → k ≤ s → s < length up → slice_index left s + slice_index width s ≤ slice_index next (slice_index up s)
  pub levels : (s : ℕ) → k ≤ s → s < length up → slice_index level s ≡ slice_index level (slice_index up s) + 1
  pub within : (s : ℕ) → k ≤ s → s ≤ length up →
      slice_index left s + slice_index width s ≤ slice_index width (length up)
  pub apart : (s t : ℕ) → k ≤ s → k ≤ t → s ≤ length up → t ≤ length up → s ≢ t →
      slice_index level s ≡ slice_index level t → AreApart left width s t

-- the layout of a tree of supernodes that begin at these columns and have these parents
pub record IsLayout (first : List ℕ) (parent : List (Option ℕ)) (left width level : List ℕ) : Type 0 where
  -- each block is as wide as its own columns and the blocks that go up to it
  pub up : List ℕ
  pub rises : GoesUp up
  pub room : length up ≡ length parent
  pub parents : GoesToParents parent up
  pub widths : AreWidths first up width
  -- each lies inside its parent's width, before the parent's own columns
  pub begins : (s q : ℕ) → IsOver parent s q → slice_index left q ≤ slice_index left s
  pub ends : (s q : ℕ) → IsOver parent s q →
      slice_index left s + slice_index width s + part_size first q ≤ slice_index left q + slice_index width q
  -- and on the next level
  pub levels : (s q : ℕ) → IsOver parent s q → slice_index level s ≡ slice_index level q + 1
  -- all lie within the width of the picture
  pub within : (s : ℕ) → s < length parent →
      slice_index left s + slice_index width s ≤ slice_index width (length parent)
  -- no two blocks of one level overlap
  pub apart : (s t : ℕ) → s < length parent → t < length parent → s ≢ t →
      slice_index level s ≡ slice_index level t → AreApart left width s t
