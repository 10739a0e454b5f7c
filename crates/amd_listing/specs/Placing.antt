-- The rows are put at their places of a listing, and into its inverse.
use Rattle.std.specs.Prelude.{ℕ, ℤ, pos, false, List, ◌≡◌, ◌<◌, ◌+◌, length, slice_index}
use Rattle.amd_model.specs.Input.Columns.{at}
use Rattle.amd_model.specs.State.{Home, live_at}
use Rattle.amd_words.specs.Words.{num, size_of}
use Rattle.amd_listing.specs.Blocks.{AreElements, AreStarts}
use Rattle.amd_listing.specs.Ended.{LinksAre}

-- the listing has a row at some place; there p names the row, and q names the place at the row
abbrev pub IsListedAt : List ℕ → List ℤ → List ℤ → ℕ → Type 0
IsListedAt listing p q v = (k : ℕ) × (k < length listing) × (slice_index listing k ≡ v) × (at p k ≡ pos v) ×
    (at q v ≡ pos k)

-- each row below n is placed
abbrev pub AllPlaced : ℕ → List ℕ → List ℤ → List ℤ → Type 0
AllPlaced n listing p q = (v : ℕ) → v < n → IsListedAt listing p q v

-- each element is at the last place of its block: there p names it, and q names the place at it
abbrev pub PivotsPlaced : List ℤ → List ℕ → List ℤ → List ℤ → Type 0
PivotsPlaced nv starts p q = (e k : ℕ) → 0 < size_of nv e → k + 1 ≡ num starts e + size_of nv e →
    (at p k ≡ pos e) × (at q e ≡ pos k)

-- the links lead each row to its element, the elements are listed, and each block starts where it says; no row is live
pub record AreBlocks (link nv : List ℤ) (starts : List ℕ) (end : ℕ) (home : ℕ → Home) (elements : List ℕ) : Type 0 where
  pub led : LinksAre (length nv) link nv home
  pub listed : AreElements (length nv) home elements nv
  pub begun : AreStarts (length nv) elements nv starts end
  pub over : (v : ℕ) → live_at (home v) ≡ false
