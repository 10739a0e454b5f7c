-- The list of a new element, which names the classes of its front.
use Rattle.std.specs.Prelude.{ℕ, true, false, ◌≡◌, ◌≤◌}
use Rattle.amd_model.specs.Quotient.{has, Once}
use Rattle.amd_words.specs.Words.{is_place, word}
use Rattle.amd_lists.specs.Layout.{end_of}
use Rattle.amd_lists.specs.Workspaces.{Workspace}
use Rattle.amd_fronts.specs.Tallies.{front_at}
use Rattle.amd_fronts.specs.Turning.{IsTurning}

-- the list of the element me stands before the free end and names each row once, and not me
pub record IsFrontList (me : ℕ) (p : Workspace) : Type 0 where
  pub starts : is_place (word p.pe me) ≡ true
  pub within : end_of p.pe p.len me ≤ p.free
  pub apart : has (front_at p me) me ≡ false
  pub once : Once (front_at p me)

-- each class of the front of me can be renewed
abbrev pub AreTurning : ℕ → ℕ → Workspace → Type 0
AreTurning n me p = (i : ℕ) → has (front_at p me) i ≡ true → IsTurning n me p i
