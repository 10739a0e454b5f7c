-- What the parts of a round do to the lists of the plain engine, which are vectors: what they do to lists as functions
-- stands in the crate amd_round_laws.
use Rattle.std.specs.Prelude.{ℕ, Bool, false, Option, List, Vec, ◌≡◌}
use Rattle.amd_model.specs.Quotient.{has}
use Rattle.amd_round_laws.specs.Rounds as views
use Rattle.amd_round_laws.specs.Views.{RowCounts}
pub use Rattle.amd_round_laws.specs.Rounds.{firsts, less}
use Rattle.amd_plain.specs.Views.{num, some_at, list_at, lists_of}
use Rattle.amd_plain.specs.declared.work.PlainLists.{PlainLists}

-- the class i keeps neither an element nor a variable
abbrev pub plain_mass : {A : Type 0} → List (Vec ℕ A) → List (Vec ℕ A) → ℕ → Bool
plain_mass elements variables i = views.keeps_nothing (list_at elements) (list_at variables) i

-- two classes keep the same elements and the same variables
abbrev pub plain_alike : {A : Type 0} → List (Vec ℕ A) → List (Vec ℕ A) → ℕ → ℕ → Bool
plain_alike elements variables i j = views.alike_in (list_at elements) (list_at variables) i j

-- the number of rows of the border of e (block and border less the block), less that of each class of a front that
-- lists it
abbrev pub plain_rows_left : {A : Type 0} → List ℕ → List ℕ → List ℕ → List (Vec ℕ A) → List ℕ → ℕ → ℕ
plain_rows_left block whole size elements front e = views.rows_left (num block) (num whole) (num size) (list_at elements)
    front e

-- the number of rows of each class, of the block of each element, and of its block and border
pub record PlainCounts : Type 0 where
  pub size : List ℕ
  pub block : List ℕ
  pub whole : List ℕ

abbrev pub plain_counts : List ℕ → List ℕ → List ℕ → PlainCounts
plain_counts size block whole = record { size = size; block = block; whole = whole }

abbrev pub counts_of : PlainCounts → RowCounts
counts_of counts = record { size = num counts.size; block = num counts.block; whole = num counts.whole }

-- the lists after the new element of the pivot c has absorbed others, where rows are counted so: those of the classes of
-- its front; the others stay
pub record PlainAbsorbed {A : Type 0} (aggressive : Bool) (c : ℕ) (front : List ℕ) (counts : PlainCounts)
    (old new : PlainLists A) (before after : List (Option ℕ)) (beyond : List ℕ) : Type 0 where
  pub classes : views.Absorbed aggressive c front (counts_of counts) (lists_of old) (lists_of new) (some_at before)
      (some_at after) (num beyond)
  pub elements : (i : ℕ) → has front i ≡ false → list_at new.elements.items i ≡ list_at old.elements.items i
  pub variables : (i : ℕ) → has front i ≡ false → list_at new.variables.items i ≡ list_at old.variables.items i
  pub members : new.members ≡ old.members

-- the lesser of the old bound and the number of rows that the lists reach, plus the other border rows; at most the
-- other live rows
abbrev pub plain_bound : {A : Type 0} → ℕ → ℕ → PlainLists A → List ℕ → List ℕ → List ℕ → ℕ → ℕ
plain_bound border live lists beyond size bound i =
    views.bound_by_lists border live (lists_of lists) (num beyond) (num size) (num bound) i
