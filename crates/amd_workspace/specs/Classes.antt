-- The classes at the start of an elimination, which stand in the lists by bound.
use Rattle.std.specs.Prelude.{ℕ, Bool, Option, List, length, reverse}
use Rattle.amd_lists.specs.Chains.{DegreeLists}
use Rattle.amd_workspace.specs.Starting.{held_in, begins_class, classes_of}

-- a row is a class at the start
abbrev pub class_in : Option (List Bool) → ℕ → List ℕ → ℕ → Bool
class_in marks threshold len i = begins_class (held_in marks threshold len) len i

-- for each bound its classes are linked, falling
abbrev pub HasClasses : Option (List Bool) → ℕ → List ℕ → List ℕ → List ℕ → List ℕ → List ℕ → Type 0
HasClasses marks threshold len head next last degree = DegreeLists (length len) head next last degree
    (λ b. reverse (classes_of (held_in marks threshold len) len (length len) b))
