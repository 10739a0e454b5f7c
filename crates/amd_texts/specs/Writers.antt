-- What a writer that tells its bytes took.
use Rattle.std.specs.Prelude.{ℕ, List, Option}
use Rattle.std.specs.Io.KnownBytes.{Appends}

-- it took some text
abbrev pub HasTold : Option (List ℕ) → Option (List ℕ) → Type 0
HasTold old new = (text : List ℕ) × Appends old new text
