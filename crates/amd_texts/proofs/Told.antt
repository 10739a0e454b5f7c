-- Texts that a writer took one after another.
use Rattle.std.proofs.Common.{◌++◌, ℕ, List, []}
use Rattle.std.specs.Prelude.{Option}
use Rattle.std.specs.Io.KnownBytes.{Appends}
use Rattle.std.proofs.KnownBytes.{Appends-nil, Appends-trans}
use Rattle.amd_texts.specs.Writers.{HasTold}

-- a text
pub told : (a b : Option (List ℕ)) (text : List ℕ) → Appends a b text → HasTold a b
told a b text h = (text, h)

-- nothing
pub told-none : (a : Option (List ℕ)) → HasTold a a
told-none a = ([], Appends-nil a)

-- and then more
pub told-then : (a b c : Option (List ℕ)) → HasTold a b → HasTold b c → HasTold a c
told-then a b c first next = (first.0 ++ next.0, Appends-trans a b c first.0 next.0 first.1 next.1)

-- and then one text
pub told-more : (a b c : Option (List ℕ)) (text : List ℕ) → HasTold a b → Appends b c text → HasTold a c
told-more a b c text first next = told-then a b c first (text, next)
