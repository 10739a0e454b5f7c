-- Bytes that are written one after another.
use Rattle.std.proofs.Common.{◌++◌, ℕ, List, append_assoc, ◌∙◌, ap}
use Rattle.std.specs.Prelude.{Option, Some, None}
use Rattle.std.specs.Io.KnownBytes.{Appends}

-- a writer that took xs and then ys took both
pub Appends-then : (a b c : Option (List ℕ)) (xs ys : List ℕ) → Appends a b xs → Appends b c ys → Appends a c (xs ++ ys)
Appends-then None b c xs ys h k = tt
Appends-then (Some a) None c xs ys h k = absurd h
Appends-then (Some a) (Some b) None xs ys h k = absurd k
Appends-then (Some a) (Some b) (Some c) xs ys h k = k ∙ ap (λ z. z ++ ys) h ∙ append_assoc a xs ys
