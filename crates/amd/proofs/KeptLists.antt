-- Where nothing is ordered, both lists are as before.
use Rattle.std.proofs.Common.{List, ◌≡◌, refl}
use Rattle.std.specs.Prelude.{Result, Ok, Err, IfErr}
use Rattle.std.specs.Result.{IsErr}

pub stay : {X : Type 0} (p q : List X) → (p ≡ p) × (q ≡ q)
stay p q = (refl, refl)

-- at the exit of a `?` too
pub refused_stay : {T E X : Type 0} (r : Result T E) (p q : List X) → IsErr r → IfErr r (λ _. (p ≡ p) × (q ≡ q))
refused_stay (Ok a) p q is = tt
refused_stay (Err e) p q is = (refl, refl)
