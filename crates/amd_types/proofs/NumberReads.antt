-- Reading a list of a caller's numbers after a write.
use Rattle.std.proofs.Common.{◌≡◌, ◌≢◌, ◌<◌, ℕ, ℤ, List, map, pos, length, ◌∙◌, ap}
use Rattle.std.proofs.Math.ListN.{set}
use Rattle.std.proofs.lemmas.List.{length-map, map-set, get_or-set_same, get_or-set_other}
use Rattle.amd_model.specs.Input.Columns.{at}

pub at_set_same : {X : Type 0} (value : X → ℤ) (xs : List X) (k : ℕ) (x : X) → k < length xs → at (map value (set xs k x)) k ≡ value x
at_set_same value xs k x within = ap (λ ys. at ys k) (map-set value xs k x) ∙
    get_or-set_same (map value xs) k (value x) (pos 0) (simp length-map within)

pub at_set_other : {X : Type 0} (value : X → ℤ) (xs : List X) (k j : ℕ) (x : X) → j ≢ k →
    at (map value (set xs k x)) j ≡ at (map value xs) j
at_set_other value xs k j x apart = ap (λ ys. at ys j) (map-set value xs k x) ∙ get_or-set_other (map value xs) k j (value x) (pos 0) apart
