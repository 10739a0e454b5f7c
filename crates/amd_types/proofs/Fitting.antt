-- A count below a number that a type has is one that the type has.
use Rattle.std.proofs.Common.{ℕ, ℤ, pos, arith}
use Rattle.std.specs.Prelude.{◌<ℤ◌, ◌≤ℤ◌}
use Rattle.std.proofs.lemmas.Int.{ints}

pub fits_below : (fits : ℤ → Type 0) → fits (pos 0) → ((x y z : ℤ) → fits x → fits z → x ≤ℤ y → y ≤ℤ z → fits y) → (k : ℕ) (z : ℤ) →
    fits z → pos k <ℤ z → fits (pos k)
fits_below fits zero between k z top below =
    between (pos 0) (pos k) z zero top (omega (arith, ints)) (omega (arith, ints, below))
