-- Decimal numbers with up to three places behind the point.
use Rattle.std.specs.Prelude.{◌≡◌, ◌⊎◌, ◌<◌, ◌++◌, ◌∷◌, ◌*ℤ◌, ◌+ℤ◌, ◌-ℤ◌, ℕ, ℤ, zero, suc, Bool, true, false, List, [], length, pos}
use Rattle.std.specs.Str.Parse.{signed_digits_value, starts_with_minus}

-- what stands before the first point, and behind it; all of it and nothing where there is no point
abbrev pub AreParts : List ℕ → List ℕ → List ℕ → Type 0
AreParts text whole places = (text ≡ whole ++ 46 ∷ places) ⊎ ((text ≡ whole) × (places ≡ []))

-- the thousandths that the last of so many digits behind the point stands for
abbrev pub unit_of : ℕ → ℕ
unit_of zero = 1000
unit_of (suc zero) = 100
unit_of (suc (suc zero)) = 10
unit_of (suc (suc (suc n))) = 1

-- the places count away from 0
abbrev pub JoinsParts : Bool → ℤ → ℤ → ℤ → Type 0
JoinsParts true size rest v = v ≡ size -ℤ rest
JoinsParts false size rest v = v ≡ size +ℤ rest

-- the thousandths are those of the number: of what stands before the point, and of up to three digits behind it
pub record SpellsThousandths (text : List ℕ) (v : ℤ) : Type 0 where
  pub whole : List ℕ
  pub places : List ℕ
  pub parts : AreParts text whole places
  pub few : length places < 4
  pub size : ℤ
  pub size_is : size ≡ signed_digits_value 10 whole *ℤ pos 1000
  pub rest : ℤ
  pub rest_is : rest ≡ signed_digits_value 10 places *ℤ pos (unit_of (length places))
  pub joins : JoinsParts (starts_with_minus text) size rest v
