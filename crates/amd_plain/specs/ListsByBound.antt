-- The classes by bound. A list for a bound names each class of that bound, and others that are passed over.
use Rattle.std.specs.Prelude.{ℕ, Option, None, Some, List, [], ◌∷◌, ◌++◌, ◌≡◌, ◌≤◌, ◌<◌, ◌==◌, ◌&&◌, ◌⊎◌, cond, Vec}
use Rattle.std.specs.Prelude.{filter, nat_lt}
use Rattle.amd_model.specs.Quotient.{has}
use Rattle.amd_plain.specs.Views.{num, list_at}

-- the classes of the bound b in a list
abbrev pub live_in : List ℕ → List ℕ → ℕ → List ℕ → List ℕ
live_in size bound b xs = filter (λ x. nat_lt 0 (num size x) && num bound x == b) xs

-- each number of a list at its last place alone
unfoldable pub last_places : List ℕ → List ℕ
last_places [] = []
last_places (x ∷ xs) = cond (has xs x) (last_places xs) (x ∷ last_places xs)

-- the last class of the bound b was taken from the end of a list, with all that stood behind it; if it has none,
-- everything was
abbrev pub Popped : List ℕ → List ℕ → ℕ → List ℕ → List ℕ → Option ℕ → Type 0
Popped size bound b old new None = (new ≡ []) × (live_in size bound b old ≡ [])
Popped size bound b old new (Some i) = (tail : List ℕ) × (old ≡ new ++ (i ∷ tail)) ×
    (live_in size bound b (i ∷ []) ≡ i ∷ [])
    × (live_in size bound b tail ≡ [])

-- the last class of the bound least was taken out of its list: c; the lists looked through before held no class of
-- their bound and are empty now; the others stay
pub record Chosen {A : Type 0} (size bound : List ℕ) (old new : List (Vec ℕ A)) (before least c : ℕ) : Type 0 where
  pub rise : before ≤ least
  pub lower : (b : ℕ) → before ≤ b → b < least → (list_at new b ≡ []) × (live_in size bound b (list_at old b) ≡ [])
  pub popped : Popped size bound least (list_at old least) (list_at new least) (Some c)
  pub others : (b : ℕ) → (b < before) ⊎ (least < b) → list_at new b ≡ list_at old b
