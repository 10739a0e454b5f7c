-- Lines that count from 0, and the places of rows.
use Rattle.std.specs.Prelude.{ℕ, Bool, true, false, List, ◌≡◌, ◌++◌, codes, decimal, flat_map, length, map, pos}
use Rattle.amd_types.specs.Naturals.{naturals}
use Rattle.amd_factor.specs.Orders.{Permutes}
use Rattle.amd_factor.specs.Places.{ArePlaces}

-- a number in a line
abbrev pub number_line : ℕ → List ℕ
number_line k = decimal k ++ codes "\n"

abbrev pub number_lines : List ℕ → List ℕ
number_lines ks = flat_map number_line ks

-- the numbers are each number below n, once
abbrev pub AreEach : ℕ → List ℕ → Type 0
AreEach n numbers = Permutes n (map pos numbers) (naturals (map pos numbers))

-- the numbers are each number below n, once, and the rows at the places; or row k stands at the place that number k is
abbrev pub AreRowsListed : ℕ → Bool → List ℕ → List ℕ → Type 0
AreRowsListed n false numbers rows = AreEach n numbers × (rows ≡ numbers)
AreRowsListed n true numbers rows = AreEach n numbers × ArePlaces n (naturals (map pos numbers)) rows

-- each row of the order has its place
abbrev pub ArePlacesIn : List ℕ → List ℕ → Type 0
ArePlacesIn p places = ArePlaces (length p) (naturals (map pos p)) places
