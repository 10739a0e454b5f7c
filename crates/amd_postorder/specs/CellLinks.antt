-- Links that are figures, which have no sign: the greatest figure names no place.
use Rattle.std.specs.Prelude.{ℕ, ℤ, pos, negsuc, cond, nat_lt, List, map}

-- what a figure says, where the greatest one is `most`
abbrev pub figure_link : ℕ → ℕ → ℤ
figure_link most k = cond (nat_lt k most) (pos k) (negsuc 0)

-- what a list of figures says
abbrev pub figure_links : ℕ → List ℕ → List ℤ
figure_links most figures = map (figure_link most) figures
