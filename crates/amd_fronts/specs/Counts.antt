-- The rows of elements outside a front, counted in one list of numbers with a flag: 0 stands for what is no standing
-- element, and before a count each number is below the flag.
use Rattle.std.specs.Prelude.{ℕ, Bool, true, ◌≡◌, ◌<◌, ◌≤◌, ◌+◌, ◌-◌, ◌==◌, ◌&&◌, nat_le, cond, length}
use Rattle.amd_model.specs.Quotient.{Once}
use Rattle.amd_words.specs.Words.{is_place, place, word, start, size_of, in_front, Names}
use Rattle.amd_lists.specs.Layout.{elements_in}
use Rattle.amd_lists.specs.Workspaces.{Workspace}

-- the counter of an element when a class of `more` rows is met that it holds: `all` is the number of rows of its border
abbrev pub touched : ℕ → ℕ → ℕ → ℕ → ℕ
touched flag all more x = cond (nat_le flag x) (x - more) (cond (x == 0) 0 (all + flag - more))

-- the counter of an element that was x, when `seen` of its rows were met
abbrev pub counter : ℕ → ℕ → ℕ → ℕ → ℕ
counter flag x all seen = cond (x == 0) 0 (cond (seen == 0) x (flag + all - seen))

-- with `aggressive` an element ends whose counter has come down to the flag: none of its rows is outside the front
abbrev pub ends : Bool → ℕ → ℕ → Bool
ends aggressive flag x = aggressive && x == flag

-- the counter that is left of it: 0 for one that ended
abbrev pub settled : Bool → ℕ → ℕ → ℕ
settled aggressive flag x = cond (ends aggressive flag x) 0 x

-- a class of the front, and the part of its list that names elements
pub record IsListed (p : Workspace) (i : ℕ) : Type 0 where
  pub starts : is_place (word p.pe i) ≡ true
  pub counts : is_place (word p.e_len i) ≡ true
  pub within : start p.pe i + place (word p.e_len i) ≤ length p.iw
  pub names : Names (length p.w) p.iw (start p.pe i) (place (word p.e_len i))
  pub once : Once (elements_in p.iw p.pe p.e_len i)
  pub class : 0 < size_of p.nv i
  pub inside : in_front p.nv i ≡ true
