-- A pivot, the list of its new element, and the elements that it lists.
use Rattle.std.specs.Prelude.{ℕ, ℤ, true, false, List, ◌≡◌, ◌≤◌}
use Rattle.amd_model.specs.Quotient.{has, Once}
use Rattle.amd_words.specs.Words.{place, word, start}
use Rattle.amd_elements.specs.Element.{front_of}
use Rattle.amd_lists.specs.Layout.{has_list, end_of, elements_in}
use Rattle.amd_lists.specs.Workspaces.{Workspace}

-- the list of the new element of the pivot me, which lists no element
abbrev pub own_front : Workspace → ℕ → List ℕ
own_front p me = front_of p.iw p.nv p.pe p.len me 0

-- and that of one that lists as many elements as its word says
abbrev pub built_front : Workspace → ℕ → List ℕ
built_front p me = front_of p.iw p.nv p.pe p.len me (place (word p.e_len me))

-- each element that the pivot me lists has a list; it lists none twice, and not itself
pub record HasElements (me : ℕ) (p : Workspace) : Type 0 where
  pub listed : (e : ℕ) → has (elements_in p.iw p.pe p.e_len me) e ≡ true → has_list p.pe p.len e ≡ true
  pub apart : has (elements_in p.iw p.pe p.e_len me) me ≡ false
  pub once : Once (elements_in p.iw p.pe p.e_len me)

-- the list of me starts behind all others
abbrev pub IsBehind : List ℤ → List ℕ → ℕ → Type 0
IsBehind pe len me = (j : ℕ) → (j ≡ me → ⊥) → has_list pe len j ≡ true → end_of pe len j ≤ start pe me
