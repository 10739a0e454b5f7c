-- The lists of the classes and of the standing elements, each in its own place in one workspace.
use Rattle.std.specs.Prelude.{ℕ, ℤ, Bool, true, false, List, ◌∷◌, ◌≡◌, ◌<◌, ◌≤◌, ◌+◌, ◌-◌, ◌&&◌, ◌⊎◌, nat_lt}
use Rattle.std.specs.Prelude.{cond, length}
use Rattle.std.specs.Prelude.{filter, sum_by}
use Rattle.amd_model.specs.Below.{sum_below}
use Rattle.amd_model.specs.Figures.{cut}
use Rattle.amd_model.specs.Quotient.{has, turned}
use Rattle.amd_words.specs.Words.{num, is_place, place, word, start, size_of, rows, Names}
use Rattle.amd_lists.specs.Renewal.{Renews}
use Rattle.amd_lists.specs.Spans.{RowList, row_list, elements_at, variables_at}
use Rattle.amd_lists.specs.Workspaces.{Workspace}

-- the row j has a list of at least one word
unfoldable pub has_list : List ℤ → List ℕ → ℕ → Bool
has_list pe len j = is_place (word pe j) && nat_lt 0 (num len j)

-- where the list of a row ends
abbrev pub end_of : List ℤ → List ℕ → ℕ → ℕ
end_of pe len j = start pe j + num len j

-- what the list of a row names: elements first, then variables
abbrev pub elements_in : List ℤ → List ℤ → List ℤ → ℕ → List ℕ
elements_in iw pe e_len j = rows iw (start pe j) (place (word e_len j))

abbrev pub variables_in : List ℤ → List ℤ → List ℤ → List ℕ → ℕ → List ℕ
variables_in iw pe e_len len j = rows iw (start pe j + place (word e_len j)) (num len j - place (word e_len j))

abbrev pub list_in : List ℤ → List ℤ → List ℕ → ℕ → List ℕ
list_in iw pe len j = rows iw (start pe j) (num len j)

-- how many rows of the element e are in the classes of a front
abbrev pub rows_met : List ℤ → List ℤ → List ℤ → List ℤ → List ℕ → ℕ → ℕ
rows_met iw pe e_len nv front e = sum_by (λ i. cond (has (elements_in iw pe e_len i) e) (size_of nv i) 0) front

-- lists end before the free end, no two share a word, the words for elements are among those of the list, and each word
-- before the free end names a row below n
pub record Layout (n : ℕ) (iw pe e_len : List ℤ) (len : List ℕ) (free : ℕ) : Type 0 where
  pub within : (j : ℕ) → has_list pe len j ≡ true → end_of pe len j ≤ free
  pub apart : (i j : ℕ) → has_list pe len i ≡ true → has_list pe len j ≡ true → (i ≡ j → ⊥) →
      (end_of pe len i ≤ start pe j) ⊎ (end_of pe len j ≤ start pe i)
  pub parts : (j : ℕ) → has_list pe len j ≡ true → place (word e_len j) ≤ num len j
  pub words : (k : ℕ) → k < free → (is_place (word iw k) ≡ true) × (place (word iw k) < n)

-- how many words the lists have together
abbrev pub live_words : ℕ → List ℤ → List ℕ → ℕ
live_words n pe len = sum_below n (λ j. cond (has_list pe len j) (num len j) 0)

-- the list of a row reads the same, word for word
abbrev pub ReadsSame : List ℤ → List ℤ → List ℤ → List ℕ → List ℤ → List ℤ → List ℤ → List ℕ → ℕ → Type 0
ReadsSame iw pe e_len len iw' pe' e_len' len' j = (word e_len' j ≡ word e_len j) × (num len' j ≡ num len j) ×
    ((k : ℕ) → k < num len j →
    word iw' (start pe' j + k) ≡ word iw (start pe j + k))

-- a class and its list, elements first
pub record IsPlaced (n : ℕ) (iw pe e_len : List ℤ) (len : List ℕ) (i : ℕ) : Type 0 where
  pub row : i < n
  pub starts : is_place (word pe i) ≡ true
  pub counts : is_place (word e_len i) ≡ true
  pub parts : place (word e_len i) ≤ num len i
  pub within : end_of pe len i ≤ length iw
  pub names : Names n iw (start pe i) (num len i)

-- what a class keeps is less than its list
abbrev pub LosesOne : (ℕ → Bool) → (ℕ → Bool) → List ℤ → List ℤ → List ℤ → List ℕ → ℕ → Type 0
LosesOne kept is_apart iw pe e_len len i = length (filter kept (elements_in iw pe e_len i))
    + length (filter is_apart (variables_in iw pe e_len len i)) < num len i

-- how many rows a class reaches by what it keeps, cut
abbrev pub reached : (ℕ → ℕ) → (ℕ → ℕ) → (ℕ → Bool) → (ℕ → Bool) → List ℤ → List ℤ → List ℤ → List ℕ → ℕ → ℕ
reached beyond share kept is_apart iw pe e_len len i = cut (sum_by beyond (filter kept (elements_in iw pe e_len i))
    + sum_by share (filter is_apart (variables_in iw pe e_len len i)))

-- a class whose list can be renewed
abbrev pub IsRenewable : (ℕ → Bool) → (ℕ → Bool) → List ℤ → List ℤ → List ℤ → List ℕ → ℕ → Type 0
IsRenewable kept is_apart iw pe e_len len i = (has_list pe len i ≡ true) × (is_place (word e_len i) ≡ true)
    × LosesOne kept is_apart iw pe e_len len i

-- the list of the row i, which starts as it does in p
abbrev pub list_of : Workspace → Workspace → ℕ → RowList
list_of p v i = row_list v.iw (start p.pe i) (place (word v.e_len i)) (num v.len i)

-- the list of the class i was renewed in its place, and no other one
pub record RenewsOne (n me : ℕ) (kept is_apart : ℕ → Bool) (i : ℕ) (p v : Workspace) : Type 0 where
  pub list : Renews n me kept is_apart (list_of p p i) (list_of p v i)
  pub count : is_place (word v.e_len i) ≡ true
  pub e_long : length v.e_len ≡ length p.e_len
  pub l_long : length v.len ≡ length p.len
  pub counts : (j : ℕ) → (j ≡ i → ⊥) → word v.e_len j ≡ word p.e_len j
  pub lengths : (j : ℕ) → (j ≡ i → ⊥) → num v.len j ≡ num p.len j

-- the lists of the classes of a front were renewed, each where it started, and all others read as before
pub record RenewsAll (n me : ℕ) (kept is_apart : ℕ → Bool) (front : List ℕ) (p v : Workspace) : Type 0 where
  pub long : length v.iw ≡ length p.iw
  pub e_long : length v.e_len ≡ length p.e_len
  pub l_long : length v.len ≡ length p.len
  pub known : (i : ℕ) → has front i ≡ true → has_list p.pe p.len i ≡ true
  pub elements : (i : ℕ) → has front i ≡ true → elements_at (list_of p v i) ≡ me ∷ turned (filter kept (elements_at (list_of p p i)))
  pub variables : (i : ℕ) → has front i ≡ true → variables_at (list_of p v i) ≡ turned (filter is_apart (variables_at (list_of p p i)))
  pub count : (i : ℕ) → has front i ≡ true → is_place (word v.e_len i) ≡ true
  pub counts : (j : ℕ) → has front j ≡ false → word v.e_len j ≡ word p.e_len j
  pub lengths : (j : ℕ) → has front j ≡ false → num v.len j ≡ num p.len j
  pub same : (j : ℕ) → has front j ≡ false → has_list p.pe p.len j ≡ true →
      ReadsSame p.iw p.pe p.e_len p.len v.iw p.pe v.e_len v.len j
  pub listed : (j : ℕ) → has_list p.pe v.len j ≡ has_list p.pe p.len j
  pub shorter : (j : ℕ) → num v.len j ≤ num p.len j
  pub fewer : live_words n p.pe v.len ≤ live_words n p.pe p.len
  pub behind : (k : ℕ) → p.free ≤ k → word v.iw k ≡ word p.iw k
  pub laid : Layout n v.iw p.pe v.e_len v.len p.free
