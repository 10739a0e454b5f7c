-- A new element that is built behind the lists of a workspace.
use Rattle.std.specs.Prelude.{ℕ, ℤ, true, List, ◌++◌, ◌≡◌, ◌<◌, ◌≤◌, ◌+◌, ◌-◌, ◌^◌, ◌||◌, ◌==◌, length, fold, flat_map}
use Rattle.std.specs.Prelude.{sum_by}
use Rattle.amd_model.specs.Quotient.{has, add_new}
use Rattle.amd_words.specs.Words.{is_place, word, start, size_of, in_front, classes, rows, Names, num}
use Rattle.amd_lists.specs.Layout.{list_in}
use Rattle.amd_round_laws.specs.Rounds.{firsts}

-- the list that stands from start to free, and behind it the classes of xs that are not in the front, each at its first
-- occurrence
abbrev pub grown : List ℤ → List ℤ → ℕ → ℕ → List ℕ → List ℕ
grown iw nv start free xs = fold (add_new (in_front nv)) (rows iw start (free - start)) xs

-- the classes xs were gone through: those that were not in the front are now, and stand behind the list that begins at
-- start
pub record Gathers (iw nv : List ℤ) (start free : ℕ) (xs : List ℕ) (iw' nv' : List ℤ) (free' total : ℕ) : Type 0 where
  pub long : length iw' ≡ length iw
  pub wide : length nv' ≡ length nv
  pub order : start ≤ free
  pub grows : free ≤ free'
  pub list : rows iw' start (free' - start) ≡ grown iw nv start free xs
  pub names : Names (length nv) iw' start (free' - start)
  pub below : (k : ℕ) → k < free → word iw' k ≡ word iw k
  pub above : (k : ℕ) → free' ≤ k → word iw' k ≡ word iw k
  pub sizes : (j : ℕ) → size_of nv' j ≡ size_of nv j
  pub front : (j : ℕ) → in_front nv' j ≡ (in_front nv j || has xs j)
  pub known : (j : ℕ) → has (rows iw start (free - start)) j ≡ true → in_front nv j ≡ true
  pub total_is : total ≡ sum_by (size_of nv) (rows iw' start (free' - start))

-- the list that begins at free is gathered so far, with so many rows; there is room for what all rows come to, and for
-- their number
pub record IsGathering (free : ℕ) (all taken : List ℕ) (iw nv iw' nv' : List ℤ) (free' total : ℕ) : Type 0 where
  pub gathers : Gathers iw nv free free (classes nv taken) iw' nv' free' total
  pub fits : free + length (grown iw nv free free (classes nv all)) ≤ length iw
  pub few : sum_by (size_of nv) (grown iw nv free free (classes nv all)) < 2 ^ 63

-- the elements and the variables of a row whose list stands in the workspace, elements first
abbrev pub elements_at : List ℤ → List ℤ → ℕ → ℕ → List ℕ
elements_at iw pe i n_elements = rows iw (start pe i) n_elements

abbrev pub variables_at : List ℤ → List ℤ → List ℕ → ℕ → ℕ → List ℕ
variables_at iw pe len i n_elements = rows iw (start pe i + n_elements) (num len i - n_elements)

-- the list of the new element of a pivot
abbrev pub front_of : List ℤ → List ℤ → List ℤ → List ℕ → ℕ → ℕ → List ℕ
front_of iw nv pe len pivot n_elements = firsts (λ x. x == pivot)
    (flat_map (λ e. classes nv (list_in iw pe len e)) (elements_at iw pe pivot n_elements)
    ++ classes nv (variables_at iw pe len pivot n_elements))

-- the list of a row lies before free, and its words name rows below n
abbrev pub IsListLaid : List ℤ → List ℤ → List ℕ → ℕ → ℕ → ℕ → Type 0
IsListLaid iw pe len n free i = (is_place (word pe i) ≡ true) × (start pe i + num len i ≤ free) ×
    Names n iw (start pe i) (num len i)

-- so do the list of the pivot and those of its elements
abbrev pub ListsLaid : List ℤ → List ℤ → List ℕ → ℕ → ℕ → ℕ → ℕ → Type 0
ListsLaid iw pe len n free pivot n_elements = IsListLaid iw pe len n free pivot × ((e : ℕ) →
    has (elements_at iw pe pivot n_elements) e ≡ true → IsListLaid iw pe len n free e)

-- the list of the new element stands behind the others, which stay; it and the pivot alone are in the front
pub record Builds (pivot : ℕ) (front : List ℕ) (iw nv : List ℤ) (free : ℕ) (iw' nv' : List ℤ) (free' total : ℕ) : Type 0
  where
    pub long : length iw' ≡ length iw
    pub wide : length nv' ≡ length nv
    pub grows : free ≤ free'
    pub list : rows iw' free (free' - free) ≡ front
    pub names : Names (length nv) iw' free (free' - free)
    pub below : (k : ℕ) → k < free → word iw' k ≡ word iw k
    pub above : (k : ℕ) → free' ≤ k → word iw' k ≡ word iw k
    pub sizes : (j : ℕ) → size_of nv' j ≡ size_of nv j
    pub front_is : (j : ℕ) → in_front nv' j ≡ (j == pivot || has front j)
    pub total_is : total ≡ sum_by (size_of nv) front
