-- The groups in which classes alike are looked for.
use Rattle.std.specs.Prelude.{ℕ, true, false, Option, None, Some, List, [], ◌∷◌, ◌++◌, Vec, ◌≡◌, ◌<◌, ◌+◌, ◌%◌, ◌^◌, ◌==◌}
use Rattle.std.specs.Prelude.{◌⊎◌, cond, length}
use Rattle.std.specs.Prelude.{sum_by}
use Rattle.amd_model.specs.Quotient.{has, Once}
use Rattle.amd_plain.specs.Views.{list_at, Below, ListsBelow, Clear}
use Rattle.amd_plain.specs.Rounds.{plain_alike}
use Rattle.amd_plain.specs.declared.work.Scratch.{Scratch}

-- the sum of a list, modulo 2^64
abbrev pub wrapped_sum : List ℕ → ℕ
wrapped_sum xs = sum_by (λ j. j) xs % 2 ^ 64

-- the group of a class, one of as many as there are rows
abbrev pub group_in : {A : Type 0} → List (Vec ℕ A) → List (Vec ℕ A) → ℕ → ℕ
group_in elements variables i = ((wrapped_sum (list_at elements i) + wrapped_sum (list_at variables i)) % 2 ^ 64) %
    length elements

-- what a search in a list finds: None if no class there is alike to i, else one that is
abbrev pub FoundIn : {A : Type 0} → List (Vec ℕ A) → List (Vec ℕ A) → ℕ → List ℕ → Option ℕ → Type 0
FoundIn elements variables i group None = (r : ℕ) → has group r ≡ true → plain_alike elements variables i r ≡ false
FoundIn elements variables i group (Some r) = (has group r ≡ true) × (plain_alike elements variables i r ≡ true)

-- the lists of the class i and of those in a group name rows alone, and each of them once
pub record AreComparable {A : Type 0} (es vs : List (Vec ℕ A)) (i : ℕ) (group : List ℕ) : Type 0 where
  pub row : i < length es
  pub elements : ListsBelow (length es) es
  pub variables : ListsBelow (length es) vs
  pub range : Below (length es) group
  pub once : Once (list_at es i) × Once (list_at vs i)
  pub group_once : (r : ℕ) → has group r ≡ true → Once (list_at es r) × Once (list_at vs r)

-- each group names classes of the list alone, each in its group
abbrev pub AreGrouped : {A : Type 0} → List (Vec ℕ A) → List (Vec ℕ A) → List ℕ → (ℕ → List ℕ) → Type 0
AreGrouped elements variables rest groups = (b r : ℕ) → has (groups b) r ≡ true → (has rest r ≡ true) ×
    (group_in elements variables r ≡ b)

-- the marks are clear, the groups name rows alone, and there is room for each row
pub record IsClearScratch {A : Type 0} (n : ℕ) (s : Scratch A) : Type 0 where
  pub rows : (length s.rows.items ≡ n) × Clear s.rows.items
  pub elements : (length s.elements.items ≡ n) × Clear s.elements.items
  pub groups : ListsBelow n s.groups.items
  pub beyond : length s.beyond.items ≡ n
  pub into : length s.into.items ≡ n

-- the class i was looked for in its group: one alike represents it, or, if there is none, it represents itself and is
-- in the group
abbrev pub Looked : {A : Type 0} → List (Vec ℕ A) → List (Vec ℕ A) → ℕ → (ℕ → List ℕ) → (ℕ → List ℕ) → ℕ → Type 0
Looked elements variables i before after r =
    ((has (before (group_in elements variables i)) r ≡ true) × (plain_alike elements variables i r ≡ true) ×
    ((b : ℕ) → after b ≡ before b))
    ⊎ (((x : ℕ) → has (before (group_in elements variables i)) x ≡ true → plain_alike elements variables i x ≡ false) ×
    (r ≡ i)
    × ((b : ℕ) → after b ≡ cond (b == group_in elements variables i) (before b ++ i ∷ []) (before b)))
