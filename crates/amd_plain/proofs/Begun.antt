-- What the start of the plain engine fills in.
use Rattle.std.proofs.Common.{ℕ, Bool, Option, None, List, [], Vec, ◌≡◌, ◌≤◌, ◌<◌, ◌+◌, ◌&&◌, max, inl, inr, arith, length, replicate}
use Rattle.std.specs.Prelude.{nat_lt, ◌==◌}
use Rattle.std.proofs.lemmas.Bool.{cases_lt}
use Rattle.std.proofs.lemmas.List.{length-replicate, get_or-replicate, get_or_past}
use Rattle.amd_model.specs.Below.{count_below, list_below}
use Rattle.amd_model.specs.Figures.{front_sum, entries, ldl_steps, lu_steps, cut}
use Rattle.amd_round_laws.specs.Starts.{class_of, starting_block}
use Rattle.amd_plain.specs.Views.{num, some_at, list_at, ListsBelow}
use Rattle.amd_plain.specs.Keeps.{IsIdle}
use Rattle.amd_plain.specs.declared.work.PlainWork.{PlainWork}

-- a number for each of n rows
pub record Rows (n : ℕ) (numbers : List ℕ) (f : ℕ → ℕ) : Type 0 where
  pub size : length numbers ≡ n
  pub each : (i : ℕ) → i < n → num numbers i ≡ f i

-- nothing n times over
abbrev pub nothing : ℕ → List (Option ℕ)
nothing n = replicate n None

-- what the start fills in
pub record Begun {A : Type 0} (rows : List (Vec ℕ A)) (degrees : List ℕ) (last : ℕ → Bool) (w : PlainWork A) : Type 0 where
  pub variables : w.lists.variables.items ≡ rows
  pub elements : (length w.lists.elements.items ≡ length degrees) × ((i : ℕ) → list_at w.lists.elements.items i ≡ [])
  pub members : (length w.lists.members.items ≡ length degrees) × ((i : ℕ) → list_at w.lists.members.items i ≡ [])
  pub size : Rows (length degrees) w.size.items (λ i. class_of (last i) (num degrees i))
  pub bound : w.bound.items ≡ degrees
  pub range : ListsBelow (length degrees) w.placed.items
  pub placed : (b : ℕ) → list_at w.placed.items b ≡ list_below (length degrees) (λ i. nat_lt 0 (num w.size.items i) && num degrees i == b)
  pub least : w.least ≡ 0
  pub live : w.live ≡ count_below (length w.size.items) (λ i. nat_lt 0 (num w.size.items i))
  pub link : w.link.items ≡ nothing (length degrees)
  pub parent : w.parent.items ≡ nothing (length degrees)
  pub block : Rows (length degrees) w.block.items (λ i. starting_block (last i) (num degrees i))
  pub front : Rows (length degrees) w.front.items (λ i. starting_block (last i) (num degrees i))
  pub n_dense : w.n_dense ≡ count_below (length degrees) last
  pub lnz : w.figures.lnz ≡ cut (0 + front_sum entries w.n_dense 0)
  pub ldl : w.figures.n_mult_subs_ldl ≡ cut (0 + front_sum ldl_steps w.n_dense 0)
  pub lu : w.figures.n_mult_subs_lu ≡ cut (0 + front_sum lu_steps w.n_dense 0)
  pub greatest : w.figures.d_max ≡ max 1 (w.n_dense + 0)
  pub idle : IsIdle (length degrees) w.scratch

-- what is nothing at each place
pub none_at : (n i : ℕ) → some_at (nothing n) i ≡ None
none_at n i = elim (cases_lt i n) [
  | inl l ↦ get_or-replicate n i None None l
  | inr l ↦ get_or_past (nothing n) i None (let e : length (nothing n) ≡ n = length-replicate n None in omega (arith, e, l))
]

-- no number past the last row
pub past : (n : ℕ) (numbers : List ℕ) (f : ℕ → ℕ) → Rows n numbers f → (i : ℕ) → n ≤ i → num numbers i ≡ 0
past n numbers f rows i l = get_or_past numbers i 0 (let e = rows.size in omega (arith, e, l))
