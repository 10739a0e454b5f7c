-- What the record of an elimination says at its start.
use Rattle.std.specs.Prelude.{ℕ, Bool, None, List, [], ◌≡◌, ◌<◌, ◌≤◌, ◌+◌, ◌&&◌, not, cond, max, nat_lt, nat_eq}
use Rattle.amd_model.specs.Below.{count_below}
use Rattle.amd_model.specs.Figures.{front_sum, entries, ldl_steps, lu_steps, cut}
use Rattle.amd_round_laws.specs.Views.{View}

-- the number of rows of the class of a row, and of its block, by its degree and whether it is held last
abbrev pub class_of : Bool → ℕ → ℕ
class_of last d = cond (nat_lt 0 d && not last) 1 0

abbrev pub starting_block : Bool → ℕ → ℕ
starting_block last d = cond (nat_eq d 0 && not last) 1 0

-- of n rows each one that is neither held last nor empty is a class by itself, with its neighbours and its degree, and
-- each other empty one an element by itself
pub record IsBegun (n : ℕ) (rows : ℕ → List ℕ) (degrees : ℕ → ℕ) (last : ℕ → Bool) (w : View) : Type 0 where
  pub rows_are : w.rows ≡ n
  pub size : (i : ℕ) → i < n → w.size i ≡ class_of (last i) (degrees i)
  pub no_row : (i : ℕ) → n ≤ i → (w.size i ≡ 0) × (w.block i ≡ 0)
  pub variables : (i : ℕ) → 0 < w.size i → w.lists.variables i ≡ rows i
  pub elements : (i : ℕ) → 0 < w.size i → w.lists.elements i ≡ []
  pub bound : (i : ℕ) → 0 < w.size i → w.bound i ≡ degrees i
  pub least : w.least ≡ 0
  pub live : w.live ≡ count_below n (λ i. nat_lt 0 (w.size i))
  pub link : (i : ℕ) → w.link i ≡ None
  pub parent : (e : ℕ) → w.parent e ≡ None
  pub block : (e : ℕ) → e < n → w.block e ≡ starting_block (last e) (degrees e)
  pub front : (e : ℕ) → 0 < w.block e → w.front e ≡ 1
  pub n_dense : w.n_dense ≡ count_below n last
  pub lnz : w.figures.lnz ≡ cut (0 + front_sum entries w.n_dense 0)
  pub ldl : w.figures.n_mult_subs_ldl ≡ cut (0 + front_sum ldl_steps w.n_dense 0)
  pub lu : w.figures.n_mult_subs_lu ≡ cut (0 + front_sum lu_steps w.n_dense 0)
  pub greatest : w.figures.d_max ≡ max 1 (w.n_dense + 0)
