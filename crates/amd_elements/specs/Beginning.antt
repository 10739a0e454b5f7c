-- The beginning of an element: what the workspace holds, over what it held before its lists moved.
use Rattle.std.specs.Prelude.{ℕ, true, false, List, ◌≡◌, ◌≤◌, ◌==◌, cond, length}
use Rattle.amd_model.specs.Quotient.{has}
use Rattle.amd_words.specs.Words.{num, is_place, word, start, size_of, in_front, flip_of, Names}
use Rattle.amd_lists.specs.Layout.{has_list, end_of, list_in, Layout, live_words, ReadsSame}
use Rattle.amd_lists.specs.Workspaces.{Workspace}

-- from the workspace p to v, the pivot me became an element with `total` rows whose list names the front, which is
-- marked; it absorbed others, and has no rows itself. All other lists read as before
pub record Begins (n me : ℕ) (absorbed front : List ℕ) (total : ℕ) (p v : Workspace) : Type 0 where
  pub long : length v.iw ≡ length p.iw
  pub wide : length v.nv ≡ length p.nv
  pub p_long : length v.pe ≡ length p.pe
  pub e_long : length v.e_len ≡ length p.e_len
  pub l_long : length v.len ≡ length p.len
  pub starts : is_place (word v.pe me) ≡ true
  pub list : list_in v.iw v.pe v.len me ≡ front
  pub names : Names n v.iw (start v.pe me) (num v.len me)
  pub inside : end_of v.pe v.len me ≤ v.free
  pub rows_is : word v.e_len me ≡ flip_of total
  pub sizes : (j : ℕ) → size_of v.nv j ≡ cond (j == me) 0 (size_of p.nv j)
  pub marks : (j : ℕ) → in_front v.nv j ≡ has front j
  pub parents : (e : ℕ) → has absorbed e ≡ true → word v.pe e ≡ flip_of me
  pub ended : (e : ℕ) → has absorbed e ≡ true → has_list v.pe v.len e ≡ false
  pub counts : (j : ℕ) → (j ≡ me → ⊥) → word v.e_len j ≡ word p.e_len j
  pub lengths : (j : ℕ) → (j ≡ me → ⊥) → num v.len j ≡ num p.len j
  pub listed : (j : ℕ) → has absorbed j ≡ false → (j ≡ me → ⊥) → has_list v.pe v.len j ≡ has_list p.pe p.len j
  pub others : (j : ℕ) → has absorbed j ≡ false → (j ≡ me → ⊥) → has_list p.pe p.len j ≡ false → word v.pe j ≡ word p.pe j
  pub same : (j : ℕ) → has absorbed j ≡ false → (j ≡ me → ⊥) → has_list p.pe p.len j ≡ true →
      ReadsSame p.iw p.pe p.e_len p.len v.iw v.pe v.e_len v.len j
  pub fewer : live_words n v.pe v.len ≤ live_words n p.pe p.len
  pub laid : Layout n v.iw v.pe v.e_len v.len v.free
