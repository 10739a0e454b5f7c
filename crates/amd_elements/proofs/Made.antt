-- A new element in place of a pivot and of the elements that it absorbs.
use Rattle.std.specs.Prelude.{ℕ, true, false, List, ◌≡◌, ◌≤◌, ◌⊎◌, length}
use Rattle.amd_model.specs.Quotient.{has}
use Rattle.amd_words.specs.Words.{num, is_place, word, flip_of}
use Rattle.amd_lists.specs.Layout.{has_list, end_of, elements_in, variables_in, list_in, Layout, live_words, ReadsSame}
use Rattle.amd_lists.specs.Workspaces.{Workspace}

-- from the workspace p to v, the list of me came to name the front, with its number of rows; the elements that it
-- absorbs have none, all others read as before, and no other one passes what was the free end
pub record Makes (n me : ℕ) (absorbed front : List ℕ) (rows : ℕ) (p v : Workspace) : Type 0 where
  pub p_long : length v.pe ≡ length p.pe
  pub e_long : length v.e_len ≡ length p.e_len
  pub l_long : length v.len ≡ length p.len
  pub starts : is_place (word v.pe me) ≡ true
  pub list : list_in v.iw v.pe v.len me ≡ front
  pub rows_is : word v.e_len me ≡ flip_of rows
  pub parents : (e : ℕ) → has absorbed e ≡ true → word v.pe e ≡ flip_of me
  pub places : (j : ℕ) → has absorbed j ≡ false → (j ≡ me → ⊥) → word v.pe j ≡ word p.pe j
  pub counts : (j : ℕ) → (j ≡ me → ⊥) → word v.e_len j ≡ word p.e_len j
  pub lengths : (j : ℕ) → (j ≡ me → ⊥) → num v.len j ≡ num p.len j
  pub ended : (e : ℕ) → has absorbed e ≡ true → has_list v.pe v.len e ≡ false
  pub listed : (j : ℕ) → has absorbed j ≡ false → (j ≡ me → ⊥) → has_list v.pe v.len j ≡ has_list p.pe p.len j
  pub same : (j : ℕ) → has absorbed j ≡ false → (j ≡ me → ⊥) → has_list p.pe p.len j ≡ true →
      ReadsSame p.iw p.pe p.e_len p.len v.iw v.pe v.e_len v.len j
  pub before : (j : ℕ) → (j ≡ me → ⊥) → has_list v.pe v.len j ≡ true → end_of v.pe v.len j ≤ p.free
  pub fewer : live_words n v.pe v.len ≤ live_words n p.pe p.len
  pub laid : Layout n v.iw v.pe v.e_len v.len v.free

-- a class of the front of me: it lists me, or an element that me absorbs
pub record IsTouched (me : ℕ) (absorbed : List ℕ) (p : Workspace) (i : ℕ) : Type 0 where
  pub listed : has_list p.pe p.len i ≡ true
  pub counts : is_place (word p.e_len i) ≡ true
  pub stands : has absorbed i ≡ false
  pub touches : (has (variables_in p.iw p.pe p.e_len p.len i) me ≡ true)
      ⊎ ((e : ℕ) × (has absorbed e ≡ true) × (has (elements_in p.iw p.pe p.e_len i) e ≡ true))
