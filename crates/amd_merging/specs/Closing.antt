-- The closing of an element.
use Rattle.std.specs.Prelude.{ℕ, Bool, true, ◌≡◌, ◌≤◌, filter}
use Rattle.amd_words.specs.Words.{num, word}
use Rattle.amd_lists.specs.Layout.{has_list, list_in, Layout, live_words, ReadsSame}
use Rattle.amd_merging.specs.Classes.{Lists}

-- the list of the element me keeps what passes; all other lists read as before, and there are no more words. Each list
-- starts where it did
pub record Closes (n me : ℕ) (pass : ℕ → Bool) (free : ℕ) (p v : Lists) : Type 0 where
  pub list : list_in v.iw p.pe v.len me ≡ filter pass (list_in p.iw p.pe p.len me)
  pub shorter : num v.len me ≤ num p.len me
  pub counts : (j : ℕ) → (j ≡ me → ⊥) → word v.e_len j ≡ word p.e_len j
  pub lengths : (j : ℕ) → (j ≡ me → ⊥) → num v.len j ≡ num p.len j
  pub same : (j : ℕ) → (j ≡ me → ⊥) → has_list p.pe p.len j ≡ true →
      ReadsSame p.iw p.pe p.e_len p.len v.iw p.pe v.e_len v.len j
  pub fewer : live_words n p.pe v.len ≤ live_words n p.pe p.len
  pub laid : Layout n v.iw p.pe v.e_len v.len free
