-- What the end of an elimination in one workspace leaves, row by row.
use Rattle.std.specs.Prelude.{ℕ, ℤ, pos, negsuc, zero, suc, List, ◌≡◌, ◌<◌, ◌-◌, cond, nat_lt}
use Rattle.amd_words.specs.Words.{num, word, is_place}
use Rattle.amd_rounds.specs.Views.{is_flip, flipped}

-- the row that a mark names, and -1 for any other word
unfoldable pub named_word : ℤ → ℤ
named_word (pos k) = negsuc 0
named_word (negsuc zero) = negsuc 0
named_word (negsuc (suc k)) = pos k

-- the rows of the block of an element: its front without the border; 0 for what is no element
abbrev pub block_in : List ℤ → List ℕ → ℕ → ℕ
block_in e_len degree i = cond (is_flip (word e_len i)) (flipped (word e_len i) - num degree i) 0

-- of a row its link, the rows of its front, and those of its block
pub record EndsRow (i : ℕ) (pe e_len : List ℤ) (degree : List ℕ) (pe' e_len' nv' : List ℤ) : Type 0 where
  pub links : word pe' i ≡ cond (is_place (word e_len i)) (negsuc 0) (named_word (word pe i))
  pub fronts : word e_len' i ≡ cond (nat_lt (num degree i) (flipped (word e_len i))) (pos (flipped (word e_len i)))
      (negsuc 0)
  pub blocks : word nv' i ≡ pos (block_in e_len degree i)

-- so for each row below n
abbrev pub EndsRows : ℕ → List ℤ → List ℤ → List ℕ → List ℤ → List ℤ → List ℤ → Type 0
EndsRows n pe e_len degree pe' e_len' nv' = (i : ℕ) → i < n → EndsRow i pe e_len degree pe' e_len' nv'
