-- The classes that are left in a front, placed by their new bounds.
use Rattle.std.specs.Prelude.{ℕ, ℤ, List, ◌∷◌, ◌≡◌, ◌<◌, ◌≤◌, ◌+◌, ◌-◌, ◌==◌, ◌&&◌, not, cond, min, fold, filter}
use Rattle.amd_model.specs.Quotient.{has}
use Rattle.amd_words.specs.Words.{num, size_of, in_front}

-- the classes of a list that are marked
abbrev pub marked_in : List ℤ → List ℕ → List ℕ
marked_in nv xs = filter (in_front nv) xs

-- the bound of a class when the border of the new element and the live rows are known
abbrev pub bound_in : ℕ → ℕ → List ℤ → List ℕ → ℕ → ℕ
bound_in border left nv degree i = min (num degree i + (border - size_of nv i)) (left - size_of nv i)

-- the rows of a list, one after another put at the head of the list of their bound
abbrev pub put_all : (ℕ → ℕ) → List ℕ → (ℕ → List ℕ) → ℕ → List ℕ
put_all bound xs lists = fold (λ before i b. cond (b == bound i) (i ∷ before b) (before b)) lists xs

-- a class that is left in a front: it has rows, no more than the border, an old bound, and its key
pub record IsPlaceable (n border : ℕ) (nv : List ℤ) (degree last : List ℕ) (i : ℕ) : Type 0 where
  pub class : 0 < size_of nv i
  pub part : size_of nv i ≤ border
  pub bound : num degree i < n
  pub key : num last i < n

-- the marks of a list are off, and the classes that had one have their new bounds; the least of these and of another
-- number is least'
pub record Restores (list : List ℕ) (border left least : ℕ) (nv : List ℤ) (degree : List ℕ) (nv' : List ℤ)
    (degree' : List ℕ) (least' : ℕ)
    : Type 0 where
  pub sizes : (j : ℕ) → size_of nv' j ≡ size_of nv j
  pub marks : (j : ℕ) → in_front nv' j ≡ (in_front nv j && not (has list j))
  pub bounds : (x : ℕ) → num degree' x
      ≡ cond (has list x) (cond (in_front nv x) (bound_in border left nv degree x) (num degree x)) (num degree x)
  pub least_is : least' ≡ fold (λ m i. min m (bound_in border left nv degree i)) least (marked_in nv list)
