-- The classes of a front, gone through in order: each is renewed, or ends if it keeps nothing but the new element.
use Rattle.std.specs.Prelude.{ℕ, ℤ, pos, negsuc, Bool, List, ◌++◌, ◌≡◌, ◌-◌, ◌&&◌, cond, min, length, filter, sum_by}
use Rattle.amd_model.specs.Quotient.{has}
use Rattle.amd_round_laws.specs.Rounds.{keeps_nothing}
use Rattle.amd_words.specs.Words.{num, word, flip_of, size_of}
use Rattle.amd_lists.specs.Workspaces.{Workspace}
use Rattle.amd_lists.specs.Layout.{elements_in, variables_in, reached, RenewsOne, RenewsAll}
use Rattle.amd_lists.specs.Renewal.{is_kept, is_outside, key_of}

-- the elements and the variables that a class keeps
abbrev pub kept_in : (ℕ → Bool) → List ℤ → List ℤ → List ℤ → ℕ → List ℕ
kept_in kept iw pe e_len i = filter kept (elements_in iw pe e_len i)

abbrev pub near_in : (ℕ → Bool) → List ℤ → List ℤ → List ℤ → List ℕ → ℕ → List ℕ
near_in is_apart iw pe e_len len i = filter is_apart (variables_in iw pe e_len len i)

-- the class keeps nothing but the new element
abbrev pub is_done : (ℕ → Bool) → (ℕ → Bool) → List ℤ → List ℤ → List ℤ → List ℕ → ℕ → Bool
is_done kept is_apart iw pe e_len len i = keeps_nothing (kept_in kept iw pe e_len) (near_in is_apart iw pe e_len len) i

-- the key of a class, by what it keeps
abbrev pub bucket_at : ℕ → (ℕ → Bool) → (ℕ → Bool) → List ℤ → List ℤ → List ℤ → List ℕ → ℕ → ℕ
bucket_at n kept is_apart iw pe e_len len i = key_of n
    (kept_in kept iw pe e_len i ++ near_in is_apart iw pe e_len len i)

-- a class of a workspace, which keeps the elements that stand and the classes outside the front, keeps nothing but the
-- new element
abbrev pub is_over : Workspace → ℕ → Bool
is_over p = is_done (is_kept p.w) (is_outside p.nv) p.iw p.pe p.e_len p.len

-- how many rows outside the front it reaches by what it keeps, where counters have so many above the flag
abbrev pub reach_of : Workspace → ℕ → ℕ
reach_of p = reached (λ e. num p.w e - p.flag) (size_of p.nv) (is_kept p.w) (is_outside p.nv) p.iw p.pe p.e_len p.len

-- and its key
abbrev pub key_in : ℕ → Workspace → ℕ → ℕ
key_in n p = bucket_at n (is_kept p.w) (is_outside p.nv) p.iw p.pe p.e_len p.len

-- p with all that a renewal of lists may change as it is in v
abbrev pub renewed_in : Workspace → Workspace → Workspace
renewed_in p v = record p { iw = v.iw; pe = v.pe; e_len = v.e_len; nv = v.nv; len = v.len; degree = v.degree; last = v.last }

-- the class i of a front: the lists are, with the words for elements in `counts`, as if it were only renewed. If it
-- keeps nothing it goes with the pivot and its rows are gone; else it has a lower bound and its key
pub record RenewsOrEnds (n me i : ℕ) (p v : Workspace) (gone : ℕ) : Type 0 where
  pub counts : List ℤ
  pub renewed : RenewsOne n me (is_kept p.w) (is_outside p.nv) i p (record v { e_len = counts })
  pub starts : (x : ℕ) → (x ≡ i → ⊥) → word v.pe x ≡ word p.pe x
  pub lists : (x : ℕ) → (x ≡ i → ⊥) → word v.e_len x ≡ word p.e_len x
  pub rows : (x : ℕ) → (x ≡ i → ⊥) → word v.nv x ≡ word p.nv x
  pub bounds : (x : ℕ) → (x ≡ i → ⊥) → num v.degree x ≡ num p.degree x
  pub keys : (x : ℕ) → (x ≡ i → ⊥) → num v.last x ≡ num p.last x
  pub start_is : word v.pe i ≡ cond (is_over p i) (flip_of me) (word p.pe i)
  pub list_is : word v.e_len i ≡ cond (is_over p i) (negsuc 0) (word counts i)
  pub row_is : word v.nv i ≡ cond (is_over p i) (pos 0) (word p.nv i)
  pub bound_is : num v.degree i ≡ cond (is_over p i) (num p.degree i) (min (num p.degree i) (reach_of p i))
  pub key_is : num v.last i ≡ cond (is_over p i) (num p.last i) (key_in n p i)
  pub gone_is : gone ≡ cond (is_over p i) (size_of p.nv i) 0

-- each class of a front, as it was before: the lists are, with the words for elements in `counts`, as if none had ended
pub record RenewsFront (n me : ℕ) (front : List ℕ) (p v : Workspace) (gone : ℕ) : Type 0 where
  pub counts : List ℤ
  pub renewed : RenewsAll n me (is_kept p.w) (is_outside p.nv) front p (record v { e_len = counts })
  pub lengths : (length v.pe ≡ length p.pe) × (length v.e_len ≡ length p.e_len) × (length v.nv ≡ length p.nv)
      × (length v.degree ≡ length p.degree) × (length v.last ≡ length p.last)
  pub starts : (x : ℕ) → word v.pe x ≡ cond (has front x) (cond (is_over p x) (flip_of me) (word p.pe x)) (word p.pe x)
  pub lists : (x : ℕ) → word v.e_len x ≡ cond (has front x && is_over p x) (negsuc 0) (word counts x)
  pub rows : (x : ℕ) → word v.nv x ≡ cond (has front x) (cond (is_over p x) (pos 0) (word p.nv x)) (word p.nv x)
  pub bounds : (x : ℕ) → num v.degree x ≡ cond (has front x)
      (cond (is_over p x) (num p.degree x) (min (num p.degree x) (reach_of p x))) (num p.degree x)
  pub keys : (x : ℕ) → num v.last x ≡ cond (has front x) (cond (is_over p x) (num p.last x) (key_in n p x)) (num p.last x)
  pub gone_is : gone ≡ sum_by (size_of p.nv) (filter (is_over p) front)
