-- The columns of a factor, by where they begin and end: how many entries each has, and what it adds to the figures.
use Rattle.std.proofs.Common.{◌≡◌, ◌≤◌, ◌<◌, ◌+◌, ◌-◌, ◌*◌, ◌/◌, ◌++◌, refl, ℕ, List, [], ◌∷◌, ◌∙◌, ap, sym, arith, max, length}
use Rattle.std.proofs.Common.{take, take_all}
use Rattle.std.specs.Prelude.{Option, slice_index, slice_index_or}
use Rattle.std.proofs.Math.Nat.{max_comm}
use Rattle.std.proofs.lemmas.List.{take_more}
use Rattle.std.proofs.lemmas.List.Sums.{sum_by_more}
use Rattle.amd_model.specs.Factor.{needed, needed_front}
use Rattle.amd_model.specs.Figures.{entries, ldl_steps, lu_steps}
use Rattle.amd_factor.specs.Columns.{HoldColumns}
use Rattle.amd_factor.specs.Needs.{IsNeed, TellSizes}
use Rattle.amd_factor.specs.declared.needs.Need.{Need}

-- the pointers of columns that vectors hold
pub sizes-held : (columns : List (List ℕ)) (ptr rows : List ℕ) (parent : List (Option ℕ))
    → HoldColumns columns ptr rows parent → TellSizes columns ptr
sizes-held columns ptr rows parent h = record { pointers = h.pointers; first = h.first; ends = h.ends }

-- no column ends before it begins
pub sizes-ascend : (ptr : List ℕ) (k : ℕ) → (columns : List (List ℕ)) × TellSizes columns ptr → k < length ptr - 1
    → slice_index ptr k ≤ slice_index ptr (k + 1)
sizes-ascend ptr k s inside =
    let sizes : TellSizes s.0 ptr = s.1 in
    let end = sizes.ends k [] (omega (arith, sizes.pointers)) in
    omega (arith, end)

module _ (columns : List (List ℕ)) (ptr : List ℕ) (sizes : TellSizes columns ptr) where
  -- there is a column at place k
  inside-columns : (k : ℕ) → k < length ptr - 1 → k < length columns
  inside-columns k inside = omega (arith, sizes.pointers)

  -- a place behind them
  pub all-columns : (k : ℕ) → length ptr - 1 ≤ k → take k columns ≡ columns
  all-columns k past = take_all k columns (omega (arith, sizes.pointers))

  module _ (k size : ℕ) (inside : k < length ptr - 1) (end : slice_index ptr k + size ≡ slice_index ptr (k + 1)) where
    -- the size of column k
    pub size-is : size ≡ length (slice_index_or columns k [])
    size-is = omega (arith, end, sizes.ends k [] (inside-columns k inside))

    -- the first columns and one more
    pub one-more : take (k + 1) columns ≡ take k columns ++ slice_index_or columns k [] ∷ []
    one-more = take_more columns k [] (inside-columns k inside)

    -- what one column more needs
    needed-next : (share : ℕ → ℕ) → needed share (take (k + 1) columns) ≡ needed share (take k columns) + share size
    needed-next share =
        sum_by_more (λ column. share (length column)) columns k [] (inside-columns k inside)
        ∙ ap (λ z. needed share (take k columns) + share z) (sym size-is)

-- the longest of columns and of one more
pub front-more : (xs : List (List ℕ)) (x : List ℕ) → needed_front (xs ++ x ∷ []) ≡ max (needed_front xs) (length x + 1)
unfolding needed_front
front-more [] x = max_comm (length x + 1) 0
front-more (y ∷ xs) x = ap (max (length y + 1)) (front-more xs x) ∙ omega arith

-- no columns need nothing
pub need-none : IsNeed [] (record { lnz = 0; n_mult_subs_ldl = 0; n_mult_subs_lu = 0; d_max = 0 })
unfolding needed_front
need-none = record { lnz = refl; ldl = refl; lu = refl; greatest = refl }

-- the needs of the first k columns and of the next one
pub need-next : (columns : List (List ℕ)) (ptr : List ℕ) (k size : ℕ) (need next : Need) → TellSizes columns ptr → k < length ptr - 1
    → slice_index ptr k + size ≡ slice_index ptr (k + 1) → IsNeed (take k columns) need → next.lnz ≡ need.lnz + size
    → next.n_mult_subs_ldl ≡ need.n_mult_subs_ldl + size * (size + 1) / 2 → next.n_mult_subs_lu ≡ need.n_mult_subs_lu + size * size
    → next.d_max ≡ max need.d_max (size + 1) → IsNeed (take (k + 1) columns) next
unfolding entries ldl_steps lu_steps
need-next columns ptr k size need next sizes inside end h lnz ldl lu greatest =
    let column = slice_index_or columns k [] in
    let front : needed_front (take (k + 1) columns) ≡ max (needed_front (take k columns)) (length column + 1) =
    ap needed_front (one-more columns ptr sizes k size inside end) ∙ front-more (take k columns) column in
    record {
      lnz = lnz ∙ ap (λ z. z + size) h.lnz ∙ sym (needed-next columns ptr sizes k size inside end entries);
      ldl = ldl ∙ ap (λ z. z + size * (size + 1) / 2) h.ldl ∙ sym (needed-next columns ptr sizes k size inside end ldl_steps);
      lu = lu ∙ ap (λ z. z + size * size) h.lu ∙ sym (needed-next columns ptr sizes k size inside end lu_steps);
      greatest = greatest ∙ ap (λ z. max z (size + 1)) h.greatest
          ∙ ap (λ z. max (needed_front (take k columns)) (z + 1)) (size-is columns ptr sizes k size inside end) ∙ sym front;
    }
