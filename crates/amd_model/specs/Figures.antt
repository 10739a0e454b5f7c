-- The figures of a run: sums over its fronts, and the greatest front. Source: AMD user guide; Amestoy, Davis and Duff
-- 2004.
use Rattle.std.specs.Prelude.{ℕ, zero, suc, Bool, ◌+◌, ◌*◌, ◌/◌, ◌&&◌, cond, max, min, nat_lt}
use Rattle.amd_model.specs.Below.{count_below, sum_below}
use Rattle.amd_model.specs.Graph.{Graph, degree}
use Rattle.amd_model.specs.State.{State, in_block, is_element}

-- the sum of the share over c = r .. r + f - 1: the columns of a front with f rows in its block and r rows outside
unfoldable pub front_sum : (ℕ → ℕ) → ℕ → ℕ → ℕ
front_sum share f r = sum_below f (λ j. share (r + j))

-- an element that a step made: the others are the empty rows
unfoldable pub is_made : Graph → State → ℕ → Bool
is_made g s e = is_element s e && nat_lt 0 (degree g e)

-- the figure of the elements of a state: one front for each that was made, and one for the dense rows; the rows outside
-- a front are those of its border and the dense rows
unfoldable pub figure : (ℕ → ℕ) → Graph → (ℕ → Bool) → State → ℕ
figure share g dense s =
    sum_below g.size (λ e.
    cond (is_made g s e) (front_sum share (count_below g.size (in_block s e))
    (count_below g.size (s.border e) + count_below g.size dense)) 0)
    + front_sum share (count_below g.size dense) 0

-- the share of a column with c entries below the diagonal: its entries (and divisions)
unfoldable pub entries : ℕ → ℕ
entries c = c

-- the multiply-subtract steps of a column with c entries below the diagonal in a factorization LDL'
unfoldable pub ldl_steps : ℕ → ℕ
ldl_steps c = c * (c + 1) / 2

-- the multiply-subtract steps of a column with c entries below the diagonal in a factorization LU
unfoldable pub lu_steps : ℕ → ℕ
lu_steps c = c * c

-- the greatest of f over the numbers below n that pass, and of d
unfoldable pub max_below : ℕ → (ℕ → Bool) → (ℕ → ℕ) → ℕ → ℕ
max_below zero p f d = d
max_below (suc n) p f d = max (cond (p n) (f n) 0) (max_below n p f d)

-- the greatest of 1, the number of rows of each front, and that of the dense rows
unfoldable pub greatest_front : Graph → (ℕ → Bool) → State → ℕ
greatest_front g dense s =
    max_below g.size (is_made g s) (λ e. count_below g.size (in_block s e)
    + (count_below g.size (s.border e) + count_below g.size dense))
    (max 1 (count_below g.size dense))

-- what a field of 64 bits holds of a figure: the lesser of it and the greatest such number
unfoldable pub cut : ℕ → ℕ
cut x = min x 18446744073709551615
