-- What columns need, by their sizes, one column after another.
use Rattle.std.proofs.Common.{ℕ, ◌≡◌, ◌<◌, ◌≤◌, ◌+◌, ◌*◌, ◌/◌, ◌^◌, refl, sym, ◌∙◌, ap, arith, max, length, map, take, take_all}
use Rattle.std.proofs.Common.{List, []}
use Rattle.std.specs.Prelude.{slice_index, slice_index_or, sum}
use Rattle.std.proofs.lemmas.List.{take_more, get_or-map, length-map}
use Rattle.std.proofs.lemmas.List.Sums.{sum_by_more, sum-map}
use Rattle.std.proofs.lemmas.Nat.{mul-le}
use Rattle.amd_model.specs.Factor.{needed, needed_front}
use Rattle.amd_model.specs.Below.{sum_below}
use Rattle.amd_model.specs.Figures.{entries, front_sum, ldl_steps, lu_steps}
use Rattle.amd_model.proofs.Figures.Sums.{ldl_sum}
use Rattle.amd_factor.specs.Counted.{IsCutNeed, SumUp, wide_cut}
use Rattle.amd_factor.specs.declared.counted.Sums.{Sums}
use Rattle.amd_factor.specs.declared.needs.Need.{Need}
use Rattle.amd_factor.proofs.Factors.ColumnSizes.{front-more}

-- a sum of a cut one
cut-next : (a b x y : ℕ) → b ≡ wide_cut a → y ≡ wide_cut (b + x) → y ≡ wide_cut (a + x)
cut-next a b x y is next = omega (arith, is, next)

-- the steps of a column for LDL' are half of those for LU and its entries
steps-twice : (c : ℕ) → 2 * ldl_steps c ≡ lu_steps c + entries c
unfolding front_sum sum_below
steps-twice c = let h = ldl_sum 1 c in let e : c + 0 ≡ c = omega arith in omega (arith, rw e at h)

-- the sums over no columns
pub sums-none : SumUp [] (record { entries = 0; squares = 0; greatest = 0 })
unfolding needed_front
sums-none = record { lnz = refl; ldl = refl; lu = refl; greatest = refl }

-- a sum of squares does not pass the square of the sum, with one more of each
pub squares-few : (all squares x : ℕ) → squares ≤ all * all → squares + x * x ≤ (all + x) * (all + x)
squares-few all squares x few = omega (arith, few)

-- and so has 128 bits where the sum has 64, also with the sum
pub squares-fit : (all squares : ℕ) → all < 2 ^ 64 → squares ≤ all * all → squares + all < 2 ^ 128
squares-fit all squares low few =
    let most = mul-le all (all + 1) 18446744073709551615 18446744073709551616 (omega (arith, low)) (omega (arith, low)) in
    omega (arith, few, most)

-- what is needed by these sums, of which none is cut
pub need-of-sums : (columns : List (List ℕ)) (sums : Sums) → SumUp columns sums → sums.squares + sums.entries < 2 ^ 128 →
    IsCutNeed columns (record {
      lnz = sums.entries;
      n_mult_subs_ldl = (sums.squares + sums.entries) / 2;
      n_mult_subs_lu = sums.squares;
      d_max = sums.greatest;
    })
need-of-sums columns sums h small = record {
  lnz = let is = h.lnz in omega (arith, is, small);
  ldl = let is = h.ldl in omega (arith, is, small);
  lu = let is = h.lu in omega (arith, is, small);
  greatest = h.greatest;
}

-- all entries are as many as the sizes say
pub entries-sum : (columns : List (List ℕ)) → needed entries columns ≡ sum (map length columns)
unfolding entries
entries-sum columns = sym (sum-map length columns)

-- no columns need nothing
pub cut-need-none : IsCutNeed [] (record { lnz = 0; n_mult_subs_ldl = 0; n_mult_subs_lu = 0; d_max = 0 })
unfolding needed_front
cut-need-none = record { lnz = refl; ldl = refl; lu = refl; greatest = refl }

module _ (columns : List (List ℕ)) (sizes : List ℕ) (are : sizes ≡ map length columns) where
  pub long : length sizes ≡ length columns
  long = ap length are ∙ length-map columns length

  pub size-is : (k : ℕ) → k < length columns → slice_index sizes k ≡ length (slice_index_or columns k [])
  size-is k l = ap (λ xs. slice_index xs k) are ∙ get_or-map length columns k [] 0 l

  -- a place behind them
  pub all-columns : (k : ℕ) → length sizes ≤ k → take k columns ≡ columns
  all-columns k past = take_all k columns (let e = long in omega (arith, e, past))

  module _ (k : ℕ) (inside : k < length sizes) where
    below : k < length columns
    below = let e = long in omega (arith, e, inside)

    -- what one column more needs
    needed-next : (share : ℕ → ℕ) → needed share (take (k + 1) columns) ≡ needed share (take k columns) + share (slice_index sizes k)
    needed-next share = sum_by_more (λ column. share (length column)) columns k [] below
        ∙ ap (λ z. needed share (take k columns) + share z) (sym (size-is k below))

    front-next : needed_front (take (k + 1) columns) ≡ max (needed_front (take k columns)) (slice_index sizes k + 1)
    front-next = ap needed_front (take_more columns k [] below) ∙ front-more (take k columns) (slice_index_or columns k [])
        ∙ ap (λ z. max (needed_front (take k columns)) (z + 1)) (sym (size-is k below))

    -- the needs of the first k columns and of the next one
    pub cut-need-next : (need next : Need) → IsCutNeed (take k columns) need → next.lnz ≡ wide_cut (need.lnz + slice_index sizes k)
        → next.n_mult_subs_ldl ≡ wide_cut (need.n_mult_subs_ldl + slice_index sizes k * (slice_index sizes k + 1) / 2)
        → next.n_mult_subs_lu ≡ wide_cut (need.n_mult_subs_lu + slice_index sizes k * slice_index sizes k)
        → next.d_max ≡ max need.d_max (slice_index sizes k + 1) → IsCutNeed (take (k + 1) columns) next
    unfolding entries ldl_steps lu_steps
    cut-need-next need next h lnz ldl lu greatest =
        record {
          lnz = cut-next (needed entries (take k columns)) need.lnz (entries (slice_index sizes k)) next.lnz h.lnz lnz
              ∙ ap wide_cut (sym (needed-next entries));
          ldl = cut-next (needed ldl_steps (take k columns)) need.n_mult_subs_ldl (ldl_steps (slice_index sizes k)) next.n_mult_subs_ldl
              h.ldl ldl
              ∙ ap wide_cut (sym (needed-next ldl_steps));
          lu = cut-next (needed lu_steps (take k columns)) need.n_mult_subs_lu (lu_steps (slice_index sizes k)) next.n_mult_subs_lu h.lu lu
              ∙ ap wide_cut (sym (needed-next lu_steps));
          greatest = greatest ∙ ap (λ z. max z (slice_index sizes k + 1)) h.greatest ∙ sym front-next;
        }

    -- the sums over the first k columns and the next one
    pub sums-next : (sums next : Sums) → SumUp (take k columns) sums → next.entries ≡ sums.entries + slice_index sizes k
        → next.squares ≡ sums.squares + slice_index sizes k * slice_index sizes k
        → next.greatest ≡ max sums.greatest (slice_index sizes k + 1) → SumUp (take (k + 1) columns) next
    unfolding entries lu_steps
    sums-next sums next h more squares greatest =
        let size = slice_index sizes k in
        let twice = steps-twice size in let here = needed-next ldl_steps in let before = h.ldl in
        record {
          lnz = more ∙ ap (λ z. z + size) h.lnz ∙ sym (needed-next entries);
          ldl = omega (arith, twice, here, before, more, squares);
          lu = squares ∙ ap (λ z. z + size * size) h.lu ∙ sym (needed-next lu_steps);
          greatest = greatest ∙ ap (λ z. max z (size + 1)) h.greatest ∙ sym front-next;
        }
