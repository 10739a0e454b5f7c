-- The new bounds of the classes that are placed anew.
use Rattle.std.proofs.Common.{ℕ, true, ◌≡◌, ◌<◌, ◌≤◌, ◌+◌, ◌-◌, ◌∙◌, ap, arith, List}
use Rattle.std.specs.Prelude.{cond, min, sum_by}
use Rattle.std.proofs.lemmas.Bool.{cond-true}
use Rattle.amd_model.specs.Figures.{cut}
use Rattle.amd_model.specs.Quotient.{has}
use Rattle.amd_plain.specs.Views.{num, list_at}
use Rattle.amd_plain.specs.Rounds.{plain_bound}
use Rattle.amd_plain.specs.declared.work.PlainLists.{PlainLists}

-- a bound that keeps to the other live rows is below the number of rows
pub bound_small : (near live size n : ℕ) → 0 < size → size ≤ live → live ≤ n → min near (live - size) < n
bound_small near live size n some within most = omega (arith, some, within, most)

-- the new bounds, for lists that are equal to those that were handed over
module _ {A : Type 0} (border live : ℕ) (lists : PlainLists A) (made given beyond counts size sizes bound after : List ℕ)
    (is_made : given ≡ made) (is_beyond : counts ≡ beyond) (is_size : sizes ≡ size)
    (is_after : (i : ℕ) → num after i ≡ cond (has given i) (plain_bound border live lists counts sizes bound i) (num bound i)) (i : ℕ) where
  pub renewed : num after i ≡ cond (has made i) (plain_bound border live lists beyond size bound i) (num bound i)
  renewed = is_after i ∙ ap (λ l. cond (has l i) (plain_bound border live lists counts sizes bound i) (num bound i)) is_made
      ∙ ap (λ l. cond (has made i) (plain_bound border live lists l sizes bound i) (num bound i)) is_beyond
      ∙ ap (λ l. cond (has made i) (plain_bound border live lists beyond l bound i) (num bound i)) is_size

  -- they keep to the other live rows, so each is below the number of rows
  pub renewed_small : (n : ℕ) → has made i ≡ true → 0 < num size i → num size i ≤ live → live ≤ n → num after i < n
  renewed_small n h some within most =
      let e = renewed ∙ cond-true (has made i) (plain_bound border live lists beyond size bound i) (num bound i) h in
      let small = bound_small
      (min (num bound i) (cut (sum_by (num beyond) (list_at lists.elements.items i) + sum_by (num size)
      (list_at lists.variables.items i))) + (border - num size i)) live (num size i) n some within most in
      omega (arith, e, small)
