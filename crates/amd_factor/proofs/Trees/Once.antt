-- An order names its rows once, and so a factor.
use Rattle.std.proofs.Common.{ℕ, ℤ, ◌≡◌, sym, ◌∙◌, subst, List}
use Rattle.std.specs.Prelude.{unsigned_abs}
use Rattle.amd_model.specs.Factor.{IsFactor}
use Rattle.amd_model.specs.Input.Pattern.{graph_of}
use Rattle.amd_types.proofs.SignedCounts.{same_counts}
use Rattle.amd_factor.specs.Columns.{HoldColumns}
use Rattle.amd_factor.specs.Orders.{Permutes}
use Rattle.amd_factor.proofs.Trees.FactorOnce.{factor_once}
use Rattle.amd_factor.specs.Laws.{ThereIsOneFactor}
use Rattle.amd_factor.proofs.Factors.Vectors.{vectors_once}

pub order_once : (n : ℕ) (p : List ℤ) (xs ys : List ℕ) → Permutes n p xs → Permutes n p ys → xs ≡ ys
order_once n p xs ys a b = same_counts xs ys (sym a.listed ∙ b.listed)

pub one_factor : ThereIsOneFactor
one_factor n ap' ai p ptr rows ptr' rows' parent parent' f f' =
    let g = graph_of (unsigned_abs n) ap' ai in
    let order : f'.order ≡ f.order = order_once (unsigned_abs n) p f'.order f.order f'.permutes f.permutes in
    let columns : f'.holds.columns ≡ f.holds.columns = factor_once g f.order f'.holds.columns f.holds.columns
    (subst (λ r. IsFactor g r f'.holds.columns) order f'.holds.factor) f.holds.factor in
    vectors_once f.holds.columns ptr rows parent f.holds.holds
    ptr' rows' parent' (subst (λ c. HoldColumns c ptr' rows' parent') columns f'.holds.holds)
