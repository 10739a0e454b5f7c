-- The record of an ordering bounds what the factor under its order needs.
use Rattle.std.proofs.Common.{ℕ, ℤ, zero, suc, pos, negsuc, Bool, ◌≡◌, ◌≤◌, refl, ◌∙◌, subst, arith, List, [], ◌∷◌, length}
use Rattle.std.specs.Prelude.{Option}
use Rattle.amd_model.specs.Factor.{IsFactor, needed_front}
use Rattle.amd_model.specs.Input.Pattern.{graph_of}
use Rattle.amd_types.specs.declared.amd.Control.{Control}
use Rattle.amd_types.specs.declared.amd.Info.{Info}
use Rattle.amd.specs.Answers.{OrdersMatrix}
use Rattle.amd_factor.specs.Counted.{IsCutNeed, TellCounts, wide_cut}
use Rattle.amd_factor.specs.Orders.{Permutes}
use Rattle.amd_factor.specs.declared.needs.Need.{Need}
use Rattle.amd_factor.proofs.Trees.FactorOnce.{factor_once}
use Rattle.amd_factor.proofs.Trees.Once.{order_once}
use Rattle.amd_symbolic.specs.Laws.{FiguresBoundNeeds, NeedsWithin}

-- a cut figure is no more than the figure
cut-most : (x y : ℕ) → x ≡ wide_cut y → x ≤ y
cut-most x y e = omega (arith, e)

empty : (columns : List (List ℕ)) → length columns ≡ 0 → columns ≡ []
empty [] e = refl
empty (c ∷ cs) e = absurd (omega (arith, e))

none-within : (need : Need) (info : Info) → IsCutNeed [] need → NeedsWithin need info
unfolding needed_front
none-within need info h = record {
  lnz = λ l. (let e = h.lnz in omega (arith, e));
  divisions = λ l. (let e = h.lnz in omega (arith, e));
  ldl = λ l. (let e = h.ldl in omega (arith, e));
  lu = λ l. (let e = h.lu in omega (arith, e));
  greatest = (let e = h.greatest in omega (arith, e));
}

module _ (hold : Option (List Bool)) (control : Control) (ap' ai p q : List ℤ) (info : Info) (sizes : List ℕ)
    (parent : List (Option ℕ)) (need : Need) where
  within : (n : ℕ) (pair : ℕ → ℕ → Bool) → OrdersMatrix hold n control pair ap' ai p q info → (order : List ℕ) → Permutes n p order →
      TellCounts (graph_of n ap' ai) order sizes parent need → NeedsWithin need info
  unfolding graph_of
  within n pair m order h c =
      let same : order ≡ m.rows = order_once n p order m.rows h (record { listed = m.listed; each = m.promises.each_row }) in
      let once : c.holds.columns ≡ m.reserves.columns = factor_once (graph_of n ap' ai) m.rows c.holds.columns m.reserves.columns
      (subst (λ r. IsFactor (graph_of n ap' ai) r c.holds.columns) same c.holds.factor) m.reserves.factor in
      let needs : IsCutNeed m.reserves.columns need = subst (λ xs. IsCutNeed xs need) once c.needs in
      let lnz = cut-most need.lnz _ needs.lnz in let ldl = cut-most need.n_mult_subs_ldl _ needs.ldl in
      let lu = cut-most need.n_mult_subs_lu _ needs.lu in
      record {
        lnz = λ l. (let r = m.reserves.lnz l in omega (arith, r, lnz));
        divisions = λ l. (let r = m.reserves.divisions l in omega (arith, r, lnz));
        ldl = λ l. (let r = m.reserves.ldl l in omega (arith, r, ldl));
        lu = λ l. (let r = m.reserves.lu l in omega (arith, r, lu));
        greatest = (let r = m.reserves.greatest in let e = needs.greatest in omega (arith, r, e));
      }

pub figures_bound_needs : FiguresBoundNeeds
figures_bound_needs hold (pos zero) t aggressive ap' ai p q info sizes parent need o c =
    none-within need info (subst (λ xs. IsCutNeed xs need)
    (empty c.tells.holds.columns (c.tells.holds.factor.places ∙ c.permutes.each.places)) c.tells.needs)
figures_bound_needs hold (pos (suc n)) t aggressive ap' ai p q info sizes parent need o c =
    within hold (record { dense = t; aggressive = aggressive }) ap' ai p q info sizes parent need (suc n) _ (o.orders (λ e. cc))
    c.order c.permutes c.tells
figures_bound_needs hold (negsuc n) t aggressive ap' ai p q info sizes parent need o c =
    within hold (record { dense = t; aggressive = aggressive }) ap' ai p q info sizes parent need (suc n) _ (o.orders (λ e. cc))
    c.order c.permutes c.tells
