-- The children of a column by their links: which are still to come on the way, and a place that is no child.
use Rattle.std.proofs.Common.{ℕ, suc, ◌≢◌, ◌<◌, ◌≤◌, ◌+◌, inl, inr, subst, arith}
use Rattle.std.specs.Prelude.{Option, None, Some}
use Rattle.std.proofs.lemmas.Bool.{cases_eq, cases_lt}
use Rattle.amd_factor.specs.Orders.{Order}
use Rattle.amd_factor.specs.Trees.{IsParent}
use Rattle.amd_factor.specs.Gathering.{IsLastChild}

-- place m is still to come on the way down
abbrev pub IsAhead : Option ℕ → ℕ → Type 0
IsAhead None m = ⊥
IsAhead (Some next) m = m ≤ next

-- what is next on the way is a child of place q
abbrev pub LeadsTo : Order → ℕ → Option ℕ → Type 0
LeadsTo o q None = Unit {0}
LeadsTo o q (Some next) = IsParent o.graph o.rows next q

-- how far the way may still go
abbrev pub steps_left : Option ℕ → ℕ
steps_left None = 0
steps_left (Some next) = suc next

module _ (o : Order) (q : ℕ) where
  pub ahead : (k : ℕ) (v : Option ℕ) → IsLastChild o q k v → (m : ℕ) → m < k → IsParent o.graph o.rows m q → IsAhead v m
  ahead k None h m l p = h m l p
  ahead k (Some next) h m l p = elim (cases_lt next m) [ inl x ↦ absurd (h.2 m x l p) | inr x ↦ x ]

  pub leads : (k : ℕ) (v : Option ℕ) → IsLastChild o q k v → LeadsTo o q v
  leads k None h = tt
  leads k (Some next) h = h.1

  -- past a child the way is shorter
  pub fewer_left : (child : ℕ) (v : Option ℕ) → IsLastChild o q child v → steps_left v < suc child
  fewer_left child None h = omega arith
  fewer_left child (Some next) h = let l = h.0 in omega (arith, l)

  -- on the way past a child
  pub ahead_past : (child m : ℕ) (v : Option ℕ) → IsLastChild o q child v → IsParent o.graph o.rows m q → m ≤ child → m ≢ child →
      IsAhead v m
  ahead_past child m v h p l ne = ahead child v h m (omega (arith, l, ne)) p

  -- a bound that is one higher, where the place between is no child
  pub last_later : (k : ℕ) (v : Option ℕ) → (IsParent o.graph o.rows k q → ⊥) → IsLastChild o q k v → IsLastChild o q (k + 1) v
  last_later k None never h = λ m l p. elim (cases_eq m k) [
    | inl e ↦ never (subst (λ x. IsParent o.graph o.rows x q) e p)
    | inr ne ↦ h m (omega (arith, l, ne)) p
  ]
  last_later k (Some next) never h = (
    (let l = h.0 in omega (arith, l)),
    h.1,
    (λ m a l p. elim (cases_eq m k) [
      | inl e ↦ never (subst (λ x. IsParent o.graph o.rows x q) e p)
      | inr ne ↦ h.2 m a (omega (arith, l, ne)) p
    ]),
  )
