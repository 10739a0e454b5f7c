use Rattle.std.proofs.Common.{ℕ, List, ◌≡◌, ◌<◌, ◌≤◌, ◌+◌, ◌-◌, ◌⊎◌, inl, inr, sym, ap, ◌∙◌, arith, cond, length, set}
use Rattle.std.proofs.Common.{get_or-set_same, get_or-set_other}
use Rattle.std.specs.Prelude.{nat_le, ◌==◌}
use Rattle.std.proofs.lemmas.Bool.{cases_eq, eq-eqb, ne_eqb, cond-true, cond-false, le-leb, lt-leb}
use Rattle.amd_words.specs.Words.{num}
use Rattle.amd_fronts.specs.Counts.{touched}
use Rattle.amd_fronts.proofs.outside.touch.Goals as goal
use Rattle.amd_fronts.proofs.outside.touch.Goals.{then-before-tally, else-before-tally, then-before-eq0, else-before-eq0}

pub cell_at-before-requires : goal.cell_at-before-requires
cell_at-before-requires g c = c.requires.inside.0

pub cell_at-requires : goal.cell_at-requires
cell_at-requires g c = c.requires.inside.1

pub put_cell-requires-clause-inside : goal.put_cell-requires-clause-inside
put_cell-requires-clause-inside g c = c.requires.inside.0

-- what is left of a counter, as the two choices make it
left_is : (flag all more v base taken : ℕ) → ((flag ≤ v) × (base ≡ v)) ⊎ ((v < flag) × (base ≡ all + flag)) →
    ((v ≡ 0) × (taken ≡ base)) ⊎ ((v ≡ 0 → ⊥) × (taken ≡ more)) → base - taken ≡ touched flag all more v
left_is flag all more v base taken b t = elim b [
  | inl p ↦ (let past = p.0 in let is = p.1 in
      (elim t [
        | inl q ↦ (let z = q.0 in let e = q.1 in omega (arith, z, e, is))
        | inr q ↦ (let e = q.1 in omega (arith, e, is))
      ]) ∙ sym (cond-true (nat_le flag v) (v - more) (cond (v == 0) 0 (all + flag - more)) (le-leb flag v past)))
  | inr p ↦ (let is = p.1 in
      (elim t [
        | inl q ↦ (let e = q.1 in let none : base - taken ≡ 0 = omega (arith, e) in
            none ∙ sym (cond-true (v == 0) 0 (all + flag - more) (eq-eqb v 0 q.0)))
        | inr q ↦ (let e = q.1 in let some : base - taken ≡ all + flag - more = omega (arith, e, is) in
            some ∙ sym (cond-false (v == 0) 0 (all + flag - more) (ne_eqb v 0 q.0)))
      ]) ∙ sym (cond-false (nat_le flag v) (v - more) (cond (v == 0) 0 (all + flag - more)) (lt-leb flag v p.0)))
]

written : (w : List ℕ) (e y x : ℕ) → e < length w → num (set w e y) x ≡ cond (x == e) y (num w x)
written w e y x small = elim (cases_eq x e) [
  | inl q ↦ ap (num (set w e y)) q ∙ get_or-set_same w e y 0 small ∙ sym (cond-true (x == e) y (num w x) (eq-eqb x e q))
  | inr ne ↦ get_or-set_other w e x y 0 ne ∙ sym (cond-false (x == e) y (num w x) (ne_eqb x e ne))
]

pub returns-clause-counted : goal.returns-clause-counted
returns-clause-counted g c x =
    let v : ℕ = num c.args.w.now c.args.e in let all : ℕ = num c.args.degree.now c.args.e in
    let read = c.cell_at-before.ensures.is in let whole = c.cell_at.ensures.is in
    let base : ((c.args.tally.flag ≤ v) × (c.if-before-tally.base ≡ v))
    ⊎ ((v < c.args.tally.flag) × (c.if-before-tally.base ≡ all + c.args.tally.flag)) =
    elim c.if-before-tally.branch [
      | then-before-tally w ↦ (let t = w.if-before-tally.true in let b = w.base-is in
          inl ((omega (arith, read, t)), (omega (arith, read, b))))
      | else-before-tally w ↦ (let t = w.if-before-tally.false in let b = w.base-is in
          inr ((omega (arith, read, t)), (omega (arith, whole, b))))
    ] in
    let taken : ((v ≡ 0) × (c.if-before-eq0.taken ≡ c.if-before-tally.base)) ⊎ ((v ≡ 0 → ⊥) × (c.if-before-eq0.taken ≡ c.args.tally.more)) =
    elim c.if-before-eq0.branch [
      | then-before-eq0 w ↦ inl (sym read ∙ w.if-before-eq0.true, w.taken-is)
      | else-before-eq0 w ↦ inr ((λ z. w.if-before-eq0.false (read ∙ z)), w.taken-is)
    ] in
    ap (λ l. num l x) c.put_cell.ensures
    ∙ written c.args.w.now c.args.e (c.if-before-tally.base - c.if-before-eq0.taken) x c.requires.inside.0
    ∙ ap (λ y. cond (x == c.args.e) y (num c.args.w.now x))
    (left_is c.args.tally.flag all c.args.tally.more v c.if-before-tally.base c.if-before-eq0.taken base taken)

pub returns-clause-long : goal.returns-clause-long
returns-clause-long g c = c.put_cell.auto.cells
