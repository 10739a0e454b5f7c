use Rattle.std.proofs.Common.{ℕ, List, ◌≡◌, ◌+◌, inl, inr, sym, ap, ◌∙◌, arith, cond, get_or-set_same, get_or-set_other}
use Rattle.std.specs.Prelude.{nat_lt, ◌==◌}
use Rattle.std.proofs.lemmas.Bool.{cases_eq, cases_lt, eq-eqb, ne_eqb, cond-true, cond-false, lt-ltb, le-ltb}
use Rattle.amd_words.specs.Words.{num}
use Rattle.std.proofs.Common.{le_trans, lt_of_lt_of_le, le_of_eq, falls, refl, length, zero-le}
use Rattle.std.proofs.lemmas.List.{get_or_past}
use Rattle.amd_fronts.proofs.outside.clear.Goals as goal
use Rattle.amd_fronts.proofs.outside.clear.Goals.{then-cell_at-ne0, else-cell_at-ne0}

-- one more number is cleared
cleared_next : (w0 w w' : List ℕ) (k : ℕ) → ((e : ℕ) → num w e ≡ cond (nat_lt e k) (cond (num w0 e == 0) 0 1) (num w0 e)) →
    num w' k ≡ cond (num w k == 0) 0 1 → ((x : ℕ) → (x ≡ k → ⊥) → num w' x ≡ num w x) → (e : ℕ) →
    num w' e ≡ cond (nat_lt e (k + 1)) (cond (num w0 e == 0) 0 1) (num w0 e)
cleared_next w0 w w' k before here there e = elim (cases_eq e k) [
  | inl q ↦ ap (num w') q ∙ here
      ∙ ap (λ v. cond (v == 0) 0 1) (before k ∙ cond-false (nat_lt k k) (cond (num w0 k == 0) 0 1) (num w0 k) (le-ltb k k (omega arith)))
      ∙ sym (ap (λ x. cond (num w0 x == 0) 0 1) q)
      ∙ sym (cond-true (nat_lt e (k + 1)) (cond (num w0 e == 0) 0 1) (num w0 e) (lt-ltb e (k + 1) (omega (arith, q))))
  | inr ne ↦ there e ne ∙ before e ∙ ap (λ b. cond b (cond (num w0 e == 0) 0 1) (num w0 e)) (elim (cases_lt e k) [
    | inl l ↦ lt-ltb e k l ∙ sym (lt-ltb e (k + 1) (omega (arith, l)))
    | inr m ↦ le-ltb e k m ∙ sym (le-ltb e (k + 1) (omega (arith, m, ne)))
  ])
]

pub loop-k-preserved : goal.loop-k-preserved
loop-k-preserved g c =
    let w : List ℕ = c.loop-k.w in let k : ℕ = c.loop-k.k in let is = c.cell_at.ensures.is in
    let t = c.loop-k-test.true in let long = c.loop-k.auto.w in record {
      long = c.if-cell_at-ne0.auto.w ∙ long;
      cleared = cleared_next c.args.w.now w c.if-cell_at-ne0.w k c.loop-k.invariant.cleared
          (elim c.if-cell_at-ne0.branch [
            | then-cell_at-ne0 v ↦ ap (λ l. num l k) (v.w-is ∙ v.put_cell.ensures)
                ∙ get_or-set_same w k 1 0 (omega (arith, t, long))
                ∙ sym (cond-false (num w k == 0) 0 1 (ne_eqb (num w k) 0 (λ z. v.if-cell_at-ne0.true (is ∙ z))))
            | else-cell_at-ne0 v ↦ (let z : num w k ≡ 0 = sym is ∙ v.if-cell_at-ne0.false in
                ap (λ l. num l k) v.w-is ∙ z ∙ sym (cond-true (num w k == 0) 0 1 (eq-eqb (num w k) 0 z)))
          ])
          (λ x ne. elim c.if-cell_at-ne0.branch [
            | then-cell_at-ne0 v ↦ ap (λ l. num l x) (v.w-is ∙ v.put_cell.ensures) ∙ get_or-set_other w k x 1 0 ne
            | else-cell_at-ne0 v ↦ ap (λ l. num l x) v.w-is
          ]);
    }

pub loop-k-init : goal.loop-k-init
loop-k-init g c = record {
  long = refl;
  cleared = λ e. sym (cond-false (nat_lt e 0) (cond (num c.args.w.now e == 0) 0 1) (num c.args.w.now e) (le-ltb e 0 zero-le));
}

pub cell_at-requires : goal.cell_at-requires
cell_at-requires g c = lt_of_lt_of_le c.loop-k-test.true (le_of_eq (sym c.loop-k.invariant.long))

pub put_cell-requires-clause-inside : goal.put_cell-requires-clause-inside
put_cell-requires-clause-inside g c = lt_of_lt_of_le c.loop-k-test.true (le_of_eq (sym c.loop-k.invariant.long))

pub put_cell-requires-clause-fits : goal.put_cell-requires-clause-fits
put_cell-requires-clause-fits g c = c.requires.some

pub loop-k-smaller : goal.loop-k-smaller
loop-k-smaller g c = falls (length c.args.w.now) c.loop-k.k c.loop-k-test.true

pub returns-clause-long : goal.returns-clause-long
returns-clause-long g c = c.loop-k.invariant.long

pub returns-clause-cleared : goal.returns-clause-cleared
returns-clause-cleared g c e =
    let w : List ℕ = c.args.w.now in let k : ℕ = c.loop-k.k in let was = c.loop-k.invariant.cleared e in
    elim (cases_lt e k) [
      | inl l ↦ was ∙ cond-true (nat_lt e k) (cond (num w e == 0) 0 1) (num w e) (lt-ltb e k l)
      | inr m ↦ (let past : num w e ≡ 0 = get_or_past w e 0 (le_trans c.loop-k-test.false m) in
          was ∙ cond-false (nat_lt e k) (cond (num w e == 0) 0 1) (num w e) (le-ltb e k m) ∙ past
          ∙ sym (ap (λ v. cond (v == 0) 0 1) past))
    ]
