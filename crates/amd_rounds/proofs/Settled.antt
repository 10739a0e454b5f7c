-- Counters of a front after the count: how great they are, and which are 0.
use Rattle.std.proofs.Common.{ℕ, Bool, true, false, ◌≡◌, ◌<◌, ◌≤◌, ◌+◌, ◌-◌, ◌||◌, inl, inr, refl, sym, ap, ◌∙◌, arith}
use Rattle.std.specs.Prelude.{◌==◌}
use Rattle.std.proofs.lemmas.Bool.{cases_Bool, cases_eq, eq-eqb, ne_eqb, eqb-true, cond-true, cond-false, and_parts}
use Rattle.amd_fronts.specs.Counts.{counter, settled, ends}

counter_under : (flag x all seen most : ℕ) → x < flag → (0 < x → 0 < seen → (seen ≤ all) × (all ≤ most)) →
    counter flag x all seen < flag + most
counter_under flag x all seen most under few = elim (cases_eq x 0) [
  | inl z ↦ rw z (omega (arith, under, z))
  | inr nz ↦ elim (cases_eq seen 0) [
    | inl q ↦ grind arith
    | inr nq ↦ (let p = few (omega (arith, nz)) (omega (arith, nq)) in let a = p.0 in let b = p.1 in grind arith)
  ]
]

-- counters after the count stay below the flag and the greatest border together
pub settled_under : (aggressive : Bool) (flag x all seen most : ℕ) → 2 ≤ flag → x < flag →
    (0 < x → 0 < seen → (seen ≤ all) × (all ≤ most)) →
    settled aggressive flag (counter flag x all seen) < flag + most
settled_under aggressive flag x all seen most two under few = let y : ℕ = counter flag x all seen in elim
    (cases_Bool (ends aggressive flag y)) [
      | inl h ↦ (let a = cond-true (ends aggressive flag y) 0 y h in omega (arith, a, two))
      | inr h ↦ (let a = cond-false (ends aggressive flag y) 0 y h in
          let b = counter_under flag x all seen most under few in omega (arith, a, b))
    ]

-- an element that ended has as little beyond the front as its counter says
pub settled_beyond : (aggressive : Bool) (flag x : ℕ) → settled aggressive flag x - flag ≡ x - flag
settled_beyond aggressive flag x = elim (cases_Bool (ends aggressive flag x)) [
  | inl h ↦ (let a = cond-true (ends aggressive flag x) 0 x h in
      let b = eqb-true x flag (and_parts aggressive (x == flag) h).1 in omega (arith, a, b))
  | inr h ↦ ap (λ m. m - flag) (cond-false (ends aggressive flag x) 0 x h)
]

-- a counter is 0 after the count exactly if it was, or if the element ended
pub settled_zero : (aggressive : Bool) (flag x all seen : ℕ) → 2 ≤ flag → x < flag → seen ≤ all →
    (settled aggressive flag (counter flag x all seen) == 0) ≡ (x == 0 || ends aggressive flag (counter flag x all seen))
settled_zero aggressive flag x all seen two under part = let y : ℕ = counter flag x all seen in elim
    (cases_Bool (ends aggressive flag y)) [
      | inl h ↦ eq-eqb (settled aggressive flag y) 0 (cond-true (ends aggressive flag y) 0 y h)
          ∙ sym (ap (λ b. x == 0 || b) h ∙ or_true (x == 0))
      | inr h ↦ ap (λ m. m == 0) (cond-false (ends aggressive flag y) 0 y h)
          ∙ counter_zero flag x all seen two part ∙ sym (ap (λ b. x == 0 || b) h ∙ or_false (x == 0))
    ]
  where
    or_true : (b : Bool) → (b || true) ≡ true
    or_true true = refl
    or_true false = refl

    or_false : (b : Bool) → (b || false) ≡ b
    or_false true = refl
    or_false false = refl

    counter_zero : (flag x all seen : ℕ) → 2 ≤ flag → seen ≤ all → (counter flag x all seen == 0) ≡ (x == 0)
    counter_zero flag x all seen two part = elim (cases_eq x 0) [
      | inl z ↦ eq-eqb (counter flag x all seen) 0 (grind arith) ∙ sym (eq-eqb x 0 z)
      | inr nz ↦ ne_eqb (counter flag x all seen) 0 (λ e. grind arith) ∙ sym (ne_eqb x 0 nz)
    ]
