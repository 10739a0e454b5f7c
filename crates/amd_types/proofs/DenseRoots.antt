-- The root of a threshold: the greatest number whose thousandfold has a square that is small enough.
use Rattle.std.proofs.Common.{ℕ, ◌≡◌, ◌+◌, ◌*◌, ◌/◌, ◌<◌, ◌≤◌, arith, inl, inr, max, min, suc, zero}
use Rattle.std.proofs.Math.Nat.{mul-le-mul_left, mul_comm}
use Rattle.std.proofs.lemmas.Bool.{cases_lt}
use Rattle.amd_model.specs.Input.Dense.{IsGreatest}

-- squares keep the order
square_le : (a b : ℕ) → a ≤ b → a * a ≤ b * b
square_le a b h =
    let one : a * a ≤ a * b = mul-le-mul_left a h in
    let two : b * a ≤ b * b = mul-le-mul_left b h in
    let same : a * b ≡ b * a = mul_comm a b in
    omega (arith, one, two, same)

-- the square of the thousandfold is at most so much
abbrev pub IsBelow : ℕ → ℕ → Type 0
IsBelow square e = (1000 * e) * (1000 * e) ≤ square

-- a whole root of the square, divided by 1000, is the greatest such number
pub root_is : (square r : ℕ) → r * r ≤ square → square < (r + 1) * (r + 1) → IsGreatest (IsBelow square) (r / 1000)
root_is square r below above =
    let d : ℕ = r / 1000 in
    let low : 1000 * d ≤ r = omega arith in
    record {
      has = let s = square_le (1000 * d) r low in omega (arith, s, below);
      most = λ e h. elim (cases_lt d e) [
        | inl more ↦ (let up : r + 1 ≤ 1000 * e = omega arith in let s = square_le (r + 1) (1000 * e) up in
            absurd (omega (arith, s, h, above)))
        | inr fits ↦ fits
      ];
    }

-- there is one for each square
pub some_root : (square : ℕ) → (d : ℕ) × IsGreatest (IsBelow square) d
some_root zero = (
  0,
  record {
    has = omega arith;
    most = λ e h. elim (cases_lt 0 e) [
      | inl more ↦ (let s = square_le 1 (1000 * e) (omega (arith, more)) in absurd (omega (arith, s, h)))
      | inr fits ↦ fits
    ];
  },
)
some_root (suc square) = let one = some_root square in let d = one.0 in
    elim (cases_lt (suc square) ((1000 * (d + 1)) * (1000 * (d + 1)))) [
      | inl passes ↦ (
        d,
        record {
          has = (let h = one.1.has in omega (arith, h));
          most = λ e h. elim (cases_lt d e) [
            | inl more ↦ (let s = square_le (1000 * (d + 1)) (1000 * e) (omega (arith, more)) in absurd (omega (arith, s, h, passes)))
            | inr fits ↦ fits
          ];
        },
      )
      | inr next ↦ (
        d + 1,
        record {
          has = next;
          most = λ e h. elim (cases_lt (d + 1) e) [
            | inl more ↦ (
                let s = square_le (1000 * (d + 1) + 1) (1000 * e) (omega (arith, more)) in
                let t = square_le (1000 * (d + 1)) (1000 * (d + 1) + 1) (omega arith) in
                absurd (let m = one.1.most (d + 1) in omega (arith, m (omega (arith, s, t, h)))))
            | inr fits ↦ fits
          ];
        },
      )
    ]

-- where there are few rows, the greatest such number is no less than their number
pub few_rows : (n dense d : ℕ) → 1000000 * n ≤ dense * dense → IsGreatest (IsBelow (dense * dense * n)) d → n ≡ min (max d 16) n
few_rows n dense d few root =
    let more : n * (1000000 * n) ≤ n * (dense * dense) = mul-le-mul_left n few in
    let same : n * (dense * dense) ≡ dense * dense * n = mul_comm n (dense * dense) in
    let low : n ≤ d = root.most n (omega (arith, more, same)) in
    grind (arith, low)
