-- Keys are below the number of rows.
use Rattle.std.proofs.Common.{◌≡◌, ◌<◌, ◌-◌, ◌*◌, ◌%◌, ◌^◌, inl, inr, ℕ, List, suc, arith, ap, sum_by, sym, ◌∙◌}
use Rattle.std.specs.Int.{leading_zeros, w64}
use Rattle.std.proofs.Math.Nat.{div-le_self, div-lt_iff_lt-mul, mul_comm, pow-suc}
use Rattle.std.proofs.lemmas.Bool.{cases_lt}
use Rattle.std.proofs.lemmas.Nat.{and_le_r, leading_top, pow-add, pow_pos}
use Rattle.amd_lists.specs.Renewal.{key_mask, key_of}

-- a number of 64 bits is at least the power that its highest bit stands for
pub mask_small : (n : ℕ) → 0 < n → key_mask n < n
unfolding key_mask
mask_small n some = elim (cases_lt n (2 ^ 64)) [
  | inl small ↦ (let top = leading_top 64 n some small in let j = top.0 in let low = top.2 in
      let z = leading_zeros w64 n in let m = 2 ^ z in let half = 2 ^ j in
      let whole : 2 ^ 64 ≡ m * (half * 2) = ap (λ k. 2 ^ k) (sym top.1) ∙ pow-add 2 z (suc j) ∙ ap (λ x. m * x) (pow-suc 2 j) in
      let turned = mul_comm m (half * 2) in
      let cut = (div-lt_iff_lt-mul {k = m} {x = 2 ^ 64 - 1} {y = half * 2} (pow_pos z)).1 (omega (arith, whole, turned)) in
      omega (arith, cut, low))
  | inr large ↦ (let cut = div-le_self (2 ^ 64 - 1) (2 ^ leading_zeros w64 n) in omega (arith, cut, large))
]

pub key_small : (n : ℕ) (xs : List ℕ) → 0 < n → key_of n xs < n
key_small n xs some = let low = and_le_r (sum_by (λ j. j) xs % 2 ^ 64) (key_mask n) in let small = mask_small n some in
    omega (arith, low, small)
