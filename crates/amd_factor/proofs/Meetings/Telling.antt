-- The counts by the sums up to each rank.
use Rattle.std.proofs.Common.{ℕ, ◌≡◌, ◌<◌, ◌≤◌, ◌+◌, ◌-◌, sym, ◌∙◌, ap, subst, arith, List, length}
use Rattle.std.specs.Prelude.{slice_index}
use Rattle.amd_factor.specs.Meetings.{IsScene, CountsTargets, Met, Scene, Taken, low_of, sum_before, sum_to}
use Rattle.amd_factor.proofs.Meetings.Nesting.{rank-low}
use Rattle.amd_factor.proofs.Meetings.Ranking.{sum-more}
use Rattle.amd_factor.proofs.Meetings.Rounds.{sums-before}

module _ (s : Scene) (scene : IsScene s) (size' rank' : List ℕ) (sizes : size' ≡ s.size) (ranks : rank' ≡ s.rank) (k : ℕ)
    (low : k < length s.up) where
  -- what is said of the ranks and sizes of the tree, is said of equal lists
  pub by-lists : (P : List ℕ → List ℕ → Type 0) → P s.size s.rank → P size' rank'
  by-lists P h = subst (λ v. P size' v) (sym ranks) (subst (λ v. P v s.rank) (sym sizes) h)

  module _ (xs sums : List ℕ) (long : length xs ≡ length s.up + 1) (same : length sums ≡ length xs)
      (each : (m : ℕ) → m < length xs → slice_index sums m ≡ sum_to xs (m + 1)) where
    last-low : slice_index s.rank k < length xs
    last-low = let a = rank-low s.up scene.goes s.size s.rank scene.measured scene.ranked k low in omega (arith, a, long)

    pub last-in : slice_index rank' k < length sums
    last-in = let a = last-low in let e = ap (λ v. slice_index v k) ranks in omega (arith, a, e, same)

    pub high-is : slice_index sums (slice_index rank' k) ≡ sum_to xs (slice_index s.rank k + 1)
    high-is = ap (slice_index sums) (ap (λ v. slice_index v k) ranks) ∙ each (slice_index s.rank k) last-low

    pub low-is : sum_before sums (slice_index rank' k + 1 - slice_index size' k) ≡ sum_to xs (low_of s k)
    low-is = by-lists (λ z r. sum_before sums (slice_index r k + 1 - slice_index z k) ≡ sum_to xs (low_of s k))
        (sums-before sums xs each (low_of s k) (let a = last-low in omega (arith, a)))

    pub rises : sum_before sums (slice_index rank' k + 1 - slice_index size' k) ≤ slice_index sums (slice_index rank' k)
    rises = let a = high-is in let b = low-is in
        let m = sum-more (low_of s k) (slice_index s.rank k + 1) (λ r. slice_index xs r) (omega arith) in omega (arith, a, b, m)

  -- what was added is what was taken and the count
  module _ (last plus minus plus' minus' : List ℕ) (met : Met s (Taken s (length s.up)) last plus minus)
      (plus-same : length plus' ≡ length plus) (minus-same : length minus' ≡ length minus)
      (plus-each : (m : ℕ) → m < length plus → slice_index plus' m ≡ sum_to plus (m + 1))
      (minus-each : (m : ℕ) → m < length minus → slice_index minus' m ≡ sum_to minus (m + 1)) (added taken : ℕ)
      (added-is : added + sum_before plus' (slice_index rank' k + 1 - slice_index size' k) ≡ slice_index plus' (slice_index rank' k))
      (taken-is : taken + sum_before minus' (slice_index rank' k + 1 - slice_index size' k) ≡ slice_index minus'
      (slice_index rank' k)) where
    pub added-more : added ≡ taken + (met.columns k low).0
    added-more =
        let a = high-is plus plus' met.plus_room plus-same plus-each in let b = low-is plus plus' met.plus_room plus-same plus-each in
        let c = high-is minus minus' met.minus_room minus-same minus-each in
        let d = low-is minus minus' met.minus_room minus-same minus-each in
        let e = (met.columns k low).2 in omega (arith, a, b, c, d, e, added-is, taken-is)

    pub counted : CountsTargets s (Taken s (length s.up)) k (added - taken)
    counted = subst (CountsTargets s (Taken s (length s.up)) k) (let a = added-more in let e : (met.columns k low).0 ≡ added - taken = omega
        (arith, a)
        in e) (met.columns k low).1
