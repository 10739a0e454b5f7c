-- Sums over lists of numbers of at most 32 bits: no word cuts them, and what is taken off each may be taken off at once.
use Rattle.std.proofs.Common.{ℕ, ℤ, Bool, true, List, [], ◌∷◌, ◌≡◌, ◌<◌, ◌≤◌, ◌+◌, ◌-◌, ◌*◌, ◌%◌, ◌^◌, ◌∙◌, refl, sym, ap, arith, zero-le}
use Rattle.std.proofs.Common.{length, filter, sum_by}
use Rattle.std.proofs.lemmas.Bool.{and_parts}
use Rattle.std.proofs.lemmas.List.Sums.{sum_by-cons}
use Rattle.amd_model.specs.Figures.{cut}
use Rattle.amd_model.specs.Quotient.{has}
use Rattle.amd_model.proofs.Listings.Words.{has_head, has_tail}
use Rattle.amd_model.proofs.Quotient.Lists.{has_filter}
use Rattle.amd_round_laws.proofs.Lists.Cuts.{cut_small}
use Rattle.amd_words.specs.Words.{rows}
use Rattle.amd_lists.specs.Renewal.{Filters}
use Rattle.amd_lists.specs.Spans.{span, sifted}
use Rattle.amd_words.proofs.RowLists.{rows_length}

-- a number below 2 ^ 64 is not cut
pub exact : (a : ℕ) → a < 2 ^ 64 → a ≡ cut a
exact a small = cut_small a (omega (arith, small))

-- what is left of a number of at most 32 bits has no more of them
pub less_fits : (a less most : ℕ) → a ≤ most → most < 2 ^ 32 → a - less < 2 ^ 32
less_fits a less most within small = omega (arith, within, small)

-- what is at most a bound of 32 bits has 32 bits, and so has a part of it
pub under_narrow : {a most bound : ℕ} → a ≤ most → bound ≡ most → bound ≤ 4294967295 → a < 2 ^ 32
under_narrow within is narrow = omega arith

pub part_narrow : {a most bound : ℕ} (off : ℕ) → a ≤ most → bound ≡ most → bound ≤ 4294967295 → a - off < 2 ^ 32
part_narrow off within is narrow = omega arith

-- so many numbers of 32 bits have a sum of 64 bits, whichever of them are summed already
pub rest_fits : {sum some all : ℕ} → sum ≤ 4294967295 * some → some ≤ all → all < 2 ^ 32 → sum + 4294967295 * (all - some) < 2 ^ 64
rest_fits so_far within few = omega arith

-- nothing more leaves a sum that wrapped
pub wraps_same : {sum more : ℕ} (all : ℕ) → more ≡ 0 → sum ≡ all % 2 ^ 64 → (sum + more) % 2 ^ 64 ≡ sum
wraps_same all none is = omega arith

-- nothing is left of nothing
pub none_less : {a : ℕ} (less : ℕ) → a ≡ 0 → a - less ≡ 0
none_less less none = omega arith

-- one number more than the first k
module _ (sum more k : ℕ) (so_far : sum ≤ 4294967295 * k) (small : more < 2 ^ 32) where
  pub sum_fits : (n : ℕ) → k < n → n < 2 ^ 32 → sum + more < 2 ^ 64
  sum_fits n within few = omega (arith, so_far, small, within, few)

  pub sum_grows : (total : ℕ) → total ≡ cut (sum + more) → total ≤ 4294967295 * (k + 1)
  unfolding cut
  sum_grows total is = omega (arith, so_far, small, is)

-- and the same on top of a first number
module _ (first sum more k : ℕ) (so_far : sum ≤ first + 4294967295 * k) (small : more < 2 ^ 32) where
  pub first_fits : (n : ℕ) → k < n → first + 4294967295 * n < 2 ^ 64 → sum + more < 2 ^ 64
  first_fits n within all = omega (arith, so_far, small, within, all)

  pub first_grows : (total : ℕ) → total ≡ cut (sum + more) → total ≤ first + 4294967295 * (k + 1)
  unfolding cut
  first_grows total is = omega (arith, so_far, small, is)

-- a number is taken off each number of a list
pub taken_off : (less : ℕ) (f : ℕ → ℕ) (xs : List ℕ) → ((x : ℕ) → has xs x ≡ true → less ≤ f x) →
    sum_by (λ x. f x - less) xs + less * length xs ≡ sum_by f xs
taken_off less f [] h = omega arith
taken_off less f (x ∷ xs) h = let here = h x (has_head x x xs refl) in
    let later = taken_off less f xs (λ y k. h y (has_tail y x xs k)) in
    let a = sum_by-cons (λ y. f y - less) x xs in let b = sum_by-cons f x xs in omega (arith, here, later, a, b)

-- nothing is taken off a number in the sum of a filtered list, which no word cuts: what is to be taken off each number
-- may be taken off the sum
module _ (less : ℕ) {off n from count to end total : ℕ} {pass : ℕ → Bool} {f : ℕ → ℕ} {iw iw' : List ℤ} (none : off ≡ 0)
    (h : Filters n pass (λ e. f e - off) 0 (span iw from count) to (sifted iw' end total))
    (small : total ≤ 4294967295 * count) (few : count < 2 ^ 32)
    (met : (e : ℕ) → has (rows iw from count) e ≡ true → pass e ≡ true → less ≤ f e) where
  abbrev kept : List ℕ
  kept = filter pass (rows iw from count)

  whole : total ≡ sum_by f kept
  unfolding cut
  whole = let is = h.sum_is in let all = ap (λ m. sum_by (λ e. f e - m) kept) none in
      let same = taken_off 0 f kept (λ e k. zero-le) in omega (arith, is, all, same, small, few)

  parts : sum_by (λ e. f e - less) kept + less * (end - to) ≡ total
  parts = ap (λ m. sum_by (λ e. f e - less) kept + less * m) (sym (rows_length iw' to (end - to)) ∙ ap length h.list)
      ∙ taken_off less f kept (λ e k. let both = and_parts (has (rows iw from count) e) (pass e)
      (sym (has_filter pass (rows iw from count) e) ∙ k) in met e both.0 both.1) ∙ sym whole

  pub off_fits : less * (end - to) < 2 ^ 64
  off_fits = omega (arith, parts, small, few)

  pub off_under : less * (end - to) ≤ total
  off_under = omega (arith, parts)

  pub off_filters : Filters n pass (λ e. f e - less) 0 (span iw from count) to (sifted iw' end (total - less * (end - to)))
  off_filters = let rest : total - less * (end - to) ≡ 0 + sum_by (λ e. f e - less) kept = omega (arith, parts) in record {
    long = h.long;
    low = h.low;
    high = h.high;
    list = h.list;
    names = h.names;
    below = h.below;
    above = h.above;
    sum_is = rest ∙ exact (0 + sum_by (λ e. f e - less) kept) (omega (arith, parts, small, few));
  }
