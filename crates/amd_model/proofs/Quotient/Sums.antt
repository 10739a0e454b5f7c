-- Sums over lists of classes, as counts of rows.
use Rattle.std.proofs.Common.{ℕ, zero, suc, Bool, true, false, ◌≡◌, ◌<◌, ◌+◌, ◌&&◌, ◌||◌, not, cond, ◌⊎◌, inl, inr, refl, sym, ◌∙◌, ap}
use Rattle.std.proofs.Common.{arith, List, [], ◌∷◌}
use Rattle.std.specs.Prelude.{◌==◌, sum_by}
use Rattle.std.proofs.lemmas.Bool.{false≢true, or_left, or_right, eqb-true, eq-eqb, ne_eqb, cases_eq, cond-true, cond-false}
use Rattle.std.proofs.lemmas.List.Sums.{sum_by-cons}
use Rattle.std.proofs.Math.Bool.{and-false, and-true}
use Rattle.amd_model.specs.Below.{sum_below, count_below}
use Rattle.amd_model.specs.Graph.{Graph}
use Rattle.amd_model.specs.State.{State, Home, Last, Live, Gone, class_at, in_class}
use Rattle.amd_model.specs.Quotient.{has, Once}
use Rattle.amd_model.proofs.Counting.Below.{sum_plus, sum_same, count_same, count_split, clash, sum_zero}

-- the row is in a class of the list
unfoldable pub named : List ℕ → Home → Bool
named xs Last = false
named xs (Live d) = has xs d
named xs (Gone e) = false

pub sum_one : (n : ℕ) (f : ℕ → ℕ) (x : ℕ) → x < n → sum_below n (λ k. cond (x == k) (f k) 0) ≡ f x
unfolding sum_below
sum_one zero f x l = absurd (omega (arith, l))
sum_one (suc n) f x l = elim (cases_eq x n) [
  | inl q ↦ (let a = cond-true (x == n) (f n) 0 (eq-eqb x n q) in
      let b = sum_zero n (λ k. cond (x == k) (f k) 0) (λ k lk. cond-false (x == k) (f k) 0 (ne_eqb x k (λ e. omega (arith, lk, e, q)))) in
      let e = ap f q in omega (arith, a, b, e))
  | inr ne ↦ (let a = cond-false (x == n) (f n) 0 (ne_eqb x n ne) in let b = sum_one n f x (omega (arith, l, ne)) in omega (arith, a, b))
]

pub sum_over : (n : ℕ) (f : ℕ → ℕ) (xs : List ℕ) → Once xs → ((x : ℕ) → has xs x ≡ true → x < n) →
    sum_by f xs ≡ sum_below n (λ k. cond (has xs k) (f k) 0)
unfolding has
sum_over n f [] o small = sym (sum_zero n (λ k. 0) (λ k l. refl))
sum_over n f (x ∷ xs) o small =
    let here = sum_one n f x (small x (or_left (x == x) (has xs x) (eq-eqb x x refl))) in
    let there = sum_over n f xs o.1 (λ y h. small y (or_right (x == y) (has xs y) h)) in
    let both = sum_plus n (λ k. cond (x == k) (f k) 0) (λ k. cond (has xs k) (f k) 0) in
    let same = sum_same n (λ k. cond (x == k || has xs k) (f k) 0) (λ k. cond (x == k) (f k) 0 + cond (has xs k) (f k) 0)
    (λ k l. split (x == k) (has xs k) (f k)
    (λ a b. clash (ap (has xs) (eqb-true x k a) ∙ b) o.0)) in
    let c = sum_by-cons f x xs in omega (arith, here, there, both, same, c)
  where
    split : (a b : Bool) (m : ℕ) → (a ≡ true → b ≡ true → ⊥) → cond (a || b) m 0 ≡ cond a m 0 + cond b m 0
    split true true m h = absurd (h refl refl)
    split true false m h = omega arith
    split false true m h = omega arith
    split false false m h = omega arith

class_split : (x : ℕ) (xs : List ℕ) (h : Home) → has xs x ≡ false → ((named (x ∷ xs) h && class_at x h) ≡ class_at x h)
    × ((named (x ∷ xs) h && not (class_at x h)) ≡ named xs h)
unfolding named class_at has
class_split x xs Last f = (refl, refl)
class_split x xs (Gone e) f = (refl, refl)
class_split x xs (Live d) f = elim (cases_eq d x) [
  | inl q ↦ (let a : (d == x) ≡ true = eq-eqb d x q in let b : (x == d) ≡ true = eq-eqb x d (sym q) in
      let n : has xs d ≡ false = ap (has xs) q ∙ f in
      (rw (a, b) refl, rw (a, b, n) refl))
  | inr ne ↦ (let a : (d == x) ≡ false = ne_eqb d x ne in let b : (x == d) ≡ false = ne_eqb x d (λ e. ne (sym e)) in
      (rw (a, b) (and-false (has xs d)), rw (a, b) (and-true (has xs d))))
]

none_at : (h : Home) → named [] h ≡ false
unfolding named has
none_at Last = refl
none_at (Live d) = refl
none_at (Gone e) = refl

none_named : (g : Graph) (s : State) → count_below g.size (λ v. named [] (s.home v)) ≡ 0
unfolding count_below
none_named g s = sum_zero g.size (λ v. cond (named [] (s.home v)) 1 0) (λ v l. ap (λ b. cond b 1 0) (none_at (s.home v)))

-- the sizes of different classes add up to their rows
pub class_sum : (g : Graph) (s : State) (size : ℕ → ℕ) (xs : List ℕ) → Once xs →
    ((x : ℕ) → has xs x ≡ true → size x ≡ count_below g.size (in_class s x)) →
    sum_by size xs ≡ count_below g.size (λ v. named xs (s.home v))
unfolding has
class_sum g s size [] o f = sym (none_named g s)
class_sum g s size (x ∷ xs) o f =
    let here = f x (or_left (x == x) (has xs x) (eq-eqb x x refl)) in
    let there = class_sum g s size xs o.1 (λ y h. f y (or_right (x == y) (has xs y) h)) in
    let both = count_split g.size (λ v. named (x ∷ xs) (s.home v)) (in_class s x) in
    let one = count_same g.size (λ v. named (x ∷ xs) (s.home v) && in_class s x v) (in_class s x)
    (λ v l. (class_split x xs (s.home v) o.0).0) in
    let two = count_same g.size (λ v. named (x ∷ xs) (s.home v) && not (in_class s x v)) (λ v. named xs (s.home v))
    (λ v l. (class_split x xs (s.home v) o.0).1) in
    let c = sum_by-cons size x xs in omega (arith, here, there, both, one, two, c)

pub named_gives : (xs : List ℕ) (h : Home) → named xs h ≡ true → (d : ℕ) × (h ≡ Live d) × (has xs d ≡ true)
unfolding named
named_gives xs Last e = absurd (false≢true e)
named_gives xs (Live d) e = (d, refl, e)
named_gives xs (Gone f) e = absurd (false≢true e)

pub named_from : (xs : List ℕ) (h : Home) (d : ℕ) → h ≡ Live d → has xs d ≡ true → named xs h ≡ true
unfolding named
named_from xs h d q k = ap (named xs) q ∙ k

pub home_cases : (h : Home) → (h ≡ Last) ⊎ ((d : ℕ) × (h ≡ Live d)) ⊎ ((e : ℕ) × (h ≡ Gone e))
home_cases Last = inl refl
home_cases (Live d) = inr (inl (d, refl))
home_cases (Gone e) = inr (inr (e, refl))
