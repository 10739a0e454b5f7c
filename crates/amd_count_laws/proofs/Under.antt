-- The sizes of the places that go up to one place, place by place.
use Rattle.std.proofs.Common.{ℕ, zero, suc, ◌≡◌, ◌≢◌, ◌<◌, ◌≤◌, ◌+◌, ◌-◌, ◌==◌, cond, ◌∙◌, ap, arith, List, length}
use Rattle.std.specs.Prelude.{slice_index}
use Rattle.std.proofs.lemmas.Bool.{eq-eqb, ne_eqb}
use Rattle.amd_model.proofs.Counting.Below.{sum_same}
use Rattle.amd_count_laws.specs.Rising.{GoesUp, under}
use Rattle.amd_count_laws.proofs.Sums.{sum-next, sum-none}

pub under-none : (up size : List ℕ) (p : ℕ) → under up size p 0 ≡ 0
under-none up size p = sum-none (λ c. cond (slice_index up c == p) (slice_index size c) 0)

-- those that go up to p, with one more
pub under-same : (up size : List ℕ) (p k : ℕ) → slice_index up k ≡ p → under up size p (k + 1) ≡ slice_index size k + under up size p k
under-same up size p k e = sum-next (λ c. cond (slice_index up c == p) (slice_index size c) 0) k
    ∙ ap (λ b. cond b (slice_index size k) 0 + under up size p k) (eq-eqb (slice_index up k) p e)

pub under-other : (up size : List ℕ) (p k : ℕ) → slice_index up k ≢ p → under up size p (k + 1) ≡ under up size p k
under-other up size p k ne = sum-next (λ c. cond (slice_index up c == p) (slice_index size c) 0) k
    ∙ ap (λ b. cond b (slice_index size k) 0 + under up size p k) (ne_eqb (slice_index up k) p ne) ∙ omega arith

-- other sizes, the same below k
pub under-of : (up size size' : List ℕ) (p k : ℕ) → ((c : ℕ) → c < k → slice_index size' c ≡ slice_index size c) →
    under up size' p k ≡ under up size p k
under-of up size size' p k same = sum_same k (λ c. cond (slice_index up c == p) (slice_index size' c) 0)
    (λ c. cond (slice_index up c == p) (slice_index size c) 0) (λ c l. ap (λ x. cond (slice_index up c == p) x 0) (same c l))

-- all that go up to p stand before it
under-to : (up size : List ℕ) (p d : ℕ) → ((c : ℕ) → p ≤ c → c < p + d → slice_index up c ≢ p) → under up size p (p + d) ≡ under up size p p
under-to up size p zero none = ap (under up size p) (let e : p + 0 ≡ p = omega arith in e)
under-to up size p (suc d) none = ap (under up size p) (let e : p + suc d ≡ p + d + 1 = omega arith in e)
    ∙ under-other up size p (p + d) (none (p + d) (omega arith) (omega arith)) ∙ under-to up size p d (λ c l m. none c l (omega (arith, m)))

pub under-all : (up size : List ℕ) (p : ℕ) → GoesUp up → p ≤ length up → under up size p (length up) ≡ under up size p p
under-all up size p goes l =
    ap (under up size p) (let e : length up ≡ p + (length up - p) = omega (arith, l) in e) ∙
    under-to up size p (length up - p) (λ c a b e. let r = goes.rises c (omega (arith, l, b)) in omega (arith, r, e, a))
