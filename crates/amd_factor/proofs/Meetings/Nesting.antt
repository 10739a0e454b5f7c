-- Ranks in postorder: the subtree of a place takes the ranks up to its own, without a gap.
use Rattle.std.proofs.Common.{ℕ, zero, suc, ◌≡◌, ◌≢◌, ◌<◌, ◌≤◌, ◌+◌, ◌-◌, inl, inr, refl, sym, ap, subst, arith, List, length}
use Rattle.std.specs.Prelude.{slice_index}
use Rattle.std.proofs.lemmas.Bool.{cases_eq, cases_lt}
use Rattle.amd_count_laws.specs.Rising.{GoesUp, under}
use Rattle.amd_count_laws.proofs.Under.{under-same}
use Rattle.amd_factor.specs.Ranks.{Above, itself, step, Measured, Ranked}
use Rattle.amd_factor.proofs.Meetings.Ranking.{under-more}

pub above-trans : (up : List ℕ) {x y z : ℕ} → Above up x y → Above up y z → Above up x z
above-trans up itself b = b
above-trans up (step l a) b = step l (above-trans up a b)

-- the next place up stands under what stands over a place
pub above-up : (up : List ℕ) {x q : ℕ} → Above up x q → x ≢ q → Above up (slice_index up x) q
above-up up itself ne = absurd (ne refl)
above-up up (step l a) ne = a

-- the last place on the way
pub child : (up : List ℕ) {x p : ℕ} → Above up x p → x ≢ p → (c : ℕ) × (c < length up) × Above up x c × (slice_index up c ≡ p)
child up itself ne = absurd (ne refl)
child up {x} {p} (step l a) ne = elim (cases_eq (slice_index up x) p) [
  | inl e ↦ (x, l, itself, e)
  | inr other ↦ (let r = child up a other in (r.0, r.1, step l r.2, r.3))
]

module _ (up : List ℕ) (goes : GoesUp up) where
  pub above-most : {x q : ℕ} → Above up x q → x ≤ q
  above-most itself = omega arith
  above-most {x} (step l a) = let r = above-most a in let h = goes.rises x l in omega (arith, r, h)

  -- the number of places stands over each
  above-top-by : (fuel x : ℕ) → length up - x ≤ fuel → x ≤ length up → Above up x (length up)
  above-top-by zero x f l = subst (λ y. Above up y (length up)) (let e : length up ≡ x = omega (arith, f, l) in e) itself
  above-top-by (suc fuel) x f l = elim (cases_lt x (length up)) [
    | inl low ↦ (let h = goes.rises x low in let m = goes.most x low in step low (above-top-by fuel (slice_index up x) (omega
        (arith, f, h)) m))
    | inr high ↦ subst (λ y. Above up y (length up)) (let e : length up ≡ x = omega (arith, high, l) in e) itself
  ]

  pub above-top : (x : ℕ) → x ≤ length up → Above up x (length up)
  above-top x l = above-top-by (length up - x) x (omega arith) l

  -- two that stand over one stand over each other
  pub above-linear : {x y z : ℕ} → Above up x y → Above up x z → y ≤ z → Above up y z
  above-linear itself b m = b
  above-linear {x} {y} {z} (step l a) b m =
      let r = above-most a in let h = goes.rises x l in
      above-linear a (above-up up b (λ e. omega (arith, e, r, h, m))) m

  module _ (size rank : List ℕ) (measured : Measured up size) (ranked : Ranked up size rank) where
    pub size-positive : (k : ℕ) → k ≤ length up → 1 ≤ slice_index size k
    size-positive k l = let a = measured.each k l in omega (arith, a)

    pub size-top : (k : ℕ) → k < length up → slice_index rank k < slice_index rank (slice_index up k)
    size-top k l =
        let p = goes.most k l in let a = ranked.each k l in let b = measured.each (slice_index up k) p in
        let c = under-more up size (slice_index up k) (k + 1) (length up) (omega (arith, l)) in omega (arith, a, b, c)

    pub size-low : (k : ℕ) → k < length up → slice_index rank (slice_index up k) + slice_index size k ≤ slice_index rank k
        + slice_index size (slice_index up k)
    size-low k l = let a = ranked.each k l in let b = under-same up size (slice_index up k) k refl in omega (arith, a, b)

    apart : (c d : ℕ) → c < d → d < length up → slice_index up c ≡ slice_index up d →
        slice_index rank c + slice_index size d ≤ slice_index rank d
    apart c d l m e =
        let a = subst (λ p. slice_index rank c + 1 + slice_index size p ≡ slice_index rank p + 1 + under up size p (c + 1)) e
        (ranked.each c (omega (arith, l, m))) in
        let b = ranked.each d m in let s = under-same up size (slice_index up d) d refl in
        let t = under-more up size (slice_index up d) (c + 1) d (omega (arith, l)) in omega (arith, a, b, s, t)

    -- a subtree takes ranks of the subtrees that it stands in
    pub nest : {x q : ℕ} → Above up x q → (slice_index rank x ≤ slice_index rank q) ×
        (slice_index rank q + slice_index size x ≤ slice_index rank x + slice_index size q)
    nest itself = (omega arith, omega arith)
    nest {x} (step l a) = let r = nest a in let h = size-top x l in let m = size-low x l in let r0 = r.0 in let r1 = r.1 in
        (omega (arith, r0, h), omega (arith, r1, m))

    -- what has a rank of the subtree stands in it
    within-by : (fuel x q : ℕ) → length up - q ≤ fuel → q ≤ length up → x < length up → slice_index rank x ≤ slice_index rank q →
        slice_index rank q < slice_index rank x + slice_index size q → Above up x q
    within-by zero x q f l m high low =
        subst (λ y. Above up x y) (let e : length up ≡ q = omega (arith, f, l) in e) (above-top x (omega (arith, m)))
    within-by (suc fuel) x q f l m high low = elim (cases_lt q (length up)) [
      | inr top ↦ subst (λ y. Above up x y) (let e : length up ≡ q = omega (arith, top, l) in e) (above-top x (omega (arith, m)))
      | inl inner ↦ (
          let rises = goes.rises q inner in let most = goes.most q inner in
          let top = size-top q inner in let under-p = size-low q inner in
          let over : Above up x (slice_index up q) = within-by fuel x (slice_index up q) (omega (arith, f, rises)) most m
          (omega (arith, high, top)) (omega (arith, low, under-p)) in
          let c = child up over (λ e. let same : slice_index rank x ≡ slice_index rank (slice_index up q) = ap (slice_index rank) e in
          omega (arith, same, high, top)) in
          let n = nest c.2 in let n0 = n.0 in let n1 = n.1 in
          let one = size-positive x (omega (arith, m)) in
          elim (cases_eq c.0 q) [
            | inl e ↦ subst (λ y. Above up x y) e c.2
            | inr ne ↦ elim (cases_lt c.0 q) [
              | inl less ↦ absurd (let a = apart c.0 q less inner c.3 in omega (arith, a, n0, low))
              | inr more ↦ absurd (let a = apart q c.0 (omega (arith, more, ne)) c.1 (sym c.3) in omega (arith, a, n1, high, one))
            ]
          ])
    ]

    pub within : (x q : ℕ) → q ≤ length up → x < length up → slice_index rank x ≤ slice_index rank q →
        slice_index rank q < slice_index rank x + slice_index size q → Above up x q
    within x q l m high low = within-by (length up - q) x q (omega arith) l m high low

    -- ranks are below the number of places
    pub rank-low : (x : ℕ) → x < length up → slice_index rank x < length up
    rank-low x l =
        let a = size-top x l in let b = nest (above-top (slice_index up x) (goes.most x l)) in let b0 = b.0 in let t = ranked.top in
        omega (arith, a, b0, t)

    -- a subtree is no larger than its rank tells
    pub size-fits : (all : slice_index size (length up) ≡ length up + 1) → (x : ℕ) → x ≤ length up →
        slice_index size x ≤ slice_index rank x + 1
    size-fits all x l = let b = nest (above-top x l) in let b1 = b.1 in let t = ranked.top in omega (arith, b1, t, all)

    -- places of one rank are one
    pub rank-once : (x y : ℕ) → x < length up → y < length up → slice_index rank x ≡ slice_index rank y → x ≡ y
    rank-once x y l m e =
        let one = size-positive x (omega (arith, l)) in let two = size-positive y (omega (arith, m)) in
        let a = above-most (within x y (omega (arith, m)) l (omega (arith, e)) (omega (arith, e, two))) in
        let b = above-most (within y x (omega (arith, l)) m (omega (arith, e)) (omega (arith, e, one))) in omega (arith, a, b)
