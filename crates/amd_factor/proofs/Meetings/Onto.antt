-- Each number below the number of places is a rank.
use Rattle.std.proofs.Common.{ℕ, zero, suc, ◌≡◌, ◌<◌, ◌≤◌, ◌+◌, ◌-◌, inl, inr, sym, ◌∙◌, ap, subst, arith, List, length, set}
use Rattle.std.specs.Prelude.{slice_index}
use Rattle.std.proofs.lemmas.Bool.{cases_eq, cases_lt}
use Rattle.std.proofs.lemmas.List.{length-set, get_or-set_same, get_or-set_other}
use Rattle.amd_count_laws.specs.Rising.{GoesUp, under}
use Rattle.amd_count_laws.proofs.Sums.{sum-none}
use Rattle.amd_count_laws.proofs.Under.{under-same, under-other}
use Rattle.amd_factor.specs.Ranks.{Measured, Ranked}
use Rattle.amd_factor.specs.Meetings.{IsByRank, IsScene, Scene}
use Rattle.amd_factor.proofs.Meetings.Nesting.{rank-low, rank-once}

-- the subtree among those that go up to q, where d places stand before
find-child : (up size : List ℕ) (q d m : ℕ) → d < under up size q m →
    (c : ℕ) × (c < m) × (slice_index up c ≡ q) × (under up size q c ≤ d) × (d < under up size q c + slice_index size c)
find-child up size q d zero l = absurd (let e : under up size q 0 ≡ 0 = sum-none _ in omega (arith, e, l))
find-child up size q d (suc m) l =
    let next : suc m ≡ m + 1 = omega arith in
    let l' : d < under up size q (m + 1) = subst (λ x. d < under up size q x) next l in
    elim (cases_lt d (under up size q m)) [
      | inl low ↦ (let r = find-child up size q d m low in (r.0, (let a = r.1 in omega (arith, a)), r.2, r.3, r.4))
      | inr high ↦ elim (cases_eq (slice_index up m) q) [
        | inl e ↦ (m, omega arith, e, high, (let s = under-same up size q m e in omega (arith, s, l')))
        | inr ne ↦ absurd (let s = under-other up size q m ne in omega (arith, s, l', high))
      ]
    ]

module _ (up size rank : List ℕ) (goes : GoesUp up) (measured : Measured up size) (ranked : Ranked up size rank) where
  onto-by : (fuel q t : ℕ) → q < fuel → q ≤ length up → slice_index rank q < t + slice_index size q → t ≤ slice_index rank q →
      (x : ℕ) × (x ≤ length up) × (slice_index rank x ≡ t)
  onto-by zero q t f l low high = absurd (omega (arith, f))
  onto-by (suc fuel) q t f l low high = elim (cases_eq t (slice_index rank q)) [
    | inl e ↦ (q, l, sym e)
    | inr ne ↦ (
        let m = measured.each q l in
        let r = find-child up size q (t + slice_index size q - slice_index rank q - 1) (length up) (omega (arith, m, ne, low, high)) in
        let c = r.0 in let c-low = r.1 in let c-up = r.2 in let after = r.3 in let before = r.4 in
        let at = subst (λ p. slice_index rank c + 1 + slice_index size p ≡ slice_index rank p + 1 + under up size p (c + 1)) c-up
        (ranked.each c c-low) in
        let s = under-same up size q c c-up in
        let rises = subst (λ p. c < p) c-up (goes.rises c c-low) in
        onto-by fuel c t (omega (arith, rises, f)) (omega (arith, c-low)) (omega (arith, at, s, after, low, high, ne))
        (omega (arith, at, s, before, low, high, ne)))
  ]

  pub onto : slice_index size (length up) ≡ length up + 1 → (t : ℕ) → t < length up → (x : ℕ) × (x < length up) × (slice_index rank x ≡ t)
  onto all t l =
      let top = ranked.top in
      let r = onto-by (length up + 1) (length up) t (omega arith) (omega arith) (omega (arith, top, all)) (omega (arith, top, l)) in
      let x = r.0 in let most = r.1 in let is = r.2 in (
        x,
        elim (cases_eq x (length up)) [
          | inl e ↦ absurd (let a = ap (slice_index rank) e in omega (arith, a, top, is, l))
          | inr ne ↦ omega (arith, most, ne)
        ],
        is,
      )

-- the first k places stand at their ranks
pub record Placed (s : Scene) (k : ℕ) (order : List ℕ) : Type 0 where
  pub room : length order ≡ length s.up
  pub each : (x : ℕ) → x < k → slice_index order (slice_index s.rank x) ≡ x

module _ (s : Scene) (scene : IsScene s) where
  pub rank-inside : (x : ℕ) → x < length s.up → slice_index s.rank x < length s.up
  rank-inside x l = rank-low s.up scene.goes s.size s.rank scene.measured scene.ranked x l

  pub placed-next : (k : ℕ) (order : List ℕ) → k < length s.up → Placed s k order → Placed s (k + 1) (set order (slice_index s.rank k) k)
  placed-next k order l p = record {
    room = length-set order _ _ ∙ p.room;
    each = λ x m. elim (cases_eq x k) [
      | inl e ↦ subst (λ v. slice_index (set order (slice_index s.rank k) k) (slice_index s.rank v) ≡ v) (sym e)
          (get_or-set_same order (slice_index s.rank k) k 0 (let a = rank-inside k l in let r = p.room in omega (arith, a, r)))
      | inr ne ↦ get_or-set_other order (slice_index s.rank k) (slice_index s.rank x) k 0
          (λ e. ne (rank-once s.up scene.goes s.size s.rank scene.measured scene.ranked x k (omega (arith, l, m)) l e)) ∙
          p.each x (omega (arith, m, ne))
    ];
  }

  pub placed-all : (k : ℕ) (order : List ℕ) → length s.up ≤ k → Placed s k order → IsByRank s order
  placed-all k order all p = record {
    room = p.room;
    each = λ t l. (let r = onto s.up s.size s.rank scene.goes scene.measured scene.ranked scene.all t l in
        let x = r.0 in let low = r.1 in let is = r.2 in
        let at : slice_index order t ≡ x = ap (slice_index order) (sym is) ∙ p.each x (omega (arith, low, all)) in
        ((let b = low in omega (arith, at, b)), ap (slice_index s.rank) at ∙ is));
  }
