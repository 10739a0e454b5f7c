-- Runs of places: their numbers, where each begins, and the supernodes that the counts of a factor tell.
use Rattle.std.proofs.Common.{ℕ, zero, suc, ◌≡◌, ◌≢◌, ◌<◌, ◌≤◌, ◌+◌, ◌-◌, inl, inr, refl, sym, ◌∙◌, ap, subst, arith}
use Rattle.std.proofs.Common.{List, length, set}
use Rattle.std.specs.Prelude.{slice_index}
use Rattle.std.proofs.lemmas.Bool.{cases_eq, cases_lt}
use Rattle.std.proofs.lemmas.List.{get_or-set_same, get_or-set_other}
use Rattle.amd_factor.specs.Partitions.{AreNumbered, AreSame, NumbersNext, Own}
use Rattle.amd_factor.specs.Supernodes.{AreRuns}

module _ (joined : ℕ → Type 0) (n : ℕ) (owner : List ℕ) (count : ℕ) (h : AreNumbered joined n owner count) where
  up-one : (k : ℕ) → k + 1 < n → (slice_index owner k ≤ slice_index owner (k + 1)) × (slice_index owner (k + 1) ≤ slice_index owner k + 1)
  up-one k l = elim (h.step k l) [
    | inl r ↦ (let e = r.1 in (omega (arith, e), omega (arith, e)))
    | inr r ↦ (let e = r.1 in (omega (arith, e), omega (arith, e)))
  ]

  up-by : (d k : ℕ) → k + d < n → slice_index owner k ≤ slice_index owner (k + d)
  up-by zero k l = let e : k + 0 ≡ k = omega arith in rw e (omega arith)
  up-by (suc d) k l =
      let e : k + suc d ≡ k + d + 1 = omega arith in
      let r = up-by d k (omega (arith, l)) in let s = (up-one (k + d) (omega (arith, l))).0 in rw e (omega (arith, r, s))

  pub number-up : (i k : ℕ) → i ≤ k → k < n → slice_index owner i ≤ slice_index owner k
  number-up i k le l = let e : i + (k - i) ≡ k = omega (arith, le) in
      subst (λ m. slice_index owner i ≤ slice_index owner m) e (up-by (k - i) i (omega (arith, le, l)))

  pub number-below : (k : ℕ) → k < n → slice_index owner k < count
  number-below k l =
      let u = number-up k (n - 1) (omega (arith, l)) (omega (arith, l)) in let e = h.end (n - 1) (omega (arith, l)) in omega (arith, u, e)

  number-low : (k : ℕ) → k < n → slice_index owner k ≤ k
  number-low zero l = let b = h.begin (omega (arith, l)) in omega (arith, b)
  number-low (suc k) l =
      let e : suc k ≡ k + 1 = omega arith in let r = number-low k (omega (arith, l)) in
      let u = (up-one k (omega (arith, l))).1 in rw e (omega (arith, r, u))

  pub count-most : count ≤ n
  count-most = elim (cases_eq n 0) [
    | inl z ↦ (let e = h.none z in omega (arith, e))
    | inr ne ↦ (let e = h.end (n - 1) (omega (arith, ne)) in let r = number-low (n - 1) (omega (arith, ne)) in omega (arith, e, r, ne))
  ]

  pub same-numbered : AreNumbered (AreSame owner) (length owner) owner count
  same-numbered = let r = h.room in record {
    room = refl;
    begin = λ l. h.begin (omega (arith, l, r));
    step = λ k l. elim (h.step k (omega (arith, l, r))) [
      | inl s ↦ inl ((l, s.1), s.1)
      | inr s ↦ inr ((λ e. let a = e.1 in let b = s.1 in omega (arith, a, b)), s.1)
    ];
    none = λ e. h.none (omega (arith, e, r));
    end = λ k e. h.end k (omega (arith, e, r));
  }

-- the first k places are in their runs
pub record Begun (owner : List ℕ) (k : ℕ) (first : List ℕ) : Type 0 where
  pub begin : slice_index first 0 ≡ 0
  pub low : (i : ℕ) → i < k → slice_index first (slice_index owner i) ≤ i
  pub high : (i : ℕ) → i < k → i < slice_index first (slice_index owner i + 1)
  pub last : (i : ℕ) → i + 1 ≡ k → slice_index first (slice_index owner i + 1) ≡ k
  pub rises : (i s : ℕ) → i < k → s ≤ slice_index owner i → slice_index first s < slice_index first (s + 1)

module _ (joined : ℕ → Type 0) (n : ℕ) (owner : List ℕ) (count : ℕ) (h : AreNumbered joined n owner count) (k : ℕ) (first : List ℕ)
    (b : Begun owner k first) (l : k < n) (room : length first ≡ count + 1) where
  pub first-in : slice_index owner k + 1 < length first
  first-in = let a = number-below joined n owner count h k l in omega (arith, a, room)

  abbrev first' : List ℕ
  first' = set first (slice_index owner k + 1) (k + 1)

  here : slice_index first' (slice_index owner k + 1) ≡ k + 1
  here = get_or-set_same first (slice_index owner k + 1) (k + 1) 0 first-in

  there : (s : ℕ) → s ≢ slice_index owner k + 1 → slice_index first' s ≡ slice_index first s
  there s ne = get_or-set_other first (slice_index owner k + 1) s (k + 1) 0 ne

  -- the run of place k begins there, or before it
  starts : slice_index first (slice_index owner k) ≤ k
  starts = elim (cases_eq k 0) [
    | inl z ↦ (
        let a : slice_index owner k ≡ 0 = ap (slice_index owner) z ∙ h.begin (omega (arith, l)) in
        let e : slice_index first (slice_index owner k) ≡ 0 = ap (slice_index first) a ∙ b.begin in omega (arith, e))
    | inr ne ↦ (
        let e : k - 1 + 1 ≡ k = omega (arith, ne) in
        elim (subst (λ m. NumbersNext joined (k - 1) (slice_index owner (k - 1)) (slice_index owner m)) e (h.step (k - 1)
        (omega (arith, l, ne)))) [
          | inl r ↦ (
              let q : slice_index first (slice_index owner k) ≡ slice_index first (slice_index owner (k - 1)) = ap (slice_index first)
              r.1 in
              let a = b.low (k - 1) (omega (arith, ne)) in omega (arith, q, a))
          | inr r ↦ (
              let q : slice_index first (slice_index owner k) ≡ slice_index first (slice_index owner (k - 1) + 1) =
              ap (slice_index first) r.1 in
              let a = b.last (k - 1) e in omega (arith, q, a))
        ])
  ]

  pub begun-next : Begun owner (k + 1) (set first (slice_index owner k + 1) (k + 1))
  begun-next = let s0 = starts in record {
    begin = there 0 (λ e. omega (arith, e)) ∙ b.begin;
    low = λ i li. elim (cases_eq i k) [
      | inl q ↦ (
          let e : slice_index first' (slice_index owner i) ≡ slice_index first (slice_index owner k) =
          ap (λ m. slice_index first' (slice_index owner m)) q ∙ there (slice_index owner k) (λ z. omega (arith, z)) in
          omega (arith, e, s0, q))
      | inr ne ↦ (
          let u = number-up joined n owner count h i k (omega (arith, li)) l in
          let e = there (slice_index owner i) (λ z. omega (arith, z, u)) in
          let r = b.low i (omega (arith, li, ne)) in omega (arith, e, r))
    ];
    high = λ i li. elim (cases_eq (slice_index owner i) (slice_index owner k)) [
      | inl q ↦ (let e : slice_index first' (slice_index owner i + 1) ≡ k + 1 = ap (λ m. slice_index first' (m + 1)) q ∙ here in
          omega (arith, e, li))
      | inr ne ↦ (
          let e = there (slice_index owner i + 1) (λ z. ne (omega (arith, z))) in
          let r = b.high i (elim (cases_eq i k) [
            | inl same ↦ absurd (ne (ap (slice_index owner) same))
            | inr other ↦ omega (arith, li, other)
          ]) in omega (arith, e, r))
    ];
    last = λ i is. (let q : i ≡ k = omega (arith, is) in ap (λ m. slice_index first' (slice_index owner m + 1)) q ∙ here);
    rises = λ i s li low. elim (cases_eq s (slice_index owner k)) [
      | inl q ↦ (
          let a : slice_index first' s ≡ slice_index first (slice_index owner k) =
          ap (slice_index first') q ∙ there (slice_index owner k) (λ z. omega (arith, z)) in
          let e : slice_index first' (s + 1) ≡ k + 1 = ap (λ m. slice_index first' (m + 1)) q ∙ here in omega (arith, a, e, s0))
      | inr ne ↦ (
          let u = number-up joined n owner count h i k (omega (arith, li)) l in
          let some : k ≢ 0 = (λ z. let a : slice_index owner k ≡ 0 = ap (slice_index owner) z ∙ h.begin (omega (arith, l)) in
          omega (arith, a, u, low, ne)) in
          let e : k - 1 + 1 ≡ k = omega (arith, some) in
          let t : slice_index owner k ≤ slice_index owner (k - 1) + 1 = subst (λ m. slice_index owner m ≤ slice_index owner (k - 1) + 1) e
          (up-one joined n owner count h (k - 1) (omega (arith, l, some))).1 in
          let r = b.rises (k - 1) s (omega (arith, some)) (omega (arith, t, u, low, ne)) in
          let a = there s (λ z. omega (arith, z, u, low)) in let c = there (s + 1) (λ z. ne (omega (arith, z))) in omega (arith, r, a, c))
    ];
  }

-- the beginnings of runs rise
module _ (first : List ℕ) (rises : (s : ℕ) → s + 1 < length first → slice_index first s < slice_index first (s + 1)) where
  first-by : (d s : ℕ) → s + d < length first → slice_index first s ≤ slice_index first (s + d)
  first-by zero s l = let e : s + 0 ≡ s = omega arith in rw e (omega arith)
  first-by (suc d) s l =
      let e : s + suc d ≡ s + d + 1 = omega arith in
      let r = first-by d s (omega (arith, l)) in let t = rises (s + d) (omega (arith, l)) in rw e (omega (arith, r, t))

  pub first-up : (s t : ℕ) → s ≤ t → t < length first → slice_index first s ≤ slice_index first t
  first-up s t le l = let e : s + (t - s) ≡ t = omega (arith, le) in
      subst (λ m. slice_index first s ≤ slice_index first m) e (first-by (t - s) s (omega (arith, le, l)))

  -- a place lies in one run
  pub owner-is : (owner : List ℕ) → Own first owner → (s k : ℕ) → s + 1 < length first → slice_index first s ≤ k →
      k < slice_index first (s + 1) → k < length owner → slice_index owner k ≡ s
  owner-is owner own s k l lo hi lk =
      let a = own.inside k lk in let b = own.low k lk in let c = own.high k lk in
      elim (cases_lt (slice_index owner k) s) [
        | inl less ↦ absurd (let u = first-up (slice_index owner k + 1) s (omega (arith, less)) (omega (arith, l)) in
            omega (arith, u, lo, c))
        | inr more ↦ elim (cases_eq (slice_index owner k) s) [
          | inl e ↦ e
          | inr ne ↦ absurd (let u = first-up (s + 1) (slice_index owner k) (omega (arith, more, ne)) (omega (arith, a)) in
              omega (arith, u, hi, b))
        ]
      ]

-- when all places are in their runs
module _ (joined : ℕ → Type 0) (n : ℕ) (owner : List ℕ) (count : ℕ) (h : AreNumbered joined n owner count) (first : List ℕ)
    (room : length first ≡ count + 1) (b : Begun owner n first) where
  all-rise : (s : ℕ) → s + 1 < length first → slice_index first s < slice_index first (s + 1)
  all-rise s l = elim (cases_eq n 0) [
    | inl z ↦ absurd (let e = h.none z in omega (arith, e, l, room))
    | inr ne ↦ (let e = h.end (n - 1) (omega (arith, ne)) in b.rises (n - 1) s (omega (arith, ne)) (omega (arith, e, l, room)))
  ]

  at-end : slice_index first (length first - 1) ≡ n
  at-end = elim (cases_eq n 0) [
    | inl z ↦ (let e = h.none z in let q : length first - 1 ≡ 0 = omega (arith, room, e) in ap (slice_index first) q ∙ b.begin ∙ sym z)
    | inr ne ↦ (
        let e = h.end (n - 1) (omega (arith, ne)) in
        let q : length first - 1 ≡ slice_index owner (n - 1) + 1 = omega (arith, room, e) in
        ap (slice_index first) q ∙ b.last (n - 1) (omega (arith, ne)))
  ]

  pub all-own : Own first owner
  all-own = let r = h.room in record {
    inside = λ k l. (let a = number-below joined n owner count h k (omega (arith, l, r)) in omega (arith, a, room));
    low = λ k l. b.low k (omega (arith, l, r));
    high = λ k l. b.high k (omega (arith, l, r));
  }

-- the runs of places of one number are those of joined places
module _ (joined : ℕ → Type 0) (n : ℕ) (owner : List ℕ) (count : ℕ) (h : AreNumbered joined n owner count)
    (most : (k : ℕ) → joined k → k + 1 < n) (first : List ℕ) (own : Own first owner) (some : 0 < length first)
    (begin : slice_index first 0 ≡ 0) (end : slice_index first (length first - 1) ≡ n)
    (rises : (s : ℕ) → s + 1 < length first → slice_index first s < slice_index first (s + 1)) where
  in-all : (s : ℕ) → s + 1 < length first → slice_index first (s + 1) ≤ n
  in-all s l = let u = first-up first rises (s + 1) (length first - 1) (omega (arith, l)) (omega (arith, some)) in omega (arith, u, end)

  pub runs-are : AreRuns joined n first
  runs-are = let r = h.room in record {
    some = some;
    begin = begin;
    end = end;
    rises = rises;
    runs = λ s k l lo hi. (
        let m = in-all s l in
        let a = owner-is first rises owner own s k l lo (omega (arith, hi)) (omega (arith, hi, m, r)) in
        let c = owner-is first rises owner own s (k + 1) l (omega (arith, lo)) hi (omega (arith, hi, m, r)) in
        elim (h.step k (omega (arith, hi, m))) [
          | inl t ↦ t.0
          | inr t ↦ absurd (let e = t.1 in omega (arith, a, c, e))
        ]);
    longest = λ s k l is j. (
        let less = most k j in
        let f = rises s l in
        let a = owner-is first rises owner own s k l (omega (arith, is, f)) (omega (arith, is)) (omega (arith, less, r)) in
        elim (h.step k less) [
          | inl t ↦ (
              let q : slice_index owner (k + 1) ≡ s = t.1 ∙ a in
              let c = own.high (k + 1) (omega (arith, less, r)) in
              let e : slice_index first (slice_index owner (k + 1) + 1) ≡ slice_index first (s + 1) = ap (λ m. slice_index first (m + 1))
              q in
              omega (arith, c, e, is))
          | inr t ↦ t.0 j
        ]);
  }

pub runs-same : (n : ℕ) (owner : List ℕ) (count : ℕ) → AreNumbered (AreSame owner) n owner count → (first : List ℕ) →
    length first ≡ count + 1 → Begun owner n first → AreRuns (AreSame owner) n first
runs-same n owner count h first room b =
    runs-are (AreSame owner) n owner count h (λ k j. let a = j.0 in let r = h.room in omega (arith, a, r)) first
    (all-own (AreSame owner) n owner count h first room b) (omega (arith, room)) b.begin
    (at-end (AreSame owner) n owner count h first room b) (all-rise (AreSame owner) n owner count h first room b)
