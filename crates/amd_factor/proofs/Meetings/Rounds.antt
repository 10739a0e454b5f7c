-- The arcs of all places, in the order of their ranks.
use Rattle.std.proofs.Common.{ℕ, zero, suc, true, false, ◌≡◌, ◌≢◌, ◌<◌, ◌≤◌, ◌+◌, ◌-◌, cond, inl, inr, sym, ◌∙◌, ap, subst}
use Rattle.std.proofs.Common.{arith, List, length}
use Rattle.std.specs.Prelude.{slice_index, slice_range, nat_lt, replicate}
use Rattle.std.proofs.lemmas.List.Edits.{length-between}
use Rattle.std.proofs.lemmas.Bool.{cases_lt, lt-ltb, le-ltb}
use Rattle.std.proofs.lemmas.List.{get_or-replicate, length-replicate}
use Rattle.amd_model.specs.Below.{sum_below}
use Rattle.amd_model.proofs.Counting.Below.{count_none, sum_at, sum_same, sum_zero}
use Rattle.amd_count_laws.specs.Parts.{part_size}
use Rattle.amd_count_laws.proofs.Sums.{sum-none}
use Rattle.amd_factor.specs.Meetings.{IsScene, Met, Scene, Taken, sum_before, sum_to}
use Rattle.amd_factor.specs.Neighbours.{HasLater}
use Rattle.amd_factor.proofs.Meetings.Nesting.{rank-once}

-- the lengths of the lists of the places whose ranks are not below t
abbrev pub remaining : Scene → List ℕ → ℕ → ℕ
remaining s starts t = sum_below (length s.up) (λ j. cond (nat_lt (slice_index s.rank j) t) 0 (part_size starts j))

module _ (s : Scene) (scene : IsScene s) (starts later : List ℕ) (has : HasLater s.order starts later) where
  lists-sum : (m : ℕ) → m ≤ length s.up → sum_below m (part_size starts) + slice_index starts 0 ≡ slice_index starts m
  unfolding sum_below
  lists-sum zero l = omega arith
  lists-sum (suc m) l =
      let r = lists-sum m (omega (arith, l)) in let places = scene.places in
      let a = has.ascending m (omega (arith, l, places)) in
      let b : slice_index starts (m + 1) ≡ slice_index starts (suc m) = ap (slice_index starts) (let e : m + 1 ≡ suc m = omega arith in
      e) in
      omega (arith, r, a, b)

  last-start : (m : ℕ) → m + 1 ≡ length s.up → slice_index starts (length s.up) ≤ length later
  last-start m e = let places = scene.places in subst (λ v. slice_index starts v ≤ length later) e (has.within m (omega (arith, e, places)))

  pub remaining-first : remaining s starts 0 ≤ length later
  remaining-first =
      let e = sum_same (length s.up) (λ j. cond (nat_lt (slice_index s.rank j) 0) 0 (part_size starts j)) (part_size starts)
      (λ j l. ap (λ b. cond b 0 (part_size starts j)) (le-ltb (slice_index s.rank j) 0 (omega arith))) in
      let a = lists-sum (length s.up) (omega arith) in
      elim (cases_lt 0 (length s.up)) [
        | inl l ↦ (let b = last-start (length s.up - 1) (omega (arith, l)) in omega (arith, e, a, b))
        | inr none ↦ (let z : remaining s starts 0 ≡ 0 = sum-nothing (length s.up) _ none in omega (arith, z))
      ]
    where
      sum-nothing : (n : ℕ) (f : ℕ → ℕ) → n ≤ 0 → sum_below n f ≡ 0
      sum-nothing n f l = sum_zero n f (λ k h. absurd (omega (arith, h, l)))

  pub list-long : (j : ℕ) → j < length s.up → length (slice_range later (slice_index starts j) (slice_index starts (j + 1))) ≡
      part_size starts j
  list-long j l = length-between later (slice_index starts j) (slice_index starts (j + 1))
      (let places = scene.places in has.within j (omega (arith, l, places)))

  module _ (t j : ℕ) (low : j < length s.up) (here : slice_index s.rank j ≡ t) where
    at-j : cond (nat_lt (slice_index s.rank j) t) 0 (part_size starts j) ≡ part_size starts j
    at-j = ap (λ b. cond b 0 (part_size starts j)) (le-ltb (slice_index s.rank j) t (omega (arith, here)))

    at-j' : cond (nat_lt (slice_index s.rank j) (t + 1)) 0 (part_size starts j) ≡ 0
    at-j' = ap (λ b. cond b 0 (part_size starts j)) (lt-ltb (slice_index s.rank j) (t + 1) (omega (arith, here)))

    elsewhere : (x : ℕ) → x < length s.up → x ≢ j → cond (nat_lt (slice_index s.rank x) (t + 1)) 0 (part_size starts x) ≡
        cond (nat_lt (slice_index s.rank x) t) 0 (part_size starts x)
    elsewhere x l ne = ap (λ b. cond b 0 (part_size starts x)) (elim (cases_lt (slice_index s.rank x) t) [
      | inl before ↦ lt-ltb (slice_index s.rank x) (t + 1) (omega (arith, before)) ∙ sym (lt-ltb (slice_index s.rank x) t before)
      | inr after ↦ le-ltb (slice_index s.rank x) (t + 1)
          (let no-same : slice_index s.rank x ≢ t =
          (λ e. ne (rank-once s.up scene.goes s.size s.rank scene.measured scene.ranked x j l low (e ∙ sym here))) in
          omega (arith, after, no-same)) ∙ sym (le-ltb (slice_index s.rank x) t after)
    ])

    pub remaining-next : remaining s starts (t + 1) + part_size starts j ≡ remaining s starts t
    remaining-next =
        let e = sum_at (length s.up) (λ x. cond (nat_lt (slice_index s.rank x) (t + 1)) 0 (part_size starts x))
        (λ x. cond (nat_lt (slice_index s.rank x) t) 0 (part_size starts x)) j low elsewhere in
        let a = at-j in let b = at-j' in omega (arith, e, a, b)

zeros-at : (xs : List ℕ) (n : ℕ) → xs ≡ replicate n 0 → (k : ℕ) → k < n → slice_index xs k ≡ 0
zeros-at xs n e k l = ap (λ ys. slice_index ys k) e ∙ get_or-replicate n k 0 0 l

pub zeros-sum : (xs : List ℕ) (n : ℕ) → xs ≡ replicate n 0 → (m : ℕ) → m ≤ n → sum_to xs m ≡ 0
zeros-sum xs n e m l = sum_zero m (λ r. slice_index xs r) (λ k h. zeros-at xs n e k (omega (arith, h, l)))

-- before the first arc
pub met-none : (s : Scene) (scene : IsScene s) (last plus minus : List ℕ) (n : ℕ) → n ≡ length s.up + 1 →
    ((k : ℕ) → k < length s.up → slice_index s.rank k < length s.up) →
    last ≡ replicate (length s.up) (length s.up) → plus ≡ replicate n 0 → minus ≡ replicate n 0 → Met s (Taken s 0) last plus minus
met-none s scene last plus minus n room low l p m = record {
  last_room = ap length l ∙ length-replicate (length s.up) (length s.up);
  plus_room = ap length p ∙ length-replicate n 0 ∙ room;
  minus_room = ap length m ∙ length-replicate n 0 ∙ room;
  none = λ i li e j h. (let t = h.1 in omega (arith, t));
  some = λ i li ne. absurd (ne (ap (λ xs. slice_index xs i) l ∙ get_or-replicate (length s.up) i (length s.up) 0 li));
  spent = (let a = zeros-sum minus n m (length s.up + 1) (omega (arith, room)) in
      let b = zeros-sum plus n p (length s.up + 1) (omega (arith, room)) in omega (arith, a, b));
  columns = λ k lk. (
    0,
    record {
      test = λ i. false;
      marked = λ i li h. absurd (clash-false h);
      marks = λ i j li after up h. absurd (let t = h.1 in omega (arith, t));
      is = count_none (length s.up);
    },
    (let r = low k lk in
        let a = zeros-sum plus n p (slice_index s.rank k + 1) (omega (arith, room, r)) in
        let b = zeros-sum minus n m (slice_index s.rank k + 1) (omega (arith, room, r)) in
        let c = zeros-sum plus n p (slice_index s.rank k + 1 - slice_index s.size k) (omega (arith, room, r)) in
        let d = zeros-sum minus n m (slice_index s.rank k + 1 - slice_index s.size k) (omega (arith, room, r)) in omega
        (arith, a, b, c, d)),
  );
}
  where
    clash-false : false ≡ true → ⊥
    clash-false e = cc

-- the sums up to each rank, and those below a rank
pub sums-before : (sums numbers : List ℕ) → ((k : ℕ) → k < length numbers → slice_index sums k ≡ sum_to numbers (k + 1)) → (m : ℕ) →
    m ≤ length numbers → sum_before sums m ≡ sum_to numbers m
sums-before sums numbers each zero l = sym (sum-none (λ k. slice_index numbers k))
sums-before sums numbers each (suc m) l =
    each m (omega (arith, l)) ∙ ap (sum_to numbers) (let e : m + 1 ≡ suc m = omega arith in e)
