-- The places cut into supernodes, by their numbers alone: where each begins, its rows and its parent are lists that no
-- code has to hold, and the rows below the blocks are as many as the last places of the runs have entries.
use Rattle.std.proofs.Common.{ℕ, zero, suc, ◌≡◌, ◌<◌, ◌≤◌, ◌+◌, inl, inr, refl, sym, ◌∙◌, ap, subst, arith}
use Rattle.std.proofs.Common.{List, length, map, set}
use Rattle.std.specs.Prelude.{slice_index, slice_index_or, replicate, Option, None}
use Rattle.std.specs.List.{range_with_len}
use Rattle.std.proofs.lemmas.Bool.{cases_lt}
use Rattle.std.proofs.lemmas.List.{get_or-replicate, length-replicate, length-set}
use Rattle.std.proofs.lemmas.List.FromFn.{get_or-map-range_with_len, length-map-range_with_len}
use Rattle.amd_model.specs.Below.{sum_below}
use Rattle.amd_model.specs.Graph.{IsGraph}
use Rattle.amd_factor.specs.Orders.{Order}
use Rattle.amd_factor.specs.Partitions.{AreNumbered, AreSame, GoOver, HaveRoom, IsJoined, Own, SumEnds, last_of, owner_at}
use Rattle.amd_factor.specs.Partitions.{ends, nothing, within}
use Rattle.amd_factor.specs.Sizes.{HoldSizes}
use Rattle.amd_factor.specs.SupernodeLaws.{TellSizesOf}
use Rattle.amd_factor.specs.Supernodes.{AreRuns}
use Rattle.amd_factor.proofs.Partitions.Cutting.{is-cut}
use Rattle.amd_factor.proofs.Partitions.Runs.{Begun, all-own, begun-next, runs-same, same-numbered}
use Rattle.amd_factor.proofs.Partitions.SupernodeRoom.{room-of}

module _ (owner : List ℕ) (count : ℕ) (h : AreNumbered (AreSame owner) (length owner) owner count) where
  -- where the runs of the first k places begin
  pub firsts : ℕ → List ℕ
  firsts zero = replicate (count + 1) 0
  firsts (suc k) = set (firsts k) (slice_index owner k + 1) (k + 1)

  firsts-long : (k : ℕ) → length (firsts k) ≡ count + 1
  unfolding firsts
  firsts-long zero = length-replicate (count + 1) 0
  firsts-long (suc k) = length-set (firsts k) (slice_index owner k + 1) (k + 1) ∙ firsts-long k

  begun : (k : ℕ) → k ≤ length owner → Begun owner k (firsts k)
  unfolding firsts
  begun zero l = record {
    begin = get_or-replicate (count + 1) 0 0 0 (omega arith);
    low = λ i li. absurd (omega (arith, li));
    high = λ i li. absurd (omega (arith, li));
    last = λ i e. absurd (omega (arith, e));
    rises = λ i s li. absurd (omega (arith, li));
  }
  begun (suc k) l =
      let e : k + 1 ≡ suc k = omega arith in
      subst (λ m. Begun owner m (firsts (suc k))) e
      (begun-next (AreSame owner) (length owner) owner count h k (firsts k) (begun k (omega (arith, l))) (omega (arith, l)) (firsts-long k))

  abbrev pub first : List ℕ
  first = firsts (length owner)

  pub first-long : length first ≡ count + 1
  first-long = firsts-long (length owner)

  pub runs : AreRuns (AreSame owner) (length owner) first
  runs = runs-same (length owner) owner count h (firsts (length owner)) (firsts-long (length owner)) (begun (length owner) (omega arith))

  pub own : Own first owner
  own = all-own (AreSame owner) (length owner) owner count h (firsts (length owner)) (firsts-long (length owner))
      (begun (length owner) (omega arith))

  -- a run ends where the next place has another number
  end-here : (k : ℕ) → k < length owner → ¬ (AreSame owner k) → last_of first (slice_index owner k) ≡ k
  end-here k l other =
      let a = own.inside k l in let b = own.low k l in let c = own.high k l in
      elim (cases_lt (k + 1) (slice_index first (slice_index owner k + 1))) [
        | inl less ↦ absurd (other (runs.runs (slice_index owner k) k a b less))
        | inr most ↦ omega (arith, c, most)
      ]

  module _ (sizes : List ℕ) where
    abbrev pub rows-of : ℕ → ℕ
    rows-of s = slice_index sizes (last_of first s)

    one-more : (m : ℕ) → sum_below (m + 1) rows-of ≡ rows-of m + sum_below m rows-of
    unfolding sum_below
    one-more m = let e : m + 1 ≡ suc m = omega arith in ap (λ x. sum_below x rows-of) e

    -- the rows of the runs before that of place k
    sums : {k total : ℕ} → SumEnds owner sizes k total → k < length owner → total ≡ sum_below (slice_index owner k) rows-of
    unfolding sum_below
    sums nothing l = sym (ap (λ x. sum_below x rows-of) (h.begin l))
    sums (within {k = place} {total = t} same g) l =
        sums g (omega (arith, l)) ∙ ap (λ x. sum_below x rows-of) (sym same.1)
    sums (ends {k = place} {total = t} other g) l =
        let r = sums g (omega (arith, l)) in
        let here = ap (slice_index sizes) (end-here place (omega (arith, l)) other) in
        let m = one-more (slice_index owner place) in
        let next : slice_index owner (place + 1) ≡ slice_index owner place + 1 = elim (h.step place l) [
          | inl a ↦ absurd (other a.0)
          | inr b ↦ b.1
        ] in
        let e = ap (λ x. sum_below x rows-of) next in
        omega (arith, r, here, m, e)

    pub sum-all : {k total : ℕ} → SumEnds owner sizes k total → k ≡ length owner → total ≡ sum_below count rows-of
    unfolding sum_below
    sum-all nothing l = sym (ap (λ x. sum_below x rows-of) (h.none (sym l)))
    sum-all (within {k = place} {total = t} same g) l = absurd (let s = same.0 in omega (arith, s, l))
    sum-all (ends {k = place} {total = t} other g) l =
        let r = sums g (omega (arith, l)) in
        let here = ap (slice_index sizes) (end-here place (omega (arith, l)) other) in
        let m = one-more (slice_index owner place) in
        let e = ap (λ x. sum_below x rows-of) (h.end place l) in
        omega (arith, r, here, m, e)

    -- where the rows of each run would begin, and its parent
    pub ptr : List ℕ
    ptr = map (λ s. sum_below s rows-of) (range_with_len 0 (count + 1))

    ptr-at : (s : ℕ) → s < count + 1 → slice_index ptr s ≡ sum_below s rows-of
    unfolding ptr
    ptr-at s l = get_or-map-range_with_len (λ t. sum_below t rows-of) 0 (count + 1) s s 0 l (omega arith)

    pub has-room : HaveRoom sizes first ptr
    unfolding ptr sum_below
    has-room = record {
      pointers = length-map-range_with_len (λ s. sum_below s rows-of) 0 (count + 1) ∙ sym first-long;
      start = ptr-at 0 (omega arith);
      ends = λ s l. (let n = first-long in let a = ptr-at s (omega (arith, l, n)) in let b = ptr-at (s + 1) (omega (arith, l, n)) in
          let m = one-more s in omega (arith, a, b, m));
    }

    module _ (parent : List (Option ℕ)) where
      abbrev pub goes : ℕ → Option ℕ
      goes s = owner_at owner (slice_index_or parent (last_of first s) None)

      pub over : List (Option ℕ)
      over = map goes (range_with_len 0 count)

      pub over-long : length over ≡ count
      unfolding over
      over-long = length-map-range_with_len goes 0 count

      pub goes-over : GoOver parent first owner over
      unfolding over
      goes-over = record {
        room = (let a = over-long in let b = first-long in omega (arith, a, b));
        each = λ s l. get_or-map-range_with_len goes 0 count s s None (let b = first-long in omega (arith, l, b)) (omega arith);
      }

      pub total-at : (total : ℕ) → SumEnds owner sizes (length owner) total → total ≡ slice_index ptr count
      total-at total g = sum-all g refl ∙ sym (ptr-at count (omega arith))

-- the sizes of the supernodes of a factor
pub sizes-told : (o : Order) → IsGraph o.graph → (sizes owner : List ℕ) (parent : List (Option ℕ)) →
    (k : HoldSizes o.graph o.rows sizes parent) →
    (count total : ℕ) → AreNumbered (IsJoined sizes parent) (length sizes) owner count → SumEnds owner sizes (length owner) total →
    TellSizesOf o.graph o.rows count total
sizes-told o laws sizes owner parent k count total h g =
    let n = same-numbered (IsJoined sizes parent) (length sizes) owner count h in
    let f = first owner count n in
    let cut = is-cut o k.columns k.factor sizes parent k.sizes_are k.parents owner f count h (runs owner count n) (own owner count n)
    (ptr owner count n sizes) (over owner count n sizes parent) (has-room owner count n sizes) (goes-over owner count n sizes parent) in
    let t = room-of o laws f owner (ptr owner count n sizes) (over owner count n sizes parent) cut in
    let long = over-long owner count n sizes parent in
    let last = ap (slice_index (ptr owner count n sizes)) long ∙ sym (total-at owner count n sizes parent total g) in
    subst (λ x. TellSizesOf o.graph o.rows x total) long
    (subst (TellSizesOf o.graph o.rows (length (over owner count n sizes parent))) last t)
