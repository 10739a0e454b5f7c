-- What a factor needs, by its supernodes: the columns of each are those of a front.
use Rattle.std.proofs.Common.{ℕ, zero, suc, true, ◌≡◌, ◌<◌, ◌≤◌, ◌+◌, ◌-◌, inl, inr, refl, sym, ◌∙◌, ap, subst, arith, List, []}
use Rattle.std.proofs.Common.{◌∷◌, length}
use Rattle.std.specs.Prelude.{slice_index, slice_index_or, unsigned_abs, Option}
use Rattle.std.specs.List.{range_with_len}
use Rattle.std.proofs.lemmas.Bool.{cases_lt}
use Rattle.std.proofs.lemmas.List.{length-append}
use Rattle.std.proofs.lemmas.List.Edits.{length-between}
use Rattle.std.proofs.lemmas.List.FromFn.{length-range_with_len}
use Rattle.amd_model.specs.Below.{sum_below}
use Rattle.amd_model.specs.Factor.{IsFactor, needed, needed_front}
use Rattle.amd_model.specs.Figures.{entries, front_sum, ldl_steps, lu_steps, max_below}
use Rattle.amd_model.specs.Input.Pattern.{graph_of}
use Rattle.amd_model.proofs.Figures.FrontSums.{max_most, max_term}
use Rattle.amd_count_laws.specs.Parts.{part_size}
use Rattle.amd_factor.specs.Counted.{wide_cut}
use Rattle.amd_factor.specs.Supernodes.{AreRuns, HoldRowsBelow, Joined, rows_below}
use Rattle.amd_factor.specs.SupernodeLaws.{SupernodesTellNeeds, block_sum}
use Rattle.amd_factor.proofs.Trees.FactorOnce.{factor_once}
use Rattle.amd_factor.proofs.Trees.Once.{order_once}
use Rattle.amd_factor.proofs.Factors.PlaceSums.{sum_places}
use Rattle.amd_factor.proofs.Partitions.Runs.{first-up}
use Rattle.amd_factor.proofs.Factors.Vectors.{front_most}

-- the longest column is no longer than a bound of all
front-least : (columns : List (List ℕ)) (m : ℕ) → ((k : ℕ) → k < length columns → length (slice_index_or columns k []) + 1 ≤ m) →
    needed_front columns ≤ m
unfolding needed_front
front-least [] m all = omega arith
front-least (c ∷ cs) m all =
    let a = all 0 (omega arith) in let r = front-least cs m (λ k l. all (suc k) (omega (arith, l))) in omega (arith, a, r)

module _ (columns : List (List ℕ)) (first ptr rows : List ℕ) (parent : List (Option ℕ))
    (runs : AreRuns (Joined columns) (length columns) first) (h : HoldRowsBelow columns first ptr rows parent) where
  pub ends-in : (s : ℕ) → s + 1 < length first → slice_index first (s + 1) ≤ length columns
  ends-in s l = let u = first-up first runs.rises (s + 1) (length first - 1) (omega (arith, l)) (omega (arith, l)) in
      let e = runs.end in omega (arith, u, e)

  ptr-by : (d s : ℕ) → s + d < length first → slice_index ptr s ≤ slice_index ptr (s + d)
  ptr-by zero s l = let e : s + 0 ≡ s = omega arith in rw e (omega arith)
  ptr-by (suc d) s l =
      let e : s + suc d ≡ s + d + 1 = omega arith in
      let r = ptr-by d s (omega (arith, l)) in let t = h.ascending (s + d) (omega (arith, l)) in rw e (omega (arith, r, t))

  pub ptr-most : (s : ℕ) → s < length first → slice_index ptr s ≤ length rows
  ptr-most s l = let e : s + (length first - 1 - s) ≡ length first - 1 = omega (arith, l) in
      let r = subst (λ m. slice_index ptr s ≤ slice_index ptr m) e (ptr-by (length first - 1 - s) s (omega (arith, l))) in
      let t = h.total in omega (arith, r, t)

  below-long : (s : ℕ) → s + 1 < length first → length (rows_below ptr rows s) ≡ part_size ptr s
  below-long s l = length-between rows (slice_index ptr s) (slice_index ptr (s + 1)) (ptr-most (s + 1) l)

  size : ℕ → ℕ
  size k = length (slice_index_or columns k [])

  -- the number of entries of a column of supernode s
  size-in : (s k : ℕ) → s + 1 < length first → slice_index first s ≤ k → k < slice_index first (s + 1) →
      size k ≡ part_size ptr s + (slice_index first (s + 1) - (k + 1))
  unfolding size
  size-in s k l lo hi =
      let e = ap length (h.each s k l lo hi) in
      let a = length-append (range_with_len (k + 1) (slice_index first (s + 1) - (k + 1))) (rows_below ptr rows s) in
      let b = length-range_with_len (k + 1) (slice_index first (s + 1) - (k + 1)) in let c = below-long s l in omega (arith, e, a, b, c)

  module _ (share : ℕ → ℕ) where
    part : ℕ → ℕ
    part k = share (size k)

    block : ℕ → ℕ
    block s = front_sum share (part_size first s) (part_size ptr s)

    -- the last d columns of supernode s
    of-last : (s d : ℕ) → s + 1 < length first → slice_index first s + d ≤ slice_index first (s + 1) →
        sum_below (slice_index first (s + 1)) part ≡ sum_below (slice_index first (s + 1) - d) part + front_sum share d (part_size ptr s)
    unfolding sum_below front_sum part
    of-last s zero l most = let e : slice_index first (s + 1) - 0 ≡ slice_index first (s + 1) = omega arith in rw e (omega arith)
    of-last s (suc d) l most =
        let r = of-last s d l (omega (arith, most)) in
        let k : ℕ = slice_index first (s + 1) - suc d in
        let e : slice_index first (s + 1) - d ≡ suc k = omega (arith, most) in
        let a : sum_below (slice_index first (s + 1) - d) part ≡ part k + sum_below k part = ap (λ m. sum_below m part) e in
        let z = size-in s k l (omega (arith, most)) (omega (arith, most)) in
        let b : part k ≡ share (part_size ptr s + d) = ap share (let q : slice_index first (s + 1) - (k + 1) ≡ d = omega (arith, most) in
        z ∙ ap (λ m. part_size ptr s + m) q) in
        omega (arith, r, a, b)

    -- the columns of the first s supernodes
    of-first : (s : ℕ) → s < length first → sum_below (slice_index first s) part ≡ sum_below s block
    unfolding sum_below block
    of-first zero l = ap (λ m. sum_below m part) runs.begin
    of-first (suc s) l =
        let n : suc s ≡ s + 1 = omega arith in
        let r = of-first s (omega (arith, l)) in
        let up = runs.rises s (omega (arith, l)) in
        let t = of-last s (part_size first s) (omega (arith, l)) (omega (arith, up)) in
        let e : slice_index first (s + 1) - part_size first s ≡ slice_index first s = omega (arith, up) in
        let q = ap (λ m. sum_below m part) e in
        let z = ap (λ m. sum_below (slice_index first m) part) n in
        omega (arith, r, t, q, z)

    pub needed-blocks : needed share columns ≡ block_sum share first ptr
    unfolding part block size
    needed-blocks = sum_places (λ column. share (length column)) columns []
        ∙ ap (λ m. sum_below m part) (sym runs.end) ∙ of-first (length first - 1) (let s = runs.some in omega (arith, s))

  -- the supernode of a place
  find : (t k : ℕ) → t < length first → k < slice_index first t →
      (s : ℕ) × (s + 1 < length first) × (slice_index first s ≤ k) × (k < slice_index first (s + 1))
  find zero k l less = absurd (let e = runs.begin in omega (arith, less, e))
  find (suc t) k l less = elim (cases_lt k (slice_index first t)) [
    | inl in-before ↦ find t k (omega (arith, l)) in-before
    | inr more ↦ (let n : suc t ≡ t + 1 = omega arith in
        (t, omega (arith, l), more, subst (λ m. k < slice_index first m) n less))
  ]

  abbrev greatest : ℕ
  greatest = max_below (length first - 1) (λ s. true) (λ s. part_size first s + part_size ptr s) 0

  each-most : (k : ℕ) → k < length columns → length (slice_index_or columns k []) + 1 ≤ greatest
  unfolding size
  each-most k l =
      let e = runs.end in let some = runs.some in
      let f = find (length first - 1) k (omega (arith, some)) (omega (arith, l, e)) in
      let z = size-in f.0 k f.1 f.2 f.3 in let lo = f.2 in let hi = f.3 in let i = f.1 in
      let t = max_term (length first - 1) (λ s. true) (λ s. part_size first s + part_size ptr s) 0 f.0 (omega (arith, i)) refl in
      omega (arith, z, t, lo, hi)

  each-least : (s : ℕ) → s + 1 < length first → part_size first s + part_size ptr s ≤ needed_front columns
  unfolding size
  each-least s i =
      let up = runs.rises s i in let most = ends-in s i in
      let z = size-in s (slice_index first s) i (omega arith) up in
      let t = front_most columns (slice_index first s) [] (omega (arith, up, most)) in omega (arith, z, t, up)

  pub front-blocks : needed_front columns ≡ greatest
  front-blocks =
      let a = front-least columns greatest each-most in
      let b = max_most (length first - 1) (λ s. true) (λ s. part_size first s + part_size ptr s) 0 (needed_front columns)
      (λ s l e. each-least s (omega (arith, l))) (omega arith) in omega (arith, a, b)

pub supernodes-tell-needs : SupernodesTellNeeds
supernodes-tell-needs n ap' ai p first ptr rows sizes parent over need s c =
    let g = graph_of (unsigned_abs n) ap' ai in
    let h = c.tells.holds in
    let same : s.order ≡ c.order = order_once (unsigned_abs n) p s.order c.order s.permutes c.permutes in
    let once : h.columns ≡ s.holds.columns = sym (factor_once g c.order s.holds.columns h.columns
    (subst (λ r. IsFactor g r s.holds.columns) same s.holds.factor) h.factor) in
    let all : (share : ℕ → ℕ) → needed share h.columns ≡ block_sum share first ptr =
    λ share. ap (needed share) once ∙ needed-blocks s.holds.columns first ptr rows parent s.holds.runs s.holds.holds share in
    record {
      lnz = c.tells.needs.lnz ∙ ap wide_cut (all entries);
      ldl = c.tells.needs.ldl ∙ ap wide_cut (all ldl_steps);
      lu = c.tells.needs.lu ∙ ap wide_cut (all lu_steps);
      greatest = c.tells.needs.greatest ∙ ap needed_front once
          ∙ front-blocks s.holds.columns first ptr rows parent s.holds.runs s.holds.holds;
    }
