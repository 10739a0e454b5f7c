-- The supernodes of a factor: their columns, their parents, and the rows that they have.
use Rattle.std.proofs.Common.{ℕ, zero, suc, true, ◌≡◌, ◌<◌, ◌≤◌, ◌+◌, ◌-◌, inl, inr, refl, sym, ◌∙◌, ap, subst, arith}
use Rattle.std.proofs.Common.{List, [], ◌∷◌, length}
use Rattle.std.specs.Prelude.{slice_index, slice_index_or, Contains, Option, None, Some}
use Rattle.std.proofs.lemmas.Bool.{cases_eq, cases_lt}
use Rattle.amd_model.specs.Graph.{IsGraph}
use Rattle.amd_factor.specs.Columns.{first_of}
use Rattle.amd_factor.specs.Trees.{Entry, IsParent}
use Rattle.amd_factor.specs.Partitions.{HasRow, IsPartition, Partition, last_column, last_of}
use Rattle.amd_factor.specs.Supernodes.{TellsOver}
use Rattle.amd_factor.proofs.Trees.ByChildren.{entry_by_child, entry_by_edge}
use Rattle.amd_factor.proofs.Partitions.Runs.{first-up, owner-is}
use Rattle.amd_factor.proofs.Factors.Standing.{first_parent}

-- the parent of a supernode that has row j: it owns the parent of the last place
pub record OverIt (b : Partition) (s j : ℕ) : Type 0 where
  pub over : ℕ
  pub told : slice_index_or b.parent s None ≡ Some over
  pub place : ℕ
  pub parent : IsParent b.order.graph b.order.rows (last_of b.first s) place
  pub owner : slice_index b.owner place ≡ over
  pub most : place ≤ j
  pub higher : s < over

module _ (b : Partition) (columns : List (List ℕ)) (h : IsPartition b columns) where
  pub places : length b.owner ≡ length b.order.rows
  places = h.places ∙ h.factor.places

  -- the entries of a column
  pub entry-of : (k j : ℕ) → k < length b.owner → Contains (slice_index_or columns k []) j → Entry b.order.graph b.order.rows k j
  entry-of k j l c = let p = h.places in let q = h.factor.places in ((h.factor.each k [] (omega (arith, l, p, q))).members j).0 c

  pub in-column : (k j : ℕ) → k < length b.owner → Entry b.order.graph b.order.rows k j → Contains (slice_index_or columns k []) j
  in-column k j l e = let p = h.places in let q = h.factor.places in ((h.factor.each k [] (omega (arith, l, p, q))).members j).1 e

  pub parent-of : (k q : ℕ) → k < length b.owner → first_of (slice_index_or columns k []) ≡ Some q → IsParent b.order.graph b.order.rows k q
  parent-of k q l e = let p = h.places in let r = h.factor.places in
      first_parent b.order k q (slice_index_or columns k []) (h.factor.each k [] (omega (arith, l, p, r))) e

  -- the last place of a supernode
  pub last-in : (s : ℕ) → s + 1 < length b.first → (slice_index b.first s ≤ last_of b.first s) × (last_of b.first s + 1 ≡
      slice_index b.first (s + 1)) × (slice_index b.first (s + 1) ≤ length b.owner)
  last-in s l =
      let r = h.runs.rises s l in
      let u = first-up b.first h.runs.rises (s + 1) (length b.first - 1) (omega (arith, l)) (omega (arith, l)) in
      let e = h.runs.end in let p = h.places in (omega (arith, r), omega (arith, r), omega (arith, u, e, p))

  pub owned-by : (s k : ℕ) → s + 1 < length b.first → slice_index b.first s ≤ k → k < slice_index b.first (s + 1) →
      slice_index b.owner k ≡ s
  owned-by s k l lo hi = let m = (last-in s l).2 in owner-is b.first h.runs.rises b.owner h.own s k l lo hi (omega (arith, hi, m))

  pub owner-up : (q j : ℕ) → q ≤ j → j < length b.owner → slice_index b.owner q ≤ slice_index b.owner j
  owner-up q j le l = elim (cases_lt (slice_index b.owner j) (slice_index b.owner q)) [
    | inl less ↦ absurd (
        let a = h.own.low q (omega (arith, le, l)) in let c = h.own.high j l in let i = h.own.inside q (omega (arith, le, l)) in
        let u = first-up b.first h.runs.rises (slice_index b.owner j + 1) (slice_index b.owner q) (omega (arith, less))
        (omega (arith, i)) in
        omega (arith, a, c, u, le))
    | inr more ↦ more
  ]

  -- an entry behind the supernode is one of its last place
  to-last : IsGraph b.order.graph → (d s k j : ℕ) → s + 1 < length b.first → slice_index b.first s ≤ k →
      k + 1 + d ≡ slice_index b.first (s + 1) →
      slice_index b.first (s + 1) ≤ j → Entry b.order.graph b.order.rows k j → Entry b.order.graph b.order.rows (last_of b.first s) j
  to-last laws zero s k j l lo is behind e =
      subst (λ m. Entry b.order.graph b.order.rows m j) (let q : k ≡ last_of b.first s = omega (arith, is) in q) e
  to-last laws (suc d) s k j l lo is behind e =
      let m = (last-in s l).2 in
      let joined = h.runs.runs s k l lo (omega (arith, is)) in
      let parent = parent-of k (k + 1) (omega (arith, is, m)) joined.parent in
      to-last laws d s (k + 1) j l (omega (arith, lo)) (omega (arith, is)) behind
      (entry_by_child b.order.graph b.order.rows laws (k + 1) j (omega (arith, is, behind)) e.1 k parent e)

  -- the supernode of an earlier entry has the row
  pub has-row : IsGraph b.order.graph → (k j : ℕ) → k < j → j < length b.owner → Entry b.order.graph b.order.rows k j →
      HasRow b columns j (slice_index b.owner k)
  has-row laws k j low n e =
      let s = slice_index b.owner k in
      let up' = owner-up k j (omega (arith, low)) n in
      let inside = h.own.inside k (omega (arith, low, n)) in
      let lo = h.own.low k (omega (arith, low, n)) in let hi = h.own.high k (omega (arith, low, n)) in
      elim (cases_eq s (slice_index b.owner j)) [
        | inl same ↦ inl same
        | inr ne ↦ (
            let i = h.own.inside j n in let lj = h.own.low j n in
            let u = first-up b.first h.runs.rises (s + 1) (slice_index b.owner j) (omega (arith, up', ne)) (omega (arith, i)) in
            let m = last-in s inside in let m1 = m.1 in let m2 = m.2 in
            inr (
              omega (arith, up', ne),
              in-column (last_of b.first s) j (omega (arith, m1, m2))
                  (to-last laws (slice_index b.first (s + 1) - (k + 1)) s k j inside lo (omega (arith, hi)) (omega (arith, u, lj)) e),
            ))
      ]

  pub begins : IsGraph b.order.graph → (i j : ℕ) → i < j → j < length b.owner →
      b.order.graph.edge (slice_index b.order.rows i) (slice_index b.order.rows j) ≡ true → HasRow b columns j (slice_index b.owner i)
  begins laws i j low n edge = let p = places in
      has-row laws i j low n (entry_by_edge b.order.graph b.order.rows laws i j low (omega (arith, n, p)) edge)

  -- the parent of a supernode, by what it tells of a column
  over-by : (below : List ℕ) (v : Option ℕ) → TellsOver b.first below v → (j : ℕ) → Contains below j →
      (w : ℕ) × (v ≡ Some w) × (q : ℕ) × (first_of below ≡ Some q) × (slice_index b.first w ≤ q) × (q < slice_index b.first (w + 1)) ×
      (w + 1 < length b.first)
  over-by [] v t j c = absurd (let l = c.1 in omega (arith, l))
  over-by (q ∷ rest) None t j c = absurd (omega (arith, t))
  over-by (q ∷ rest) (Some w) t j c = (w, refl, q, refl, t.2, t.3, t.1)

  pub over-it : (s j : ℕ) → s + 1 < length b.first → Contains (last_column b columns s) j → OverIt b s j
  over-it s j l c =
      let m = last-in s l in let m1 = m.1 in let m2 = m.2 in
      let r = over-by (last_column b columns s) (slice_index_or b.parent s None) (h.over s l) j c in
      let parent = parent-of (last_of b.first s) r.2 (omega (arith, m1, m2)) r.3 in
      let owner = owned-by r.0 r.2 r.6 r.4 r.5 in
      let e = parent.entry.0 in let q = r.4 in
      record {
        over = r.0;
        told = r.1;
        place = r.2;
        parent = parent;
        owner = owner;
        most = parent.first j (entry-of (last_of b.first s) j (omega (arith, m1, m2)) c);
        higher = elim (cases_lt s r.0) [
          | inl less ↦ less
          | inr more ↦ absurd (let u = first-up b.first h.runs.rises (r.0 + 1) (s + 1) (omega (arith, more)) (omega (arith, l)) in
              let f = r.5 in omega (arith, u, f, e, m1))
        ];
      }

  -- where a supernode has a row its parent has it too
  pub goes-on : IsGraph b.order.graph → (s j : ℕ) → j < length b.owner → s + 1 < length b.first → Contains (last_column b columns s) j →
      (o : OverIt b s j) →
      HasRow b columns j o.over
  goes-on laws s j n l c o =
      let m = last-in s l in let m1 = m.1 in let m2 = m.2 in
      let e = entry-of (last_of b.first s) j (omega (arith, m1, m2)) c in
      elim (cases_eq o.place j) [
        | inl same ↦ inl (sym o.owner ∙ ap (slice_index b.owner) same)
        | inr ne ↦ (
            let most = o.most in
            subst (HasRow b columns j) o.owner (has-row laws o.place j (omega (arith, most, ne)) n
            (entry_by_child b.order.graph b.order.rows laws o.place j (omega (arith, most, ne)) e.1 (last_of b.first s) o.parent e)))
      ]
