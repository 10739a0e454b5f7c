-- The climbs of a row through the supernodes: what is written, what has its mark, and what is to come.
use Rattle.std.proofs.Common.{ℕ, zero, suc, ◌≡◌, ◌≢◌, ◌<◌, ◌≤◌, ◌+◌, ◌-◌, inl, inr, refl, sym, ◌∙◌, ap, subst, arith}
use Rattle.std.proofs.Common.{List, [], length, rules, set}
use Rattle.std.specs.Prelude.{slice_index, slice_index_or, Contains, None, Some, IsSome}
use Rattle.std.specs.List.Sorted.{IsStrictlyIncreasing}
use Rattle.std.proofs.lemmas.Bool.{cases_eq, cases_lt}
use Rattle.std.proofs.lemmas.List.{length-set, get_or-set_same, get_or-set_other}
use Rattle.amd_model.specs.Graph.{IsGraph}
use Rattle.amd_factor.specs.Partitions.{Climbs, HasRow, IsMarkedBy, IsPartition, MarkedBefore, Partition, Written, WrittenTo}
use Rattle.amd_factor.specs.Partitions.{last_column, last_of}
use Rattle.amd_factor.proofs.Partitions.Prefixes.{room_at, written_next, written_other, written_skip}
use Rattle.amd_factor.proofs.Partitions.SupernodeTree.{
  OverIt,
  entry-of,
  goes-on,
  in-column,
  last-in,
  over-it,
  owned-by,
  owner-up,
  parent-of,
}
use Rattle.amd_factor.proofs.Trees.Ancestry.{over-trans, parents-same}
use Rattle.amd_factor.proofs.Factors.NewRows.{place_in}
use Rattle.amd_factor.proofs.Trees.TreePaths.{entry_in_subtree, over_most}
use Rattle.amd_factor.specs.Thinning.{AreThinned}
use Rattle.amd_factor.specs.Trees.{Entry, IsParent, Over, itself, up}

-- the rows of the supernodes have their room one after another
module _ (b : Partition) (columns : List (List ℕ)) (h : IsPartition b columns) where
  ptr-by : (d s : ℕ) → s + d < length b.first → slice_index b.ptr s ≤ slice_index b.ptr (s + d)
  ptr-by zero s l = let e : s + 0 ≡ s = omega arith in rw e (omega arith)
  ptr-by (suc d) s l =
      let e : s + suc d ≡ s + d + 1 = omega arith in
      let r = ptr-by d s (omega (arith, l)) in let t = h.ends (s + d) (omega (arith, l)) in rw e (omega (arith, r, t))

  pub ptr-up : (s t : ℕ) → s ≤ t → t < length b.first → slice_index b.ptr s ≤ slice_index b.ptr t
  ptr-up s t le l = let e : s + (t - s) ≡ t = omega (arith, le) in
      subst (λ m. slice_index b.ptr s ≤ slice_index b.ptr m) e (ptr-by (t - s) s (omega (arith, le, l)))

  pub last-rises : (s : ℕ) → s + 1 < length b.first → IsStrictlyIncreasing (last_column b columns s)
  last-rises s l =
      let m = last-in b columns h s l in let m1 = m.1 in let m2 = m.2 in let p = h.places in let q = h.factor.places in
      (h.factor.each (last_of b.first s) [] (omega (arith, m1, m2, p, q))).rising

module _ (b : Partition) (j s : ℕ) (next mark rows : List ℕ) (laws : IsGraph b.order.graph) (n : j < length b.owner)
    (c : Climbs b j s next mark rows) (new : slice_index mark s ≢ j + 1) where
  abbrev h : IsPartition b c.cut.columns
  h = c.cut.partition

  own-in : slice_index b.owner j + 1 < length b.first
  own-in = h.own.inside j n

  below : (s < slice_index b.owner j) × Contains (last_column b c.cut.columns s) j
  below = elim c.here [ inl e ↦ absurd (new (subst (λ t. IsMarkedBy mark j t) (sym e) c.own)) | inr r ↦ r ]

  pub low : s < slice_index b.owner j
  low = below.0

  pub inside : s + 1 < length b.first
  inside = let a = low in let i = own-in in omega (arith, a, i)

  pub mark-in : s < length mark
  mark-in = let a = inside in let m = c.marks in omega (arith, a, m)

  pub next-in : s < length next
  next-in = let a = inside in let m = c.nexts in omega (arith, a, m)

  over : OverIt b s j
  over = over-it b c.cut.columns h s j inside below.1

  some-is : (x y : ℕ) → Some x ≡ Some y → x ≡ y
  some-is x y e = cc

  over-is : (q : ℕ) → slice_index_or b.parent s None ≡ Some q → over.over ≡ q
  over-is q e = let f = sym over.told ∙ e in some-is over.over q f

  pub told : IsSome (slice_index_or b.parent s None)
  told = subst IsSome (sym over.told) (search rules)

  pub higher : (q : ℕ) → slice_index_or b.parent s None ≡ Some q → s < q
  higher q e = let o = over-is q e in let h' = over.higher in omega (arith, o, h')

  written : Written (last_column b c.cut.columns s) j (slice_index b.ptr s) (slice_index next s) rows
  written = c.rest s inside new

  up-to : slice_index next s < slice_index b.ptr (s + 1)
  up-to = let r = room_at _ j _ _ rows written (last-rises b c.cut.columns h s inside) below.1 in let e = h.ends s inside in
      omega (arith, r, e)

  pub row-in : slice_index next s < length rows
  row-in =
      let a = up-to in let i = inside in let r = c.room in
      let u = ptr-up b c.cut.columns h (s + 1) (length b.first - 1) (omega (arith, i)) (omega (arith, i)) in omega (arith, a, u, r)

  abbrev mark' : List ℕ
  mark' = set mark s (j + 1)

  abbrev next' : List ℕ
  next' = set next s (slice_index next s + 1)

  abbrev rows' : List ℕ
  rows' = set rows (slice_index next s) j

  marked : slice_index mark' s ≡ j + 1
  marked = get_or-set_same mark s (j + 1) 0 mark-in

  other : (t : ℕ) → t ≢ s → slice_index mark' t ≡ slice_index mark t
  other t ne = get_or-set_other mark s t (j + 1) 0 ne

  kept : (t : ℕ) → IsMarkedBy mark j t → IsMarkedBy mark' j t
  kept t e = elim (cases_eq t s) [ inl q ↦ ap (slice_index mark') q ∙ marked | inr ne ↦ other t ne ∙ e ]

  -- what is written elsewhere stays
  away : (t k : ℕ) → t + 1 < length b.first → t ≢ s →
      Written (last_column b c.cut.columns t) k (slice_index b.ptr t) (slice_index next t) rows →
      Written (last_column b c.cut.columns t) k (slice_index b.ptr t) (slice_index next' t) rows'
  away t k l ne w =
      let same : slice_index next' t ≡ slice_index next t = get_or-set_other next s t (slice_index next s + 1) 0 ne in
      subst (λ e. Written (last_column b c.cut.columns t) k (slice_index b.ptr t) e rows') (sym same)
      (written_other _ k _ _ rows w (slice_index next s) j (elim (cases_lt t s) [
        | inl less ↦ inr (
            let most = w.most in let e = h.ends t l in let i = inside in let f = written.low in
            let u = ptr-up b c.cut.columns h (t + 1) s (omega (arith, less)) (omega (arith, i)) in omega (arith, most, e, u, f))
        | inr more ↦ inl (
            let u = ptr-up b c.cut.columns h (s + 1) t (omega (arith, more, ne)) (omega (arith, l)) in let a = up-to in
            omega (arith, u, a))
      ]))

  here-written : Written (last_column b c.cut.columns s) (j + 1) (slice_index b.ptr s) (slice_index next' s) rows'
  here-written =
      subst (λ e. Written (last_column b c.cut.columns s) (j + 1) (slice_index b.ptr s) e rows')
      (sym (get_or-set_same next s (slice_index next s + 1) 0 next-in))
      (written_next _ j _ _ rows written (last-rises b c.cut.columns h s inside) below.1 row-in)

  -- one supernode more has the row
  pub climbs-on : (q : ℕ) → slice_index_or b.parent s None ≡ Some q → Climbs b j q (set next s (slice_index next s + 1))
      (set mark s (j + 1)) (set rows (slice_index next s) j)
  climbs-on q is = record {
    cut = c.cut;
    nexts = (let a = length-set next s (slice_index next s + 1) in let m = c.nexts in omega (arith, a, m));
    marks = (let a = length-set mark s (j + 1) in let m = c.marks in omega (arith, a, m));
    room = length-set rows (slice_index next s) j ∙ c.room;
    low = λ t l. elim (cases_eq t s) [
      | inl e ↦ (let a : slice_index mark' t ≡ j + 1 = ap (slice_index mark') e ∙ marked in omega (arith, a))
      | inr ne ↦ (let a = other t ne in let w = length-set mark s (j + 1) in let m = c.low t (omega (arith, l, w)) in omega (arith, a, m))
    ];
    own = kept (slice_index b.owner j) c.own;
    here = subst (HasRow b c.cut.columns j) (over-is q is) (goes-on b c.cut.columns h laws s j n inside below.1 over);
    done = λ t l e. elim (cases_eq t s) [
      | inl same ↦ subst (λ x. Written (last_column b c.cut.columns x) (j + 1) (slice_index b.ptr x) (slice_index next' x) rows')
          (sym same) here-written
      | inr ne ↦ away t (j + 1) l ne (c.done t l (sym (other t ne) ∙ e))
    ];
    rest = λ t l e. elim (cases_eq t s) [
      | inl same ↦ absurd (e (ap (slice_index mark') same ∙ marked))
      | inr ne ↦ away t j l ne (c.rest t l (λ m. e (kept t m)))
    ];
    onward = λ t l e. elim (cases_eq t s) [
      | inl same ↦ (q, ap (λ x. slice_index_or b.parent x None) same ∙ is, inr refl)
      | inr ne ↦ (let r = c.onward t l (sym (other t ne) ∙ e) in (
        r.0,
        r.1,
        elim r.2 [ inl m ↦ inl (kept r.0 m) | inr m ↦ inl (ap (slice_index mark') m ∙ marked) ],
      ))
    ];
  }

-- a climb that has come to a mark is over
pub climbs-over : (b : Partition) (j s : ℕ) (next mark rows : List ℕ) → Climbs b j s next mark rows → slice_index mark s ≡ j + 1 →
    Climbs b j (slice_index b.owner j) next mark rows
climbs-over b j s next mark rows c e = record {
  cut = c.cut;
  nexts = c.nexts;
  marks = c.marks;
  room = c.room;
  low = c.low;
  own = c.own;
  here = inl refl;
  done = c.done;
  rest = c.rest;
  onward = λ t l m. (let r = c.onward t l m in
      (r.0, r.1, inl (elim r.2 [ inl x ↦ x | inr x ↦ ap (slice_index mark) x ∙ e ])));
}

-- a climb begins at a supernode that has the row
pub climbs-from : (b : Partition) (j s : ℕ) (next mark rows : List ℕ) → (c : Climbs b j (slice_index b.owner j) next mark rows) →
    HasRow b c.cut.columns j s → Climbs b j s next mark rows
climbs-from b j s next mark rows c has = record {
  cut = c.cut;
  nexts = c.nexts;
  marks = c.marks;
  room = c.room;
  low = c.low;
  own = c.own;
  here = has;
  done = c.done;
  rest = c.rest;
  onward = λ t l m. (let r = c.onward t l m in
      (r.0, r.1, inl (elim r.2 [ inl x ↦ x | inr x ↦ ap (slice_index mark) x ∙ c.own ])));
}

module _ (b : Partition) (j : ℕ) (next rows : List ℕ) (n : j < length b.owner) where
  -- no row is a row of its own supernode
  not-own : (columns : List (List ℕ)) (h : IsPartition b columns) → Contains (last_column b columns (slice_index b.owner j)) j → ⊥
  not-own columns h c =
      let m = last-in b columns h (slice_index b.owner j) (h.own.inside j n) in let m1 = m.1 in let m2 = m.2 in
      let e = (entry-of b columns h (last_of b.first (slice_index b.owner j)) j (omega (arith, m1, m2)) c).0 in
      let f = h.own.high j n in omega (arith, e, f, m1)

  pub climbs-begin : (mark : List ℕ) → WrittenTo b j next rows → MarkedBefore b j mark →
      Climbs b j (slice_index b.owner j) next (set mark (slice_index b.owner j) (j + 1)) rows
  climbs-begin mark w m =
      let s = slice_index b.owner j in let h = w.cut.partition in let i = h.own.inside j n in let r = m.room in
      let mark' = set mark s (j + 1) in
      let top : slice_index mark' s ≡ j + 1 = get_or-set_same mark s (j + 1) 0 (omega (arith, i, r)) in
      let other : (t : ℕ) → t ≢ s → slice_index mark' t ≡ slice_index mark t = λ t ne. get_or-set_other mark s t (j + 1) 0 ne in
      record {
        cut = w.cut;
        nexts = w.nexts;
        marks = (let a = length-set mark s (j + 1) in omega (arith, a, r));
        room = w.room;
        low = λ t l. elim (cases_eq t s) [
          | inl e ↦ (let a : slice_index mark' t ≡ j + 1 = ap (slice_index mark') e ∙ top in omega (arith, a))
          | inr ne ↦ (let a = other t ne in let z = length-set mark s (j + 1) in let k = m.low t (omega (arith, l, z)) in
              omega (arith, a, k))
        ];
        own = top;
        here = inl refl;
        done = λ t l e. elim (cases_eq t s) [
          | inl q ↦ subst (λ x. Written (last_column b w.cut.columns x) (j + 1) (slice_index b.ptr x) (slice_index next x) rows) (sym q)
              (written_skip _ j _ _ rows (w.each s i) (not-own w.cut.columns h))
          | inr ne ↦ absurd (let a = other t ne in let k = m.low t (omega (arith, l, r)) in omega (arith, a, k, e))
        ];
        rest = λ t l e. w.each t l;
        onward = λ t l e. absurd (let a = other t (λ q. omega (arith, q, l)) in let k = m.low t (omega (arith, l, i, r)) in
            omega (arith, a, k, e));
      }

  -- at the end of the row each of its supernodes has it
  module _ (laws : IsGraph b.order.graph) (mark : List ℕ) (c : Climbs b j (slice_index b.owner j) next mark rows) (earlier : List ℕ)
      (are : AreThinned b.order j earlier)
      (met : (s : ℕ) → s < length earlier → IsMarkedBy mark j (slice_index b.owner (slice_index earlier s))) where
    abbrev cut-h : IsPartition b c.cut.columns
    cut-h = c.cut.partition

    -- the supernode of the parent of a place that has the mark has it too
    step : (i q : ℕ) → IsParent b.order.graph b.order.rows i q → q < j → IsMarkedBy mark j (slice_index b.owner i) →
        IsMarkedBy mark j (slice_index b.owner q)
    step i q parent l m =
        let up' : i < q = parent.entry.0 in
        let s = slice_index b.owner i in
        let inside = cut-h.own.inside i (omega (arith, up', l, n)) in
        let lo = cut-h.own.low i (omega (arith, up', l, n)) in let hi = cut-h.own.high i (omega (arith, up', l, n)) in
        elim (cases_lt q (slice_index b.first (s + 1))) [
          | inl within ↦ subst (IsMarkedBy mark j) (sym (owned-by b c.cut.columns cut-h s q inside (omega (arith, up', lo)) within)) m
          | inr behind ↦ (
              let is-last : i ≡ last_of b.first s = elim (cases_lt (i + 1) (slice_index b.first (s + 1))) [
                | inl l' ↦ absurd (
                    let joined = cut-h.runs.runs s i inside lo l' in
                    let p = parent-of b c.cut.columns cut-h i (i + 1) (omega (arith, up', l, n)) joined.parent in
                    let same = parents-same b.order.graph b.order.rows i q (i + 1) parent p in omega (arith, same, behind, l'))
                | inr l' ↦ omega (arith, l', hi)
              ] in
              let column : Contains (last_column b c.cut.columns s) q = in-column b c.cut.columns cut-h (last_of b.first s) q (omega
              (arith, is-last, up', l, n)) (subst (λ x. Entry b.order.graph b.order.rows x q) is-last parent.entry) in
              let o = over-it b c.cut.columns cut-h s q inside column in
              let same = parents-same b.order.graph b.order.rows i q o.place parent (subst (λ x. IsParent b.order.graph b.order.rows x
              o.place) (sym is-last) o.parent) in
              let owner : slice_index b.owner q ≡ o.over = ap (slice_index b.owner) same ∙ o.owner in
              let below : s < slice_index b.owner j = (let a = o.higher in let u = owner-up b c.cut.columns cut-h q j (omega (arith, l))
              n in
              omega (arith, a, u, owner)) in
              let r = c.onward s below m in
              let told : o.over ≡ r.0 = some-is o.over r.0 (sym o.told ∙ r.1) in
              subst (IsMarkedBy mark j) (sym (owner ∙ told)) (elim r.2 [ inl x ↦ x | inr x ↦ ap (slice_index mark) x ∙ c.own ]))
        ]
      where
        some-is : (x y : ℕ) → Some x ≡ Some y → x ≡ y
        some-is x y e = cc

    met-over : {i k : ℕ} → Over b.order.graph b.order.rows i k → k < j → IsMarkedBy mark j (slice_index b.owner i) →
        IsMarkedBy mark j (slice_index b.owner k)
    met-over itself l m = m
    met-over {i} {k} (up {parent = q} p r) l m =
        let a = over_most b.order.graph b.order.rows laws r in met-over r l (step i q p (omega (arith, a, l)) m)

    all-met : (t : ℕ) → t + 1 < length b.first → Contains (last_column b c.cut.columns t) j → IsMarkedBy mark j t
    all-met t l has =
        let m = last-in b c.cut.columns cut-h t l in let m0 = m.0 in let m1 = m.1 in let m2 = m.2 in
        let e = entry-of b c.cut.columns cut-h (last_of b.first t) j (omega (arith, m1, m2)) has in
        let s = entry_in_subtree b.order.graph b.order.rows laws (last_of b.first t) j e in
        let named = are.covered s.0 s.1 s.2 in
        let at = place_in earlier named.0 named.1 in
        let first : IsMarkedBy mark j (slice_index b.owner named.0) = subst (λ x. IsMarkedBy mark j (slice_index b.owner x))
        at.2 (met at.0 at.1) in
        subst (IsMarkedBy mark j) (owned-by b c.cut.columns cut-h t (last_of b.first t) l m0 (omega (arith, m1)))
        (met-over (over-trans b.order.graph b.order.rows named.2 s.3) e.0 first)

    pub climbs-end : WrittenTo b (j + 1) next rows
    climbs-end = record {
      cut = c.cut;
      nexts = c.nexts;
      room = c.room;
      each = λ t l. elim (cases_eq (slice_index mark t) (j + 1)) [
        | inl m ↦ c.done t l m
        | inr ne ↦ written_skip _ j _ _ rows (c.rest t l ne) (λ has. ne (all-met t l has))
      ];
    }
