-- When all rows have climbed the rows below the blocks are written, and the columns of a supernode are made from them.
use Rattle.std.proofs.Common.{ℕ, zero, suc, true, ◌≡◌, ◌<◌, ◌≤◌, ◌+◌, ◌-◌, sym, ◌∙◌, ap, subst, arith, List, [], ◌∷◌, ◌++◌, length}
use Rattle.std.specs.Prelude.{slice_index, slice_index_or, None}
use Rattle.std.specs.List.{range_with_len}
use Rattle.std.specs.List.Sorted.{IsStrictlyIncreasing}
use Rattle.std.proofs.lemmas.List.Elements.{Contains-get_or}
use Rattle.amd_model.specs.Graph.{IsGraph}
use Rattle.amd_model.specs.Quotient.{has}
use Rattle.amd_model.proofs.Counting.Places.{contains_has, has_contains}
use Rattle.amd_model.proofs.Listings.Words.{has_tail}
use Rattle.amd_factor.specs.Partitions.{IsPartition, Partition, WrittenTo, last_column, last_of}
use Rattle.amd_factor.specs.Supernodes.{HoldSupernodes, Joined, TellsOver, rows_below}
use Rattle.amd_factor.proofs.Trees.ByChildren.{entry_by_child}
use Rattle.amd_factor.proofs.Partitions.Cutting.{some-first}
use Rattle.amd_factor.proofs.Trees.FactorOnce.{first_least, tail_up}
use Rattle.amd_factor.proofs.Partitions.Prefixes.{rising_full, written_all}
use Rattle.amd_factor.proofs.Partitions.RowClimbs.{ptr-up}
use Rattle.amd_factor.proofs.Partitions.SupernodeTree.{entry-of, in-column, last-in, parent-of, places}

module _ (b : Partition) (columns : List (List ℕ)) (h : IsPartition b columns) (laws : IsGraph b.order.graph) where
  rising : (k : ℕ) → k < length b.owner → IsStrictlyIncreasing (slice_index_or columns k [])
  rising k l = let p = places b columns h in (h.factor.each k [] (omega (arith, l, p))).rising

  -- a place that is joined to the next one has it as an entry, and then the entries of the next one
  chain : (k : ℕ) → k < length b.owner → Joined columns k → slice_index_or columns k [] ≡ (k + 1) ∷ slice_index_or columns (k + 1) []
  chain k l j =
      let r = some-first (slice_index_or columns k []) (k + 1) j.parent in
      let p = places b columns h in
      let parent = parent-of b columns h k (k + 1) l j.parent in
      let next : k + 1 < length b.owner = (let a = parent.entry.1 in omega (arith, a, p)) in
      let up = subst IsStrictlyIncreasing r.1 (rising k l) in
      let count = j.count in let long = ap length r.1 in
      r.1 ∙ ap (λ xs. (k + 1) ∷ xs) (rising_full r.0 (slice_index_or columns (k + 1) []) (tail_up (k + 1) r.0 up) (rising (k + 1) next)
      (λ v has-v. (
      let low = first_least (k + 1) r.0 up v has-v in
      let e = entry-of b columns h k v l (has_contains (slice_index_or columns k []) v (subst (λ xs. has xs v ≡ true) (sym r.1)
      (has_tail v (k + 1) r.0 has-v))) in
      contains_has (slice_index_or columns (k + 1) []) v (in-column b columns h (k + 1) v next
      (entry_by_child b.order.graph b.order.rows laws (k + 1) v low e.1 k parent e))))
      (omega (arith, count, long)))

  -- the columns of a supernode
  block : (d s k : ℕ) → s + 1 < length b.first → slice_index b.first s ≤ k → k + 1 + d ≡ slice_index b.first (s + 1) →
      slice_index_or columns k [] ≡ range_with_len (k + 1) d ++ last_column b columns s
  block zero s k l lo is = ap (λ m. slice_index_or columns m []) (let q : k ≡ last_of b.first s = omega (arith, is) in q)
  block (suc d) s k l lo is =
      let m = (last-in b columns h s l).2 in
      chain k (omega (arith, is, m)) (h.runs.runs s k l lo (omega (arith, is)))
      ∙ ap (λ xs. (k + 1) ∷ xs) (block d s (k + 1) l (omega (arith, lo)) (omega (arith, is)))

module _ (b : Partition) (laws : IsGraph b.order.graph) (next rows : List ℕ) (w : WrittenTo b (length b.owner) next rows) where
  abbrev made : List (List ℕ)
  made = w.cut.columns

  abbrev cut : IsPartition b made
  cut = w.cut.partition

  all : (s : ℕ) → s + 1 < length b.first → rows_below b.ptr rows s ≡ last_column b made s
  all s l =
      let m = last-in b made cut s l in let m1 = m.1 in let m2 = m.2 in let p = places b made cut in
      let u = ptr-up b made cut (s + 1) (length b.first - 1) (omega (arith, l)) (omega (arith, l)) in let r = w.room in
      written_all (last_column b made s) (length b.owner) (slice_index b.ptr s) (slice_index next s) rows (w.each s l)
      (λ i li. let e = (entry-of b made cut (last_of b.first s) (slice_index (last_column b made s) i) (omega (arith, m1, m2))
      (Contains-get_or (last_column b made s) i 0 li)).1 in omega (arith, e, p))
      (slice_index b.ptr (s + 1)) (cut.ends s l) (omega (arith, u, r))

  pub hold-supernodes : HoldSupernodes b.order.graph b.order.rows b.first b.ptr rows b.parent
  hold-supernodes = record {
    columns = made;
    factor = cut.factor;
    runs = cut.runs;
    holds = record {
      pointers = cut.pointers;
      start = cut.start;
      ascending = λ s l. (let e = cut.ends s l in omega (arith, e));
      total = sym w.room;
      each = λ s k l lo hi. block b made cut laws (slice_index b.first (s + 1) - (k + 1)) s k l lo (omega (arith, hi))
          ∙ ap (λ xs. range_with_len (k + 1) (slice_index b.first (s + 1) - (k + 1)) ++ xs) (sym (all s l));
      parents = cut.parents;
      over = λ s l. subst (λ xs. TellsOver b.first xs (slice_index_or b.parent s None)) (sym (all s l)) (cut.over s l);
    };
  }
