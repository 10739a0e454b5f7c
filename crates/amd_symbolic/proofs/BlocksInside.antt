-- A block whose front is exact lies inside one supernode: each of its columns is the next place and the next column.
use Rattle.std.proofs.Common.{ℕ, true, ◌≡◌, ◌<◌, ◌≤◌, ◌+◌, inl, inr, refl, sym, ap, subst, arith, List}
use Rattle.std.proofs.Common.{[], ◌∷◌, length}
use Rattle.std.specs.Prelude.{slice_index, slice_index_or, Option}
use Rattle.std.specs.List.Sorted.{IsStrictlyIncreasing}
use Rattle.amd_model.specs.Factor.{IsFactor}
use Rattle.amd_model.specs.Graph.{Graph, IsGraph}
use Rattle.amd_model.specs.Input.Pattern.{graph_of}
use Rattle.amd_model.specs.Laws.{ColumnsInside}
use Rattle.amd_model.specs.Quotient.{has}
use Rattle.amd_model.specs.Run.{last_state}
use Rattle.amd_model.specs.State.{Gone, State}
use Rattle.amd_model.proofs.Counting.Places.{contains_has, has_contains}
use Rattle.amd_model.proofs.Listings.Words.{has_cases, has_head, has_none, has_tail}
use Rattle.amd_model.proofs.Patterns.DegreeSums.{pattern_graph}
use Rattle.amd_factor.specs.Columns.{first_of}
use Rattle.amd_symbolic.specs.SupernodeLaws.{ExactBlocksStandInside, IsExactFront, NoneEndsInside}
use Rattle.amd_factor.specs.Supernodes.{HoldSupernodes, Joined}
use Rattle.amd_factor.specs.Trees.{Entry}
use Rattle.amd_factor.proofs.Trees.ByChildren.{entry_by_child}
use Rattle.amd_factor.proofs.Trees.FactorOnce.{first_least, rising_same, tail_up}
use Rattle.amd_factor.proofs.Trees.Once.{order_once}
use Rattle.amd_factor.proofs.Factors.Standing.{first_parent}

-- a rising list that has its least number m as an entry begins with it
begins-with : (xs : List ℕ) (m : ℕ) → IsStrictlyIncreasing xs → has xs m ≡ true → ((j : ℕ) → has xs j ≡ true → m ≤ j) →
    (rest : List ℕ) × (xs ≡ m ∷ rest)
begins-with [] m up in-list least = absurd (has_none m in-list)
begins-with (x ∷ xs) m up in-list least = elim (has_cases m x xs in-list) [
  | inl e ↦ (xs, ap (λ y. y ∷ xs) (sym e))
  | inr h ↦ absurd (let l = first_least x xs up m h in let b = least x (has_head x x xs refl) in omega (arith, l, b))
]

module _ (g : Graph) (laws : IsGraph g) (s : State) (p : List ℕ) (inside : ColumnsInside g s p) (columns : List (List ℕ))
    (factor : IsFactor g p columns) (e k : ℕ) (exact : IsExactFront g s p e) (here : s.home (slice_index p k) ≡ Gone e)
    (next : s.home (slice_index p (k + 1)) ≡ Gone e) (low : k + 1 < length p) where
  abbrev one : List ℕ
  one = slice_index_or columns k []

  abbrev two : List ℕ
  two = slice_index_or columns (k + 1) []

  entry-one : (j : ℕ) → has one j ≡ true → Entry g p k j
  entry-one j h = ((factor.each k [] (omega (arith, low))).members j).0 (has_contains one j h)

  in-one : (j : ℕ) → Entry g p k j → has one j ≡ true
  in-one j x = contains_has one j (((factor.each k [] (omega (arith, low))).members j).1 x)

  entry-two : (j : ℕ) → has two j ≡ true → Entry g p (k + 1) j
  entry-two j h = ((factor.each (k + 1) [] low).members j).0 (has_contains two j h)

  in-two : (j : ℕ) → Entry g p (k + 1) j → has two j ≡ true
  in-two j x = contains_has two j (((factor.each (k + 1) [] low).members j).1 x)

  -- the next place is an entry, and the first one
  begun : (rest : List ℕ) × (one ≡ (k + 1) ∷ rest)
  begun = begins-with one (k + 1) (factor.each k [] (omega (arith, low))).rising
      (in-one (k + 1) (exact k (k + 1) (omega arith) low here (inl next)))
      (λ j h. let l = (entry-one j h).0 in omega (arith, l))

  rest-up : IsStrictlyIncreasing begun.0
  rest-up = tail_up (k + 1) begun.0 (subst IsStrictlyIncreasing begun.1 (factor.each k [] (omega (arith, low))).rising)

  onward : (j : ℕ) → has begun.0 j ≡ true → has two j ≡ true
  onward j h =
      let after = first_least (k + 1) begun.0 (subst IsStrictlyIncreasing begun.1 (factor.each k [] (omega (arith, low))).rising) j h in
      let x = entry-one j (subst (λ xs. has xs j ≡ true) (sym begun.1) (has_tail j (k + 1) begun.0 h)) in
      let parent = first_parent (record { graph = g; rows = p }) k (k + 1) one (factor.each k [] (omega (arith, low)))
      (ap first_of begun.1) in
      in-two j (entry_by_child g p laws (k + 1) j after x.1 k parent x)

  back : (j : ℕ) → has two j ≡ true → has begun.0 j ≡ true
  back j h =
      let x = entry-two j h in
      let l = x.0 in
      let y = in-one j (exact k j (omega (arith, l)) x.1 here (inside (k + 1) j e x.0 x.1 next x.2)) in
      elim (has_cases j (k + 1) begun.0 (subst (λ xs. has xs j ≡ true) begun.1 y)) [
        | inl same ↦ absurd (omega (arith, l, same))
        | inr r ↦ r
      ]

  pub is-joined : Joined columns k
  is-joined = record {
    parent = ap first_of begun.1;
    count = (let same = rising_same begun.0 two rest-up (factor.each (k + 1) [] low).rising onward back in
        let a = ap length begun.1 in let b = ap length same in omega (arith, a, b));
  }

none-ends : (g : Graph) → IsGraph g → (s : State) (p first ptr rows : List ℕ) (parent : List (Option ℕ)) → ColumnsInside g s p →
    HoldSupernodes g p first ptr rows parent → NoneEndsInside g s p first
none-ends g laws s p first ptr rows parent inside h e k t exact here next low l ends =
    h.runs.longest t k l (sym ends) (is-joined g laws s p inside h.columns h.factor e k exact here next low)

pub exact-blocks-stand-inside : ExactBlocksStandInside
unfolding graph_of
exact-blocks-stand-inside hold n control pair ap' ai p q info first ptr rows parent m h =
    let same : h.order ≡ m.rows =
    order_once n p h.order m.rows h.permutes (record { listed = m.listed; each = m.promises.each_row }) in
    none-ends (graph_of n ap' ai) (pattern_graph n ap' ai) (last_state m.first m.states) m.rows first ptr rows parent m.promises.columns
    (subst (λ r. HoldSupernodes (graph_of n ap' ai) r first ptr rows parent) same h.holds)
