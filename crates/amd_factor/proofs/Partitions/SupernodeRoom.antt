-- Places that are cut into supernodes have rows below the blocks, as many as the pointers say.
use Rattle.std.proofs.Common.{ℕ, ℤ, pos, zero, suc, ◌≡◌, ◌<◌, ◌+◌, ◌-◌, inl, inr, refl, sym, ◌∙◌, ap, subst, arith, List, []}
use Rattle.std.proofs.Common.{◌++◌, ◌∷◌, length, drop, map}
use Rattle.std.specs.Prelude.{slice_index, unsigned_abs, Option}
use Rattle.std.proofs.lemmas.Bool.{cases_eq}
use Rattle.std.proofs.lemmas.List.{get_or-append-add, get_or-drop, length-drop, get_or_append_left, length-append}
use Rattle.std.proofs.lemmas.List.Elements.{Contains-get_or}
use Rattle.amd_model.specs.Graph.{IsGraph}
use Rattle.amd_model.specs.Input.Pattern.{graph_of}
use Rattle.amd_types.specs.Naturals.{naturals}
use Rattle.amd_factor.specs.Counted.{IsCountsOf}
use Rattle.amd_factor.specs.Orders.{Order}
use Rattle.amd_factor.specs.Partitions.{IsCut, IsPartition, Partition, WrittenTo, last_column, last_of}
use Rattle.amd_factor.specs.Sizes.{HoldSizes}
use Rattle.amd_factor.specs.SupernodeLaws.{AreSizesOf, TellSizesOf}
use Rattle.amd_factor.specs.declared.needs.Need.{Need}
use Rattle.amd_factor.proofs.Partitions.RowClimbs.{ptr-up}
use Rattle.amd_factor.proofs.Partitions.SupernodeRows.{hold-supernodes}
use Rattle.amd_factor.proofs.Partitions.SupernodeTree.{entry-of, last-in, places}

module _ (b : Partition) (columns : List (List ℕ)) (h : IsPartition b columns) where
  -- the rows of the first s supernodes
  pub rows-to : ℕ → List ℕ
  rows-to zero = []
  rows-to (suc s) = rows-to s ++ last_column b columns s

  rows-long : (s : ℕ) → s < length b.first → length (rows-to s) ≡ slice_index b.ptr s
  unfolding rows-to
  rows-long zero l = sym h.start
  rows-long (suc s) l =
      let n : suc s ≡ s + 1 = omega arith in
      let r = rows-long s (omega (arith, l)) in let e = h.ends s (omega (arith, l)) in
      let a = length-append (rows-to s) (last_column b columns s) in
      let q = ap (slice_index b.ptr) n in omega (arith, r, e, a, q)

  stand-in : (m s i : ℕ) → m < length b.first → s < m → i < length (last_column b columns s) →
      slice_index (rows-to m) (slice_index b.ptr s + i) ≡ slice_index (last_column b columns s) i
  unfolding rows-to
  stand-in zero s i l less li = absurd (omega (arith, less))
  stand-in (suc m) s i l less li =
      let long = rows-long m (omega (arith, l)) in
      elim (cases_eq s m) [
        | inl q ↦ subst (λ t. slice_index (rows-to m ++ last_column b columns m) (slice_index b.ptr t + i)
            ≡ slice_index (last_column b columns t) i) (sym q)
            (ap (λ x. slice_index (rows-to m ++ last_column b columns m) (x + i)) (sym long)
            ∙ get_or-append-add (rows-to m) (last_column b columns m) i 0)
        | inr ne ↦ (
            let e = h.ends s (omega (arith, l, less)) in
            let u = ptr-up b columns h (s + 1) m (omega (arith, less, ne)) (omega (arith, l)) in
            get_or_append_left (rows-to m) (last_column b columns m) 0 (slice_index b.ptr s + i) (omega (arith, li, e, u, long))
            ∙ stand-in m s i (omega (arith, l)) (omega (arith, less, ne)) li)
      ]

  abbrev all-rows : List ℕ
  all-rows = rows-to (length b.first - 1)

  all-long : length all-rows ≡ slice_index b.ptr (length b.first - 1)
  all-long = rows-long (length b.first - 1) (let s = h.runs.some in omega (arith, s))

  ends-at : (s : ℕ) → slice_index (drop 1 b.ptr) s ≡ slice_index b.ptr (s + 1)
  ends-at s = get_or-drop 1 b.ptr s 0 ∙ ap (slice_index b.ptr) (let e : 1 + s ≡ s + 1 = omega arith in e)

  pub written : IsGraph b.order.graph → WrittenTo b (length b.owner) (drop 1 b.ptr) all-rows
  written laws = record {
    cut = record { columns = columns; partition = h };
    nexts = (let a = length-drop 1 b.ptr in let q = h.pointers in let s = h.runs.some in omega (arith, a, q, s));
    room = all-long;
    each = λ s l. (
        let e = h.ends s l in let n = ends-at s in let m = last-in b columns h s l in let m1 = m.1 in let m2 = m.2 in
        let p = places b columns h in
        record {
          low = omega (arith, e, n);
          most = omega (arith, e, n);
          stand = λ i li. stand-in (length b.first - 1) s i (omega (arith, l)) (omega (arith, l)) (omega (arith, li, e, n));
          before = λ i li. (let x = (entry-of b columns h (last_of b.first s) (slice_index (last_column b columns s) i)
              (omega (arith, m1, m2)) (Contains-get_or (last_column b columns s) i 0 (omega (arith, li, e, n)))).1 in omega (arith, x, p));
          rest = λ i le li. absurd (omega (arith, le, li, e, n));
        });
  }

pub room-of : (o : Order) → IsGraph o.graph → (first owner ptr : List ℕ) (over : List (Option ℕ)) →
    IsCut (record { order = o; first = first; owner = owner; ptr = ptr; parent = over }) →
    TellSizesOf o.graph o.rows (length over) (slice_index ptr (length over))
room-of o laws first owner ptr over c =
    let b : Partition = record { order = o; first = first; owner = owner; ptr = ptr; parent = over } in
    let h = c.partition in
    let e : length first - 1 ≡ length over = (let p = h.parents in omega (arith, p)) in
    record {
      first = first;
      ptr = ptr;
      rows = all-rows b c.columns h;
      parent = over;
      hold = hold-supernodes b laws (drop 1 ptr) (all-rows b c.columns h) (written b c.columns h laws);
      count = refl;
      entries = ap (slice_index ptr) (sym e) ∙ sym (all-long b c.columns h);
    }

back : (rows : List ℕ) → map unsigned_abs (map pos rows) ≡ rows
back [] = refl
back (row ∷ rows) = ap (λ xs. row ∷ xs) (back rows)

-- what was counted, of the graph of a matrix and the order that a list tells
module _ (n : ℤ) (ap' ai p : List ℤ) (o : Order) (graph : o.graph ≡ graph_of (unsigned_abs n) ap' ai) (rows : o.rows ≡ naturals p)
    (sizes : List ℕ) (parent : List (Option ℕ)) (need : Need) (c : IsCountsOf n ap' ai p sizes parent need) where
  same : c.order ≡ o.rows
  same = sym (rows ∙ ap (map unsigned_abs) c.permutes.listed ∙ back c.order)

  pub held-under : HoldSizes o.graph o.rows sizes parent
  held-under = subst (λ g. HoldSizes g o.rows sizes parent) (sym graph)
      (subst (λ r. HoldSizes (graph_of (unsigned_abs n) ap' ai) r sizes parent) same c.tells.holds)

  pub sizes-of : (supernodes below : ℕ) → TellSizesOf o.graph o.rows supernodes below → AreSizesOf n ap' ai p supernodes below
  sizes-of supernodes below told = record {
    form = c.form;
    order = c.order;
    permutes = c.permutes;
    tells = subst (λ r. TellSizesOf (graph_of (unsigned_abs n) ap' ai) r supernodes below) (sym same)
        (subst (λ g. TellSizesOf g o.rows supernodes below) graph told);
  }
