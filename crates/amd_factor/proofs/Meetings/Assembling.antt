-- The tree that parents tell, the arcs in it, and the columns whose entries the marks are.
use Rattle.std.proofs.Common.{ℕ, ◌≡◌, ◌≢◌, ◌<◌, ◌≤◌, ◌+◌, refl, sym, ◌∙◌, ap, subst, arith, List, length}
use Rattle.std.specs.Prelude.{slice_index, slice_index_or, Option, None, Some, unwrap_or}
use Rattle.amd_model.specs.Below.{count_below}
use Rattle.amd_model.specs.Graph.{IsGraph}
use Rattle.amd_count_laws.specs.Rising.{GoesUp}
use Rattle.amd_factor.specs.Orders.{Order}
use Rattle.amd_factor.specs.Trees.{IsParent, Over}
use Rattle.amd_factor.specs.Trees as trees
use Rattle.amd_factor.specs.Walks.{TellParents, TellsParentSoFar}
use Rattle.amd_factor.proofs.Trees.TreePaths.{entry_in_subtree, subtree_entry}
use Rattle.amd_factor.specs.Ranks.{Above, GoesToParents, Measured, Ranked}
use Rattle.amd_factor.specs.Ranks as ranks
use Rattle.amd_factor.specs.Meetings.{CountsTargets, IsScene, Scene, Taken}
use Rattle.amd_factor.specs.Sizes.{HoldSizes}
use Rattle.amd_factor.proofs.Trees.Ancestry.{entry-over}
use Rattle.amd_factor.proofs.Meetings.Nesting.{above-most, rank-low}
use Rattle.amd_factor.proofs.Meetings.Sizing.{hold_sizes}

-- where a place goes up, by its parent
record UpBy (o : Order) (k up-k n : ℕ) (v : Option ℕ) : Type 0 where
  parent : (up-k ≢ n) → IsParent o.graph o.rows k up-k
  is : (q : ℕ) → IsParent o.graph o.rows k q → up-k ≡ q
  behind : k < up-k
  most : up-k ≤ n

module _ (o : Order) (laws : IsGraph o.graph) (parent : List (Option ℕ)) (up : List ℕ) (tells : TellParents o (length o.rows) parent)
    (goes : GoesToParents parent up) where
  pub places : length up ≡ length o.rows
  places = goes.room ∙ tells.room

  up-by : (k : ℕ) (v : Option ℕ) → k < length up → TellsParentSoFar o (length o.rows) k v → UpBy o k (unwrap_or v (length up)) (length up) v
  up-by k None l t = record {
    parent = λ ne. absurd (ne refl);
    is = λ q h. absurd (t q h.entry.1 h.entry);
    behind = l;
    most = omega arith;
  }
  up-by k (Some q) l t = record {
    parent = λ ne. t;
    is = λ r h. (let a = t.first r h.entry in let b = h.first q t.entry in omega (arith, a, b));
    behind = t.entry.0;
    most = (let a = t.entry.1 in let e = places in omega (arith, a, e));
  }

  at : (k : ℕ) → k < length up → UpBy o k (slice_index up k) (length up) (slice_index_or parent k None)
  at k l = subst (λ x. UpBy o k x (length up) (slice_index_or parent k None)) (sym (goes.each k l))
      (up-by k (slice_index_or parent k None) l (tells.each k (let e = places in omega (arith, l, e))))

  pub goes-up : GoesUp up
  goes-up = record { rises = λ k l. (at k l).behind; most = λ k l. (at k l).most }

  -- what stands over a place in the elimination tree stands over it in the list
  pub over-above : {x y : ℕ} → Over o.graph o.rows x y → Above up x y
  over-above trees.itself = ranks.itself
  over-above {x} {y} (trees.up {parent = q} h r) =
      let low : x < length up = (let a = h.entry.0 in let b = h.entry.1 in let e = places in omega (arith, a, b, e)) in
      ranks.step low (subst (λ v. Above up v y) (sym ((at x low).is q h)) (over-above r))

  pub above-over : {x y : ℕ} → Above up x y → y < length up → Over o.graph o.rows x y
  above-over ranks.itself l = trees.itself
  above-over {x} {y} (ranks.step low r) l =
      let not-top : slice_index up x ≢ length up = (λ e. let a = above-most up goes-up r in omega (arith, e, a, l)) in
      trees.up ((at x low).parent not-top) (above-over r l)

  module _ (size rank : List ℕ) (measured : Measured up size) (all : slice_index size (length up) ≡ length up + 1)
      (ranked : Ranked up size rank) where
    abbrev pub scene-of : Scene
    scene-of = record { order = o; up = up; size = size; rank = rank }

    pub is-scene : IsScene scene-of
    is-scene = record {
      places = places;
      goes = goes-up;
      measured = measured;
      all = all;
      ranked = ranked;
      arcs = λ j i a. over-above (entry-over o.graph o.rows laws j i (subtree_entry o.graph o.rows laws j i a.later
          (let m = a.most in let e = places in omega (arith, m, e)) (j, a.later, a.edge, trees.itself)));
    }

    -- the targets of the arcs from a subtree are the entries of its column
    pub sizes-held : (counts : List ℕ) → length counts ≡ length o.rows →
        ((k : ℕ) → k < length up → CountsTargets scene-of (Taken scene-of (length up)) k (slice_index counts k)) →
        HoldSizes o.graph o.rows counts parent
    sizes-held counts room marks = hold_sizes o laws counts parent (record {
      room = room;
      each = λ k l. (
          let e = places in let m = marks k (omega (arith, l, e)) in record {
            test = m.test;
            exact = λ i li. (
              (λ h. let r = m.marked i (omega (arith, li, e)) h in
                  subtree_entry o.graph o.rows laws k i r.0 li (r.1, r.3.0.later, r.3.0.edge, above-over r.2 (omega (arith, l, e)))),
              (λ h. let s = entry_in_subtree o.graph o.rows laws k i h in
                  let low : s.0 < length up = (let a = s.1 in omega (arith, a, li, e)) in
                  m.marks i s.0 (omega (arith, li, e)) h.0 (over-above s.3)
                  (record { later = s.1; most = omega (arith, li, e); edge = s.2 }, rank-low up goes-up size rank measured ranked s.0 low)),
            );
            is = ap (λ v. count_below v m.test) (sym e) ∙ m.is;
          });
    }) tells
