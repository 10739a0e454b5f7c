-- The rows that are new in a column complete it: what it takes over, its later neighbours and its other children.
use Rattle.std.proofs.Common.{ℕ, ◌≡◌, ◌<◌, ◌+◌, inl, inr, sym, ap, subst, arith, List, [], length}
use Rattle.std.specs.Prelude.{slice_index, Contains, Option, None, Some, MatchOption}
use Rattle.std.specs.Option.{unwrap_or}
use Rattle.amd_model.specs.Graph.{IsGraph}
use Rattle.amd_factor.specs.Neighbours.{AreLater}
use Rattle.amd_factor.specs.Trees.{Entry}
use Rattle.amd_factor.specs.Gathering.{Column, EntryOf, IsChild, Inherits, Marks, MarksTell, Completes}
use Rattle.amd_factor.proofs.Trees.ByChildren.{entry_by_child, entry_by_edge, entry_from}

module _ (c : Column) (laws : IsGraph c.order.graph) where
  -- what a child has behind the place of the column
  pub child_gives : (m j : ℕ) → IsChild c m → c.place < j → Entry c.order.graph c.order.rows m j → EntryOf c j
  child_gives m j p behind e = entry_by_child c.order.graph c.order.rows laws c.place j behind e.1 m p e

  -- what the column takes over
  pub inherited_gives : (base : Option ℕ) → Inherits c base → (j : ℕ) → Contains c.inherited j → EntryOf c j
  inherited_gives None h j x = absurd (let l = x.1 in omega (arith, h, l))
  inherited_gives (Some child) h j x = let r = (h.1 j).0 x in child_gives child j h.0 r.0 r.1

  -- a neighbour
  pub neighbour_gives : (neighbours : List ℕ) → AreLater c.order c.place neighbours → (j : ℕ) → Contains neighbours j → EntryOf c j
  neighbour_gives neighbours are j x = let r = (are j).0 x in entry_by_edge c.order.graph c.order.rows laws c.place j r.0 r.1 r.2

  -- each entry has a mark, where the neighbours and the entries of the children have
  pub all_marked : (neighbours mark : List ℕ) (stamp : ℕ) → AreLater c.order c.place neighbours →
      ((j : ℕ) → Contains neighbours j → slice_index mark j ≡ stamp) →
      ((m j : ℕ) → IsChild c m → c.place < j → Entry c.order.graph c.order.rows m j → slice_index mark j ≡ stamp) →
      (j : ℕ) → EntryOf c j → slice_index mark j ≡ stamp
  all_marked neighbours mark stamp are near under j e =
      elim (entry_from c.order.graph c.order.rows laws c.place j e.0 e.1 e) [
        | inl x ↦ near j ((are j).1 (e.0, e.1, x))
        | inr r ↦ under r.0 j r.1 e.0 r.2
      ]

  -- where there is one child and no later neighbour, nothing is new
  pub completes_alone : (base : Option ℕ) (neighbours : List ℕ) → Inherits c base →
      MatchOption base ((m : ℕ) → IsChild c m → ⊥) (λ child. IsChild c child) → AreLater c.order c.place neighbours →
      length neighbours ≡ 0 → ((m n : ℕ) → IsChild c m → IsChild c n → m ≡ n) → Completes c []
  completes_alone base neighbours h child are none only = record {
    rising = λ k l. absurd (omega (arith, l));
    apart = λ j a b. (let l = b.1 in omega (arith, l));
    members = λ j. (
      (λ x. elim x [ inl a ↦ inherited_gives base h j a | inr b ↦ absurd (let l = b.1 in omega (arith, l)) ]),
      (λ e. elim (entry_from c.order.graph c.order.rows laws c.place j e.0 e.1 e) [
        | inl x ↦ absurd (let n = (are j).1 (e.0, e.1, x) in let l = n.1 in omega (arith, l, none))
        | inr r ↦ inl (by_child base h child r.0 j r.1 e.0 r.2)
      ]),
    );
  }
    where
      by_child : (base : Option ℕ) → Inherits c base → MatchOption base ((m : ℕ) → IsChild c m → ⊥) (λ child. IsChild c child) →
          (m j : ℕ) → IsChild c m → c.place < j → Entry c.order.graph c.order.rows m j → Contains c.inherited j
      by_child None h never m j p behind e = absurd (never m p)
      by_child (Some child) h is m j p behind e =
          (h.1 j).1 (behind, subst (λ y. Entry c.order.graph c.order.rows y j) (only m child p is) e)

  -- the marks tell the column then
  pub tell_next : (base : Option ℕ) → Inherits c base → (k stamp : ℕ) (fresh mark : List ℕ) → c.place ≡ k → Marks c stamp fresh mark →
      ((j : ℕ) → EntryOf c j → slice_index mark j ≡ stamp) → MarksTell c.order (c.place + 1) (Some k) stamp mark
  tell_next base h k stamp fresh mark is m all = record {
    room = m.room;
    recent = m.recent;
    low = m.low;
    tell = λ n e. (let same : c.place ≡ n = same_place k n is e in (
      omega (arith, same),
      (λ j behind l. (
        (λ x. subst (λ y. Entry c.order.graph c.order.rows y j) same (elim ((m.marked j (omega (arith, behind, same)) l).0 x) [
          | inl a ↦ inherited_gives base h j a
          | inr b ↦ m.entries j b
        ])),
        (λ x. all j (subst (λ y. Entry c.order.graph c.order.rows y j) (sym same) x)),
      )),
    ));
  }
    where
      value : Option ℕ → ℕ
      value None = 0
      value (Some v) = v

      same_place : (k n : ℕ) → c.place ≡ k → Some k ≡ Some n → c.place ≡ n
      same_place k n is e = let v : k ≡ n = ap value e in omega (arith, v, is)

-- the rows of the base have the mark
pub base_marked : (c : Column) (base : Option ℕ) → Inherits c base → (k b stamp : ℕ) (fresh mark : List ℕ) → c.place ≡ k →
    b ≡ unwrap_or base k → Marks c stamp fresh mark → IsChild c b → (j : ℕ) → c.place < j →
    Entry c.order.graph c.order.rows b j → slice_index mark j ≡ stamp
base_marked c None h k b stamp fresh mark place is m p j behind e = absurd (let l = p.entry.0 in omega (arith, l, place, is))
base_marked c (Some child) h k b stamp fresh mark place is m p j behind e =
    (m.marked j behind e.1).1 (inl ((h.1 j).1 (behind, subst (λ y. Entry c.order.graph c.order.rows y j) is e)))
