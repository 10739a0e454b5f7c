-- The meetings of fewer arcs count what those of all arcs count.
use Rattle.std.proofs.Common.{ℕ, ◌≡◌, ◌<◌, ◌+◌, refl, sym, ◌∙◌, arith, List, length}
use Rattle.std.specs.Prelude.{slice_index, Option}
use Rattle.amd_model.specs.Graph.{IsGraph}
use Rattle.amd_factor.specs.Meetings.{Arc, CountsTargets, IsScene, Scene, Taken}
use Rattle.amd_factor.specs.Orders.{Order}
use Rattle.amd_factor.specs.Ranks.{GoesToParents, Measured, Ranked}
use Rattle.amd_factor.specs.Thinning.{Thins}
use Rattle.amd_factor.specs.Trees.{itself}
use Rattle.amd_factor.specs.Walks.{TellParents}
use Rattle.amd_factor.proofs.Meetings.Assembling.{goes-up, is-scene, over-above, places, scene-of}
use Rattle.amd_factor.proofs.Meetings.Nesting.{above-trans, rank-low}
use Rattle.amd_factor.proofs.Trees.TreePaths.{over_most}

-- each order has all its arcs
pub thins-itself : (o : Order) → Thins o o
thins-itself o = record { places = refl; among = λ j i l m h. h; covered = λ j i l m h. (j, itself, h) }

module _ (o t : Order) (laws : IsGraph o.graph) (thins : Thins o t) (parent : List (Option ℕ)) (up : List ℕ)
    (tells : TellParents o (length o.rows) parent) (goes : GoesToParents parent up) (size rank : List ℕ)
    (measured : Measured up size) (all : slice_index size (length up) ≡ length up + 1) (ranked : Ranked up size rank) where
  abbrev whole : Scene
  whole = scene-of o laws parent up tells goes size rank measured all ranked

  abbrev pub thin-scene : Scene
  thin-scene = record { order = t; up = up; size = size; rank = rank }

  inside : (i : ℕ) → i < length up → i < length o.rows
  inside i l = let e = places o laws parent up tells goes in omega (arith, l, e)

  whole-arc : (j i : ℕ) → Arc thin-scene j i → Arc whole j i
  whole-arc j i a = record { later = a.later; most = a.most; edge = thins.among j i a.later (inside i a.most) a.edge }

  pub is-thin-scene : IsScene thin-scene
  is-thin-scene = record {
    places = places o laws parent up tells goes ∙ sym thins.places;
    goes = goes-up o laws parent up tells goes;
    measured = measured;
    all = all;
    ranked = ranked;
    arcs = λ j i a. (is-scene o laws parent up tells goes size rank measured all ranked).arcs j i (whole-arc j i a);
  }

  pub whole-targets : (k a : ℕ) → CountsTargets thin-scene (Taken thin-scene (length up)) k a →
      CountsTargets whole (Taken whole (length up)) k a
  whole-targets k a m = record {
    test = m.test;
    marked = λ i l h. (let r = m.marked i l h in (r.0, r.1, r.2, (whole-arc r.1 i r.3.0, r.3.1)));
    marks = λ i j l b over s. (
        let arc = s.0 in
        let c = thins.covered j i arc.later (inside i l) arc.edge in
        let under = over_most o.graph o.rows laws c.1 in let low = arc.later in
        m.marks i c.0 l b (above-trans up (over-above o laws parent up tells goes c.1) over) (
          record { later = omega (arith, under, low); most = l; edge = c.2 },
          rank-low up (goes-up o laws parent up tells goes) size rank measured ranked c.0 (omega (arith, under, low, l)),
        )
        );
    is = m.is;
  }
