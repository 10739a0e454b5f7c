use Rattle.std.proofs.Common.{◌≡◌, ◌+◌, sym, ◌∙◌, subst, rules}
use Rattle.std.specs.Prelude.{slice_index}
use Rattle.amd_factor.specs.Partitions.{AreSame, SumEnds, ends, nothing, within}
use Rattle.amd_factor.proofs.partition.sum_ends.Goals as goal
use Rattle.amd_factor.proofs.partition.sum_ends.Goals.{then-not-is_same+in-Some, else-not-is_same}

pub places-init : goal.places-init
places-init c = nothing

pub places-preserved : goal.places-preserved
places-preserved c = elim c.if-not-is_same.branch [
  | then-not-is_same+in-Some w ↦ (
      let other : AreSame c.args.owner.now c.places.k → ⊥ = search rules in
      let sum : w.in-Some.sum ≡ c.places.total + slice_index c.args.sizes.now c.places.k = search rules in
      subst (SumEnds c.args.owner.now c.args.sizes.now (c.places.k + 1)) (sym (w.total-is ∙ sum)) (ends other c.places.invariant))
  | else-not-is_same w ↦ (
      let same : AreSame c.args.owner.now c.places.k = search rules in
      subst (SumEnds c.args.owner.now c.args.sizes.now (c.places.k + 1)) (sym w.total-is) (within same c.places.invariant))
]
