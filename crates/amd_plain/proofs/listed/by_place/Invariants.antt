use Rattle.std.proofs.Common.{ℕ, ◌<◌, length}
use Rattle.std.specs.Prelude.{slice_index}
use Rattle.amd_model.specs.Listing.{Tree}
use Rattle.amd_postorder.specs.Trees.{IsPostorderOf}
use Rattle.amd_plain.proofs.ByPlace.{AreSoFar}
use Rattle.amd_plain.proofs.listed.by_place.Given as goal

abbrev pub invariant-elements : goal.invariant-elements
invariant-elements g l = (t : Tree) (o : IsPostorderOf t l.places) → ((k : ℕ) → k < length o.listing → slice_index o.listing k < t.size) →
    AreSoFar l.e t.size o.listing l.elements.items
