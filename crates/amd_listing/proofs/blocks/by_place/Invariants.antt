use Rattle.std.proofs.Common.{ℕ, ◌≡◌, ◌<◌, ◌≤◌, length}
use Rattle.std.specs.Prelude.{slice_index}
use Rattle.amd_model.specs.Listing.{Tree}
use Rattle.amd_postorder.specs.Trees.{IsPostorderOf}
use Rattle.amd_postorder.specs.CellLinks.{figure_links}
use Rattle.amd_listing.proofs.ByPlace.{AreSoFar}
use Rattle.amd_listing.proofs.blocks.by_place.Given as goal

abbrev pub invariant-elements : goal.invariant-elements
invariant-elements g l = record {
  room : length l.elements ≡ length l.fn.elements;
  few : l.count ≤ l.e;
  so_far : (t : Tree) (o : IsPostorderOf t (figure_links g.U.Unsigned.MOST l.order)) →
      ((k : ℕ) → k < length o.listing → slice_index o.listing k < t.size) → AreSoFar l.e o.listing l.elements l.count;
}
