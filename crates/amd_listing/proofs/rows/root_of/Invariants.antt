use Rattle.std.proofs.Common.{ℕ, suc, ◌≡◌, length}
use Rattle.amd_model.specs.State.{Home}
use Rattle.amd_listing.specs.Ended.{row_link, LinksAre}
use Rattle.amd_listing.proofs.LinkSteps.{steps}
use Rattle.amd_listing.proofs.rows.root_of.Given as goal

abbrev pub invariant-links : goal.invariant-links
invariant-links g l = (home : ℕ → Home) → LinksAre (length l.nv) l.link l.nv home → home l.v ≡ home l.row

abbrev pub decreases-links : goal.decreases-links
decreases-links g l = steps (row_link l.link l.nv) (suc (length l.nv)) l.row
