use Rattle.std.proofs.Common.{ℕ, suc, ◌≡◌, ◌<◌, length}
use Rattle.amd_model.specs.State.{Home}
use Rattle.amd_plain.specs.Views.{some_at}
use Rattle.amd_plain.specs.Keeps.{PlainLinksLead}
use Rattle.amd_listing.proofs.LinkSteps.{steps}
use Rattle.amd_plain.proofs.listed.root_of.Given as goal

abbrev pub invariant-links : goal.invariant-links
invariant-links g l = record {
  within : l.row < length l.link.items;
  home : (home : ℕ → Home) → PlainLinksLead l.link.items home → home l.v ≡ home l.row;
}

abbrev pub decreases-links : goal.decreases-links
decreases-links g l = steps (some_at l.link.items) (suc (length l.link.items)) l.row
