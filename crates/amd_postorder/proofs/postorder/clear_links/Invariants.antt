use Rattle.std.proofs.Common.{◌≡◌, ◌<◌, ℕ, negsuc}
use Rattle.amd_model.specs.Input.Columns.{at}
use Rattle.amd_postorder.proofs.postorder.clear_links.Given as goal

abbrev pub invariant-links : goal.invariant-links
invariant-links g l = (e : ℕ) → e < l.j → at (g.L.Link.read l.links) e ≡ negsuc 0
