-- The links so far, and the parents so far stand behind.
use Rattle.amd_command.proofs.Posting.{AreLinksUpTo}
use Rattle.amd_command.proofs.postorder.links_to.Given as goal

abbrev pub invariant-columns : goal.invariant-columns
invariant-columns l = AreLinksUpTo l.parents l.k l.links.items
