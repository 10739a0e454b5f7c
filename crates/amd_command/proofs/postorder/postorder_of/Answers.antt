-- The columns stand at their places in the order.
use Rattle.std.proofs.Common.{refl}
use Rattle.amd_command.proofs.Posting.{posted-of}
use Rattle.amd_command.proofs.postorder.postorder_of.Goals as goal

pub returns-in-Some : goal.returns-in-Some
returns-in-Some c = posted-of _ _ _ _ _ (λ z. refl) c.deref.ensures.value c.in_ok-order.ensures.behind c.in_ok-order.ensures.order
    (rw c.in-Some.is at c.in_ok-columns.ensures.places)
