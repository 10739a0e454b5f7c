use Rattle.std.proofs.Common.{ℕ, List, ◌≡◌, take}
use Rattle.amd_postorder.specs.Trees.{IsByPlace}
use Rattle.amd_plain.proofs.listed.those_there.Given as goal

abbrev pub invariant-places : goal.invariant-places
invariant-places g l = (n : ℕ) (listing : List ℕ) → IsByPlace n listing l.places → l.elements.items ≡ take l.place-index listing
