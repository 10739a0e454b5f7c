use Rattle.std.proofs.Common.{◌≡◌, ◌≤◌, length}
use Rattle.amd_plain.specs.Views.{num, list_at}
use Rattle.amd_plain.specs.Rounds.{plain_alike}
use Rattle.amd_plain.specs.Groups.{group_in, IsClearScratch}
use Rattle.amd_round_laws.proofs.Merging.Representatives.{Found, alike_self, alike_flip, alike_through}
use Rattle.amd_plain.proofs.merging.representatives.Given as goal

abbrev pub invariant-classes : goal.invariant-classes
invariant-classes g l = record {
  within : l.left ≤ length l.rest;
  ready : IsClearScratch (length l.lists.elements.items) l.scratch;
  found : Found (plain_alike l.lists.elements.items l.lists.variables.items)
      (alike_self (list_at l.lists.elements.items) (list_at l.lists.variables.items))
      (alike_flip (list_at l.lists.elements.items) (list_at l.lists.variables.items))
      (alike_through (list_at l.lists.elements.items) (list_at l.lists.variables.items))
      l.rest (group_in l.lists.elements.items l.lists.variables.items) l.left (num l.scratch.into.items) (list_at l.scratch.groups.items);
  beyond : l.scratch.beyond ≡ l.initial.scratch.beyond;
}

abbrev pub decreases-classes : goal.decreases-classes
decreases-classes g l = l.left
