use Rattle.std.proofs.Common.{ℕ, suc, ◌≡◌, ◌<◌, ◌≤◌, length, is_none}
use Rattle.amd_model.specs.State.{Home}
use Rattle.amd_plain.specs.Views.{some_at}
use Rattle.amd_plain.specs.Keeps.{PlainLinksLead}
use Rattle.amd_listing.proofs.LinkSteps.{steps}
use Rattle.amd_plain.proofs.listed.shortcut.Given as goal

abbrev pub invariant-links : goal.invariant-links
invariant-links g l = record {
  size : length l.link.items ≡ length l.fn.link.items;
  within : l.row < length l.fn.link.items;
  alone : (u : ℕ) → is_none (some_at l.link.items u) ≡ is_none (some_at l.fn.link.items u);
  home : (home : ℕ → Home) → PlainLinksLead l.fn.link.items home → home l.row ≡ home l.root;
  led : (home : ℕ → Home) → PlainLinksLead l.fn.link.items home → PlainLinksLead l.link.items home;
  ahead : (home : ℕ → Home) (led : PlainLinksLead l.fn.link.items home) (r : ℕ) → led.rank l.row ≤ led.rank r →
      some_at l.link.items r ≡ some_at l.fn.link.items r;
}

abbrev pub decreases-links : goal.decreases-links
decreases-links g l = steps (some_at l.fn.link.items) (suc (length l.fn.link.items)) l.row
