use Rattle.std.proofs.Common.{ℕ, false, ◌≡◌, ◌<◌, ◌==◌, ◌&&◌, not, length, is_none}
use Rattle.amd_model.specs.Below.{list_below}
use Rattle.amd_model.specs.State.{Home, block_at, live_at}
use Rattle.amd_plain.specs.Views.{list_at, some_at}
use Rattle.amd_plain.specs.Keeps.{PlainLinksLead}
use Rattle.amd_plain.proofs.listed.rows_of_elements.Given as goal

abbrev pub invariant-rows : goal.invariant-rows
invariant-rows g l = record {
  size : length l.link.items ≡ length l.fn.link.items;
  room : length l.rows.items ≡ length l.fn.link.items;
  alone : (u : ℕ) → is_none (some_at l.link.items u) ≡ is_none (some_at l.fn.link.items u);
  led : (home : ℕ → Home) → PlainLinksLead l.fn.link.items home → PlainLinksLead l.link.items home;
  rows : (home : ℕ → Home) → PlainLinksLead l.fn.link.items home → ((v : ℕ) → live_at (home v) ≡ false) → (e : ℕ) →
      e < length l.fn.link.items →
      list_at l.rows.items e ≡ list_below l.v (λ v. block_at e (home v) && not (v == e));
}
