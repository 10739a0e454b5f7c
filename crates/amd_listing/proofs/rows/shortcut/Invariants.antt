use Rattle.std.proofs.Common.{ℕ, suc, ◌≡◌, ◌<◌, ◌≤◌, length}
use Rattle.amd_words.specs.Words.{word, size_of}
use Rattle.amd_model.specs.State.{Home, Gone}
use Rattle.amd_listing.specs.Ended.{row_link, LinksAre}
use Rattle.amd_listing.proofs.LinkSteps.{steps}
use Rattle.amd_listing.proofs.rows.shortcut.Given as goal

abbrev pub invariant-links : goal.invariant-links
invariant-links g l = record {
  home : (home : ℕ → Home) → LinksAre (length l.nv) l.fn.link l.nv home → home l.row ≡ Gone l.root;
  led : (home : ℕ → Home) → LinksAre (length l.nv) l.fn.link l.nv home → LinksAre (length l.nv) l.link l.nv home;
  parents : (e : ℕ) → 0 < size_of l.nv e → word l.link e ≡ word l.fn.link e;
  ahead : (home : ℕ → Home) (are : LinksAre (length l.nv) l.fn.link l.nv home) (r : ℕ) → are.leads.rank l.row ≤ are.leads.rank r →
      row_link l.link l.nv r ≡ row_link l.fn.link l.nv r;
}

abbrev pub decreases-links : goal.decreases-links
decreases-links g l = steps (row_link l.fn.link l.nv) (suc (length l.nv)) l.row
