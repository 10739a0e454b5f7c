use Rattle.std.proofs.Common.{◌≡◌, ◌-◌, ℕ, length}
use Rattle.amd_workspace.specs.Lower.{Matrix}
use Rattle.amd_workspace.specs.Bands.{IsReadyForPart, band_part}
use Rattle.amd_workspace.proofs.BandWords.{Part}
use Rattle.amd_workspace.proofs.bands.spread_until.Given as goal

abbrev pub invariant-words : goal.invariant-words
invariant-words g l = record {
  long : length l.iw ≡ length l.fn.iw;
  part : (m : Matrix) (lo : ℕ) → IsReadyForPart m (band_part lo l.hi l.j l.fn.place l.end) g.S.Signed.MOST g.U.Unsigned.MOST
      l.fn.next l.fn.iw →
      Part m lo l.hi l.j l.place l.next l.iw;
}

abbrev pub decreases-words : goal.decreases-words
decreases-words g l = l.end - l.place
