use Rattle.std.proofs.Common.{◌≡◌, ◌≤◌, ◌-◌, length}
use Rattle.amd_workspace.specs.Lower.{Matrix, HasColumns, SpreadsColumns}
use Rattle.amd_workspace.specs.Bands.{HasHeads, spread_to}
use Rattle.amd_workspace.proofs.bands.spread_bands.Given as goal

abbrev pub invariant-bands : goal.invariant-bands
invariant-bands g l = record {
  long : length l.iw ≡ length l.fn.iw;
  low : l.lo ≤ length l.degrees;
  spreads : (m : Matrix) → HasColumns m l.degrees g.S.Signed.MOST g.U.Unsigned.MOST l.fn.next l.fn.iw →
      HasHeads m (λ j. 0) l.fn.heads → SpreadsColumns m.n m.ap m.ai (spread_to m.n m.ap m.ai l.lo) l.next l.iw;
  stand : (m : Matrix) → HasColumns m l.degrees g.S.Signed.MOST g.U.Unsigned.MOST l.fn.next l.fn.iw →
      HasHeads m (λ j. 0) l.fn.heads → HasHeads m (λ j. l.lo) l.heads;
}

abbrev pub decreases-bands : goal.decreases-bands
decreases-bands g l = l.n - l.lo
