use Rattle.std.proofs.Common.{◌≡◌, ℕ, cond, length, ltb}
use Rattle.amd_workspace.specs.Lower.{Matrix, SpreadsColumns, own_start}
use Rattle.amd_workspace.specs.Bands.{HasHeads, IsReadyForBand, banded}
use Rattle.amd_workspace.proofs.bands.spread_band.Given as goal

abbrev pub invariant-columns : goal.invariant-columns
invariant-columns g l = record {
  long : length l.iw ≡ length l.fn.iw;
  heads_long : length l.heads ≡ length l.fn.heads;
  end : (m : Matrix) (lo : ℕ) → IsReadyForBand m lo l.hi l.degrees g.S.Signed.MOST g.U.Unsigned.MOST l.fn.next l.fn.iw l.fn.heads →
      l.end ≡ own_start m.n m.ap m.ai l.j;
  spreads : (m : Matrix) (lo : ℕ) → IsReadyForBand m lo l.hi l.degrees g.S.Signed.MOST g.U.Unsigned.MOST l.fn.next l.fn.iw l.fn.heads →
      SpreadsColumns m.n m.ap m.ai (banded m.n m.ap m.ai lo l.hi l.j lo) l.next l.iw;
  heads : (m : Matrix) (lo : ℕ) → IsReadyForBand m lo l.hi l.degrees g.S.Signed.MOST g.U.Unsigned.MOST l.fn.next l.fn.iw l.fn.heads →
      HasHeads m (λ i. cond (ltb i l.j) l.hi lo) l.heads;
}
