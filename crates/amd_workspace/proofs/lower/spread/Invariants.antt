use Rattle.std.proofs.Common.{◌≡◌, ◌≤◌, ◌-◌, ℕ, length}
use Rattle.amd_workspace.specs.Lower.{Matrix, IsReadyForColumn, SpreadsFirst}
use Rattle.amd_workspace.proofs.LowerWords.{partly}
use Rattle.amd_workspace.proofs.lower.spread.Given as goal

abbrev pub invariant-words : goal.invariant-words
invariant-words g l = record {
  from : l.from ≤ l.place;
  to : l.place ≤ l.end;
  long : length l.iw ≡ length l.fn.iw;
  spreads : (x : Matrix) (m : ℕ) → IsReadyForColumn x m l.j l.end g.S.Signed.MOST g.U.Unsigned.MOST l.fn.next l.fn.iw →
      SpreadsFirst x.n x.ap x.ai m (partly x.n x.ap x.ai l.j (l.place - l.from)) l.next l.iw;
}
