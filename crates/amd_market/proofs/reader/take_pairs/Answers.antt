-- Each turn reads one entry more.
use Rattle.std.proofs.Common.{arith}
use Rattle.amd_market.proofs.FaultLemmas.{handed-on}
use Rattle.amd_market.proofs.FileLemmas.{entries-none, entries-behind, entries-stopped, entries-and}
use Rattle.amd_market.proofs.reader.take_pairs.Goals as goal

pub entries-init : goal.entries-init
entries-init g c = entries-none _ _ _ _ _ c.pairs_for-pairs.ensures

pub returns-in_err-entry-clause-fails : goal.returns-in_err-entry-clause-fails
returns-in_err-entry-clause-fails g c = handed-on _ c.from_residual.result c.from_residual.ensures.1
    (entries-behind c.entries.invariant (omega arith) c.in_err-entry.ensures.fails)

pub returns-in_default-clause-fails : goal.returns-in_default-clause-fails
returns-in_default-clause-fails g c = entries-stopped c.entries.invariant c.in_ok-entry.ensures.takes c.at_line.ensures tt

pub entries-preserved : goal.entries-preserved
entries-preserved g c = entries-and c.entries.invariant c.in_ok-entry.ensures.takes c.in-Ok.ensures
