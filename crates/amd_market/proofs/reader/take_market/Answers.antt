-- An error names the line that was read last.
use Rattle.amd_market.proofs.FaultLemmas.{for-machine}
use Rattle.amd_market.proofs.reader.take_market.Goals as goal

pub returns-in-Err-clause-fails : goal.returns-in-Err-clause-fails
returns-in-Err-clause-fails g c =
    let read = c.in_ok-n.ensures.takes in for-machine _ _ _ read.lines _ _ read.takes c.at_line.ensures tt
