-- The entries so far were read.
use Rattle.amd_market.specs.Files.{TakesEntries}
use Rattle.amd_market.specs.Keys.{pairs_of_keys}
use Rattle.amd_market.proofs.reader.take_keys.Given as goal

abbrev pub invariant-entries : goal.invariant-entries
invariant-entries g l = TakesEntries g.R.Read.remaining l.fn.lines l.lines l.fn.header l.fn.size.rows l.done (pairs_of_keys l.keys.items)
