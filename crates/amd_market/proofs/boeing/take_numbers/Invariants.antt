-- The lines that were read spell the numbers so far.
use Rattle.std.proofs.Common.{◌++◌, ◌-◌, ◌≤◌, ◌<◌, ℕ, List, length}
use Rattle.amd_market.specs.Boeing.{FillsLines, SpellsTable}
use Rattle.amd_lines.specs.Lines.{TakesLines}
use Rattle.amd_market.proofs.boeing.take_numbers.Given as goal

abbrev pub invariant-lines : goal.invariant-lines
invariant-lines g l = (ls : List (List ℕ)) × TakesLines g.R.Read.remaining l.fn.lines l.lines ls × (length l.numbers.items ≤ l.count) ×
    ((ns : List (List ℕ)) → (js : List ℕ) →
    SpellsTable l.fields l.bound (l.count - length l.numbers.items) ns js →
    SpellsTable l.fields l.bound l.count (ls ++ ns) (l.numbers.items ++ js)) ×
    (length l.numbers.items < l.count → FillsLines l.fields l.bound ls l.numbers.items)

abbrev pub decreases-lines : goal.decreases-lines
decreases-lines g l = l.count - length l.numbers.items
