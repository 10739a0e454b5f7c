-- The words before what is left spell the numbers.
use Rattle.std.proofs.Common.{◌≡◌, ◌++◌, ℕ, List, length}
use Rattle.amd_lines.specs.Words.{words, SpellsNumbers}
use Rattle.amd_cases.proofs.items.numbers_of.Given as goal

abbrev pub invariant-words : goal.invariant-words
invariant-words g l = (ws : List (List ℕ)) × (words l.fn.text ≡ ws ++ words l.left) × SpellsNumbers ws l.numbers.items

abbrev pub decreases-words : goal.decreases-words
decreases-words g l = length l.left
