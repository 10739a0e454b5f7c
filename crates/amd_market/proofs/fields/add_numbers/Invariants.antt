-- The fields before what is left spell the numbers that were added.
use Rattle.std.proofs.Common.{◌≡◌, ◌++◌, ℕ, List, length}
use Rattle.amd_market.specs.Boeing.{SpellsFields, behind_fields}
use Rattle.amd_market.proofs.fields.add_numbers.Given as goal

abbrev pub invariant-fields : goal.invariant-fields
invariant-fields g l = (more : List ℕ) × (length more ≡ l._done) × (l.numbers.items ≡ l.fn.numbers.items ++ more) ×
    ((ks : List ℕ) → SpellsFields l.width l.bound l.left ks → SpellsFields l.width l.bound l.line (more ++ ks)) ×
    (l.left ≡ behind_fields l.width l.line more)
