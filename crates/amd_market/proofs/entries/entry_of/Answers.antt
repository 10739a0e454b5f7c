-- The words that are at fault, behind those that are not.
use Rattle.std.proofs.Common.{◌∷◌, ap, ◌∙◌}
use Rattle.amd_market.specs.Faults.{no_row, no_column, no_value}
use Rattle.amd_market.proofs.entries.entry_of.Goals as goal

pub returns-in_default-index_of-clause-fault : goal.returns-in_default-index_of-clause-fault
returns-in_default-index_of-clause-fault c =
    let parts = c.in-Some.ensures.words ∙ ap (λ z. c.in-Some.first.now ∷ z) c.in-Some-first_word.ensures.words in
    no_row c.in-Some.first.now c.in-Some-first_word.second.now _ parts c.in_default-index_of.ensures c.row_fault.ensures

pub returns-in_default-index_of-2-clause-fault : goal.returns-in_default-index_of-2-clause-fault
returns-in_default-index_of-2-clause-fault c =
    let parts = c.in-Some.ensures.words ∙ ap (λ z. c.in-Some.first.now ∷ z) c.in-Some-first_word.ensures.words in
    no_column c.in-Some.first.now c.in-Some-first_word.second.now _ parts c.in-Some-index_of.row c.in-Some-index_of.ensures
    c.in_default-index_of-2.ensures c.column_fault.ensures

pub returns-else-has_values-clause-fault : goal.returns-else-has_values-clause-fault
returns-else-has_values-clause-fault c =
    let parts = c.in-Some.ensures.words ∙ ap (λ z. c.in-Some.first.now ∷ z) c.in-Some-first_word.ensures.words in
    no_value c.in-Some.first.now c.in-Some-first_word.second.now _ parts c.in-Some-index_of.row c.in-Some-index_of-2.column
    c.in-Some-index_of.ensures c.in-Some-index_of-2.ensures
    (λ h. let e = c.if-has_values.ensures.1 (rw c.words.ensures h) in cc) (rw c.words-else-has_values.ensures at c.value_fault.ensures)
