-- the goals of cards::type_of.
use Rattle.std.proofs.Common.{◌∙◌, ap, arith, sym}
use Rattle.amd_market.specs.Boeing.{letter_symmetry, letter_values}
use Rattle.amd_market.proofs.ThirdLine.{type-length, type-no-values, type-no-symmetry, type-no-storage, type-whole, type-elemental}
use Rattle.amd_market.proofs.cards.type_of.Goals as goal

pub returns-in_default-clause-type_is : goal.returns-in_default-clause-type_is
returns-in_default-clause-type_is c = type-length c.args.word.now (λ e. let l = c.in_default.len_below in omega (arith, e, l))

pub returns-in_default-clause-fault : goal.returns-in_default-clause-fault
returns-in_default-clause-fault c = type-length c.args.word.now (λ e. let l = c.in_default.len_below in omega (arith, e, l))

pub returns-in_default-2-clause-type_is : goal.returns-in_default-2-clause-type_is
returns-in_default-2-clause-type_is c = type-length c.args.word.now (λ e. omega (arith, e))

pub returns-in_default-2-clause-fault : goal.returns-in_default-2-clause-fault
returns-in_default-2-clause-fault c = type-length c.args.word.now (λ e. omega (arith, e))

pub returns-in_default-letter_values-clause-type_is : goal.returns-in_default-letter_values-clause-type_is
returns-in_default-letter_values-clause-type_is c =
    type-no-values c.args.word.now (ap letter_values (sym c.to_ascii_lowercase.ensures.value) ∙ sym c.in_default-letter_values.ensures)

pub returns-in_default-letter_values-clause-fault : goal.returns-in_default-letter_values-clause-fault
returns-in_default-letter_values-clause-fault c =
    type-no-values c.args.word.now (ap letter_values (sym c.to_ascii_lowercase.ensures.value) ∙ sym c.in_default-letter_values.ensures)

pub returns-in_default-letter_symmetry-clause-type_is : goal.returns-in_default-letter_symmetry-clause-type_is
returns-in_default-letter_symmetry-clause-type_is c =
    type-no-symmetry c.args.word.now
    (ap letter_symmetry (sym c.to_ascii_lowercase-2.ensures.value) ∙ sym c.in_default-letter_symmetry.ensures)

pub returns-in_default-letter_symmetry-clause-fault : goal.returns-in_default-letter_symmetry-clause-fault
returns-in_default-letter_symmetry-clause-fault c =
    type-no-symmetry c.args.word.now
    (ap letter_symmetry (sym c.to_ascii_lowercase-2.ensures.value) ∙ sym c.in_default-letter_symmetry.ensures)

pub returns-in-97-clause-type_is : goal.returns-in-97-clause-type_is
returns-in-97-clause-type_is c =
    type-whole c.args.word.now _ (omega arith) (ap letter_values (sym c.to_ascii_lowercase.ensures.value) ∙ sym c.in-Some.ensures)
    (ap letter_symmetry (sym c.to_ascii_lowercase-2.ensures.value) ∙ sym c.in-Some-letter_symmetry.ensures)
    (sym c.to_ascii_lowercase-3.ensures.value ∙ c.in-97.is)

pub returns-in-101-clause-type_is : goal.returns-in-101-clause-type_is
returns-in-101-clause-type_is c = type-no-storage c.args.word.now
    (λ e. let low = c.to_ascii_lowercase-3.ensures.value in let is = c.in-101.is in omega (arith, e, low, is))

pub returns-in-101-clause-fault : goal.returns-in-101-clause-fault
returns-in-101-clause-fault c = type-elemental c.args.word.now (omega arith) (sym c.to_ascii_lowercase-3.ensures.value ∙ c.in-101.is)

pub returns-in_default-to_ascii_lowercase-clause-type_is : goal.returns-in_default-to_ascii_lowercase-clause-type_is
returns-in_default-to_ascii_lowercase-clause-type_is c =
    type-no-storage c.args.word.now (λ e. let low = c.to_ascii_lowercase-3.ensures.value in omega (arith, e, low))

pub returns-in_default-to_ascii_lowercase-clause-fault : goal.returns-in_default-to_ascii_lowercase-clause-fault
returns-in_default-to_ascii_lowercase-clause-fault c =
    type-no-storage c.args.word.now (λ e. let low = c.to_ascii_lowercase-3.ensures.value in omega (arith, e, low))
