-- A line that lacks a word of the header spells none.
use Rattle.amd_lines.specs.Words.{words}
use Rattle.amd_market.specs.Headers.{lowered, without_mark}
use Rattle.std.proofs.Common.{◌∷◌, ap, ◌∙◌}
use Rattle.amd_market.specs.Faults.{banner_word}
use Rattle.amd_market.proofs.EntryLemmas.{second-rest}
use Rattle.amd_market.proofs.FaultLemmas.{no-banner, no-kind}
use Rattle.std.proofs.lemmas.Result.{err_from_is_err_and}
use Rattle.amd_market.proofs.headers.header_of.Goals as goal

pub returns-in_default-clause-header : goal.returns-in_default-clause-header
returns-in_default-clause-header c = let none = rw c.without_mark.ensures at c.in_default.ensures in λ h e. none _ e

pub returns-in_default-clause-fault : goal.returns-in_default-clause-fault
returns-in_default-clause-fault c = no-banner c.banner_fault.result c.args.line.now c.banner_fault.ensures
    (rw c.without_mark.ensures at c.in_default.ensures)

pub returns-in_default-behind-clause-fault : goal.returns-in_default-behind-clause-fault
returns-in_default-behind-clause-fault c =
    let first = rw c.without_mark.ensures at c.in-Some.ensures in
    (_, (first, c.in_default-behind.ensures))

pub returns-in_default-format_of-clause-header : goal.returns-in_default-format_of-clause-header
returns-in_default-format_of-clause-header c =
    let first = rw c.without_mark.ensures at c.in-Some.ensures in
    λ h e. c.in_default-format_of.ensures h.format _
    (second-rest (lowered (words (without_mark c.args.line.now))) _ _ _ _ _ _ _ first c.in-Some-behind.ensures e)

pub returns-in_default-format_of-clause-fault : goal.returns-in_default-format_of-clause-fault
returns-in_default-format_of-clause-fault c =
    let first = rw c.without_mark.ensures at c.in-Some.ensures in
    (_, (first ∙ ap (λ z. banner_word ∷ z) c.in-Some-behind.ensures, c.in_default-format_of.ensures))

pub returns-in_err-field-clause-fault : goal.returns-in_err-field-clause-fault
returns-in_err-field-clause-fault c =
    let first = rw c.without_mark.ensures at c.in-Some.ensures in
    let p = err_from_is_err_and c.from_residual.result c.from_residual.ensures.1 in
    rw (p.1, p.2) (no-kind _ c.args.line.now _ _ _ c.in-Some-format_of.format first c.in-Some-behind.ensures c.in-Some-format_of.ensures
    c.in_err-field.ensures.fault)
