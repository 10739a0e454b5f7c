-- The parts are written one after another.
use Rattle.std.proofs.lemmas.Result.{IfOk-from_err}
use Rattle.amd_texts.proofs.Written.{Appends-then}
use Rattle.amd_texts.proofs.info_text.info.Goals as goal

pub returns-in_err-write_all : goal.returns-in_err-write_all
returns-in_err-write_all g c = IfOk-from_err _ _ c.from_residual.ensures.0

pub returns-in_err-write_matrix : goal.returns-in_err-write_matrix
returns-in_err-write_matrix g c = IfOk-from_err _ _ c.from_residual-in_err-write_matrix.ensures.0

pub returns-in_err-write_all-2 : goal.returns-in_err-write_all-2
returns-in_err-write_all-2 g c = IfOk-from_err _ _ c.from_residual-in_err-write_all-2.ensures.0

pub returns-in_err-write_note : goal.returns-in_err-write_note
returns-in_err-write_note g c = IfOk-from_err _ _ c.from_residual-in_err-write_note.ensures.0

pub returns-in_err-write_all-3 : goal.returns-in_err-write_all-3
returns-in_err-write_all-3 g c = IfOk-from_err _ _ c.from_residual-in_err-write_all-3.ensures.0

pub returns-in_err-write_factor : goal.returns-in_err-write_factor
returns-in_err-write_factor g c = IfOk-from_err _ _ c.from_residual-in_err-write_factor.ensures.0

pub returns-in_err-write_all-4 : goal.returns-in_err-write_all-4
returns-in_err-write_all-4 g c = IfOk-from_err _ _ c.from_residual-in_err-write_all-4.ensures.0

pub returns-in_err-write_totals : goal.returns-in_err-write_totals
returns-in_err-write_totals g c = IfOk-from_err _ _ c.from_residual-in_err-write_totals.ensures.0

pub returns-in_err-write_all-5 : goal.returns-in_err-write_all-5
returns-in_err-write_all-5 g c = IfOk-from_err _ _ c.from_residual-in_err-write_all-5.ensures.0

pub returns : goal.returns
returns g c =
    let up_to_2 = Appends-then _ _ _ _ _ c.in_ok-write_all.ensures.bytes c.in_ok-write_matrix.ensures in
    let up_to_3 = Appends-then _ _ _ _ _ up_to_2 c.in_ok-write_all-2.ensures.bytes in
    let up_to_4 = Appends-then _ _ _ _ _ up_to_3 c.in_ok-write_note.ensures in
    let up_to_5 = Appends-then _ _ _ _ _ up_to_4 c.in_ok-write_all-3.ensures.bytes in
    let up_to_6 = Appends-then _ _ _ _ _ up_to_5 c.in_ok-write_factor.ensures in
    let up_to_7 = Appends-then _ _ _ _ _ up_to_6 c.in_ok-write_all-4.ensures.bytes in
    let up_to_8 = Appends-then _ _ _ _ _ up_to_7 c.in_ok-write_totals.ensures in
    Appends-then _ _ _ _ _ up_to_8 c.in_ok-write_all-5.ensures.bytes
