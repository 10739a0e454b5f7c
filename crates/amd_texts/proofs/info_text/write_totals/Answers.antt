-- The lines are written one after another.
use Rattle.std.proofs.lemmas.Result.{IfOk-from_err}
use Rattle.amd_texts.proofs.Written.{Appends-then}
use Rattle.amd_texts.proofs.info_text.write_totals.Goals as goal

pub returns-in_err-write_labelled : goal.returns-in_err-write_labelled
returns-in_err-write_labelled g c = IfOk-from_err _ _ c.from_residual.ensures.0

pub returns-in_err-write_labelled-2 : goal.returns-in_err-write_labelled-2
returns-in_err-write_labelled-2 g c = IfOk-from_err _ _ c.from_residual-in_err-write_labelled-2.ensures.0

pub returns-in_err-write_labelled-3 : goal.returns-in_err-write_labelled-3
returns-in_err-write_labelled-3 g c = IfOk-from_err _ _ c.from_residual-in_err-write_labelled-3.ensures.0

pub returns-in_err-write_labelled-4 : goal.returns-in_err-write_labelled-4
returns-in_err-write_labelled-4 g c = IfOk-from_err _ _ c.from_residual-in_err-write_labelled-4.ensures.0

pub returns-in_err-write_labelled-5 : goal.returns-in_err-write_labelled-5
returns-in_err-write_labelled-5 g c = IfOk-from_err _ _ c.from_residual-in_err-write_labelled-5.ensures.0

pub returns : goal.returns
returns g c =
    let up_to_2 = Appends-then _ _ _ _ _ c.in_ok-write_labelled.ensures c.in_ok-write_labelled-2.ensures in
    let up_to_3 = Appends-then _ _ _ _ _ up_to_2 c.in_ok-write_labelled-3.ensures in
    let up_to_4 = Appends-then _ _ _ _ _ up_to_3 c.in_ok-write_labelled-4.ensures in
    Appends-then _ _ _ _ _ up_to_4 c.in_ok-write_labelled-5.ensures
