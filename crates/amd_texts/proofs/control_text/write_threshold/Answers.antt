-- The parts are written one after another.
use Rattle.std.proofs.lemmas.Result.{IfOk-from_err}
use Rattle.amd_texts.proofs.Written.{Appends-then}
use Rattle.amd_texts.proofs.control_text.write_threshold.Goals as goal

pub returns-in_err-write_all : goal.returns-in_err-write_all
returns-in_err-write_all g c = IfOk-from_err _ _ c.from_residual.ensures.0

pub returns-in_err-write_thousandths : goal.returns-in_err-write_thousandths
returns-in_err-write_thousandths g c = IfOk-from_err _ _ c.from_residual-in_err-write_thousandths.ensures.0

pub returns-in_err-write_all-2 : goal.returns-in_err-write_all-2
returns-in_err-write_all-2 g c = IfOk-from_err _ _ c.from_residual-in_err-write_all-2.ensures.0

pub returns-in_err-write_all-3 : goal.returns-in_err-write_all-3
returns-in_err-write_all-3 g c = IfOk-from_err _ _ c.from_residual-in_err-write_all-3.ensures.0

pub returns : goal.returns
returns g c =
    let up_to_2 = Appends-then _ _ _ _ _ c.in_ok-write_all.ensures.bytes c.in_ok-write_thousandths.ensures in
    let from_3 = Appends-then _ _ _ _ _ c.in_ok-write_all-2.ensures.bytes c.in_ok-write_all-3.ensures.bytes in
    Appends-then _ _ _ _ _ up_to_2 from_3
