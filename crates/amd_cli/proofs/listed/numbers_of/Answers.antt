-- A word that is no number is neither of those of a line.
use Rattle.amd_cli.proofs.ToldNumbers.{no-first, no-second}
use Rattle.amd_cli.proofs.listed.numbers_of.Goals as goal

pub returns-in_err-first : goal.returns-in_err-first
returns-in_err-first c =
    rw c.from_residual-in_err-first.ensures (no-first _ _ _ _ c.in_ok-word.ensures.words c.in_err-first.ensures)

pub returns-in_err-second : goal.returns-in_err-second
returns-in_err-second c =
    rw c.from_residual-in_err-second.ensures
    (no-second _ _ _ _ _ _ c.in_ok-word.ensures.words c.in-Some.ensures.words c.in_err-second.ensures)
