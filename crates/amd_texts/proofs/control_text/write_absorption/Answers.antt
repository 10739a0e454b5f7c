-- Which line is written depends on the choice.
use Rattle.std.proofs.Common.{sym, subst}
use Rattle.std.proofs.lemmas.Result.{IfOk-from_err}
use Rattle.std.specs.Io.KnownBytes.{Appends}
use Rattle.amd_texts.specs.Texts.{absorption_line}
use Rattle.amd_texts.proofs.control_text.write_absorption.Goals as goal

pub returns-in_err-write_all : goal.returns-in_err-write_all
returns-in_err-write_all g c = IfOk-from_err _ _ c.from_residual.ensures.0

pub returns-in_err-write_all-2 : goal.returns-in_err-write_all-2
returns-in_err-write_all-2 g c = IfOk-from_err _ _ c.from_residual-in_err-write_all-2.ensures.0

pub returns-in_ok-write_all : goal.returns-in_ok-write_all
returns-in_ok-write_all g c =
    subst (λ b. Appends (g.W.Write.contents c.args.out.now) (g.W.Write.contents c.write_all.new.self) (absorption_line b))
    (sym c.if-control.true) c.in_ok-write_all.ensures.bytes

pub returns-in_ok-write_all-2 : goal.returns-in_ok-write_all-2
returns-in_ok-write_all-2 g c =
    subst (λ b. Appends (g.W.Write.contents c.args.out.now) (g.W.Write.contents c.write_all-else-control.new.self) (absorption_line b))
    (sym c.if-control.false) c.in_ok-write_all-2.ensures.bytes
