-- A block without columns paints nothing; another one raises the cells from that of its first column up to that of its last.
use Rattle.std.proofs.Common.{◌∙◌, ap, arith, inr, length, refl}
use Rattle.amd_report.proofs.Pushed.{written-over}
use Rattle.amd_report.proofs.canvas.Canvas.paint.Goals as goal

pub returns-then-width-gt0-clause-same : goal.returns-then-width-gt0-clause-same
returns-then-width-gt0-clause-same g c = record {
  across = refl;
  down = refl;
  side = refl;
  lines = refl;
  cells = (let fronts = c.args.self.now.fronts in let new = c.raise.new.fronts in
      let a = c.raise.auto.fronts in let b = ap length c.deref_mut.ensures.value in let d = fronts.ok.0 in
      ap length (written-over new fronts.items fronts.len (omega (arith, a, b, d))) ∙ a ∙ b);
}

pub returns-else-width-gt0-clause-paints : goal.returns-else-width-gt0-clause-paints
returns-else-width-gt0-clause-paints g c = λ cell.
    inr ((λ lies. (let some = lies.1.some in let none = c.if-width-gt0.false in omega (arith, some, none))), refl)
