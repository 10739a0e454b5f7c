-- Each turn reads one line more, or passes a long one.
use Rattle.std.proofs.Common.{◌≡◌, true, false, [], ◌∷◌, ◌++◌, ◌∙◌, refl, sym, subst, rules}
use Rattle.std.proofs.lemmas.Result.{err_from_is_err_and}
use Rattle.amd_lines.specs.Words.{words}
use Rattle.amd_lines.specs.Lines.{is_note, line_of, FailsAt}
use Rattle.amd_lines.proofs.LineLemmas.{takes-none, takes-one, takes-append, takes-end, fails-here, fails-behind}
use Rattle.amd_lines.proofs.LineLemmas.{if-long, long-of}
use Rattle.amd_lines.proofs.LineLemmas.{telling-none, telling-both, notes-end, notes-telling}
use Rattle.amd_lines.proofs.NoteLemmas.{note-takes, meets-telling}
use Rattle.amd_lines.proofs.lines.LineReader.take_telling.Goals.{in-Ok-true+else-not-is_note}
use Rattle.amd_lines.proofs.lines.LineReader.take_telling.Goals.{in-Err+else-not-is_long+in_ok-pass_note-in-Err+else-not-branch}
use Rattle.amd_lines.proofs.lines.LineReader.take_telling.Goals as goal

pub lines-init : goal.lines-init
lines-init g c = ([], takes-none _ _, refl)

pub returns-then-not-is_note-clause-takes : goal.returns-then-not-is_note-clause-takes
returns-then-not-is_note-clause-takes g c =
    let inv = c.lines.invariant in
    let says : is_note c.args.mark (words (line_of c.take_line.new.self)) ≡ false = search rules in
    notes-telling _ _ _ _ inv.0 inv.1 inv.2 (rw c.in-Ok-true.field-0-test at c.in-Ok-true.ensures.takes) says

pub returns-in-Ok-false-clause-takes : goal.returns-in-Ok-false-clause-takes
returns-in-Ok-false-clause-takes g c =
    let inv = c.lines.invariant in
    notes-end _ _ _ _ inv.0 inv.1 inv.2 (takes-end _ _ _ (rw c.in-Ok-false.field-0-test at c.in-Ok-false.ensures.takes))

pub returns-clause-fails : goal.returns-clause-fails
returns-clause-fails g c = let inv = c.lines.invariant in fails-here _ _ _ inv.0 _ inv.1 c.at_line.ensures.named

pub returns-then-not-is_long-clause-fails : goal.returns-then-not-is_long-clause-fails
returns-then-not-is_long-clause-fails g c = let inv = c.lines.invariant in fails-behind _ _ _ inv.0 _ inv.1 c.in-Err.ensures.fails

pub returns-in_err-pass_note-in-Err-clause-fails : goal.returns-in_err-pass_note-in-Err-clause-fails
returns-in_err-pass_note-in-Err-clause-fails g c =
    let inv = c.lines.invariant in
    let p = err_from_is_err_and c.from_residual.result c.from_residual.ensures.1 in
    let same = c.in_err-pass_note-in-Err.ensures.named ∙ sym c.in-Err.ensures.counted in
    rw (p.1, p.2) (subst (λ n. FailsAt g.R.Read.remaining c.args.self.now n) (sym same)
    (fails-behind _ _ _ inv.0 _ inv.1 c.in-Err.ensures.fails))

pub returns-then-not-branch-clause-fails : goal.returns-then-not-branch-clause-fails
returns-then-not-branch-clause-fails g c = let inv = c.lines.invariant in fails-behind _ _ _ inv.0 _ inv.1 c.in-Err.ensures.fails

pub returns-then-not-branch-clause-long : goal.returns-then-not-branch-clause-long
returns-then-not-branch-clause-long g c =
    let inv = c.lines.invariant in
    let is = sym c.is_long.ensures ∙ c.if-not-is_long.false in
    let stands = long-of c.in-Err.error.cause is c.in-Err.ensures.stands in
    let met = long-of c.in-Err.error.cause is c.in-Err.ensures.long in
    let tells = rw c.if-not-branch.true at c.in_ok-pass_note-in-Err.ensures.passes in
    if-long c.in-Err.error.cause (meets-telling c.args.mark g.R.Read.remaining c.args.self.now c.lines.self c.take_line.new.self
    inv.0 c.in-Err.error.line inv.1 inv.2 stands c.take_line.ensures.longest met.named tells)

pub lines-preserved : goal.lines-preserved
lines-preserved g c =
    let inv = c.lines.invariant in
    elim c.match-take_line.branch [
      | in-Ok-true+else-not-is_note w ↦
          let line = line_of c.take_line.new.self in
          let one = takes-one _ _ _ (rw w.in-Ok-true.field-0-test at w.in-Ok-true.ensures.takes) in
          let note : is_note c.args.mark (words line) ≡ true = search rules in
          let tells = telling-both c.args.mark inv.0 (line ∷ []) [] [] inv.2 (telling-none c.args.mark line note) in
          rw w.self-is (inv.0 ++ line ∷ [], takes-append _ _ _ _ inv.0 (line ∷ []) inv.1 one, tells)
      | in-Err+else-not-is_long+in_ok-pass_note-in-Err+else-not-branch w ↦
          let is = sym w.is_long.ensures ∙ w.if-not-is_long.false in
          let stands = long-of w.in-Err.error.cause is w.in-Err.ensures.stands in
          let met = long-of w.in-Err.error.cause is w.in-Err.ensures.long in
          let passes = rw w.if-not-branch.false at w.in_ok-pass_note-in-Err.ensures.passes in
          let one = note-takes c.args.mark g.R.Read.remaining c.lines.self c.take_line.new.self w.pass_note.new.self stands passes
          (w.pass_note.ensures.counted ∙ sym w.in-Err.ensures.counted ∙ met.named)
          (w.in_ok-pass_note-in-Err.ensures.longest ∙ c.take_line.ensures.longest) in
          let tells = telling-both c.args.mark inv.0 (passes.line ∷ []) [] [] inv.2 (telling-none c.args.mark passes.line passes.note) in
          rw w.self-is (inv.0 ++ passes.line ∷ [], takes-append _ _ _ _ inv.0 (passes.line ∷ []) inv.1 one, tells)
    ]
