-- The bytes up to the first line feed, or all of them.
use Rattle.std.proofs.Common.{◌+◌, ◌∙◌, ap, sym, refl, length, arith, append-nil}
use Rattle.std.proofs.lemmas.List.{take-append-drop, take_all, drop_all}
use Rattle.amd_lines.specs.Blocks.{held_of}
use Rattle.amd_lines.proofs.LineLemmas.{no-feed}
use Rattle.amd_lines.proofs.NoteLemmas.{piece-some}
use Rattle.amd_lines.proofs.lines.LineReader.pass_piece.Goals as goal

pub returns-in-Some : goal.returns-in-Some
returns-in-Some g c =
    let held = held_of c.args.self.now.block in
    let found = rw c.held-held.ensures at c.in-Some.ensures in
    let passed = c.pass.ensures.passed in
    let left = c.pass.ensures.held in record {
      parts = rw (passed, left) (sym (take-append-drop (c.in-Some.place + 1) held));
      piece = rw passed (piece-some held c.in-Some.place found.0 found.1);
      rest = λ e. cc;
      counted = refl;
      longest = refl;
      input = refl;
    }

pub returns-in-None : goal.returns-in-None
returns-in-None g c =
    let held = held_of c.args.self.now.block in
    let none = rw c.held-held.ensures at c.in-None.ensures in
    let size = ap length c.held-held.ensures in
    let passed = c.pass-in-None.ensures.passed ∙ take_all _ held (omega (arith, size)) in
    let left = c.pass-in-None.ensures.held ∙ drop_all _ held (omega (arith, size)) in record {
      parts = rw (passed, left) (sym (append-nil held));
      piece = rw passed (no-feed held none);
      rest = λ e. left;
      counted = refl;
      longest = refl;
      input = refl;
    }
