-- Each turn passes a piece more, until the line ends or says something.
use Rattle.amd_lines.proofs.NoteLemmas.{passing-none, passing-more, note-ends, note-last, note-whole, tells-any}
use Rattle.amd_lines.proofs.lines.LineReader.pass_note.Goals as goal

pub pieces-init : goal.pieces-init
pieces-init g c = passing-none c.args.mark g.R.Read.remaining c.args.self.now c.requires

pub returns-then-is_telling-clause-passes : goal.returns-then-is_telling-clause-passes
returns-then-is_telling-clause-passes g c =
    let inv = c.pieces.invariant in
    let tells = rw c.line.ensures at c.note_behind-told.ensures inv.passed inv.so_far in
    tells-any c.args.mark g.R.Read.remaining c.args.self.now c.pieces.self c.pass_piece-ends.new.self c.pieces.told
    c.pass_piece-ends.result inv c.pass_piece-ends.ensures c.note_behind-told.result tells (c.is_telling.ensures.0 c.if-is_telling.true)

pub returns-then-ends-clause-passes : goal.returns-then-ends-clause-passes
returns-then-ends-clause-passes g c =
    let inv = c.pieces.invariant in
    let tells = rw c.line.ensures at c.note_behind-told.ensures inv.passed inv.so_far in
    let piece = rw c.if-ends.true at c.pass_piece-ends.ensures in
    note-ends c.args.mark g.R.Read.remaining c.args.self.now c.pieces.self c.pass_piece-ends.new.self c.pieces.told inv piece
    (note-whole c.args.mark c.note_behind-told.result _ tells (λ e. let is = c.if-is_telling.ensures.1 e in cc))

pub returns-then-not-branch-clause-passes : goal.returns-then-not-branch-clause-passes
returns-then-not-branch-clause-passes g c =
    let inv = c.pieces.invariant in
    let tells = rw c.line.ensures at c.note_behind-told.ensures inv.passed inv.so_far in
    let piece = rw c.if-ends.false at c.pass_piece-ends.ensures in
    let end = c.in_ok-read_more.ensures.end c.if-not-branch.true in
    note-last c.args.mark g.R.Read.remaining c.args.self.now c.pieces.self c.pass_piece-ends.new.self c.read_more.new.self c.pieces.told inv
    piece (note-whole c.args.mark c.note_behind-told.result _ tells (λ e. let is = c.if-is_telling.ensures.1 e in cc))
    c.in_ok-read_more.ensures.keeps end.0 end.1

pub pieces-preserved : goal.pieces-preserved
pieces-preserved g c =
    let inv = c.pieces.invariant in
    let tells = rw c.line.ensures at c.note_behind-told.ensures inv.passed inv.so_far in
    let piece = rw c.if-ends.false at c.pass_piece-ends.ensures in
    let held = c.in_ok-read_more.ensures.held in
    passing-more c.args.mark g.R.Read.remaining c.args.self.now c.pieces.self c.pass_piece-ends.new.self c.read_more.new.self c.pieces.told
    c.note_behind-told.result held.0 inv piece tells c.in_ok-read_more.ensures.keeps held.1
