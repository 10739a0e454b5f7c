-- No line is passed but the next one, and an error names it, or the one before.
use Rattle.std.proofs.Common.{ℕ, List, Option, Some, length, arith, ap, refl, subst, ◌≡◌, ◌≤◌, ◌∙◌}
use Rattle.amd_lines.specs.Blocks.{held_of}
use Rattle.amd_lines.specs.Lines.{KeepsRest, StandsLong, line_of, rest_of}
use Rattle.amd_lines.specs.declared.lines.LineReader.{LineReader}
use Rattle.amd_lines.proofs.LineLemmas.{ends-here, fails-next, held-some, keeps-fails, fails-still, none-behind, no-feed}
use Rattle.amd_lines.proofs.LineLemmas.{if-long, if-long-weaker, long-held, keeps-append, keeps-long, keeps-more, keeps-takes, same-then}
use Rattle.std.proofs.lemmas.Result.{IfErr-weaker, IfOk-weaker}
use Rattle.amd_lines.proofs.lines.LineReader.take_line.Goals as goal

-- a line that is too long still stands before a reader that kept what was before it
keeps-stands : {R Z : Type 0} (remaining : R → Option (List ℕ)) (a b c : LineReader R Z) → KeepsRest remaining a b →
    StandsLong remaining b c → StandsLong remaining a c
keeps-stands remaining a b c h k = record {
  kept = same-then (λ bytes. rest_of remaining c ≡ Some bytes) (rest_of remaining a) (rest_of remaining b) h.kept k.kept;
  holds = k.holds;
}

pub pass_line-requires : goal.pass_line-requires
pass_line-requires g c =
    let found = rw c.held.ensures at c.in-Some.ensures in
    ends-here g.R.Read.remaining c.chunks.self c.in-Some.place found.0 found.1

pub returns-in-Some-clause-takes : goal.returns-in-Some-clause-takes
returns-in-Some-clause-takes g c = IfOk-weaker c.pass_line.result _ _
    (λ some. keeps-takes g.R.Read.remaining c.args.self.now c.chunks.self c.pass_line.new.self some c.chunks.invariant.0)
    c.pass_line.ensures.takes

pub returns-in-Some-clause-short : goal.returns-in-Some-clause-short
returns-in-Some-clause-short g c = IfOk-weaker c.pass_line.result _ _
    (λ some short yes. subst (λ most. length (line_of c.pass_line.new.self) ≤ most) c.chunks.invariant.0.longest short)
    c.pass_line.ensures.short

pub returns-in-Some-clause-fails : goal.returns-in-Some-clause-fails
returns-in-Some-clause-fails g c = IfErr-weaker c.pass_line.result _ _
    (λ e. keeps-fails g.R.Read.remaining c.args.self.now c.chunks.self e.line c.chunks.invariant.0) c.pass_line.ensures.fails

pub returns-in-Some-clause-counted : goal.returns-in-Some-clause-counted
returns-in-Some-clause-counted g c = c.pass_line.ensures.counted

pub returns-in-Some-clause-long : goal.returns-in-Some-clause-long
returns-in-Some-clause-long g c = IfErr-weaker c.pass_line.result _ _ (λ e. if-long-weaker e.cause
    (keeps-long g.R.Read.remaining c.args.self.now c.chunks.self e.line c.chunks.invariant.0)) c.pass_line.ensures.long

pub returns-in-Some-clause-stands : goal.returns-in-Some-clause-stands
returns-in-Some-clause-stands g c = IfErr-weaker c.pass_line.result _ _ (λ e. if-long-weaker e.cause
    (keeps-stands g.R.Read.remaining c.args.self.now c.chunks.self c.pass_line.new.self c.chunks.invariant.0)) c.pass_line.ensures.stands

pub returns-in-Some-clause-longest : goal.returns-in-Some-clause-longest
returns-in-Some-clause-longest g c = c.pass_line.ensures.longest ∙ c.chunks.invariant.0.longest

pub returns-then-seen-self-clause-fails : goal.returns-then-seen-self-clause-fails
returns-then-seen-self-clause-fails g c =
    let held = held_of c.chunks.self.block in
    let same = ap length c.held-seen.ensures in
    keeps-fails g.R.Read.remaining c.args.self.now c.chunks.self c.refuse_line.result.line c.chunks.invariant.0
    (fails-next g.R.Read.remaining c.chunks.self c.refuse_line.result.line c.refuse_line.ensures.named
    (held-some held (g.R.Read.remaining c.chunks.self.input) (omega (arith, same))))

pub pass_last-requires-clause-none : goal.pass_last-requires-clause-none
pass_last-requires-clause-none g c =
    let read = rw c.in-Ok-eq0.is at c.fill.ensures.ok in
    let none = rw c.held.ensures at c.in_default.ensures in
    none-behind (held_of c.chunks.self.block) (held_of c.fill.new.self) read.0 read.2 (read.1 ∙ c.in-Ok-eq0.field-0-test)
    (no-feed (held_of c.chunks.self.block) none)

pub returns-in-Err-2-clause-fails : goal.returns-in-Err-2-clause-fails
returns-in-Err-2-clause-fails g c = fails-still g.R.Read.remaining c.args.self.now c.at_input.result.line
    (c.at_input.ensures.named ∙ c.chunks.invariant.0.counted)

pub returns-clause-fails : goal.returns-clause-fails
returns-clause-fails g c = fails-still g.R.Read.remaining c.args.self.now c.at_line.result.line
    (c.at_line.ensures.named ∙ c.chunks.invariant.0.counted)

pub returns-then-seen-self-clause-long : goal.returns-then-seen-self-clause-long
returns-then-seen-self-clause-long g c =
    let same = ap length c.held-seen.ensures in
    let more = c.if-seen-self.true in
    let none = rw c.held.ensures at c.in_default.ensures in
    if-long c.refuse_line.result.cause (keeps-long g.R.Read.remaining c.args.self.now c.chunks.self _ c.chunks.invariant.0
    (long-held g.R.Read.remaining c.chunks.self _ none (omega (arith, same, more)) c.refuse_line.ensures.named))

pub returns-in-Ok-eq0-clause-long : goal.returns-in-Ok-eq0-clause-long
returns-in-Ok-eq0-clause-long g c =
    let read = rw c.in-Ok-eq0.is at c.fill.ensures.ok in
    let more = keeps-more g.R.Read.remaining c.chunks.self _ read.0 refl refl read.2 read.3 in
    IfErr-weaker c.pass_last.result _ _ (λ e. if-long-weaker e.cause (keeps-long g.R.Read.remaining c.args.self.now _ e.line
    (keeps-append g.R.Read.remaining c.args.self.now c.chunks.self _ c.chunks.invariant.0 more))) c.pass_last.ensures.long

pub returns-in-Ok-eq0-clause-takes : goal.returns-in-Ok-eq0-clause-takes
returns-in-Ok-eq0-clause-takes g c =
    let read = rw c.in-Ok-eq0.is at c.fill.ensures.ok in
    let more = keeps-more g.R.Read.remaining c.chunks.self _ read.0 refl refl read.2 read.3 in
    IfOk-weaker c.pass_last.result _ _ (λ some. keeps-takes g.R.Read.remaining c.args.self.now _ c.pass_last.new.self some
    (keeps-append g.R.Read.remaining c.args.self.now c.chunks.self _ c.chunks.invariant.0 more)) c.pass_last.ensures.takes

pub returns-in-Ok-eq0-clause-short : goal.returns-in-Ok-eq0-clause-short
returns-in-Ok-eq0-clause-short g c = IfOk-weaker c.pass_last.result _ _
    (λ some short yes. subst (λ most. length (line_of c.pass_last.new.self) ≤ most) c.chunks.invariant.0.longest (short yes))
    c.pass_last.ensures.short

pub returns-in-Ok-eq0-clause-fails : goal.returns-in-Ok-eq0-clause-fails
returns-in-Ok-eq0-clause-fails g c =
    let read = rw c.in-Ok-eq0.is at c.fill.ensures.ok in
    let more = keeps-more g.R.Read.remaining c.chunks.self _ read.0 refl refl read.2 read.3 in
    IfErr-weaker c.pass_last.result _ _ (λ e. keeps-fails g.R.Read.remaining c.args.self.now _ e.line
    (keeps-append g.R.Read.remaining c.args.self.now c.chunks.self _ c.chunks.invariant.0 more)) c.pass_last.ensures.fails

pub returns-in-Ok-eq0-clause-counted : goal.returns-in-Ok-eq0-clause-counted
returns-in-Ok-eq0-clause-counted g c = c.pass_last.ensures.counted

pub returns-in-Ok-eq0-clause-stands : goal.returns-in-Ok-eq0-clause-stands
returns-in-Ok-eq0-clause-stands g c =
    let read = rw c.in-Ok-eq0.is at c.fill.ensures.ok in
    let more = keeps-more g.R.Read.remaining c.chunks.self _ read.0 refl refl read.2 read.3 in
    IfErr-weaker c.pass_last.result _ _ (λ e. if-long-weaker e.cause (keeps-stands g.R.Read.remaining c.args.self.now _ c.pass_last.new.self
    (keeps-append g.R.Read.remaining c.args.self.now c.chunks.self _ c.chunks.invariant.0 more))) c.pass_last.ensures.stands

pub returns-in-Ok-eq0-clause-longest : goal.returns-in-Ok-eq0-clause-longest
returns-in-Ok-eq0-clause-longest g c = c.pass_last.ensures.longest ∙ c.chunks.invariant.0.longest
