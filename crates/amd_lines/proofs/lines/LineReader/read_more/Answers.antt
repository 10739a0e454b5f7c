use Rattle.std.proofs.Common.{ℕ, List, [], ◌∷◌, ◌++◌, ◌≡◌, ◌∙◌, append-nil, arith, length, refl, sym}
use Rattle.std.proofs.lemmas.Bool.{false≢true}
use Rattle.amd_lines.specs.Blocks.{held_of}
use Rattle.amd_lines.proofs.LineLemmas.{keeps-more}
use Rattle.amd_lines.proofs.lines.LineReader.read_more.Goals as goal

-- nothing more leaves a list as it was
with-nothing : (xs more : List ℕ) → length more ≡ 0 → xs ++ more ≡ xs
with-nothing xs [] none = append-nil xs
with-nothing xs (x ∷ rest) none = absurd (omega (arith, none))

pub returns-in-Ok-eq0-clause-keeps : goal.returns-in-Ok-eq0-clause-keeps
returns-in-Ok-eq0-clause-keeps g c =
    let read = rw c.in-Ok-eq0.is at c.fill.ensures.ok in
    keeps-more g.R.Read.remaining c.args.self.now _ read.0 refl refl read.2 read.3

pub returns-in-Ok-eq0-clause-held : goal.returns-in-Ok-eq0-clause-held
returns-in-Ok-eq0-clause-held g c = let read = rw c.in-Ok-eq0.is at c.fill.ensures.ok in (read.0, read.2)

pub returns-in-Ok-eq0-clause-end : goal.returns-in-Ok-eq0-clause-end
returns-in-Ok-eq0-clause-end g c =
    let read = rw c.in-Ok-eq0.is at c.fill.ensures.ok in let end = rw c.in-Ok-eq0.is at c.fill.ensures.end in
    λ last. (read.2 ∙ with-nothing (held_of c.args.self.now.block) read.0 (read.1 ∙ c.in-Ok-eq0.field-0-test), end c.in-Ok-eq0.field-0-test)

pub returns-in-Ok-eq0-clause-counted : goal.returns-in-Ok-eq0-clause-counted
returns-in-Ok-eq0-clause-counted g c = refl

pub returns-in-Ok-clause-keeps : goal.returns-in-Ok-clause-keeps
returns-in-Ok-clause-keeps g c =
    let read = c.in-Ok.ensures.ok in keeps-more g.R.Read.remaining c.args.self.now _ read.0 refl refl read.2 read.3

pub returns-in-Ok-clause-held : goal.returns-in-Ok-clause-held
returns-in-Ok-clause-held g c = let read = c.in-Ok.ensures.ok in (read.0, read.2)

pub returns-in-Ok-clause-end : goal.returns-in-Ok-clause-end
returns-in-Ok-clause-end g c = λ last. absurd (false≢true (sym last))

pub returns-in-Ok-clause-counted : goal.returns-in-Ok-clause-counted
returns-in-Ok-clause-counted g c = refl

pub returns-in-Err-clause-held : goal.returns-in-Err-clause-held
returns-in-Err-clause-held g c = ([], c.in-Err.ensures.err.0 ∙ sym (append-nil (held_of c.args.self.now.block)))

pub returns-in-Err-clause-end : goal.returns-in-Err-clause-end
returns-in-Err-clause-end g c = λ last. absurd (false≢true (sym last))

pub returns-in-Err-clause-counted : goal.returns-in-Err-clause-counted
returns-in-Err-clause-counted g c = refl

pub returns-in-Err-2-clause-named : goal.returns-in-Err-2-clause-named
returns-in-Err-2-clause-named g c = c.at_input.ensures.named

pub returns-in-Err-2-clause-cause : goal.returns-in-Err-2-clause-cause
returns-in-Err-2-clause-cause g c = c.at_input.ensures.cause

pub returns-in-Err-2-clause-counted : goal.returns-in-Err-2-clause-counted
returns-in-Err-2-clause-counted g c = refl
