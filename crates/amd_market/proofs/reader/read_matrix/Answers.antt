-- The first line was read, and then what it heads; an error names its line behind the first one.
use Rattle.std.proofs.Common.{◌∷◌, [], inr, refl}
use Rattle.std.proofs.lemmas.Result.{IfOk-weaker, IfErr-weaker}
use Rattle.amd_lines.specs.Lines.{line_of}
use Rattle.amd_market.specs.Stops.{in_first, in_none, in_market, in_boeing}
use Rattle.amd_market.proofs.FaultLemmas.{for-here, for-behind, for-weaker, handed-on, names-fault}
use Rattle.amd_market.proofs.FileLemmas.{market-whole, boeing-whole}
use Rattle.amd_market.proofs.reader.read_matrix.Goals as goal

pub returns-in_err-header-clause-line : goal.returns-in_err-header-clause-line
returns-in_err-header-clause-line g c =
    let new = c.new-lines.ensures in
    handed-on _ c.from_residual.result c.from_residual.ensures.1 (names-fault _ c.new-lines.result _ _ new.source new.lines new.longest
    (for-weaker _ _ _ (λ s h. in_first h) c.in_err-header.ensures.fails))

pub returns-in-Some-clause-spells : goal.returns-in-Some-clause-spells
returns-in-Some-clause-spells g c =
    let first = c.in_ok-header.ensures.takes in
    let line = line_of c.take_header.new.lines in
    let head = rw c.in-Some.is at first.1 in
    let source = c.new-lines.ensures.source in
    IfOk-weaker c.take_market.result _ _ (λ m body. market-whole _ _ _ _ _ line _ m.source m.n body.0 _ _ _ source first.0 head.0
    body.1 body.2 body.3) c.take_market.ensures.takes

pub returns-in-Some-clause-line : goal.returns-in-Some-clause-line
returns-in-Some-clause-line g c =
    let new = c.new-lines.ensures in
    let first = c.in_ok-header.ensures.takes in
    let line = line_of c.take_header.new.lines in
    let head = rw c.in-Some.is at first.1 in
    IfErr-weaker c.take_market.result _ _ (λ e k. names-fault _ c.new-lines.result _ e new.source new.lines new.longest
    (for-behind _ _ _ (line ∷ []) e first.0 (λ s h. in_market line c.in-Some.header s head.0 head.1 refl h) k)) c.take_market.ensures.fails

pub returns-in_err-matrix-in-None-clause-line : goal.returns-in_err-matrix-in-None-clause-line
returns-in_err-matrix-in-None-clause-line g c =
    let new = c.new-lines.ensures in
    let first = c.in_ok-header.ensures.takes in
    let line = line_of c.take_header.new.lines in
    let none = rw c.in-None.is at first.1 in
    handed-on _ c.from_residual-in_err-matrix-in-None.result c.from_residual-in_err-matrix-in-None.ensures.1
    (names-fault _ c.new-lines.result _ _ new.source new.lines new.longest
    (for-behind _ _ _ (line ∷ []) _ first.0 (λ s h. in_boeing line s none refl h) c.in_err-matrix-in-None.ensures.fails))

pub returns-in-Some-2-clause-spells : goal.returns-in-Some-2-clause-spells
returns-in-Some-2-clause-spells g c =
    let first = c.in_ok-header.ensures.takes in
    let line = line_of c.take_header.new.lines in
    let none = rw c.in-None.is at first.1 in
    let second = rw c.in-Some-2.is at c.in_ok-matrix-in-None.ensures.takes in
    boeing-whole _ c.new-lines.result _ _ _ line second.0 _ _ _ _ _ c.new-lines.ensures.source first.0 none second.1 second.2

pub returns-clause-line : goal.returns-clause-line
returns-clause-line g c =
    let new = c.new-lines.ensures in
    let first = c.in_ok-header.ensures.takes in
    let line = line_of c.take_header.new.lines in
    let none = rw c.in-None.is at first.1 in
    let lacks = rw c.in-None-2.is at c.in_ok-matrix-in-None.ensures.takes in
    names-fault _ c.new-lines.result _ _ new.source new.lines new.longest
    (for-here _ _ _ (line ∷ []) _ _ first.0 c.at_line-unknown.ensures
    (inr (in_none line refl none (rw c.line.ensures at c.unknown_fault.ensures) lacks)))
