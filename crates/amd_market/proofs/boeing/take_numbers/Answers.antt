-- Each turn reads the numbers of one line more.
use Rattle.std.proofs.Common.{◌<◌, ◌-◌, ◌++◌, ◌∷◌, [], length, length-append, arith, ap, ◌∙◌}
use Rattle.std.specs.Prelude.{min}
use Rattle.amd_lines.specs.Lines.{line_of}
use Rattle.amd_lines.proofs.LineLemmas.{takes-none, takes-append}
use Rattle.amd_market.proofs.FaultLemmas.{all-first, any-line, for-here, for-behind, handed-on}
use Rattle.amd_market.proofs.BoeingLemmas.{fills-more, table-none, table-turn, table-whole}
use Rattle.amd_market.proofs.StopLemmas.{list-stop}
use Rattle.amd_market.proofs.UnreadLemmas.{no-value}
use Rattle.amd_market.proofs.boeing.take_numbers.Goals as goal

pub lines-init : goal.lines-init
lines-init g c =
    let none = ap length c.new-numbers.ensures.items in (
      [],
      takes-none _ _,
      omega (arith, none),
      λ ns js h. table-none c.args.fields _ _ _ js ns c.new-numbers.ensures.items h,
      λ h. c.new-numbers.ensures.items,
    )

pub returns-in_err-take_some-clause-takes : goal.returns-in_err-take_some-clause-takes
returns-in_err-take_some-clause-takes g c = no-value _ _ c.from_residual.result c.from_residual.ensures.1

pub overflow_sub-count : goal.overflow_sub-count
overflow_sub-count g c =
    let old = c.len.ensures in let here = c.len-in-lines.ensures in let test = c.lines-test.true in omega (arith, old, here, test)

pub returns-in_err-take_some-clause-fails : goal.returns-in_err-take_some-clause-fails
returns-in_err-take_some-clause-fails g c =
    let inv = c.lines.invariant in
    let old = c.len.ensures ∙ c.lines.numbers.ok.0 in
    let test = c.lines-test.true in
    let room : length c.lines.numbers.items < c.args.count = omega (arith, old, test) in
    handed-on _ c.from_residual.result c.from_residual.ensures.1 (for-behind _ _ _ inv.0 _ inv.1 (λ s h. record {
      lines = inv.0;
      numbers = c.lines.numbers.items;
      full = inv.4 room;
      few = room;
      stops = all-first inv.0 s (any-line [] s h);
    }) c.in_err-take_some.ensures.fails)

pub returns-in-Err-clause-fails : goal.returns-in-Err-clause-fails
returns-in-Err-clause-fails g c =
    let inv = c.lines.invariant in
    let line = line_of c.take_some.new.lines in
    let old = c.len.ensures ∙ c.lines.numbers.ok.0 in
    let test = c.lines-test.true in
    let room : length c.lines.numbers.items < c.args.count = omega (arith, old, test) in
    let before = c.len-in-lines.ensures ∙ c.lines.numbers.ok.0 in
    let here = c.min-here.ensures ∙ ap (λ z. min c.args.fields.per_line (c.args.count - z)) before in
    for-behind _ _ _ inv.0 _ inv.1 (λ s h. record {
      lines = inv.0;
      numbers = c.lines.numbers.items;
      full = inv.4 room;
      few = room;
      stops = all-first inv.0 s h;
    }) (for-here _ _ _ (line ∷ []) _ _ c.in_ok-take_some.ensures.takes c.at_line.ensures
    (list-stop _ c.args.fields _ _ _ line _ _ (rw (here, c.behind_bytes.ensures, c.line.ensures) at c.in-Err.ensures.fault)))

pub lines-preserved : goal.lines-preserved
lines-preserved g c =
    let inv = c.lines.invariant in
    let line = line_of c.take_some.new.lines in
    let numbers = c.lines.numbers.items in
    let added = c.in_default.ensures.adds in
    let fields = rw (c.behind_bytes.ensures, c.line.ensures) at added.3 in
    let before = c.len-in-lines.ensures ∙ c.lines.numbers.ok.0 in
    let size = added.1 ∙ c.min-here.ensures ∙ ap (λ z. min c.args.fields.per_line (c.args.count - z)) before in
    let items = added.2 in
    let long = ap length items ∙ length-append numbers added.0 in
    let old = c.len.ensures ∙ c.lines.numbers.ok.0 in
    let room = c.lines-test.true in (
      inv.0 ++ line ∷ [],
      takes-append _ _ _ _ inv.0 (line ∷ []) inv.1 c.in_ok-take_some.ensures.takes,
      omega (arith, long, size, old, room),
      (rw items (λ ns js h. table-turn c.args.fields c.args.bound c.args.count inv.0 ns line numbers added.0 js
          (omega (arith, old, room)) inv.3 size fields h)),
      (rw items (λ h. fills-more c.args.fields c.args.bound inv.0 numbers line added.0
          (inv.4 (omega (arith, old, room))) (let both = length-append numbers added.0 in omega (arith, size, both, h)) fields)),
    )

pub returns-clause-takes : goal.returns-clause-takes
returns-clause-takes g c =
    let inv = c.lines.invariant in
    let old = c.len.ensures ∙ c.lines.numbers.ok.0 in
    let done = c.lines-test.false in
    (inv.0, inv.1, table-whole c.args.fields _ _ inv.0 c.lines.numbers.items (omega (arith, old, done)) inv.3)
