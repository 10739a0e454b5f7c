-- A byte more is a step of the reader.
use Rattle.std.proofs.Common.{ap, ◌∙◌, refl}
use Rattle.std.specs.Prelude.{map}
use Rattle.std.proofs.lemmas.List.{drop_more}
use Rattle.std.specs.Float.Parse.{completes_number}
use Rattle.amd_lines.specs.Words.{exponent_mark}
use Rattle.amd_lines.proofs.values.is_double.Goals as goal

pub bytes-preserved : goal.bytes-preserved
bytes-preserved c =
    let body = c.split_at.result.1.now in
    let k = c.bytes.byte-index in
    let next = drop_more body k 0 c.bytes-test.true in
    c.bytes.invariant ∙ ap (λ z. completes_number c.bytes.state (map exponent_mark z)) next ∙
    rw (c.next_state-state.ensures, c.exponent_mark.ensures) refl
