-- The arrays have room for the lists that the elimination returned, and what was copied are these.
use Rattle.std.proofs.Common.{length, sym, ◌∙◌, ap}
use Rattle.amd_c_calls.proofs.Eliminated.{answers_long, holds_copies}
use Rattle.amd_c_calls.proofs.narrow.eliminate_narrow.Goals as goal

pub write_words-requires : goal.write_words-requires
write_words-requires c =
    let w = c.requires.graph in
    let long = answers_long c.args.parameters.now _ _ _ _ _ _ _ c.in-Ok.ensures.orders w.0 w.1 w.2 in
    record { room = c.requires.places.0 ∙ sym long.0 ∙ sym (ap length c.deref.ensures.value) }

pub copy_from_slice-requires : goal.copy_from_slice-requires
copy_from_slice-requires c =
    let w = c.requires.graph in
    let long = answers_long c.args.parameters.now _ _ _ _ _ _ _ c.in-Ok.ensures.orders w.0 w.1 w.2 in
    c.requires.places.2 ∙ sym long.2 ∙ sym (ap length c.deref-2.ensures.value)

pub copy_from_slice-requires-2 : goal.copy_from_slice-requires-2
copy_from_slice-requires-2 c =
    let w = c.requires.graph in
    let long = answers_long c.args.parameters.now _ _ _ _ _ _ _ c.in-Ok.ensures.orders w.0 w.1 w.2 in
    c.requires.places.1 ∙ sym long.1 ∙ sym (ap length c.deref-3.ensures.value)

pub write_words-requires-2 : goal.write_words-requires-2
write_words-requires-2 c =
    let w = c.requires.graph in
    let long = answers_long c.args.parameters.now _ _ _ _ _ _ _ c.in-Ok.ensures.orders w.0 w.1 w.2 in
    record { room = c.requires.places.3 ∙ sym long.3 ∙ sym (ap length c.deref-4.ensures.value) }

pub returns-clause-leaves : goal.returns-clause-leaves
returns-clause-leaves c =
    let choice = c.args.parameters.now in let chosen = c.control_of-control.ensures in
    holds_copies choice _ _ _ _ _ _ _ c.in-Ok.ensures.orders c.in-Ok.ensures.compactions chosen.dense chosen.aggressive
    c.new-info.ensures _ _ (c.write_words.ensures ∙ c.deref.ensures.value) (c.copy_from_slice-2.ensures.after ∙ c.deref-3.ensures.value)
    (c.copy_from_slice.ensures.after ∙ c.deref-2.ensures.value) (c.write_words-2.ensures ∙ c.deref-4.ensures.value)
    (c.write_words-3.ensures ∙ c.deref-5.ensures.value) c.statistics_of.ensures
