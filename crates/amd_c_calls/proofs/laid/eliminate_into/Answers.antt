-- The arrays have room for the lists that the elimination returned, and what was copied are these.
use Rattle.std.proofs.Common.{◌≡◌, map, length, refl, sym, ◌∙◌, ap}
use Rattle.std.proofs.lemmas.List.{length-map}
use Rattle.amd_c_calls.proofs.Eliminated.{answers_long, holds_copies}
use Rattle.amd_c_calls.proofs.laid.eliminate_into.Goals as goal

pub copy_from_slice-requires : goal.copy_from_slice-requires
copy_from_slice-requires g c =
    let value = g.I.Index.value in let w = c.requires.graph in let lists = c.args.lists.now in let places = c.args.places.now in
    let long = answers_long c.args.parameters.now _ _ _ _ _ _ _ c.in-Ok.ensures.orders w.0 w.1 w.2 in
    let here : length places.nv.now ≡ length lists.len.now = sym (length-map places.nv.now value) ∙ c.requires.places.0 in
    let there : length lists.len.now ≡ length c.deref.result.now = sym long.0 ∙ length-map _ value
    ∙ sym (ap length c.deref.ensures.value) in
    here ∙ there

pub copy_from_slice-requires-2 : goal.copy_from_slice-requires-2
copy_from_slice-requires-2 g c =
    let value = g.I.Index.value in let w = c.requires.graph in let lists = c.args.lists.now in let places = c.args.places.now in
    let long = answers_long c.args.parameters.now _ _ _ _ _ _ _ c.in-Ok.ensures.orders w.0 w.1 w.2 in
    let here : length places.p_inv.now ≡ length lists.len.now = sym (length-map places.p_inv.now value) ∙ c.requires.places.2 in
    let there : length lists.len.now ≡ length c.deref-2.result.now = sym long.2 ∙ length-map _ value
    ∙ sym (ap length c.deref-2.ensures.value) in
    here ∙ there

pub copy_from_slice-requires-3 : goal.copy_from_slice-requires-3
copy_from_slice-requires-3 g c =
    let value = g.I.Index.value in let w = c.requires.graph in let lists = c.args.lists.now in let places = c.args.places.now in
    let long = answers_long c.args.parameters.now _ _ _ _ _ _ _ c.in-Ok.ensures.orders w.0 w.1 w.2 in
    let here : length places.p.now ≡ length lists.len.now = sym (length-map places.p.now value) ∙ c.requires.places.1 in
    let there : length lists.len.now ≡ length c.deref-3.result.now = sym long.1 ∙ length-map _ value
    ∙ sym (ap length c.deref-3.ensures.value) in
    here ∙ there

pub copy_from_slice-requires-4 : goal.copy_from_slice-requires-4
copy_from_slice-requires-4 g c =
    let w = c.requires.graph in let lists = c.args.lists.now in let places = c.args.places.now in
    let long = answers_long c.args.parameters.now _ _ _ _ _ _ _ c.in-Ok.ensures.orders w.0 w.1 w.2 in
    let here : length places.e_len.now ≡ length lists.len.now = c.requires.places.3 in
    here ∙ sym long.3 ∙ sym (ap length c.deref-4.ensures.value)

pub returns-clause-leaves : goal.returns-clause-leaves
returns-clause-leaves g c =
    let value = g.I.Index.value in
    let choice = c.args.parameters.now in let info = c.amd_2.new.info in let chosen = c.control_of-control.ensures in
    holds_copies choice _ _ _ _ _ _ _ c.in-Ok.ensures.orders c.in-Ok.ensures.compactions
    chosen.dense chosen.aggressive c.new-info.ensures _ _
    (ap (map value) (c.copy_from_slice.ensures.after ∙ c.deref.ensures.value))
    (ap (map value) (c.copy_from_slice-3.ensures.after ∙ c.deref-3.ensures.value))
    (ap (map value) (c.copy_from_slice-2.ensures.after ∙ c.deref-2.ensures.value))
    (c.copy_from_slice-4.ensures.after ∙ c.deref-4.ensures.value) refl c.statistics_of.ensures
