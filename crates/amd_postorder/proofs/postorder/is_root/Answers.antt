use Rattle.std.proofs.Common.{true, false, ◌&&◌, ◌∙◌, ap, sym}
use Rattle.std.specs.Prelude.{is_none}
use Rattle.amd_model.specs.Input.Columns.{at}
use Rattle.amd_types.specs.Links.{named}
use Rattle.amd_postorder.proofs.NumberTests.{element_is, names_no_place}
use Rattle.amd_postorder.proofs.postorder.is_root.Goals as goal

pub number_at-requires : goal.number_at-requires
number_at-requires g c = c.requires.in_nv

pub number_at-requires-then-number_at-gt0 : goal.number_at-requires-then-number_at-gt0
number_at-requires-then-number_at-gt0 g c = c.requires.in_parent

pub returns-then-number_at-gt0 : goal.returns-then-number_at-gt0
returns-then-number_at-gt0 g c =
    let parent = g.N.Number.read c.args.parent.now in let number = c.number_at-then-number_at-gt0 in
    names_no_place parent c.args.j number.result number.type_inv number.ensures
    ∙ sym (ap (λ t. t && is_none (named (at parent c.args.j)))
    (element_is (g.V.Number.read c.args.nv.now) c.args.j _ c.number_at.result true (g.met.V.Number.read_room c.args.nv.now)
    c.requires.in_nv c.number_at.type_inv c.number_at.ensures c.if-number_at-gt0.true))

pub returns-else-number_at-gt0 : goal.returns-else-number_at-gt0
returns-else-number_at-gt0 g c =
    c.if-number_at-gt0.false ∙ sym (ap (λ t. t && is_none (named (at (g.N.Number.read c.args.parent.now) c.args.j)))
    (element_is (g.V.Number.read c.args.nv.now) c.args.j _ c.number_at.result false (g.met.V.Number.read_room c.args.nv.now)
    c.requires.in_nv c.number_at.type_inv c.number_at.ensures c.if-number_at-gt0.false))
