use Rattle.std.proofs.Common.{◌≡◌, replicate, ◌++◌, ◌∷◌, [], arith, ap, length, ◌∙◌}
use Rattle.std.proofs.lemmas.List.{length-replicate, replicate_more}
use Rattle.std.specs.Vec.{vec_capacity}
use Rattle.amd_workspace.proofs.filling.fill_cells.Goals as goal

pub push_reserved-requires : goal.push_reserved-requires
push_reserved-requires g c =
    let i = c.cells.invariant in let long = length-replicate c.cells.counter c.args.number in let same = ap length i.items in
    let room = i.room in let wide = c.requires.room in let len = c.cells.own.ok.0 in
    omega (arith, long, same, room, wide, len)

pub cells-preserved : goal.cells-preserved
cells-preserved g c =
    let i = c.cells.invariant in let e = c.push_reserved.ensures in record {
      room = e.capacity ∙ i.room;
      items = e.items ∙ ap (λ x. c.cells.own.items ++ x ∷ []) c.cell_of.ensures ∙ ap (λ xs. xs ++ c.args.number ∷ []) i.items
          ∙ replicate_more c.cells.counter c.args.number;
    }

pub cells-init : goal.cells-init
cells-init g c = record {
  room = c.clear.ensures.capacity ∙ ap vec_capacity c.replace-own.ensures.value;
  items = c.clear.ensures.items;
}

pub returns-clause-items : goal.returns-clause-items
returns-clause-items g c =
    let end : c.cells.counter ≡ c.args.count = (let a = c.cells-test.false in let b = c.cells.auto.counter-end in omega (arith, a, b)) in
    c.cells.invariant.items ∙ ap (λ n. replicate n c.args.number) end
