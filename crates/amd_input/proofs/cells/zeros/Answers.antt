-- the goals of cells::zeros.
use Rattle.std.proofs.Common.{◌≡◌, ◌∙◌, ◌++◌, ◌∷◌, [], arith, ap, length, replicate}
use Rattle.std.proofs.lemmas.List.{length-replicate, replicate_more}
use Rattle.std.specs.Vec.{vec_capacity}
use borrow.Author.Count.{falls}
use Rattle.amd_input.proofs.cells.zeros.Goals as goal

pub cells-init : goal.cells-init
cells-init g c = record {
  room = c.clear.ensures.capacity ∙ ap vec_capacity c.replace-own.ensures.value;
  items = c.clear.ensures.items;
}

pub push_reserved-requires : goal.push_reserved-requires
push_reserved-requires g c =
    let len = c.cells.own.ok.0 in let long = ap length c.cells.invariant.items ∙ length-replicate c.cells.counter 0 in
    let room = c.cells.invariant.room in let most = c.requires in let more = c.cells-test.true in omega (arith, len, long, room, most, more)

pub cells-smaller : goal.cells-smaller
cells-smaller g c = falls c.args.size c.cells.counter c.cells-test.true

pub cells-preserved : goal.cells-preserved
cells-preserved g c = record {
  room = c.push_reserved.ensures.capacity ∙ c.cells.invariant.room;
  items = c.push_reserved.ensures.items ∙ ap (λ l. l ++ c.cell_of.result ∷ []) c.cells.invariant.items
      ∙ ap (λ x. replicate c.cells.counter 0 ++ x ∷ []) c.cell_of.ensures ∙ replicate_more c.cells.counter 0;
}

pub returns-clause-zeros : goal.returns-clause-zeros
returns-clause-zeros g c =
    let end : c.cells.counter ≡ c.args.size = (let x = c.cells-test.false in let y = c.cells.auto.counter-end in omega (arith, x, y)) in
    c.cells.invariant.items ∙ ap (λ k. replicate k 0) end

pub returns-clause-room : goal.returns-clause-room
returns-clause-room g c = c.cells.invariant.room
