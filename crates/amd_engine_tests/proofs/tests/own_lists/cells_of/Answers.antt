-- The numbers so far are those of the cells so far.
use Rattle.std.proofs.Common.{◌∙◌, ◌++◌, ◌∷◌, [], arith, ap, length, length-take, take, sym}
use Rattle.std.proofs.lemmas.List.{take_all, take_more}
use borrow.Author.Count.{falls}
use Rattle.amd_engine_tests.proofs.tests.own_lists.cells_of.Goals as goal

pub cells-init : goal.cells-init
cells-init g c = record {
  room = (let most = c.in-Ok.ensures.capacity in omega (arith, most));
  items = c.in-Ok.ensures.items;
}

pub bounds-cells-cell-index : goal.bounds-cells-cell-index
bounds-cells-cell-index g c = c.cells-test.true

pub push_reserved-requires : goal.push_reserved-requires
push_reserved-requires g c =
    let len = c.cells.numbers.ok.0 in
    let long = ap length c.cells.invariant.items ∙ length-take c.cells.cell-index c.args.cells.now in
    let room = c.cells.invariant.room in let more = c.cells-test.true in omega (arith, len, long, room, more)

pub cells-smaller : goal.cells-smaller
cells-smaller g c = falls (length c.args.cells.now) c.cells.cell-index c.cells-test.true

pub cells-preserved : goal.cells-preserved
cells-preserved g c =
    let cells = c.args.cells.now in let k = c.cells.cell-index in record {
      room = (let room = c.cells.invariant.room in let same = c.push_reserved.ensures.capacity in omega (arith, room, same));
      items = c.push_reserved.ensures.items ∙ ap (λ l. l ++ c.number_of.result ∷ []) c.cells.invariant.items
          ∙ ap (λ x. take k cells ++ x ∷ []) (c.number_of.ensures.is ∙ c.cell-item.is)
          ∙ sym (take_more cells k c.cell-item.result c.cells-test.true);
    }

pub returns : goal.returns
returns g c = c.cells.invariant.items ∙ take_all c.cells.cell-index c.args.cells.now c.cells-test.false
