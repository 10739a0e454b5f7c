-- the goals of lower::push_until.
use Rattle.std.proofs.Common.{◌+◌, arith, map, sym, subst, length}
use Rattle.amd_model.specs.Input.Pattern.{graph_of}
use Rattle.amd_words.specs.Words.{num}
use Rattle.amd_workspace.specs.Lower.{LaysRows}
use Rattle.amd_workspace.proofs.LowerWords.{degree_is, list_room}
use Rattle.amd_workspace.proofs.LaidRows.{lays_row}
use Rattle.amd_workspace.proofs.lower.push_until.Goals as goal

pub cell_at-requires : goal.cell_at-requires
unfolding graph_of
cell_at-requires g c = let a = c.requires.degrees.size in let b = c.rows-test.true in let d = c.requires.rows.1 in omega (arith, a, b, d)

pub push_list-requires-clause-row : goal.push_list-requires-clause-row
push_list-requires-clause-row g c = let b = c.rows-test.true in let d = c.requires.rows.1 in omega (arith, b, d)

pub push_list-requires-clause-degree : goal.push_list-requires-clause-degree
push_list-requires-clause-degree g c = let b = c.rows-test.true in let all = c.requires.rows.1 in
    let d = degree_is c.args.size (map g.I.Index.value c.args.a_p.now) (map g.I.Index.value c.args.a_i.now) c.requires.input.lower
    c.args.degrees.now c.requires.degrees c.rows.row (omega (arith, b, all)) in let is = c.cell_at.ensures.is in omega (arith, d, is)

pub push_list-requires-clause-room : goal.push_list-requires-clause-room
push_list-requires-clause-room g c = let b = c.rows-test.true in let all = c.requires.rows.1 in
    let i = c.rows.invariant in let long = (i.laid c.requires.laid.0 c.requires.laid.1 c.requires.laid.2).long in let wide = i.capacity in
    let room = c.requires.room in
    let d = list_room c.args.size (map g.I.Index.value c.args.a_p.now) (map g.I.Index.value c.args.a_i.now) c.requires.input.lower
    c.args.degrees.now c.requires.degrees c.rows.row (length c.rows.iw.items) (omega (arith, b, all)) long in
    let is = c.cell_at.ensures.is in omega (arith, d, wide, room, is)

pub rows-preserved : goal.rows-preserved
rows-preserved g c = let b = c.rows-test.true in let all = c.requires.rows.1 in
    let ap' = map g.I.Index.value c.args.a_p.now in let ai = map g.I.Index.value c.args.a_i.now in let i = c.rows.invariant in record {
      laid = λ early next h. subst (LaysRows c.args.size ap' ai (c.rows.row + 1) early next) (sym c.push_list.ensures.items)
          (rw c.cell_at.ensures.is (lays_row c.args.size ap' ai c.requires.input.lower c.rows.row (num c.args.degrees.now c.rows.row)
          early next c.rows.iw.items
          (omega (arith, b, all)) (degree_is c.args.size ap' ai c.requires.input.lower c.args.degrees.now c.requires.degrees c.rows.row
          (omega (arith, b, all))) (i.laid early next h)));
      capacity = (let x = i.capacity in let y = c.push_list.ensures.capacity in omega (arith, x, y));
    }

pub returns-clause-laid : goal.returns-clause-laid
returns-clause-laid g c = λ early next h. let t = c.rows-test.false in let past = c.rows.auto.row-end c.requires.rows.0 in
    subst (λ m. LaysRows c.args.size (map g.I.Index.value c.args.a_p.now) (map g.I.Index.value c.args.a_i.now) m early next c.rows.iw.items)
    (omega (arith, t, past)) (c.rows.invariant.laid early next h)
