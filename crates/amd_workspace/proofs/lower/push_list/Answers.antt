-- the goals of lower::push_list.
use Rattle.std.proofs.Common.{◌+◌, ◌-◌, ◌++◌, arith, map, sym, ap, ◌∙◌, pos, length}
use Rattle.std.specs.Prelude.{replicate}
use Rattle.std.proofs.lemmas.List.{length-append, length-replicate}
use Rattle.amd_edges.proofs.Forms.{pointer_read}
use Rattle.amd_workspace.specs.Lower.{own_of}
use Rattle.amd_workspace.proofs.LowerColumns.{slice_long}
use Rattle.amd_workspace.proofs.lower.push_list.Goals as goal

pub count_at-requires : goal.count_at-requires
count_at-requires g c = let p = pointer_read g.I.Index.value c.args.a_p.now c.args.a_i.now c.args.size c.requires.input.form (c.args.j + 1)
    (let l = c.requires.row in omega (arith, l)) (omega (arith, c.well_formed)) in record { within = p.0; fits = p.1 }

pub overflow_sub-degree : goal.overflow_sub-degree
overflow_sub-degree g c =
    let long = slice_long c.args.size (map g.I.Index.value c.args.a_p.now) (map g.I.Index.value c.args.a_i.now) c.requires.input.form
    c.args.j
    c.requires.row c.requires.input.sorted c.requires.input.lower c.own_first-first.result c.own_first-first.ensures.rows in
    let is = c.count_at.ensures.count in let few = c.requires.degree in omega (arith, long, is, few)

pub push_column-requires-clause-room : goal.push_column-requires-clause-room
push_column-requires-clause-room g c =
    let long = slice_long c.args.size (map g.I.Index.value c.args.a_p.now) (map g.I.Index.value c.args.a_i.now) c.requires.input.form
    c.args.j
    c.requires.row c.requires.input.sorted c.requires.input.lower c.own_first-first.result c.own_first-first.ensures.rows in
    let is = c.count_at.ensures.count in let few = c.requires.degree in let room = c.requires.room in
    let count = c.args.degree - (c.count_at.result - c.own_first-first.result) in
    let filled = ap length c.push_rows.ensures.items in
    let size = length-append c.args.iw.now.items (replicate count (pos c.args.j)) in let n = length-replicate count (pos c.args.j) in
    let wide = c.push_rows.ensures.capacity in omega (arith, long, is, few, room, filled, size, n, wide)

pub returns-clause-items : goal.returns-clause-items
returns-clause-items g c =
    let ap' = map g.I.Index.value c.args.a_p.now in let ai = map g.I.Index.value c.args.a_i.now in
    let rows = c.own_first-first.ensures.rows in let old = c.args.iw.now.items in
    let long = slice_long c.args.size ap' ai c.requires.input.form c.args.j
    c.requires.row c.requires.input.sorted c.requires.input.lower c.own_first-first.result rows in
    let same = ap (λ x. x - c.own_first-first.result) c.count_at.ensures.count ∙ sym long in
    c.push_column.ensures.items ∙ ap (λ xs. c.push_rows.new.iw.items ++ map pos xs) (sym rows)
    ∙ ap (λ xs. xs ++ map pos (own_of c.args.size ap' ai c.args.j)) (c.push_rows.ensures.items
    ∙ ap (λ k. old ++ replicate (c.args.degree - k) (pos c.args.j)) same)
