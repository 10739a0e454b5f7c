use Rattle.std.proofs.Common.{arith, le_of_eq, sym}
use Rattle.amd.proofs.Parts.{values_fit}
use Rattle.amd.proofs.lent.memory_in.Goals as goal

pub split_list-iw-requires-clause-cut : goal.split_list-iw-requires-clause-cut
split_list-iw-requires-clause-cut g c = let r = c.requires.part.2 in (c.requires.part.1, omega (arith, r))

pub split_list-iw-requires-clause-room : goal.split_list-iw-requires-clause-room
split_list-iw-requires-clause-room g c = (
  values_fit c.args.words _ c.args.width c.args.words_part c.requires.types.word c.requires.words.1,
  c.requires.words.0,
)

pub split_list-next-requires-clause-cut : goal.split_list-next-requires-clause-cut
split_list-next-requires-clause-cut g c =
    let r = c.requires.part.2 in let a = c.split_list-iw.ensures.rest in (c.requires.part.0, omega (arith, r, a))

pub split_list-next-requires-clause-room : goal.split_list-next-requires-clause-room
split_list-next-requires-clause-room g c = (
  values_fit c.args.rows _ c.args.width c.args.part c.requires.types.cell c.requires.rows.1,
  c.requires.rows.0,
)

pub split_list-pe-requires-clause-cut : goal.split_list-pe-requires-clause-cut
split_list-pe-requires-clause-cut g c =
    let r = c.requires.part.2 in let a = c.split_list-iw.ensures.rest in let b = c.split_list-next.ensures.rest in
    (c.requires.part.0, omega (arith, r, a, b))

pub split_list-pe-requires-clause-room : goal.split_list-pe-requires-clause-room
split_list-pe-requires-clause-room g c = (
  values_fit c.args.rows _ c.args.width c.args.part c.requires.types.place c.requires.rows.1,
  c.requires.rows.0,
)

pub split_list-len-requires-clause-cut : goal.split_list-len-requires-clause-cut
split_list-len-requires-clause-cut g c =
    let r = c.requires.part.2 in let a = c.split_list-iw.ensures.rest in let b = c.split_list-next.ensures.rest in
    let d = c.split_list-pe.ensures.rest in (c.requires.part.0, omega (arith, r, a, b, d))

pub split_list-len-requires-clause-room : goal.split_list-len-requires-clause-room
split_list-len-requires-clause-room g c = (
  values_fit c.args.rows _ c.args.width c.args.part c.requires.types.cell c.requires.rows.1,
  c.requires.rows.0,
)

pub split_list-nv-requires-clause-cut : goal.split_list-nv-requires-clause-cut
split_list-nv-requires-clause-cut g c =
    let r = c.requires.part.2 in let a = c.split_list-iw.ensures.rest in let b = c.split_list-next.ensures.rest in
    let d = c.split_list-pe.ensures.rest in let e = c.split_list-len.ensures.rest in
    (c.requires.part.0, omega (arith, r, a, b, d, e))

pub split_list-nv-requires-clause-room : goal.split_list-nv-requires-clause-room
split_list-nv-requires-clause-room g c = (
  values_fit c.args.rows _ c.args.width c.args.part c.requires.types.word c.requires.rows.1,
  c.requires.rows.0,
)

pub split_list-e_len-requires-clause-cut : goal.split_list-e_len-requires-clause-cut
split_list-e_len-requires-clause-cut g c =
    let r = c.requires.part.2 in let a = c.split_list-iw.ensures.rest in let b = c.split_list-next.ensures.rest in
    let d = c.split_list-pe.ensures.rest in let e = c.split_list-len.ensures.rest in let f = c.split_list-nv.ensures.rest in
    (c.requires.part.0, omega (arith, r, a, b, d, e, f))

pub split_list-e_len-requires-clause-room : goal.split_list-e_len-requires-clause-room
split_list-e_len-requires-clause-room g c = (
  values_fit c.args.rows _ c.args.width c.args.part c.requires.types.place c.requires.rows.1,
  c.requires.rows.0,
)

pub lists_in-lists-requires-clause-part : goal.lists_in-lists-requires-clause-part
lists_in-lists-requires-clause-part g c =
    let r = c.requires.part.2 in let a = c.split_list-iw.ensures.rest in let b = c.split_list-next.ensures.rest in
    let d = c.split_list-pe.ensures.rest in let e = c.split_list-len.ensures.rest in let f = c.split_list-nv.ensures.rest in
    let h = c.split_list-e_len.ensures.rest in (c.requires.part.0, omega (arith, r, a, b, d, e, f, h))

pub lists_in-lists-requires-clause-rows : goal.lists_in-lists-requires-clause-rows
lists_in-lists-requires-clause-rows g c = c.requires.rows

pub lists_in-lists-requires-clause-cells : goal.lists_in-lists-requires-clause-cells
lists_in-lists-requires-clause-cells g c = c.requires.types.cell

pub lists_in-lists-requires-clause-sides : goal.lists_in-lists-requires-clause-sides
lists_in-lists-requires-clause-sides g c = c.requires.types.sides

pub returns-clause-room : goal.returns-clause-room
returns-clause-room g c = record {
  beside = record {
    words = le_of_eq (sym c.split_list-iw.ensures.list.1);
    next = le_of_eq (sym c.split_list-next.ensures.list.1);
    pe = le_of_eq (sym c.split_list-pe.ensures.list.1);
    len = le_of_eq (sym c.split_list-len.ensures.list.1);
    lists = c.lists_in-lists.ensures.room;
  };
  nv = le_of_eq (sym c.split_list-nv.ensures.list.1);
  e_len = le_of_eq (sym c.split_list-e_len.ensures.list.1);
}

pub returns-clause-rest : goal.returns-clause-rest
returns-clause-rest g c =
    let a = c.split_list-iw.ensures.rest in let b = c.split_list-next.ensures.rest in let d = c.split_list-pe.ensures.rest in
    let e = c.split_list-len.ensures.rest in let f = c.split_list-nv.ensures.rest in let h = c.lists_in-lists.ensures.rest in
    let k = c.split_list-e_len.ensures.rest in omega (arith, a, b, d, e, f, h, k)
