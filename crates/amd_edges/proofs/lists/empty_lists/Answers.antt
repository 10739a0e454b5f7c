use Rattle.std.proofs.Common.{◌≡◌, ◌≤◌, length, get_or, arith, rules, ◌∙◌}
use Rattle.std.specs.Vec.{vec_capacity}
use Rattle.std.proofs.lemmas.Grind.{get_or_default_zero}
use Rattle.std.proofs.lemmas.List.{length_push}
use Rattle.amd_types.proofs.EmptyLists.{empty_more}
use Rattle.amd_edges.proofs.RowLists.{rooms_more}
use Rattle.amd_edges.proofs.lists.empty_lists.Goals as goal

pub rows-init : goal.rows-init
rows-init g c = record {
  room = search rules;
  size = search rules;
  empty = λ a h. absurd (omega arith);
  rooms =
      λ a h. absurd (omega arith);
}

pub rows-preserved : goal.rows-preserved
rows-preserved g c =
    let i = c.rows.invariant in
    let e = c.push_reserved.ensures in
    let items = e.items in
    let n = c.rows.degree-index in
    let xs = c.rows.rows.items in let v = c.in_ok-list.list in let degrees = c.args.degrees.now in
    let empty = c.in_ok-list.ensures.items in
    let enough : get_or degrees n 0 ≤ vec_capacity v = (let room = c.in_ok-list.ensures.capacity in grind (arith, get_or_default_zero)) in
    record {
      room = (let x = i.room in let y = e.capacity in omega (arith, x, y));
      size = (let x = i.size in rw items (length_push xs v ∙ omega (arith, x)));
      empty = λ a h. rw items (empty_more _ (λ v. v.items) xs v n i.size a h i.empty empty);
      rooms = λ a h. rw items (rooms_more _ (λ v. v.items) vec_capacity xs v n i.size a h degrees i.rooms enough);
    }

pub returns : goal.returns
returns g c =
    let i = c.rows.invariant in
    let end : c.rows.degree-index ≡ length c.args.degrees.now =
    (let x = c.rows-test.false in let y = c.rows.auto.degree-index-end in omega arith) in
    record {
      size = i.size ∙ end;
      empty = λ a h. i.empty a (omega (arith, h, end));
      room = λ a h. i.rooms a (omega (arith, h, end));
    }
