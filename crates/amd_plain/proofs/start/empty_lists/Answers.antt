use Rattle.std.proofs.Common.{◌∙◌, arith}
use Rattle.std.proofs.lemmas.List.{length_push}
use Rattle.amd_plain.proofs.StartLists.{empty_push}
use Rattle.amd_plain.proofs.start.empty_lists.Goals as goal

pub rows-preserved : goal.rows-preserved
rows-preserved g c =
    let was = c.rows.invariant in
    let e = c.push_reserved.ensures in
    let items = e.items in
    let lists = c.rows.lists.items in
    let v = c.new.result in
    record {
      room = (let x = was.room in let y = e.capacity in omega (arith, x, y));
      size = (let x = was.size in rw items (length_push lists v ∙ omega (arith, x)));
      empty = λ i. rw items (empty_push lists v was.empty c.new.ensures.items i);
    }
