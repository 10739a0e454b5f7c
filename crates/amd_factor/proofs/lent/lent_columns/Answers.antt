use Rattle.std.proofs.Common.{length, arith}
use Rattle.std.proofs.lemmas.List.{length-take-le}
use Rattle.amd_factor.proofs.Lists.PlacedOrders.{is_graph, later_lists, rows_long}
use Rattle.amd_factor.proofs.lent.lent_columns.Goals as goal

pub fill_into-requires : goal.fill_into-requires
fill_into-requires g c κs inside =
    let matrix = c.requires.1.0 in
    let placed = matrix.placed in
    let all = rows_long g.o _ _ _ c.args.places.now placed in
    let lists = c.requires.1.1 in
    let room = lists.words in
    let first = c.split_at_mut-starts.ensures.back_len in let second = c.split_at_mut-later.ensures.back_len in
    let third = c.split_at_mut-mark.ensures.back_len in let mark = c.split_at_mut-mark.ensures.front_len in
    let few = c.lay_later-total.ensures.few in
    let fresh = length-take-le (length c.args.places.now) c.split_at_mut-mark.result.1.now
    (omega (arith, room, first, second, third, few)) in (
      inside,
      (
        record {
          pointers = (let long = lists.pointers in omega (arith, long, all));
          parents = (let long = lists.parents in omega (arith, long, all));
          marks = omega (arith, mark, all);
          links = (let long = length-take-le (length c.args.places.now) c.args.links.now lists.links_room in omega (arith, long, all));
          fresh = omega (arith, fresh, all);
        },
        record {
          laws = is_graph g.o _ _ _ c.args.places.now placed;
          most = λ j l. matrix.fit j (omega (arith, l, all));
          later_are = later_lists g.o _ _ _ c.args.places.now placed c.list_later.new.starts c.list_later.new.neighbours
              c.list_later.ensures;
        },
      ),
    )
