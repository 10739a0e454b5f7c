use Rattle.std.proofs.Common.{ℕ, ◌≡◌, ◌+◌, ◌*◌, length, get_or, arith}
use Rattle.std.proofs.lemmas.Grind.{common_steps}
use Rattle.std.proofs.lemmas.List.{length-take-le}
use Rattle.amd_factor.proofs.Lists.PlacedOrders.{earlier_lists, is_graph, rows_long}
use Rattle.amd_factor.proofs.lent.lent_sizes.Goals as goal

pub lay_turned-turned-requires : goal.lay_turned-turned-requires
lay_turned-turned-requires g c =
    let placed = c.requires.1.0 in
    let starts = c.list_earlier.auto.starts in let ends = c.lay_earlier-total.auto.ends in let fill = c.fill.ensures.len in
    let front = c.split_at_mut-starts.ensures.front_len in let second = c.split_at_mut-later_starts.ensures.front_len in
    let filled = c.fill-2.ensures.len in
    let zeros : (k : ℕ) → get_or c.fill-2.new.self k 0 ≡ 0 = grind (arith, common_steps) in (
      earlier_lists g.o _ _ _ c.args.places.now placed c.list_earlier.new.starts c.list_earlier.new.neighbours
          c.list_earlier.ensures,
      (omega (arith, starts, ends, fill, front, second, filled), zeros),
    )

pub list_turned-requires : goal.list_turned-requires
list_turned-requires g c =
    let placed = c.requires.1.0 in
    let total = c.lay_turned-turned.ensures.total in let front = c.split_at_mut-later.ensures.front_len in (
      earlier_lists g.o _ _ _ c.args.places.now placed c.list_earlier.new.starts c.list_earlier.new.neighbours
          c.list_earlier.ensures,
      (c.lay_turned-turned.ensures.ends, omega (arith, total, front)),
    )

pub count_by_meetings-requires : goal.count_by_meetings-requires
count_by_meetings-requires g c =
    let placed = c.requires.1.0 in
    let all = rows_long g.o _ _ _ c.args.places.now placed in
    let lists = c.requires.1.1 in let room = lists.words in
    let first = c.split_at_mut-starts.ensures.back_len in let second = c.split_at_mut-earlier.ensures.back_len in
    let third = c.split_at_mut-later_starts.ensures.back_len in let fourth = c.split_at_mut-later.ensures.back_len in
    let few = c.lay_earlier-total.ensures.few in let turned = c.lay_turned-turned.ensures.few in
    let earlier = c.list_earlier.auto.neighbours in let front = c.split_at_mut-earlier.ensures.front_len in
    let long = length-take-le (8 * length c.args.places.now + 5) c.split_at_mut-later.result.1.now
    (omega (arith, room, first, second, third, fourth, few, turned, earlier, front)) in (
      record {
        laws = is_graph g.o _ _ _ c.args.places.now placed;
        before = earlier_lists g.o _ _ _ c.args.places.now placed c.list_earlier.new.starts c.list_earlier.new.neighbours
            c.list_earlier.ensures;
        behind = c.list_turned.ensures;
      },
      record {
        parents = (let long = lists.parents in omega (arith, long, all));
        sizes_room = (let long = lists.counts_room in omega (arith, long, all));
        work_room = omega (arith, long, all);
      },
    )
