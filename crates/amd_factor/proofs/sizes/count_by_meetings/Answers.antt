use Rattle.std.proofs.Common.{arith}
use Rattle.std.proofs.lemmas.List.{length-append}
use Rattle.amd_factor.proofs.Meetings.ThinCounts.{thins-itself}
use Rattle.amd_factor.proofs.sizes.count_by_meetings.Goals as goal

pub elimination_tree-requires : goal.elimination_tree-requires
elimination_tree-requires g c =
    let lists = c.requires.0 in let room = c.requires.1 in
    let sizes = room.sizes_room in let front = c.split_at_mut-ancestor.ensures.front_len in record {
      laws = lists.laws;
      earlier_are = lists.before;
      parents = room.parents;
      ancestors = omega (arith, sizes, front);
    }

pub count_by_tree-requires : goal.count_by_tree-requires
count_by_tree-requires g c =
    let lists = c.requires.0 in let room = c.requires.1 in let sizes = room.sizes_room in let work = room.work_room in
    let front = c.split_at_mut-ancestor.ensures.front_len in let back = c.split_at_mut-ancestor.ensures.back_len in
    let same = c.elimination_tree.auto.ancestor in
    let both = length-append c.elimination_tree.new.ancestor c.split_at_mut-ancestor.result.1.now in (
      record { laws = lists.laws; thins = thins-itself g.o; parents = c.elimination_tree.ensures },
      (
        lists.behind,
        record { counts_room = sizes; work_room = omega (arith, work, front, back, same, both, sizes) },
      ),
    )
