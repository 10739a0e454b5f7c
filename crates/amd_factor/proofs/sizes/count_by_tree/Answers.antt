use Rattle.std.proofs.Common.{◌∙◌, refl, arith}
use Rattle.amd_factor.proofs.Meetings.Assembling.{places, sizes-held}
use Rattle.amd_factor.proofs.Meetings.ThinCounts.{is-thin-scene, whole-targets}
use Rattle.amd_factor.proofs.sizes.count_by_tree.Goals as goal

pub sweep-requires : goal.sweep-requires
sweep-requires g c =
    let tree = c.requires.0 in let later = c.requires.1.0 in let room = c.requires.1.1 in
    let laws = tree.laws in let thins = tree.thins in let tells = tree.parents in
    let sizes = room.counts_room in let work = room.work_room in
    let goes = c.go_up.ensures in let parent = c.args.parent.now in let up = c.go_up.new.up in
    let size = c.measure.new.size in let rank = c.rank_places.new.rank in
    let all = places g.at.0 laws parent up tells goes in
    let link-same = c.rank_places.auto.next in
    let order-long = c.split_at_mut-order.ensures.front_len in let link-long = c.split_at_mut-link.ensures.front_len in
    let last-long = c.split_at_mut-last.ensures.front_len in let plus-long = c.split_at_mut-plus.ensures.front_len in
    let minus-long = c.split_at_mut-plus.ensures.back_len in let rest-order = c.split_at_mut-order.ensures.back_len in
    let rest-up = c.split_at_mut-up.ensures.back_len in let rest-last = c.split_at_mut-last.ensures.back_len in
    let rest-size = c.split_at_mut-size.ensures.back_len in let rest-link = c.split_at_mut-link.ensures.back_len in
    let rest-rank = c.split_at_mut-rank.ensures.back_len in (
      record {
        scene = is-thin-scene g.at.0 g.at.1 laws thins parent up tells goes size rank c.measure.ensures.measured c.measure.ensures.all
            c.rank_places.ensures;
        ups = refl;
        sizes = refl;
        ranks = refl;
      },
      (
        later,
        record {
          order_room = omega (arith, order-long, sizes, all);
          link_room = omega (arith, link-same, link-long, sizes, all);
          last_room = omega (arith, last-long, sizes, all);
          plus_room = omega (arith, plus-long, sizes, all);
          minus_room = omega (arith, minus-long, rest-order, rest-up, rest-last, rest-size, rest-link, rest-rank, work, sizes, all);
          counts_room = omega (arith, sizes, all);
        },
      ),
    )

pub returns : goal.returns
returns g c =
    let tree = c.requires.0 in let room = c.requires.1.1 in
    let laws = tree.laws in let tells = tree.parents in let goes = c.go_up.ensures in
    let parent = c.args.parent.now in let up = c.go_up.new.up in let size = c.measure.new.size in let rank = c.rank_places.new.rank in
    sizes-held g.at.0 laws parent up tells goes size rank c.measure.ensures.measured c.measure.ensures.all c.rank_places.ensures
    c.sweep.new.counts (c.sweep.auto.counts ∙ room.counts_room) (λ k l. whole-targets g.at.0 g.at.1 laws tree.thins parent up tells
    goes size rank c.measure.ensures.measured c.measure.ensures.all c.rank_places.ensures k _ (c.sweep.ensures k l))
