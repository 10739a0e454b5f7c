use Rattle.std.proofs.Common.{◌≡◌, ◌+◌, ◌∙◌, sym, subst, length, arith, set, ap, refl}
use Rattle.std.specs.Prelude.{slice_index, replicate}
use Rattle.amd_factor.specs.Meetings.{Links, Met, Taken}
use Rattle.amd_factor.proofs.Meetings.Linking.{linked, unlinked}
use Rattle.amd_factor.proofs.Meetings.Onto.{rank-inside}
use Rattle.amd_factor.proofs.Meetings.Rounds.{list-long, met-none, remaining-first, remaining-next, zeros-sum}
use Rattle.amd_factor.proofs.sweep.meet_arcs.Goals as goal

pub ranks-init : goal.ranks-init
ranks-init g c =
    let tree = c.requires.0 in let later = c.requires.1.0 in let lists = c.requires.1.1 in
    let ups = tree.ups in
    let last : c.fill.new.self ≡ replicate (length c.args.last.now) (length c.args.tree.now.up.now) = c.fill.ensures.after (λ y e. e) in
    let plus : c.fill-2.new.self ≡ replicate (length c.args.plus.now) 0 = c.fill-2.ensures.after (λ y e. e) in
    let minus : c.fill-3.new.self ≡ replicate (length c.args.minus.now) 0 = c.fill-3.ensures.after (λ y e. e) in
    let link-room = lists.link_room in let same = c.link_to_themselves.auto.link in
    let plus-room = lists.plus_room in let minus-room = lists.minus_room in record {
      links = unlinked g.s c.link_to_themselves.new.link (same ∙ link-room)
          (λ x l. c.link_to_themselves.ensures x (omega (arith, l, link-room)));
      met = met-none g.s tree.scene c.fill.new.self c.fill-2.new.self c.fill-3.new.self (length c.args.plus.now) plus-room
          (rank-inside g.s tree.scene)
          (last ∙ ap (λ m. replicate m (length c.args.tree.now.up.now)) lists.last_room ∙ ap (λ m. replicate (length g.s.up) m)
          (ap length ups)) plus
          (minus ∙ ap (λ m. replicate m 0) (minus-room ∙ sym plus-room));
      room = (let a = remaining-first g.s tree.scene c.args.later.now.starts.now c.args.later.now.places.now later in
          let b = zeros-sum c.fill-2.new.self (length c.args.plus.now) plus (length g.s.up + 1) (omega (arith, plus-room)) in
          omega (arith, a, b));
    }

pub take_arcs-requires : goal.take_arcs-requires
take_arcs-requires g c =
    let tree = c.requires.0 in let lists = c.requires.1.1 in
    let order = lists.by_rank in let order-room = order.room in let t = c.ranks-test.true in
    let ups = tree.ups in let has = c.requires.1.0 in
    let o = order.each c.ranks.t (omega (arith, order-room, t)) in
    let j = slice_index c.args.order.now c.ranks.t in (
      record {
        scene = tree.scene;
        ranks = tree.ranks;
        place = o.0;
        here = refl;
        later_are = has.each j (let low = o.0 in let places = tree.scene.places in omega (arith, low, places));
      },
      record {
        links = subst (λ v. Links g.s v c.ranks.link) (sym o.1) c.ranks.invariant.links;
        met = subst (λ v. Met g.s (Taken g.s v) c.ranks.last c.ranks.plus c.ranks.minus) (sym o.1) c.ranks.invariant.met;
        room = (let a = list-long g.s tree.scene c.args.later.now.starts.now c.args.later.now.places.now has j o.0 in
            let b = remaining-next g.s tree.scene c.args.later.now.starts.now c.args.later.now.places.now has c.ranks.t j o.0 o.1 in
            let d = c.ranks.invariant.room in omega (arith, a, b, d));
      },
    )

pub ranks-preserved : goal.ranks-preserved
ranks-preserved g c =
    let tree = c.requires.0 in let lists = c.requires.1.1 in
    let order = lists.by_rank in let order-room = order.room in let t = c.ranks-test.true in
    let ups = tree.ups in let has = c.requires.1.0 in
    let o = order.each c.ranks.t (omega (arith, order-room, t)) in
    let j = slice_index c.args.order.now c.ranks.t in
    record {
      links = subst (λ v. Links g.s (c.ranks.t + 1) (set c.take_arcs.new.link j (slice_index v j))) (sym ups)
          (linked g.s tree.scene c.ranks.t c.take_arcs.new.link
          (subst (λ v. Links g.s v c.take_arcs.new.link) o.1 c.take_arcs.ensures.links) j o.0 o.1);
      met = subst (λ v. Met g.s (Taken g.s (v + 1)) c.take_arcs.new.last c.take_arcs.new.plus c.take_arcs.new.minus) o.1
          c.take_arcs.ensures.met;
      room = (let a = list-long g.s tree.scene c.args.later.now.starts.now c.args.later.now.places.now has j o.0 in
          let b = remaining-next g.s tree.scene c.args.later.now.starts.now c.args.later.now.places.now has c.ranks.t j o.0 o.1 in
          let d = c.ranks.invariant.room in let sum = c.take_arcs.ensures.sum in omega (arith, a, b, d, sum));
    }

pub returns-clause-met : goal.returns-clause-met
returns-clause-met g c =
    let lists = c.requires.1.1 in
    let order-room = lists.by_rank.room in
    let all : c.ranks.t ≡ length g.s.up = (let a = c.ranks-test.false in let b = c.ranks.auto.t-end in omega (arith, a, b, order-room)) in
    subst (λ v. Met g.s (Taken g.s v) c.ranks.last c.ranks.plus c.ranks.minus) all c.ranks.invariant.met
