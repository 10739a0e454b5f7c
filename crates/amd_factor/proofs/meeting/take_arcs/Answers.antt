use Rattle.std.proofs.Common.{◌<◌, ◌+◌, length, set, arith}
use Rattle.std.specs.Prelude.{slice_index}
use Rattle.std.proofs.lemmas.Grind.{common_steps}
use Rattle.amd_factor.specs.Meetings.{Met, TakenSome}
use Rattle.amd_factor.proofs.Meetings.Events.{bump}
use Rattle.amd_factor.proofs.Meetings.PlaceArcs.{item, taken-none, taken-all, this-arc, plus-more, minus-low, minus-more, sum-more}
use Rattle.amd_factor.proofs.meeting.take_arcs.Given.{Over}
use Rattle.amd_factor.proofs.meeting.take_arcs.Goals.{In-arcs, After-meet-meeting}
use Rattle.amd_factor.proofs.meeting.take_arcs.Goals as goal

-- the place that the arc leads to has an arc before it, or none
arc_low : (g : Over) (c : In-arcs g) → slice_index c.args.later.now c.arcs.i-index < length c.arcs.last
arc_low g c =
    let next = c.requires.0 in
    let i = item g.at.0 next.scene g.at.1 c.args.j c.args.later.now next.place next.here next.later_are
    c.arcs.i-index c.arcs-test.true in
    let most = i.most in let room = c.arcs.invariant.met.last_room in omega (arith, most, room)

-- what is known after the arc
after : (g : Over) (c : After-meet-meeting g) → (c.meet-meeting.result < length g.at.0.up) × Met g.at.0
    (TakenSome g.at.0 g.at.1 c.args.j c.args.later.now (c.arcs.i-index + 1))
    (set c.arcs.last (slice_index c.args.later.now c.arcs.i-index) c.args.j)
    (bump c.arcs.plus (slice_index c.args.rank.now c.args.j))
    (bump c.arcs.minus (slice_index c.args.rank.now c.meet-meeting.result))
after g c =
    let next = c.requires.0 in let lists = c.requires.1 in
    this-arc g.at.0 next.scene g.at.1 c.args.j c.args.later.now next.place next.here next.later_are
    c.arcs.i-index c.arcs-test.true c.arcs.last c.arcs.plus c.arcs.minus c.arcs.invariant.met c.meet-meeting.result (length c.args.last.now)
    c.args.rank.now lists.met.last_room next.ranks c.meet-meeting.ensures.first c.meet-meeting.ensures.lowest

-- the place where it meets the arc before it has a counter
there_low : (g : Over) (c : After-meet-meeting g) → slice_index c.args.rank.now c.meet-meeting.result < length c.arcs.minus
there_low g c =
    let next = c.requires.0 in
    minus-low g.at.0 next.scene g.at.1 c.args.j c.args.later.now next.place next.here next.later_are
    c.arcs.i-index c.arcs-test.true c.arcs.last c.arcs.plus c.arcs.minus c.arcs.invariant.met c.meet-meeting.result c.args.rank.now
    next.ranks (after g c).0

pub arcs-init : goal.arcs-init
arcs-init g c =
    let next = c.requires.0 in let lists = c.requires.1 in record {
      links = lists.links;
      met = taken-none g.at.0 next.scene g.at.1 c.args.j c.args.later.now next.place next.here next.later_are _ _ _
          lists.met;
      sum = omega arith;
    }

pub bounds-last-i : goal.bounds-last-i
bounds-last-i g c = arc_low g (goal.at.bounds-last-i g c).In-arcs

pub offset_bounds-last-i : goal.offset_bounds-last-i
offset_bounds-last-i g c = let low = arc_low g (goal.at.offset_bounds-last-i g c).In-arcs in omega (arith, low)

pub bounds-last-i-in-arcs : goal.bounds-last-i-in-arcs
bounds-last-i-in-arcs g c = arc_low g (goal.at.bounds-last-i-in-arcs g c).In-arcs

pub offset_bounds-last-i-in-arcs : goal.offset_bounds-last-i-in-arcs
offset_bounds-last-i-in-arcs g c = let low = arc_low g (goal.at.offset_bounds-last-i-in-arcs g c).In-arcs in omega (arith, low)

pub overflow_add-plus : goal.overflow_add-plus
overflow_add-plus g c =
    let next = c.requires.0 in let lists = c.requires.1 in
    let a = plus-more g.at.0 next.scene g.at.1 c.args.j c.args.later.now next.place next.here next.later_are
    c.arcs.i-index c.arcs-test.true
    c.arcs.last c.arcs.plus c.arcs.minus c.arcs.invariant.met c.meet-meeting.result c.args.rank.now next.ranks in
    let sum = c.arcs.invariant.sum in let room = lists.room in let t = c.arcs-test.true in omega (arith, a, sum, room, t)

pub bounds-minus-there : goal.bounds-minus-there
bounds-minus-there g c = there_low g (goal.at.bounds-minus-there g c).After-meet-meeting

pub bounds-minus-there-in-arcs : goal.bounds-minus-there-in-arcs
bounds-minus-there-in-arcs g c = there_low g (goal.at.bounds-minus-there-in-arcs g c).After-meet-meeting

pub offset_bounds-minus-there : goal.offset_bounds-minus-there
offset_bounds-minus-there g c = let low = there_low g (goal.at.offset_bounds-minus-there g c).After-meet-meeting in omega (arith, low)

pub overflow_add-minus : goal.overflow_add-minus
overflow_add-minus g c =
    let next = c.requires.0 in let lists = c.requires.1 in
    let low = (after g (goal.at.overflow_add-minus g c).After-meet-meeting).0 in
    let m = minus-more g.at.0 next.scene g.at.1 c.args.j c.args.later.now next.place next.here next.later_are
    c.arcs.i-index c.arcs-test.true c.arcs.last c.arcs.plus c.arcs.minus c.arcs.invariant.met c.meet-meeting.result
    c.args.rank.now next.ranks low in
    let sum = c.arcs.invariant.sum in let enough = lists.room in let t = c.arcs-test.true in omega (arith, m, sum, enough, t)

pub arcs-preserved : goal.arcs-preserved
arcs-preserved g c =
    let next = c.requires.0 in record {
      links = c.meet-meeting.ensures.links;
      met = (after g (goal.at.arcs-preserved g c).After-meet-meeting).1;
      sum = (let m = sum-more g.at.0 next.scene g.at.1 c.args.j c.args.later.now next.place next.here
          next.later_are c.arcs.i-index c.arcs-test.true c.arcs.last c.arcs.plus c.arcs.minus c.arcs.invariant.met
          c.meet-meeting.result c.args.rank.now next.ranks in
          let sum = c.arcs.invariant.sum in omega (arith, m, sum));
    }

pub returns-clause-met : goal.returns-clause-met
returns-clause-met g c =
    let next = c.requires.0 in
    taken-all g.at.0 next.scene g.at.1 c.args.j c.args.later.now next.place next.here next.later_are
    c.arcs.i-index c.arcs-test.false _ _ _
    c.arcs.invariant.met

pub bounds-rank-meeting : goal.bounds-rank-meeting
bounds-rank-meeting g c = grind (arith, common_steps)

pub offset_bounds-rank-meeting : goal.offset_bounds-rank-meeting
offset_bounds-rank-meeting g c = grind (arith, common_steps)
