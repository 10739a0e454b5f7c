use Rattle.std.proofs.Common.{◌≡◌, ◌+◌, length}
use Rattle.amd_factor.specs.Meetings.{Links, Met, TakenSome, sum_to}
use Rattle.amd_factor.proofs.meeting.take_arcs.Given as goal

abbrev pub ghost-meet : goal.ghost-meet
ghost-meet g a = g.at

abbrev pub invariant-arcs : goal.invariant-arcs
invariant-arcs g l = record {
  links : Links g.at.0 g.at.1 l.link;
  met : Met g.at.0 (TakenSome g.at.0 g.at.1 l.j l.later l.i-index) l.last l.plus l.minus;
  sum : sum_to l.plus (length g.at.0.up + 1) ≡ sum_to l.initial.plus (length g.at.0.up + 1) + l.i-index;
}
