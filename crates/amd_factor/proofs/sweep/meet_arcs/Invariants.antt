use Rattle.std.proofs.Common.{◌+◌, ◌≤◌, length}
use Rattle.std.specs.Prelude.{slice_index}
use Rattle.amd_factor.specs.Meetings.{Links, Met, Taken, sum_to}
use Rattle.amd_factor.proofs.Meetings.Rounds.{remaining}
use Rattle.amd_factor.proofs.sweep.meet_arcs.Given as goal

abbrev pub ghost-take_arcs : goal.ghost-take_arcs
ghost-take_arcs g a = (g.s, slice_index g.s.rank a.j)

abbrev pub invariant-ranks : goal.invariant-ranks
invariant-ranks g l = record {
  links : Links g.s l.t l.link;
  met : Met g.s (Taken g.s l.t) l.last l.plus l.minus;
  room : sum_to l.plus (length g.s.up + 1) + remaining g.s l.later.starts.now l.t ≤ length l.later.places.now;
}
