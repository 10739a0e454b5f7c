use Rattle.amd_factor.proofs.sweep.sweep.Given as goal

abbrev pub ghost-place_by_rank : goal.ghost-place_by_rank
ghost-place_by_rank g a = g.s

abbrev pub ghost-meet_arcs : goal.ghost-meet_arcs
ghost-meet_arcs g a = g.s

abbrev pub ghost-tell_counts : goal.ghost-tell_counts
ghost-tell_counts g a = g.s
