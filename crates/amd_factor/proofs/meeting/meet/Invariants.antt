use Rattle.amd_factor.proofs.meeting.meet.Given as goal

abbrev pub ghost-find : goal.ghost-find
ghost-find g a = g.at
