use Rattle.amd_factor.proofs.column.new_rows.Given as goal

abbrev pub ghost-has_only_child : goal.ghost-has_only_child
ghost-has_only_child g a = g.c

abbrev pub ghost-mark_base : goal.ghost-mark_base
ghost-mark_base g a = g.c

abbrev pub ghost-gather_children : goal.ghost-gather_children
ghost-gather_children g a = g.c

abbrev pub ghost-gather_places : goal.ghost-gather_places
ghost-gather_places g a = g.c
