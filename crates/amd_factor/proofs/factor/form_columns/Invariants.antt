use Rattle.amd_factor.proofs.factor.form_columns.Given as goal

abbrev pub ghost-written_factor : goal.ghost-written_factor
ghost-written_factor g a = g.o
