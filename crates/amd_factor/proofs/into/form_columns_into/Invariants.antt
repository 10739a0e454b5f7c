use Rattle.amd_factor.proofs.into.form_columns_into.Given as goal

abbrev pub ghost-written_into : goal.ghost-written_into
ghost-written_into g a = g.o
