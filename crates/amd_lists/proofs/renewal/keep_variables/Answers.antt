use Rattle.amd_lists.proofs.renewal.keep_variables.Goals as goal

pub keep_part-requires-clause-narrow : goal.keep_part-requires-clause-narrow
keep_part-requires-clause-narrow g c = c.requires.narrow

pub keep_part-requires-2-clause-narrow : goal.keep_part-requires-2-clause-narrow
keep_part-requires-2-clause-narrow g c = c.requires.narrow
