use Rattle.amd_cli.proofs.inputs.read_kept.Goals as goal

pub returns-in-Ok-clause-text : goal.returns-in-Ok-clause-text
returns-in-Ok-clause-text g c = rw c.as_slice-2.ensures.value at c.in-Ok.ensures.spells
