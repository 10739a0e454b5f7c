use Rattle.amd_model.proofs.Examples.Cycle as cycle
use Rattle.amd_model.proofs.example_laws.example_cycle.Goals as goal

pub returns : goal.returns
returns c = record {
  run = cycle.run;
  listing = cycle.listing;
  lnz = cycle.lnz;
  ldl = cycle.ldl;
  lu = cycle.lu;
  d_max = cycle.d_max;
  first_front = cycle.first_front;
  first_bound = cycle.first_bound;
  old_bound_counts = cycle.old_bound_counts;
  second_block = cycle.second_block;
}
