use Rattle.amd_model.proofs.Examples.Seven as seven
use Rattle.amd_model.proofs.example_laws.example_seven.Goals as goal

pub returns : goal.returns
returns c = record {
  run = seven.run;
  listing = seven.listing;
  lnz = seven.lnz;
  ldl = seven.ldl;
  lu = seven.lu;
  d_max = seven.d_max;
  second_front = seven.second_front;
  second_bound = seven.second_bound;
  third_block = seven.third_block;
}
