use Rattle.amd_model.proofs.Examples.Eleven as eleven
use Rattle.amd_model.proofs.example_laws.example_eleven.Goals as goal

pub returns : goal.returns
returns c = record {
  run = eleven.run;
  listing = eleven.listing;
  lnz = eleven.lnz;
  ldl = eleven.ldl;
  lu = eleven.lu;
  d_max = eleven.d_max;
  second_border = eleven.second_border;
  second_bound = eleven.second_bound;
  fourth_bound = eleven.fourth_bound;
  fifth_absorbed = eleven.fifth_absorbed;
  fifth_plainly = eleven.fifth_plainly;
  pairs = eleven.pairs;
  diagonal = eleven.diagonal;
  edges = eleven.edges;
  degrees = eleven.degrees;
  dense_rows = eleven.dense_rows;
}
