-- Each option is what was found under its name.
use Rattle.std.proofs.Common.{refl}
use Rattle.amd_cli.proofs.request.options_of.Goals as goal

pub returns : goal.returns
returns c = record {
  file = rw c.get_str.ensures at c.text_or.ensures;
  dense = c.get_str-2.ensures;
  refused = c.flag_of.result;
  by_no_aggressive = c.flag_of.ensures;
  aggressive = refl;
  hold = c.get_str-3.ensures;
  out = c.get_str-4.ensures;
  json = c.flag_of-2.ensures;
  progress = c.flag_of-3.ensures;
  compare = c.asks_comparison.ensures;
  with_order = c.get_str-5.ensures;
  with_inverse = c.get_str-6.ensures;
  inverse = c.flag_of-4.ensures;
  zero_based = c.flag_of-5.ensures;
  quiet = c.flag_of-6.ensures;
  yes = c.flag_of-7.ensures;
  memory = c.get_str-7.ensures;
  factor = c.get_str-8.ensures;
  permuted = c.get_str-9.ensures;
  tree = c.get_str-10.ensures;
  postorder = c.get_str-11.ensures;
  picture = c.get_str-12.ensures;
  symmetric = c.flag_of-8.ensures;
  tree_picture = c.get_str-13.ensures;
}
