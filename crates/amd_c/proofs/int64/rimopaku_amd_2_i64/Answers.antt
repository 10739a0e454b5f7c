-- The arrays after the call are those that were lent to it.
use Rattle.std.proofs.Common.{rules}
use Rattle.std.proofs.lemmas.List.{map-id}
use Rattle.amd_c.proofs.int64.rimopaku_amd_2_i64.Goals as goal

pub returns : goal.returns
returns c = let leaves = simp map-id at c.eliminate_into-status.ensures.leaves in record {
  status = c.eliminate_into-status.result;
  answer = search rules;
  left = search rules;
}
