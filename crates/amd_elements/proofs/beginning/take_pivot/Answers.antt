use Rattle.std.proofs.Common.{rules}
use Rattle.amd_elements.proofs.Beginnings.{emptied_size, emptied_front}
use Rattle.amd_elements.proofs.beginning.take_pivot.Goals as goal

pub returns-clause-takes : goal.returns-clause-takes
returns-clause-takes g c = record {
  long = search rules;
  sizes = (λ j. rw c.put_row.ensures (emptied_size c.args.nv.now c.args.me c.requires.inside j));
  front = (λ j. rw c.put_row.ensures (emptied_front c.args.nv.now c.args.me c.requires.inside j));
}
