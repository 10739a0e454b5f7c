-- What was written are the numbers of the factor.
use Rattle.std.proofs.Common.{map, pos, ap, ◌∙◌}
use Rattle.amd_calls.specs.Columns.{parent_number}
use Rattle.amd_calls.proofs.factors.columns_into.Goals as goal

pub returns : goal.returns
returns g c =
    let frame = c.in_ok-frame.frame in
    let f = c.in_ok-frame.ensures.factor in
    record {
      ptr = frame.ptr.items;
      rows = f.entries;
      parent = frame.parent.items;
      factor = f.factor;
      pointers = c.write_numbers.ensures ∙ ap (map pos) c.deref-2.ensures.value;
      entries = f.written;
      parents = c.write_parents.ensures ∙ ap (map parent_number) c.deref-3.ensures.value;
    }
