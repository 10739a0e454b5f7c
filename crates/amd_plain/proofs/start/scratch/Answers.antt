use Rattle.amd_plain.proofs.StartLists.{same_length, marks_clear}
use Rattle.amd_plain.proofs.start.scratch.Goals as goal

pub returns : goal.returns
returns g c = record {
  rows = marks_clear c.args.n c.in_ok-vec.field-0.items (c.in_ok-vec.ensures.items_if_clones_equal (λ y h. h));
  elements = marks_clear c.args.n c.in_ok-vec-2.field-0.items (c.in_ok-vec-2.ensures.items_if_clones_equal (λ y h. h));
  groups = c.in_ok-empty_lists.ensures;
  beyond = same_length c.args.n 0 c.in_ok-vec-3.field-0.items (c.in_ok-vec-3.ensures.items_if_clones_equal (λ y h. h));
  into = same_length c.args.n 0 c.in_ok-vec-4.field-0.items (c.in_ok-vec-4.ensures.items_if_clones_equal (λ y h. h));
}
