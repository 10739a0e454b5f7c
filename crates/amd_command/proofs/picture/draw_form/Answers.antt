-- The panels are those that were made.
use Rattle.std.proofs.Common.{refl}
use Rattle.amd_command.proofs.picture.draw_form.Goals as goal

pub returns : goal.returns
returns g c = record {
  before = c.in_ok-before.before;
  is_before = rw (c.deref.ensures.value, c.in_ok-standing.ensures) at c.in_ok-before.ensures.panel;
  after = c.in_ok-after.after;
  is_after = c.in_ok-after.ensures.panel;
  tells = rw c.in_ok-before.ensures.side at c.in_ok-write_drawing.ensures;
  drawn_before = refl;
  drawn_after = refl;
}
