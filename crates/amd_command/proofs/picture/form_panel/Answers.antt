-- Each part of the panel is what the call that made it returned.
use Rattle.std.proofs.Common.{rules}
use Rattle.amd_command.proofs.picture.form_panel.Goals as goal

pub returns-clause-panel : goal.returns-clause-panel
returns-clause-panel g c =
    let m = c.args.matrix.now in record {
      places = c.in-Some.places.items;
      placed = rw c.in-Some.is at c.in_ok-places.ensures.places;
      entries = c.in_ok-entries.entries;
      square = c.in_ok-entries.ensures.square;
      shows = rw (c.deref.ensures.value, c.deref-2.ensures.value, c.deref-3.ensures.value) at c.in_ok-entries.ensures.shows;
      fill = c.in_ok-fill.fill;
      left_out = c.is_some.ensures;
      filled = search rules;
      kinds = c.in_ok-panel_kinds.ensures;
      need = c.in_ok-need.need;
      needed = search rules;
      counted = c.saturating_sub.ensures;
    }
