-- The lists of the elements before the place `p` were taken.
use Rattle.amd_lists.specs.Layout.{list_in}
use Rattle.std.proofs.Common.{ℕ, ◌≡◌, ◌<◌, ◌-◌, flat_map, length}
use Rattle.amd_words.specs.Words.{rows, start, word}
use Rattle.amd_elements.specs.Room.{named_around}
use Rattle.amd_elements.specs.Visiting.{visited}
use Rattle.amd_elements.proofs.around.visit_around.Given as goal

abbrev pub invariant-loop-p : goal.invariant-loop-p
invariant-loop-p g l = record {
  held : g.V.ListVisitor.holds l.end (named_around l.fn.iw l.pe l.len l.pivot l.n_elements)
      (flat_map (list_in l.fn.iw l.pe l.len) (rows l.fn.iw (start l.pe l.pivot) (l.p - l.from)))
      (visited l.fn.iw l.fn.nv l.fn.visitor) (visited l.iw l.nv l.visitor);
  words : (k : ℕ) → k < l.end → word l.iw k ≡ word l.fn.iw k;
  long : length l.iw ≡ length l.fn.iw;
  wide : length l.nv ≡ length l.fn.nv;
}
