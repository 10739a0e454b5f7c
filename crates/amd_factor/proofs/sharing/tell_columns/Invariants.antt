use Rattle.std.proofs.Common.{ℕ, ◌≡◌, ◌<◌, ◌≤◌, ◌-◌, length}
use Rattle.std.specs.Prelude.{None, Some, slice_index, slice_index_or}
use Rattle.amd_factor.proofs.sharing.tell_columns.Given as goal

abbrev pub invariant-columns : goal.invariant-columns
invariant-columns l = record {
  long : length l.ends ≡ length l.fn.ends;
  done : (m : ℕ) → m < l.k → slice_index l.ends m ≡ slice_index l.fn.ends m - slice_index l.starts m;
  left : (m : ℕ) → l.k ≤ m → slice_index l.ends m ≡ slice_index l.fn.ends m;
  links : length l.link ≡ length l.fn.link;
  none : (m : ℕ) → m < l.k → slice_index l.starts m ≡ slice_index l.fn.ends m → slice_index_or l.link m None ≡ None;
  parents : (m : ℕ) → m < l.k → slice_index l.starts m < slice_index l.fn.ends m →
      slice_index_or l.link m None ≡ Some (slice_index l.firsts m);
}
