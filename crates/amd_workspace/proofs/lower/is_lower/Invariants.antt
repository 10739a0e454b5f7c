use Rattle.std.proofs.Common.{◌≡◌, ◌<◌, ◌≤◌, ℕ, true, map}
use Rattle.amd_model.specs.Input.Pattern.{is_pair}
use Rattle.amd_workspace.proofs.lower.is_lower.Given as goal

abbrev pub invariant-columns : goal.invariant-columns
invariant-columns g l = (i j : ℕ) → j < l.j → is_pair l.size (map g.I.Index.value l.a_p) (map g.I.Index.value l.a_i) i j ≡ true → j ≤ i
