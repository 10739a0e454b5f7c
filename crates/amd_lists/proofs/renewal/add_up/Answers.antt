use Rattle.std.proofs.Common.{◌∙◌}
use Rattle.amd_round_laws.proofs.Lists.Cuts.{cut_min}
use Rattle.amd_lists.proofs.PlainSums.{exact}
use Rattle.amd_lists.proofs.renewal.add_up.Goals as goal

pub returns-then-is_exact : goal.returns-then-is_exact
returns-then-is_exact c = exact _ (c.requires c.if-is_exact.true)

pub returns-else-is_exact : goal.returns-else-is_exact
returns-else-is_exact c = c.saturating_add.ensures ∙ cut_min _
