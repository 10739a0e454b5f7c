use Rattle.std.proofs.Common.{◌∙◌}
use Rattle.amd_factor.proofs.Partitions.Appending.{hold-next}
use Rattle.amd_factor.proofs.expanding.push_column.Goals as goal

pub returns : goal.returns
returns g c = λ columns place column held.
    hold-next columns c.args.k _ _ _ _ _ _ _ _ _ place column held c.in_ok-push_entries.ensures c.in_ok-push.ensures.items
    (c.len.ensures ∙ c.push_entries.new.rows.ok.0) c.in_ok-push-2.ensures.items c.first_entry.ensures
