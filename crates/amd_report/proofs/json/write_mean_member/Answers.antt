-- The format writes a member.
use Rattle.amd_report.proofs.Members.{mean-from_format}
use Rattle.amd_report.proofs.json.write_mean_member.Goals as goal

pub returns : goal.returns
returns g c = mean-from_format _ _ _ _ _ c.in_ok-write.ensures.bytes
