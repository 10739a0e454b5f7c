-- The format writes a member.
use Rattle.amd_report.proofs.Members.{share-from_format}
use Rattle.amd_report.proofs.json.write_symmetry_member.Goals as goal

pub returns : goal.returns
returns g c = share-from_format _ _ _ _ c.in_ok-write.ensures.bytes
