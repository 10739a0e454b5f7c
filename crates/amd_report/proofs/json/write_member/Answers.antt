-- The format writes a member.
use Rattle.amd_report.proofs.Members.{member-from_format}
use Rattle.amd_report.proofs.json.write_member.Goals as goal

pub returns : goal.returns
returns g c = member-from_format c.args.before.now c.args.name.now _ _ _ c.in_ok-write.ensures.bytes
