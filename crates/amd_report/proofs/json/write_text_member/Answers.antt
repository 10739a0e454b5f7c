-- The format writes a member.
use Rattle.amd_report.proofs.Members.{text-from_format}
use Rattle.amd_report.proofs.json.write_text_member.Goals as goal

pub returns : goal.returns
returns g c = text-from_format c.args.name.now c.args.text.now _ _ c.in_ok-write.ensures.bytes
