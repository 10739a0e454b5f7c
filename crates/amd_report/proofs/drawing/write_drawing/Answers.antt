-- One panel, and then the other one.
use Rattle.amd_report.proofs.Told.{among-before, among-behind}
use Rattle.amd_report.proofs.drawing.write_drawing.Goals as goal

pub returns : goal.returns
returns g c =
    let a = c.in_ok-write_panel.ensures in let b = c.in_ok-write_panel-2.ensures in record {
      before = a.0;
      after = b.0;
      tells_before = a.1;
      tells_after = b.1;
      between = _;
      first = among-behind _ _ _ a.0 c.in_ok-write_head.ensures a.2;
      second = among-before _ _ _ b.0 b.2 c.in_ok-write_foot.ensures;
    }
