use Rattle.amd_factor.specs.Ranks.{itself}
use Rattle.amd_factor.proofs.Meetings.Linking.{two, two-keeps, drawn}
use Rattle.amd_factor.proofs.Meetings.Nesting.{above-trans}
use Rattle.amd_factor.proofs.meeting.find.Goals as goal

pub up-init : goal.up-init
up-init g c = record { links = c.requires.1.1; most = c.requires.1.0; over = itself; lowest = λ r m a h. a }

pub up-preserved : goal.up-preserved
up-preserved g c =
    let r = two g.at.0 g.at.1 c.up.link c.up.invariant.links c.up.x c.up.invariant.most in record {
      links = drawn g.at.0 g.at.1 c.up.link c.up.invariant.links c.up.x c.up.invariant.most;
      most = r.2;
      over = above-trans g.at.0.up c.up.invariant.over r.3;
      lowest = λ q m a h. two-keeps g.at.0 g.at.1 c.up.link c.up.invariant.links c.up.x c.up.invariant.most q m
          (c.up.invariant.lowest q m a h) h;
    }
