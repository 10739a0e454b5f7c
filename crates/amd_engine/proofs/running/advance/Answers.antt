use Rattle.std.proofs.Common.{sym}
use Rattle.amd_engine.proofs.running.advance.Goals as goal

pub returns-clause-rounds : goal.returns-clause-rounds
returns-clause-rounds g c = let l = c.eliminate_within.ensures.loans in
    rw (
      c.iw-1.given.1.1 (sym l.4),
      c.rows-1.given.1 (sym l.9),
      c.rows-2-1.given.1 (sym l.8),
      c.rows-3-1.given.1 (sym l.7),
      c.rows-4-1.given.1 (sym l.6),
      c.rows-5-1.given.1 (sym l.3),
      c.rows-6-1.given.1 (sym l.5),
      c.rows-7-1.given.1 (sym l.2),
      c.rows-8-1.given.1 (sym l.1),
      c.rows-9-1.given.1 (sym l.0),
    ) c.eliminate_within.ensures.rounds
