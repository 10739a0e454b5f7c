use Rattle.std.proofs.Common.{map}
use Rattle.amd_types.specs.Naturals.{naturals}
use Rattle.amd_factor.proofs.Lists.Entries.{before_none}
use Rattle.amd_factor.proofs.arcs.walk.Goals as goal

pub columns-init : goal.columns-init
columns-init g c = rw (before_none c.args.matrix.now.places.now (naturals (map g.I.Index.value c.args.matrix.now.a_p.now))
    (naturals (map g.I.Index.value c.args.matrix.now.a_i.now))) c.requires.held
