use Rattle.std.proofs.Common.{arith}
use Rattle.std.proofs.lemmas.Grind.{common_steps}
use Rattle.amd_factor.proofs.Factors.PlaceNumbers.{written_alone}
use Rattle.amd_factor.proofs.numbers.write_places.Goals as goal

pub returns-then-places-eq1 : goal.returns-then-places-eq1
returns-then-places-eq1 g c =
    written_alone g.N.Index.value c.args.numbers.now c.args.places.now c.number_of.result c.requires.room c.if-places-eq1.true
    c.number_of.ensures

pub places-preserved : goal.places-preserved
places-preserved g c = grind (arith, common_steps)
