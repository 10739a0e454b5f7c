-- The parts were read one after another; an error of a part names its line behind those of the parts before.
use Rattle.std.proofs.Common.{[], ◌∷◌, refl}
use Rattle.amd_lines.specs.Lines.{telling, percent}
use Rattle.amd_market.specs.Arrays.{array_places, kept}
use Rattle.amd_market.specs.Stops.{MoreStops, in_shape, in_values, behind_values}
use Rattle.amd_market.specs.declared.faults.ReadFault.TheVariants as fault
use Rattle.amd_market.proofs.ArrayLemmas.{values-inside}
use Rattle.amd_market.proofs.FaultLemmas.{for-behind, for-weaker, handed-on, says-first, says-more}
use Rattle.amd_market.proofs.StopLemmas.{values-behind-lines}
use Rattle.amd_market.proofs.FileLemmas.{body-whole, array-body}
use Rattle.amd_market.proofs.reader.take_array.Goals as goal

pub returns-in_err-n-clause-fails : goal.returns-in_err-n-clause-fails
returns-in_err-n-clause-fails g c = handed-on _ c.from_residual.result c.from_residual.ensures.1
    (for-weaker _ _ _ (λ s h. in_shape h) c.in_err-n.ensures.fails)

pub returns-in_err-pairs-clause-fails : goal.returns-in_err-pairs-clause-fails
returns-in_err-pairs-clause-fails g c =
    let first = c.in_ok-n.ensures.takes in
    handed-on _ c.from_residual-in_err-pairs.result c.from_residual-in_err-pairs.ensures.1
    (for-behind _ _ _ first.1.lines _ first.1.takes (λ s h. in_values first.0 _ first.2
    (values-behind-lines _ _ first.1.lines (first.0 ∷ []) s first.1.tells h)) c.in_err-pairs.ensures.fails)

pub returns-in_err-take_end-clause-fails : goal.returns-in_err-take_end-clause-fails
returns-in_err-take_end-clause-fails g c =
    let first = c.in_ok-n.ensures.takes in
    let second = c.in_ok-pairs.ensures.takes in
    let told = telling percent second.lines in
    handed-on _ c.from_residual-in_err-take_end.result c.from_residual-in_err-take_end.ensures.1
    (for-behind _ _ _ first.1.lines _ first.1.takes (λ s h. behind_values first.0 told _ second.flags first.2 second.spells second.counted
    (says-more first.1.lines (first.0 ∷ []) told s first.1.tells h))
    (for-behind {Q = MoreStops fault.MorePlaces told} _ _ _ second.lines _ second.takes
    (λ s h. says-first second.lines told s refl h) c.in_err-take_end.ensures.fails))

pub returns-clause-takes : goal.returns-clause-takes
returns-clause-takes g c =
    let first = c.in_ok-n.ensures.takes in
    let second = c.in_ok-pairs.ensures.takes in
    let n = c.in_ok-n.n in
    let entries = kept second.flags (array_places c.args.header.symmetry n n) in
    body-whole _ _ _ _ _ first.0 second.lines _ _ _ entries first.1 second.takes c.in_ok-take_end.ensures.takes
    (array-body _ c.args.header _ first.0 _ entries c.requires first.2
    (record { flags = second.flags; counted = second.counted; values = second.spells; are = refl })) second.added

pub returns-clause-inside : goal.returns-clause-inside
returns-clause-inside g c = values-inside _ _ _ _ _ _ c.in_ok-pairs.ensures.takes
