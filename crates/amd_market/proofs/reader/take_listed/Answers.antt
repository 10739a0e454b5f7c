-- The parts were read one after another; an error of a part names its line behind those of the parts before.
use Rattle.std.proofs.Common.{[], ◌∷◌, refl, subst, sym}
use Rattle.amd_lines.specs.Lines.{telling, percent}
use Rattle.amd_market.specs.Entries.{SpellsSize}
use Rattle.amd_market.specs.Stops.{MoreStops, in_size, in_entries, behind_entries, after}
use Rattle.amd_market.specs.declared.faults.ReadFault.TheVariants as fault
use Rattle.amd_market.proofs.FaultLemmas.{for-behind, for-weaker, handed-on, says-first, says-more}
use Rattle.amd_market.proofs.StopLemmas.{entries-behind-lines}
use Rattle.amd_market.proofs.FileLemmas.{body-whole, listed-body, pairs-inside}
use Rattle.amd_market.proofs.reader.take_listed.Goals as goal

pub returns-in_err-size-clause-fails : goal.returns-in_err-size-clause-fails
returns-in_err-size-clause-fails g c = handed-on _ c.from_residual.result c.from_residual.ensures.1
    (for-weaker _ _ _ (λ s h. in_size h) c.in_err-size.ensures.fails)

pub returns-in_err-pairs-clause-fails : goal.returns-in_err-pairs-clause-fails
returns-in_err-pairs-clause-fails g c =
    let first = c.in_ok-size.ensures.takes in
    handed-on _ c.from_residual-in_err-pairs.result c.from_residual-in_err-pairs.ensures.1
    (for-behind _ _ _ first.1.lines _ first.1.takes (λ s h. in_entries first.0 _ _ first.2
    (entries-behind-lines _ _ _ first.1.lines (first.0 ∷ []) s first.1.tells h)) c.in_err-pairs.ensures.fails)

pub returns-in_err-take_end-clause-fails : goal.returns-in_err-take_end-clause-fails
returns-in_err-take_end-clause-fails g c =
    let first = c.in_ok-size.ensures.takes in
    let second = c.in_ok-pairs.ensures.takes in
    let told = telling percent second.lines in
    let size = subst (SpellsSize first.0 _ _) (sym second.counted) first.2 in
    handed-on _ c.from_residual-in_err-take_end.result c.from_residual-in_err-take_end.ensures.1
    (for-behind _ _ _ first.1.lines _ first.1.takes (λ s h. behind_entries first.0 told _ second.entries size second.spells
    (subst (λ z. MoreStops (fault.More z) (first.0 ∷ told) (after first.1.lines s)) (sym second.counted)
    (says-more first.1.lines (first.0 ∷ []) told s first.1.tells h)))
    (for-behind {Q = MoreStops (fault.More c.in_ok-size.size.entries) told} _ _ _ second.lines _ second.takes
    (λ s h. says-first second.lines told s refl h) c.in_err-take_end.ensures.fails))

pub returns-clause-takes : goal.returns-clause-takes
returns-clause-takes g c =
    let first = c.in_ok-size.ensures.takes in
    let second = c.in_ok-pairs.ensures.takes in
    body-whole _ _ _ _ _ first.0 second.lines _ _ _ second.entries first.1 second.takes c.in_ok-take_end.ensures.takes
    (listed-body _ c.args.header _ first.0 _ second.entries c.requires (subst (SpellsSize first.0 _ _) (sym second.counted) first.2)
    second.spells) second.pairs_are

pub returns-clause-inside : goal.returns-clause-inside
returns-clause-inside g c = pairs-inside _ _ _ _ _ _ _ c.in_ok-pairs.ensures.takes
