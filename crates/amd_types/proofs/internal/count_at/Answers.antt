use Rattle.std.proofs.Common.{map, pos, subst, sym, ap, ◌∙◌}
use Rattle.std.proofs.Math.ListN.{get_or-map}
use Rattle.std.specs.Prelude.{unsigned_abs}
use Rattle.std.specs.Int.{FitsUnsignedBits}
use Rattle.amd_types.proofs.Conversions.{count_back}
use Rattle.amd_types.proofs.internal.count_at.Goals as goal

pub known_count-requires : goal.known_count-requires
known_count-requires g c = subst (FitsUnsignedBits 64) (sym c.value_at.ensures) c.requires.fits

pub returns-clause-value : goal.returns-clause-value
returns-clause-value g c = ap pos (c.known_count.ensures ∙ ap unsigned_abs c.value_at.ensures) ∙ count_back _ c.requires.fits

pub returns-clause-count : goal.returns-clause-count
returns-clause-count g c = c.known_count.ensures ∙ ap unsigned_abs c.value_at.ensures
    ∙ sym (get_or-map unsigned_abs (map g.I.Index.value c.args.numbers.now) c.args.place (pos 0))
