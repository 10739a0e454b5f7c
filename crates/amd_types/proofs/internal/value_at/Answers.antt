use Rattle.std.proofs.Common.{pos, sym, ap, ◌∙◌}
use Rattle.std.proofs.lemmas.List.{get_or-map}
use Rattle.amd_types.proofs.internal.value_at.Goals as goal

pub returns : goal.returns
returns g c = ap g.I.Index.value c.index-numbers-place.is
    ∙ sym (get_or-map g.I.Index.value c.args.numbers.now c.args.place c.index-numbers-place.result (pos 0) c.requires)
