-- The columns are written, and then the figures.
use Rattle.amd_texts.proofs.Written.{Appends-then}
use Rattle.amd_demos.proofs.exact.write_exact.Goals as goal

pub returns : goal.returns
returns g c = λ columns h.
    let up_to_2 = Appends-then _ _ _ _ _ c.in_ok-write_all.ensures.bytes (c.in_ok-write_counts.ensures columns h) in
    Appends-then _ _ _ _ _ up_to_2 (c.in_ok-write_figures.ensures columns (c.need_of.ensures columns h))
