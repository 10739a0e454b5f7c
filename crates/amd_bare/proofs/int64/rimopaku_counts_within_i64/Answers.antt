use Rattle.std.proofs.Common.{w64}
use Rattle.std.proofs.lemmas.Int.{to_z-of_z}
use Rattle.amd_calls.proofs.WithinLeft.{counts_within}
use Rattle.amd_bare.proofs.int64.rimopaku_counts_within_i64.Goals as goal

pub returns : goal.returns
returns c =
    let a = c.args in
    let call = c.counts_within in
    counts_within _ a.n a.a_p.now a.a_i.now a.p.now a.lent.size a.sizes.now a.parent.now call.new.sizes call.new.parent a.needs.now
    call.new.needs call.result _ (to_z-of_z w64 a.n c.ranges.n) call.ensures.left call.ensures.block c.number_of_end.ensures
