-- Sound places without a cycle are a forest, and the other way round.
use Rattle.std.proofs.Common.{◌≡◌, refl, sym, subst}
use Rattle.amd_types.specs.declared.amd.Status.TheVariants.{OutOfMemory}
use Rattle.amd_c_calls.specs.Forests.{AreParents}
use Rattle.amd_c_calls.proofs.ForestsLeft.{forest_from, forest_rises, tells_other}
use Rattle.amd_c_calls.proofs.forests.is_forest.Goals as goal

pub returns : goal.returns
returns c =
    let a = c.args in
    let are = subst (λ x. AreParents a.parent.now a.nv.now x) (sym c.deref.ensures.value) c.in_ok-above.ensures.parents in
    let above = c.deref.result.now in
    tells_other (λ e. e ≡ OutOfMemory) c.has_no_cycle.result
    (forest_from a.parent.now a.nv.now a.f_size.now c.requires.nv c.requires.f_size above are (c.if-not-are_sound.ensures.0 refl))
    (forest_rises a.parent.now a.nv.now a.f_size.now c.requires.nv c.requires.f_size above are) c.has_no_cycle.ensures
