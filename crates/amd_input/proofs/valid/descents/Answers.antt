use Rattle.std.proofs.Common.{◌+◌, ℤ, ℕ, List, map, refl, arith}
use Rattle.amd_input.proofs.Descents.{descents_counted, descents_start, descents_most}
use Rattle.amd_input.proofs.valid.descents.Goals as goal

pub places-init : goal.places-init
places-init g c =
    let same = descents_start (map g.I.Index.value c.args.a_i.now) c.args.from c.max-k.result c.max-k.ensures in
    record { count = omega (arith, same); none = λ e. refl }

pub overflow_add-found : goal.overflow_add-found
overflow_add-found g c =
    let ai : List ℤ = map g.I.Index.value c.args.a_i.now in
    let k : ℕ = c.places.k in
    let more = descents_counted ai k _ _ c.descends.ensures c.from-found.ensures in
    let most = descents_most ai (k + 1) in
    let few = c.requires.few in
    omega arith

pub places-preserved : goal.places-preserved
places-preserved g c =
    let more = descents_counted (map g.I.Index.value c.args.a_i.now) c.places.k _ _ c.descends.ensures c.from-found.ensures in
    let count = c.places.invariant.count in
    record { count = omega arith; none = λ e. absurd (omega arith) }
