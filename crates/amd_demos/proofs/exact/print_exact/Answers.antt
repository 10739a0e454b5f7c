-- The factor that was answered is written.
use Rattle.std.proofs.Common.{rules}
use Rattle.std.proofs.lemmas.List.{map-id}
use Rattle.std.proofs.Math.Facts.{to_z-of_z}
use Rattle.amd_demos.proofs.Sizes.{exact-of}
use Rattle.amd_demos.proofs.exact.print_exact.Goals as goal

pub returns-in_ok-write_exact-in-Ok-clause-exact : goal.returns-in_ok-write_exact-in-Ok-clause-exact
returns-in_ok-write_exact-in-Ok-clause-exact g c = λ _.
    exact-of _ _ _ _ _ _ _ _ _ _ _ _ _ _ _ (search (rules, to_z-of_z)) (map-id _) (map-id _) (map-id _)
    c.deref.ensures.value c.in-Ok.ensures.factor c.in_ok-write_exact-in-Ok.ensures
