-- The lines are written one after another.
use Rattle.std.specs.Prelude.{codes}
use Rattle.amd_texts.proofs.Written.{Appends-then}
use Rattle.amd_demos.proofs.Sizes.{beside-named}
use Rattle.amd_demos.proofs.exact.write_figures.Goals as goal

pub returns : goal.returns
returns g c = λ columns need.
    let told = c.args.told.now in
    let one = beside-named (codes "nonzeros in L (excluding diagonal)") _ _ told.lnz _ _ need.lnz c.in_ok-write_beside.ensures in
    let two = beside-named (codes "multiply-subtract operations for LDL'") _ _ told.n_mult_subs_ldl _ _ need.ldl
    c.in_ok-write_beside-2.ensures in
    let three = beside-named (codes "multiply-subtract operations for LU") _ _ told.n_mult_subs_lu _ _ need.lu
    c.in_ok-write_beside-3.ensures in
    let four = beside-named (codes "max nz. in any column of L (incl. diagonal)") _ _ told.d_max _ _ need.greatest
    c.in_ok-write_beside-4.ensures in
    Appends-then _ _ _ _ _ (Appends-then _ _ _ _ _ (Appends-then _ _ _ _ _ one two) three) four
