use Rattle.std.proofs.Common.{◌*◌, ◌/◌, ◌≤◌, arith}
use Rattle.std.proofs.lemmas.Bool.{leb-true}
use Rattle.amd_types.proofs.DenseRoots.{few_rows, some_root}
use Rattle.amd_types.proofs.dense.has_few_rows.Goals as goal

pub returns : goal.returns
returns c = λ yes.
    let dense = c.args.dense in let root = some_root (dense * dense * c.args.n) in
    let low = leb-true c.args.n (dense * dense / 1000000) yes in
    let few : 1000000 * c.args.n ≤ dense * dense = omega (arith, low) in
    (root.0, root.1, few_rows c.args.n dense root.0 few root.1)
