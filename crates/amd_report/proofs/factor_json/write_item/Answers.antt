-- The format writes the item.
use Rattle.std.proofs.Common.{ℕ, List, ◌++◌, ◌+◌, subst}
use Rattle.std.specs.Prelude.{codes, decimal}
use Rattle.std.specs.Io.KnownBytes.{Appends}
use Rattle.amd_report.proofs.factor_json.write_item.Goals as goal

pub returns : goal.returns
returns g c =
    subst (λ (z : List ℕ). Appends (g.W.Write.contents c.args.out.now) (g.W.Write.contents c.write.new.self)
    (z ++ (codes "[" ++ (decimal (c.args.row + 1) ++ (codes "," ++ (decimal c.args.above ++ (codes ","
    ++ (decimal c.args.size ++ codes "]")))))))) c.comma-before.ensures c.in_ok-write.ensures.bytes
