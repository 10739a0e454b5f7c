use Rattle.std.proofs.Common.{◌++◌, ◌∷◌, ◌+◌, ◌-◌, [], ap, sym, ◌∙◌}
use Rattle.std.specs.List.{range_with_len}
use Rattle.std.proofs.lemmas.List.{append_assoc}
use Rattle.amd_factor.proofs.Partitions.Appending.{range-next}
use Rattle.amd_factor.proofs.expanding.push_entries.Goals as goal

pub block-preserved : goal.block-preserved
block-preserved g c =
    let a = c.args.k + 1 in let j = c.block.j in let rows = c.args.rows.now.items in
    c.in_ok-push.ensures.items ∙ ap (λ xs. xs ++ j ∷ []) c.block.invariant ∙ append_assoc rows (range_with_len a (j - a)) (j ∷ [])
    ∙ ap (λ xs. rows ++ xs) (sym (range-next a j c.block.auto.j))
