use Rattle.std.proofs.Common.{rules}
use Rattle.std.proofs.Common.{arith, ap, ◌∙◌}
use Rattle.amd_model.specs.Quotient.{has}
use Rattle.amd_lists.proofs.ChainLists.{taken_out}
use Rattle.amd_lists.proofs.chains.take_out.Goals as goal

pub returns : goal.returns
returns g c = record {
  lengths = search rules;
  linked = (λ lists named h. taken_out _ _ _ _ _ _ _ _ _ c.unlink.ensures.unlinks c.args.degree.now lists
      c.cell_at.ensures.is (let a = c.cell_at.ensures.is in let b = c.requires.row.1 in
      omega (arith, a, b)) (ap (λ d. has (lists d) c.args.i) c.cell_at.ensures.is ∙ named) h);
}
