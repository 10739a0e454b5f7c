use Rattle.std.proofs.Common.{rules}
use Rattle.std.proofs.Common.{ℕ, ◌<◌, arith, ap, sym, subst, ◌∙◌, length}
use Rattle.amd_words.specs.Sides.{nexts, lasts}
use Rattle.amd_model.specs.Quotient.{has}
use Rattle.amd_words.specs.Words.{num}
use Rattle.amd_lists.specs.Chains.{Chooses}
use Rattle.amd_lists.proofs.ChainLists.{taken_out, chooses, chosen_named}
use Rattle.amd_lists.proofs.chains.choose.Goals as goal

pub returns : goal.returns
returns g c = record {
  lengths = search rules;
  row = search rules;
  chosen = (λ degree lists h. let found = c.least_bound-bound.ensures in let size = c.requires.long in
      let n : ℕ = length (nexts c.args.sides.now) in let bound : ℕ = c.least_bound-bound.result in let is = c.cell_at-me.ensures.is in
      let e = found.found in let i = found.inside in
      subst (λ x. Chooses n c.args.least lists x bound) (sym is)
      (chooses n c.args.head.now (nexts c.args.sides.now) (lasts c.args.sides.now) degree lists h c.args.least bound found.from
      (omega (arith, i, size)) (omega (arith, e, size)) (λ b low l. let k = found.below b low l in omega (arith, k, size))));
  linked = (λ degree lists h. let found = c.least_bound-bound.ensures in let size = c.requires.long in
      let bound : ℕ = c.least_bound-bound.result in let is = c.cell_at-me.ensures.is in
      let e = found.found in let i = found.inside in let inside : bound < length (nexts c.args.sides.now) = omega (arith, i, size) in
      let named = chosen_named (length (nexts c.args.sides.now)) c.args.head.now (nexts c.args.sides.now) (lasts c.args.sides.now)
      degree lists h bound inside (omega (arith, e, size)) in
      taken_out _ _ _ _ _ _ _ _ _ c.unlink.ensures.unlinks degree lists (named.1 ∙ ap (num degree) (sym is)) inside
      (ap (has (lists bound)) is ∙ named.0) h);
}
