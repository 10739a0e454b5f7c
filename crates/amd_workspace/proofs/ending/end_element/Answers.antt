-- The goals of ending::end_element.
use Rattle.std.proofs.Common.{pos, set, ap, arith, ◌∙◌}
use Rattle.amd_words.specs.Words.{num, word}
use Rattle.amd_workspace.proofs.EndWords.{block_told}
use Rattle.amd_workspace.proofs.ending.end_element.Goals as goal

pub put_row-requires-then-front-border-clause-small : goal.put_row-requires-then-front-border-clause-small
put_row-requires-then-front-border-clause-small g c = let most = c.requires.narrow.1 in let less = c.if-front-border.true in
    let is = block_told (word c.args.e_len.now c.args.i) (num c.args.degree.now c.args.i) c.front_in-front.result
    c.cell_at-border.result c.front_in-front.ensures.is c.cell_at-border.ensures.is (omega arith) in omega (arith, is, most)

pub returns-then-front-border-clause-blocks : goal.returns-then-front-border-clause-blocks
returns-then-front-border-clause-blocks g c =
    let less = c.if-front-border.true in
    c.put_row-then-front-border.ensures ∙ ap (λ m. set c.args.nv.now c.args.i (pos m))
    (block_told (word c.args.e_len.now c.args.i) (num c.args.degree.now c.args.i) c.front_in-front.result c.cell_at-border.result
    c.front_in-front.ensures.is c.cell_at-border.ensures.is (omega arith))
