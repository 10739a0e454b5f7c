-- the goals of lower::drop_diagonals.
use Rattle.std.proofs.Common.{◌≡◌, ◌<◌, ◌+◌, ◌∙◌, arith, ap, length, map, set, subst, sym}
use borrow.Author.Count.{falls}
use Rattle.amd_types.specs.Naturals.{naturals}
use Rattle.amd_input.specs.LowerRows.{DropDiagonals}
use Rattle.amd_input.proofs.LowerRows.{drop_no_column, drop_none, drop_some}
use Rattle.amd_input.proofs.lower.drop_diagonals.Goals as goal
use Rattle.amd_input.proofs.lower.drop_diagonals.Goals.{then-has_diagonal, else-has_diagonal}

pub columns-init : goal.columns-init
columns-init g c = drop_no_column c.args.size (naturals (map g.I.Index.value c.args.a_p.now))
    (naturals (map g.I.Index.value c.args.a_i.now)) c.args.numbers.now

pub cell_at-number-requires : goal.cell_at-number-requires
cell_at-number-requires g c =
    let long = c.columns.auto.numbers in let size = c.requires.long in let k_in = c.columns-test.true in omega (arith, long, size, k_in)

pub put_cell-requires-clause-inside : goal.put_cell-requires-clause-inside
put_cell-requires-clause-inside g c =
    let long = c.columns.auto.numbers in let size = c.requires.long in let k_in = c.columns-test.true in omega (arith, long, size, k_in)

pub put_cell-requires-clause-fits : goal.put_cell-requires-clause-fits
put_cell-requires-clause-fits g c =
    let less = c.saturating_sub.ensures in let small = c.cell_at-number.ensures.small in omega (arith, less, small)

pub columns-smaller : goal.columns-smaller
columns-smaller g c = falls c.args.size c.columns.k c.columns-test.true

pub columns-preserved : goal.columns-preserved
columns-preserved g c =
    let n = c.args.size in let ap' = naturals (map g.I.Index.value c.args.a_p.now) in
    let ai = naturals (map g.I.Index.value c.args.a_i.now) in let k = c.columns.k in let old = c.args.numbers.now in
    let now = c.columns.numbers in
    let k_in : k < length old = (let size = c.requires.long in let k_in = c.columns-test.true in omega (arith, size, k_in)) in
    elim c.if-has_diagonal.branch [
      | then-has_diagonal w ↦ subst (DropDiagonals n ap' ai (k + 1) old)
          (sym (w.numbers-is ∙ w.put_cell.ensures ∙ ap (set now k) w.saturating_sub.ensures))
          (drop_some n ap' ai k old now c.columns.invariant w.cell_at-number.result k_in w.cell_at-number.ensures.is
          (sym c.has_diagonal.ensures ∙ w.if-has_diagonal.true))
      | else-has_diagonal w ↦ subst (DropDiagonals n ap' ai (k + 1) old) (sym w.numbers-is)
          (drop_none n ap' ai k old now c.columns.invariant (sym c.has_diagonal.ensures ∙ w.if-has_diagonal.false))
    ]

pub returns : goal.returns
returns g c =
    let end : c.columns.k ≡ c.args.size = (let x = c.columns-test.false in let y = c.columns.auto.k-end in omega (arith, x, y)) in
    subst (λ k. DropDiagonals c.args.size (naturals (map g.I.Index.value c.args.a_p.now)) (naturals (map g.I.Index.value c.args.a_i.now))
    k c.args.numbers.now c.columns.numbers) end c.columns.invariant

pub has_diagonal-requires-clause-input : goal.has_diagonal-requires-clause-input
has_diagonal-requires-clause-input g c = c.requires.input

pub has_diagonal-requires-clause-low : goal.has_diagonal-requires-clause-low
has_diagonal-requires-clause-low g c = c.requires.low

pub has_diagonal-requires-clause-k_in : goal.has_diagonal-requires-clause-k_in
has_diagonal-requires-clause-k_in g c = c.columns-test.true
