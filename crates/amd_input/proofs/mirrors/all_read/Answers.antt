-- the goals of mirrors::all_read.
use Rattle.std.proofs.Common.{◌<◌, ◌+◌, ◌^◌, ◌∙◌, arith, inl, inr, map, sym, subst}
use Rattle.std.proofs.lemmas.Bool.{cases_eq, true≢false}
use Rattle.std.proofs.lemmas.List.{length-map}
use borrow.Author.Count.{falls}
use Rattle.amd_edges.proofs.Forms.{pointer_fits}
use Rattle.amd_input.proofs.mirrors.all_read.Goals as goal

pub count_at-requires-clause-fits : goal.count_at-requires-clause-fits
count_at-requires-clause-fits g c = pointer_fits c.args.size (map g.I.Index.value c.args.a_p.now)
    (map g.I.Index.value c.args.a_i.now) c.requires.form (c.columns.j + 1) (let l = c.columns-test.true in omega (arith, l))
    (subst (λ x. x < 2 ^ 64) (sym (length-map c.args.a_i.now g.I.Index.value)) (omega (arith, c.well_formed)))

pub columns-init : goal.columns-init
columns-init g c = λ a l. absurd (omega (arith, l))

pub cell_at-requires : goal.cell_at-requires
cell_at-requires g c = let long = c.requires.long in let j_in = c.columns-test.true in omega (arith, long, j_in)

pub overflow_add-j : goal.overflow_add-j
overflow_add-j g c = let j_in = c.columns-test.true in let size = c.ranges.size.fits in omega (arith, j_in, size)

pub count_at-requires-clause-within : goal.count_at-requires-clause-within
count_at-requires-clause-within g c =
    let enough = c.requires.form.enough in let long = length-map c.args.a_p.now g.I.Index.value in let j_in = c.columns-test.true in
    omega (arith, enough, long, j_in)

pub returns-then-cell_at-count_at-clause-all : goal.returns-then-cell_at-count_at-clause-all
returns-then-cell_at-count_at-clause-all g c = λ e. absurd (true≢false (sym e))

pub returns-then-cell_at-count_at-clause-some : goal.returns-then-cell_at-count_at-clause-some
returns-then-cell_at-count_at-clause-some g c = λ e.
    (c.columns.j, c.columns-test.true, λ same. c.if-cell_at-count_at.true (c.cell_at.ensures.is ∙ same ∙ sym c.count_at.ensures.count))

pub columns-smaller : goal.columns-smaller
columns-smaller g c = falls c.args.size c.columns.j c.columns-test.true

pub columns-preserved : goal.columns-preserved
columns-preserved g c = λ a l. elim (cases_eq a c.columns.j) [
  | inl same ↦ rw same (sym c.cell_at.ensures.is ∙ c.if-cell_at-count_at.false ∙ c.count_at.ensures.count)
  | inr other ↦ c.columns.invariant a (omega (arith, l, other))
]

pub returns-clause-all : goal.returns-clause-all
returns-clause-all g c = λ e j l. c.columns.invariant j (let end = c.columns-test.false in omega (arith, l, end))

pub returns-clause-some : goal.returns-clause-some
returns-clause-some g c = λ e. absurd (true≢false e)
