-- Each turn meets the entries of one column more.
use Rattle.std.proofs.Common.{◌≡◌, subst, arith}
use Rattle.amd_report.specs.Passes.{IsMostMet}
use Rattle.amd_report.specs.Shapes.{above, below}
use Rattle.amd_report.proofs.Passing.{form-rising}
use Rattle.amd_report.proofs.Widths.{most-none, most-pairs}
use Rattle.amd_report.proofs.bandwidths.widths_of.Goals as goal

pub columns-init : goal.columns-init
columns-init c = record { lower = most-none _ _ below; upper = most-none _ _ above }

pub with_column-widths-requires-clause-form : goal.with_column-widths-requires-clause-form
with_column-widths-requires-clause-form c = form-rising c.args.n c.args.a_p.now c.args.a_i.now c.requires.form c.requires.sorted

pub returns-clause-lower : goal.returns-clause-lower
returns-clause-lower c =
    let last : c.columns.column ≡ c.args.n = (let t = c.columns-test.false in let e = c.columns.auto.column-end in omega (arith, t, e)) in
    most-pairs c.args.n c.args.a_p.now c.args.a_i.now c.requires.form below c.columns.widths.lower
    (subst (λ k. IsMostMet c.args.a_p.now c.args.a_i.now k 0 below c.columns.widths.lower) last c.columns.invariant.lower)

pub returns-clause-upper : goal.returns-clause-upper
returns-clause-upper c =
    let last : c.columns.column ≡ c.args.n = (let t = c.columns-test.false in let e = c.columns.auto.column-end in omega (arith, t, e)) in
    most-pairs c.args.n c.args.a_p.now c.args.a_i.now c.requires.form above c.columns.widths.upper
    (subst (λ k. IsMostMet c.args.a_p.now c.args.a_i.now k 0 above c.columns.widths.upper) last c.columns.invariant.upper)
