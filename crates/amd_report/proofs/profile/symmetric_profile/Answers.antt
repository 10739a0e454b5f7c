-- Each turn adds one row.
use Rattle.std.proofs.Common.{◌≡◌, ◌-◌, arith, subst, sym}
use Rattle.amd_model.specs.Below.{sum_below}
use Rattle.amd_count_laws.proofs.Sums.{sum-next, sum-none}
use Rattle.amd_report.specs.Passes.{first_row}
use Rattle.amd_report.proofs.Firsts.{symmetric-profile}
use Rattle.amd_report.proofs.Passing.{form-rising}
use Rattle.amd_report.proofs.profile.symmetric_profile.Goals as goal

pub columns-init : goal.columns-init
columns-init c = record { sum = sym (sum-none _); small = omega arith }

pub before_diagonal-requires-clause-form : goal.before_diagonal-requires-clause-form
before_diagonal-requires-clause-form c = form-rising c.args.n c.args.a_p.now c.args.a_i.now c.requires.form c.requires.sorted

pub columns-preserved : goal.columns-preserved
columns-preserved c =
    let next = sum-next (λ i. i - first_row c.args.a_p.now c.args.a_i.now i) c.columns.column in
    let so_far = c.columns.invariant.sum in
    let small = c.columns.invariant.small in
    let added = c.before_diagonal.ensures in
    let fits = c.before_diagonal.type_inv in
    record { sum = omega (arith, next, so_far, added); small = omega (arith, small, fits) }

pub returns : goal.returns
returns c =
    let last : c.columns.column ≡ c.args.n = (let t = c.columns-test.false in let e = c.columns.auto.column-end in omega (arith, t, e)) in
    symmetric-profile c.args.n c.args.a_p.now c.args.a_i.now c.requires.form c.requires.sorted c.requires.symmetric c.columns.sum
    (subst (λ k. c.columns.sum ≡ sum_below k (λ i. i - first_row c.args.a_p.now c.args.a_i.now i)) last c.columns.invariant.sum)
