-- Each turn meets the entries of one column more.
use Rattle.std.proofs.Common.{◌≡◌, subst, sym, arith}
use Rattle.amd_report.specs.Passes.{AreFirsts, IsForm}
use Rattle.amd_report.proofs.profile.meet_entries.Goals as goal

pub meet_column-requires : goal.meet_column-requires
meet_column-requires c =
    let size = c.columns.invariant.size in
    record {
      inside = omega (arith, size);
      form = subst (λ z. IsForm z c.args.a_p.now c.args.a_i.now) (sym size) c.requires.form;
      firsts = c.columns.invariant.firsts;
    }

pub returns-clause-firsts : goal.returns-clause-firsts
returns-clause-firsts c =
    let last : c.columns.column ≡ c.args.n = (let t = c.columns-test.false in let e = c.columns.auto.column-end in omega (arith, t, e)) in
    subst (λ k. AreFirsts c.args.a_p.now c.args.a_i.now k 0 c.columns.firsts) last c.columns.invariant.firsts
