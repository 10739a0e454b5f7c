-- Each turn meets the entries of one column more.
use Rattle.std.proofs.Common.{◌≡◌, ◌∙◌, subst, sym, arith}
use Rattle.amd_report.specs.Passes.{AreMarkedClasses, Connects, IsForm}
use Rattle.amd_report.proofs.components.join_entries.Goals as goal

pub join_column-requires : goal.join_column-requires
join_column-requires c =
    let some = c.requires.classes in
    let size = c.columns.invariant.size in
    record {
      inside = omega (arith, size);
      marks = c.requires.marks ∙ sym size;
      form = subst (λ z. IsForm z c.args.a_p.now c.args.a_i.now) (sym size) c.requires.form;
      classes = (
        some.0,
        subst (λ z. Connects some.0 z c.args.a_p.now c.args.a_i.now) (sym size) some.1,
        c.columns.invariant.classes some.0 some.1 some.2,
      );
    }

pub columns-preserved : goal.columns-preserved
columns-preserved c =
    let size = c.columns.invariant.size in
    let after = c.join_column.ensures.size in
    record {
      size = omega (arith, size, after);
      classes = λ g connects h. c.join_column.ensures.classes g
          (subst (λ z. Connects g z c.args.a_p.now c.args.a_i.now) (sym size) connects) (c.columns.invariant.classes g connects h);
    }

pub returns-clause-classes : goal.returns-clause-classes
returns-clause-classes c g connects h =
    let last : c.columns.column ≡ c.args.n = (let t = c.columns-test.false in let e = c.columns.auto.column-end in omega (arith, t, e)) in
    subst (λ k. AreMarkedClasses g c.args.a_p.now c.args.a_i.now k 0 c.args.marks.now c.columns.links) last
    (c.columns.invariant.classes g connects h)
