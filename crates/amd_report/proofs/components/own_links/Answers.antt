-- Each turn links one row more to itself.
use Rattle.std.proofs.Common.{◌≡◌, ◌∙◌, ap, arith, length, refl, subst, sym}
use Rattle.std.specs.Prelude.{slice_index}
use Rattle.amd_report.proofs.Pushed.{pushed-each, pushed-length}
use Rattle.amd_report.proofs.components.own_links.Goals as goal

pub rows-preserved : goal.rows-preserved
rows-preserved g c =
    let so_far = c.rows.invariant in
    let items = c.in_ok-push.ensures.items in record {
      size = ap length items ∙ pushed-length c.rows.links.items c.rows.row c.rows.row so_far.size;
      own = λ i low. subst (λ z. slice_index z i ≡ i) (sym items)
          (pushed-each 0 (λ k x. x ≡ k) c.rows.links.items c.rows.row c.rows.row so_far.size so_far.own refl i low);
    }

pub returns-clause-size : goal.returns-clause-size
returns-clause-size g c =
    let t = c.rows-test.false in let a = c.rows.auto.row-end in let s = c.rows.invariant.size in omega (arith, t, a, s)

pub returns-clause-own : goal.returns-clause-own
returns-clause-own g c = λ i low. c.rows.invariant.own i (let t = c.rows-test.false in omega (arith, t, low))
