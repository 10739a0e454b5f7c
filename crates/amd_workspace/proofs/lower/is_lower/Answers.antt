-- the goals of lower::is_lower.
use Rattle.std.proofs.Common.{arith, map, subst, ◌≡◌, true, inl, inr}
use Rattle.std.proofs.lemmas.Bool.{cases_lt}
use Rattle.amd_model.specs.Input.Pattern.{is_pair}
use Rattle.amd_model.proofs.Patterns.StartingLists.{pair_small}
use Rattle.amd_workspace.proofs.lower.is_lower.Goals as goal

pub columns-init : goal.columns-init
columns-init g c = λ i j l. absurd (omega (arith, l))

pub returns-clause-yes : goal.returns-clause-yes
returns-clause-yes g c = λ e i j h. c.columns.invariant i j (let s = pair_small c.args.size (map g.I.Index.value c.args.a_p.now)
    (map g.I.Index.value c.args.a_i.now) i j h in let b = s.1 in let t = c.columns-test.false in omega (arith, b, t)) h

pub columns-preserved : goal.columns-preserved
columns-preserved g c = λ i j l h. elim (cases_lt j c.columns.j) [
  | inl a ↦ c.columns.invariant i j a h
  | inr a ↦ (let e : j ≡ c.columns.j = omega (arith, a, l) in
      let low = c.is_low.ensures.yes c.if-not-is_low.false i (subst (λ x. is_pair c.args.size (map g.I.Index.value c.args.a_p.now)
      (map g.I.Index.value c.args.a_i.now) i x ≡ true) e h) in omega (arith, low, e))
]
