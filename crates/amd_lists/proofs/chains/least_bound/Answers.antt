use Rattle.std.proofs.Common.{rules}
use Rattle.std.proofs.Common.{◌≤◌, ◌+◌, inl, inr, ap, arith}
use Rattle.std.proofs.lemmas.Bool.{cases_eq}
use Rattle.amd_words.specs.Words.{num}
use Rattle.amd_lists.proofs.chains.least_bound.Goals as goal

pub bounds-init : goal.bounds-init
bounds-init g c = record { from = omega arith; some = c.requires.some; below = λ b l m. absurd (omega (arith, l, m)) }

pub cell_at-requires : goal.cell_at-requires
cell_at-requires g c = let s = c.bounds.invariant.some in let a = s.1 in let b = s.2 in omega (arith, a, b)

pub bounds-preserved : goal.bounds-preserved
bounds-preserved g c =
    let s = c.bounds.invariant.some in let f = c.bounds.invariant.from in let t = c.bounds-test.true in
    let is = c.cell_at.ensures.is in let a = s.1 in let low = s.3 in
    let past : c.bounds.bound + 1 ≤ s.0 = elim (cases_eq s.0 c.bounds.bound) [
      | inl q ↦ (let e = ap (num c.args.head.now) q in absurd (omega (arith, e, t, is, low)))
      | inr ne ↦ omega (arith, a, ne)
    ] in record {
      from = omega (arith, f);
      some = (s.0, past, s.2, low);
      below = λ b l m. elim (cases_eq b c.bounds.bound) [
        | inl q ↦ (let e = ap (num c.args.head.now) q in omega (arith, e, t, is))
        | inr ne ↦ c.bounds.invariant.below b l (omega (arith, m, ne))
      ];
    }

pub returns : goal.returns
returns g c = record {
  from = search rules;
  inside = search rules;
  found = (let t = c.bounds-test.false in let is = c.cell_at.ensures.is in omega (arith, t, is));
  below = search rules;
}
