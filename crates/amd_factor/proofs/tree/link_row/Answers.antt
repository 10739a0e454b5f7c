use Rattle.std.proofs.Common.{inl, inr, sym, subst, arith}
use Rattle.std.specs.Prelude.{slice_index}
use Rattle.std.proofs.lemmas.Bool.{cases_eq}
use Rattle.amd_factor.specs.Ancestors.{IsDone}
use Rattle.amd_factor.proofs.Trees.Ancestry.{neighbour, parents-told}
use Rattle.amd_factor.proofs.tree.link_row.Goals as goal

pub earlier-init : goal.earlier-init
earlier-init g c = record { climbing = c.requires.climbing; done = λ s l. absurd (omega (arith, l)) }

pub climb-requires : goal.climb-requires
climb-requires g c =
    let e = neighbour g.o c.args.i c.args.earlier.now c.earlier.j-index c.requires.earlier_are c.earlier-test.true in
    record { laws = c.requires.laws; place = c.requires.place; earlier = e.0; edge = e.1; climbing = c.earlier.invariant.climbing }

pub earlier-preserved : goal.earlier-preserved
earlier-preserved g c = record {
  climbing = c.climb.ensures.climbing;
  done = λ s l. elim (cases_eq s c.earlier.j-index) [
    | inl q ↦ subst (λ x. IsDone g.o c.args.i c.climb.new.parent (slice_index c.args.earlier.now x)) (sym q) c.climb.ensures.done
    | inr ne ↦ c.climb.ensures.kept (slice_index c.args.earlier.now s) (c.earlier.invariant.done s (omega (arith, l, ne)))
  ];
}

pub returns-clause-parents : goal.returns-clause-parents
returns-clause-parents g c =
    let t = c.earlier-test.false in
    parents-told g.o c.requires.laws c.args.i c.requires.place c.earlier.parent c.earlier.ancestor c.args.earlier.now c.requires.earlier_are
    c.earlier.invariant.climbing (λ s l. c.earlier.invariant.done s (omega (arith, l, t)))
