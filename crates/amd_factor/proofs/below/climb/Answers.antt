use Rattle.std.proofs.Common.{ℕ, inl, inr, ◌∙◌, subst, sym, map}
use Rattle.std.proofs.lemmas.Bool.{cases_eq}
use Rattle.amd_types.specs.Naturals.{naturals}
use Rattle.amd_factor.specs.Partitions.{IsMarkedBy}
use Rattle.amd_factor.proofs.Partitions.RowClimbs.{climbs-over}
use Rattle.amd_factor.proofs.below.climb.Goals as goal

pub up-preserved : goal.up-preserved
up-preserved g c =
    let kept : (t : ℕ) → IsMarkedBy c.up.mark c.args.j t → IsMarkedBy c.put_row-s.new.mark c.args.j t =
    (λ t m. elim (cases_eq t c.up.s) [
      | inl q ↦ absurd (c.up-test.true (subst (IsMarkedBy c.up.mark c.args.j) q m))
      | inr ne ↦ c.put_row-s.ensures.others t ne ∙ m
    ]) in record {
      climbs = c.put_row-s.ensures.climbs;
      told = c.put_row-s.ensures.told;
      marked = elim c.up.invariant.marked [
        | inl m ↦ inl (kept c.args.from m)
        | inr q ↦ inl (subst (IsMarkedBy c.put_row-s.new.mark c.args.j) (sym q) c.put_row-s.ensures.marked)
      ];
      kept = λ t m. kept t (c.up.invariant.kept t m);
    }

pub returns-clause-climbs : goal.returns-clause-climbs
returns-clause-climbs g c = climbs-over g.b c.args.j c.up.s c.up.next c.up.mark (naturals (map g.I.Index.value c.up.rows))
    c.up.invariant.climbs c.up-test.false
