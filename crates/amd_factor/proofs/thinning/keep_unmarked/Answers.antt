use Rattle.std.proofs.Common.{◌≡◌, ◌+◌, inl, inr, subst, arith}
use Rattle.amd_factor.specs.Thinning.{Keeps}
use Rattle.amd_factor.proofs.Meetings.ThinRows.{keeps-next}
use Rattle.amd_factor.proofs.thinning.keep_unmarked.Goals as goal
use Rattle.amd_factor.proofs.thinning.keep_unmarked.Goals.{then-mark-j, else-mark-j}

pub places-preserved : goal.places-preserved
places-preserved c =
    let i = c.places.invariant in let from = i.from in let test = c.places-test.true in let range = c.requires.range in
    let next = keeps-next c.args.begin c.args.first c.args.stamp c.args.mark.now c.args.lists.now c.places.lists c.places.place
    c.places.next range.0 from (let e = range.2 in omega (arith, test, e)) i.keeps in record {
      from = omega (arith, from);
      keeps = elim c.if-mark-j.branch [
        | then-mark-j w ↦ rw w.next-is (next (c.places.next + 0) (omega arith) (omega arith) (inl w.if-mark-j.true))
        | else-mark-j w ↦ rw w.next-is (next (c.places.next + 1) (omega arith) (omega arith) (inr (omega arith)))
      ];
    }

pub returns : goal.returns
returns c =
    let test = c.places-test.false in let end = c.places.auto.place-end in
    let same : c.places.place ≡ c.args.end = omega (arith, test, end) in
    subst (λ e. Keeps c.args.begin e c.args.first c.places.next c.args.stamp c.args.mark.now c.args.lists.now c.places.lists) same
    c.places.invariant.keeps
