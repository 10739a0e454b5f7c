-- A climb ends at a place without one above it, at the mark of an earlier walk, or at a mark of its own.
use Rattle.std.proofs.Common.{inl, inr, not, ap, arith, get_or}
use Rattle.std.proofs.lemmas.Bool.{cases_eq, ne_eqb}
use Rattle.amd_c_calls.proofs.WalksUp.{climb_more, climb_tops, climb_meets, climb_turns, fewer_unmarked, other_of}
use Rattle.amd_c_calls.proofs.forests.climb.Goals as goal

pub up-smaller : goal.up-smaller
up-smaller c =
    let i = c.up.invariant in
    fewer_unmarked c.up.marks c.up.place c.args.walk (let r = i.room in let p = i.inside in omega (arith, r, p))
    c.up-test.true c.requires.walk

pub up-preserved : goal.up-preserved
up-preserved c =
    climb_more c.args.above.now c.args.start c.args.walk c.args.marks.now c.up.marks c.up.place c.requires.walk c.up.invariant
    c.up-test.true c.in-Some.next c.requires.inside c.in-Some.is

pub returns-in-None-clause-marks : goal.returns-in-None-clause-marks
returns-in-None-clause-marks c = λ _.
    climb_tops c.args.above.now c.args.start c.args.walk c.args.marks.now c.up.marks c.up.place c.requires.walk c.up.invariant
    c.up-test.true c.requires.marks c.in-None.is

pub returns-clause-marks : goal.returns-clause-marks
returns-clause-marks c = λ t.
    climb_meets c.args.above.now c.args.start c.args.walk c.args.marks.now c.up.marks c.up.place c.requires.walk c.up.invariant
    c.requires.marks c.up-test.false (other_of (get_or c.up.marks c.up.place 0) c.args.walk t)

pub returns-clause-cycle : goal.returns-clause-cycle
returns-clause-cycle c = elim (cases_eq (get_or c.up.marks c.up.place 0) c.args.walk) [
  | inl q ↦ inr (λ f. climb_turns c.args.above.now c.args.start c.args.walk c.args.marks.now c.up.marks c.up.place c.requires.walk
      c.up.invariant q f)
  | inr ne ↦ inl (ap not (ne_eqb (get_or c.up.marks c.up.place 0) c.args.walk ne))
]
