use Rattle.std.proofs.Common.{◌<◌, refl, inl, inr, ap, ◌∙◌, arith}
use Rattle.amd_rounds.proofs.Rounds.{rounds_none, rounds_more, stands_more, loans_then}
use Rattle.amd_rounds.proofs.round.eliminate_within.Goals as goal

pub rounds-init : goal.rounds-init
rounds-init g c = record {
  rounds = rounds_none;
  stands = c.requires.stands;
  fewer = inl refl;
  unpacked = λ l. refl;
  loans = (refl, refl, refl, refl, refl, refl, refl, refl, refl, refl);
  long = (refl, refl);
}

pub round-requires-clause-wide : goal.round-requires-clause-wide
round-requires-clause-wide g c =
    let w = c.requires.wide in let i = c.rounds.invariant.long.0 in let n = c.rounds.invariant.long.1 in
    (omega (arith, w, i), omega (arith, w, i), omega (arith, w, n), omega (arith, w, n), w.4)

pub round-requires-clause-stands : goal.round-requires-clause-stands
round-requires-clause-stands g c = c.rounds.invariant.stands

pub rounds-smaller : goal.rounds-smaller
rounds-smaller g c = c.round.ensures.fewer

pub rounds-preserved : goal.rounds-preserved
rounds-preserved g c =
    let i = c.rounds.invariant in let e = c.round.ensures in let live = e.fewer in
    let fewer : c.round.new.work.live < c.args.work.now.live = elim i.fewer [
      | inl same ↦ (let was = ap (λ w. w.live) same in omega (arith, live, was))
      | inr less ↦ omega (arith, live, less)
    ] in record {
      rounds = rounds_more i.rounds e.round;
      stands = stands_more e.round i.stands;
      fewer = inr fewer;
      unpacked = λ l. elim (c.is_due.ensures.yes c.rounds-test.true).1 [
        | inl full ↦ absurd (let long = i.long.0 in omega (arith, full, long, l))
        | inr free ↦ e.unpacked free ∙ i.unpacked l
      ];
      loans = loans_then c.args.work.now c.rounds.work c.round.new.work e.loans i.loans;
      long = (e.long.0 ∙ i.long.0, e.long.1 ∙ i.long.1);
    }

pub returns-clause-rounds : goal.returns-clause-rounds
returns-clause-rounds g c =
    let i = c.rounds.invariant in let over = c.is_due.ensures.no c.rounds-test.false in let words = i.long.0 in record {
      rounds = i.rounds;
      end = λ left. let few = over left in (omega (arith, few, words), omega (arith, few, words));
      fewer = λ left room. elim i.fewer [
        | inl same ↦ absurd (let was = rw same at over in let few = was left in omega (arith, few, room))
        | inr less ↦ less
      ];
      unpacked = i.unpacked;
      long = i.long;
    }

pub returns-clause-packs : goal.returns-clause-packs
returns-clause-packs g c = let w = c.rounds.invariant.stands in let a = w.5.laid.packs in let b = w.5.laid.sized.nv in omega (arith, a, b)
