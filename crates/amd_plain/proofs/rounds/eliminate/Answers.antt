use Rattle.std.proofs.Common.{Bool, [], ◌∷◌, ◌++◌, sym, subst, arith}
use Rattle.amd_model.specs.Run.{last_state}
use Rattle.amd_model.specs.Quotient.{next}
use Rattle.amd_model.specs.Ordering.{none}
use Rattle.amd_model.proofs.Listings.Orderings.{follows_more}
use Rattle.amd_plain.specs.Keeps.{PlainStands}
use Rattle.amd_plain.specs.Views.{plain_view}
use Rattle.amd_round_laws.proofs.Round.Ended.{no_row_is_live}
use Rattle.amd_plain.proofs.rounds.eliminate.Goals as goal

pub rounds-init : goal.rounds-init
rounds-init g c = record { rounds = λ gr dense t s st. (t, ([], none, st)); stands = c.requires.stands }

pub round-requires-clause-stands : goal.round-requires-clause-stands
round-requires-clause-stands g c = c.rounds.invariant.stands

pub rounds-smaller : goal.rounds-smaller
rounds-smaller g c = c.in_ok-round.ensures.fewer

pub rounds-preserved : goal.rounds-preserved
rounds-preserved g c =
    let step = c.in_ok-round.ensures.round in
    let aggressive : Bool = c.args.control.now.aggressive in
    record {
      rounds = λ gr dense t s st.
          let a = c.rounds.invariant.rounds gr dense t s st in
          let b = step gr dense a.0 (last_state s a.1.0) a.1.2 in
          let m = follows_more gr aggressive t a.0 s a.1.0 b.1.0 a.1.1 b.0 b.1.1 b.1.2.view.fits in (
            next aggressive a.0,
            (
              a.1.0 ++ b.1.0 ∷ [],
              m.0,
              subst (PlainStands gr dense c.round.new.work (next aggressive a.0)) (sym m.1)
                  b.1.2,
            ),
          );
      stands =
          let w = c.rounds.invariant.stands in
          let b = step w.0 w.1 w.2 w.3 w.4 in
          (w.0, w.1, next aggressive w.2, b.1.0, b.1.2);
    }

pub returns-clause-rounds : goal.returns-clause-rounds
returns-clause-rounds g c = c.rounds.invariant.rounds

pub returns-clause-end : goal.returns-clause-end
returns-clause-end g c = λ gr dense t s st. no_row_is_live gr dense (plain_view c.rounds.work) t s st.view
    (let e = c.rounds-test.false in omega (arith, e))
