use Rattle.std.proofs.Common.{ℕ, ◌≡◌, ◌<◌, ◌+◌, ap, arith, drop, inl, inr, length, refl, sym, ◌∙◌}
use Rattle.std.proofs.lemmas.Bool.{cases_eq}
use Rattle.std.proofs.lemmas.List.{take_at, length-append}
use Rattle.std.specs.Option.{option_copied}
use Rattle.amd_model.specs.Run.{last_state}
use Rattle.amd_model.specs.Input.Held.{is_held_last}
use Rattle.amd_lists.specs.Workspaces.{Workspace}
use Rattle.amd_rounds.proofs.Rounds.{rounds_none, rounds_then, none_live, StandsForSome}
use Rattle.amd_rounds.proofs.Grown.{stands_grown, rounds_grown}
use Rattle.amd_engine.specs.InPlace.{workspace_in}
use Rattle.amd_engine.proofs.InPlaceLaw.{keeps_rows, reached, runs_in_place, packs_few, are_over}
use Rattle.amd_engine.proofs.running.run_growing.Given.{Over}
use Rattle.amd_engine.proofs.running.run_growing.Goals.{At-growths}
use Rattle.amd_engine.proofs.running.run_growing.Goals as goal

-- the workspace between two growths
abbrev now : (g : Over) (c : At-growths g) → Workspace
now g c = let l = c.growths in workspace_in l.iw.items l.rows l.numbers

pub growths-init : goal.growths-init
growths-init g c = let iw = c.args.iw.now.items in record {
  rounds = (
    workspace_in iw c.start-numbers.new.rows c.start-numbers.result,
    c.start-numbers.ensures.starts iw c.requires.can,
    rounds_none,
  );
  room = c.requires.room;
  unpacked = λ short. c.start-numbers.ensures.unpacked;
  capacity = refl;
  loans = c.start-numbers.ensures.loans;
}

-- the workspace of the loop stands for a state
stands : (g : Over) (c : At-growths g) → (w : StandsForSome (now g c)) × (w.0.size ≡ length c.args.rows.now.len.now)
stands g c =
    let hold = option_copied c.args.choice.now.hold in let i = c.growths.invariant.rounds in let w = c.requires.can.graph in
    let to = reached _ _ _ _ _ _ i.0 _ c.growths.rows _ i.1 i.2 w.0 w.1 w.2 in
    let from = i.1 w.0 w.1 w.2 in (
      (w.0, is_held_last hold w.0 c.args.threshold, from.1, to.0, last_state from.0 to.1.0, to.1.2),
      sym w.2.neighbours.size,
    )

pub grow-requires-clause-numbers : goal.grow-requires-clause-numbers
grow-requires-clause-numbers g c =
    let st = stands g (goal.at.grow-requires-clause-numbers g c).At-growths in let l = st.0.5.laid in
    let end = l.end in let room = l.room in let packs = l.packs in let size = st.1 in let most = c.requires.narrow.2 in
    (end, omega (arith, room, packs), omega (arith, packs, size, most))

pub advance-numbers-requires-clause-wide : goal.advance-numbers-requires-clause-wide
advance-numbers-requires-clause-wide g c =
    let st = stands g (goal.at.advance-numbers-requires-clause-wide g c).At-growths in let rows = st.0.5.laid.sized.nv in
    let size = st.1 in let n = c.requires.narrow in let lent = ap length c.deref_mut.ensures.value in let long = c.grow.ensures.long in
    let place = n.0 in let cell = n.1 in let word = n.2 in let count = n.3 in (
      omega (arith, lent, long, place),
      omega (arith, lent, long, cell),
      omega (arith, rows, size, word),
      omega (arith, rows, size, count),
      n.4,
    )

pub advance-numbers-requires-clause-stands : goal.advance-numbers-requires-clause-stands
advance-numbers-requires-clause-stands g c =
    let w = (stands g (goal.at.advance-numbers-requires-clause-stands g c).At-growths).0 in let more = c.grow.ensures.words in
    rw (c.deref_mut.ensures.value, more.1) (w.0, w.1, w.2, w.3, w.4, stands_grown w.5 more.0)

-- words that are too few are so under the name by which they are lent, and were so before they grew
lent_short : (count lent grown room : ℕ) → count < room → count ≡ grown → lent ≡ grown → lent < room
lent_short count lent grown room short long same = omega (arith, short, long, same)

grown_short : (count grown old more room : ℕ) → count < room → count ≡ grown → grown ≡ old + more → old < room
grown_short count grown old more room short long sum = omega (arith, short, long, sum)

pub growths-preserved : goal.growths-preserved
growths-preserved g c =
    let i = c.growths.invariant in let more = c.grow.ensures.words in let new = c.advance-numbers.new in
    let iw = c.grow.new.iw in let long = c.advance-numbers.ensures.rounds.long.0 ∙ ap length c.deref_mut.ensures.value in
    let iw_is = take_at new.iw (drop (length new.iw) iw.items) iw.len (long ∙ sym iw.ok.0) in
    let rounds = rw (c.deref_mut.ensures.value, more.1) at c.advance-numbers.ensures.rounds.rounds in
    rw iw_is (record {
      rounds = (i.rounds.0, i.rounds.1, rounds_then (rounds_grown more.0 i.rounds.2) rounds);
      room = (
        let a = c.grow.ensures.long in omega (arith, a, long),
        let a = i.room.1 in let b = c.grow.ensures.capacity in omega (arith, a, b),
      );
      unpacked = λ short.
          c.advance-numbers.ensures.rounds.unpacked (lent_short _ _ _ c.args.room short long (ap length c.deref_mut.ensures.value))
          ∙ i.unpacked (grown_short _ _ _ _ c.args.room short long (ap length more.1 ∙ length-append c.growths.iw.items more.0));
      capacity = c.grow.ensures.capacity ∙ i.capacity;
      loans = keeps_rows c.args.rows.now c.growths.rows new.rows i.loans c.advance-numbers.ensures.loans;
    })

pub returns-clause-runs : goal.returns-clause-runs
returns-clause-runs g c =
    let i = c.growths.invariant.rounds in
    runs_in_place _ _ _ _ _ _ i.0 _ _ _ i.1 i.2 (none_live _ (let e = c.growths-test.false in omega (arith, e)))

pub returns-clause-packs : goal.returns-clause-packs
returns-clause-packs g c =
    let i = c.growths.invariant.rounds in let w = c.requires.can.graph in
    packs_few _ _ _ _ _ _ i.0 _ c.growths.rows _ i.1 i.2 w.0 w.1 w.2

pub returns-clause-over : goal.returns-clause-over
returns-clause-over g c =
    let i = c.growths.invariant.rounds in let w = c.requires.can.graph in
    are_over _ _ _ _ _ _ i.0 _ _ _ i.1 i.2 (none_live _ (let e = c.growths-test.false in omega (arith, e))) w.0 w.1 w.2

pub returns-clause-capacity : goal.returns-clause-capacity
returns-clause-capacity g c = c.growths.invariant.capacity

pub growths-smaller : goal.growths-smaller
growths-smaller g c =
    let rounds = c.advance-numbers.ensures.rounds in let live = c.growths-test.true in let lent = ap length c.deref_mut.ensures.value in
    elim (cases_eq c.advance-numbers.result.live 0) [
      | inl zero ↦ omega (arith, zero, live)
      | inr ne ↦ let short = rounds.end (omega (arith, ne)) in let due = c.grow.ensures.due (omega (arith, short, lent)) in
          rounds.fewer (omega (arith, live)) (omega (arith, due, lent))
    ]
