use Rattle.std.proofs.Common.{◌≡◌, ◌∙◌, inl, inr, arith, length, sym}
use Rattle.std.proofs.lemmas.Bool.{cases_eq}
use Rattle.std.specs.Option.{option_copied}
use Rattle.amd_lists.specs.Workspaces.{Workspace}
use Rattle.amd_rounds.proofs.Rounds.{none_live}
use Rattle.amd_engine.specs.InPlace.{StandsAtStart, workspace_in}
use Rattle.amd_engine.proofs.InPlaceLaw.{start_some, runs_in_place, packs_few, are_over}
use Rattle.amd_engine.proofs.running.run.Given.{Over}
use Rattle.amd_engine.proofs.running.run.Goals.{After-start-first, After-advance-last}
use Rattle.amd_engine.proofs.running.run.Goals as goal

-- the workspace before the first round
abbrev before : (g : Over) (c : After-start-first g) → Workspace
before g c = workspace_in c.args.iw.now c.start-first.new.rows c.start-first.result

starts : (g : Over) (c : After-start-first g) → StandsAtStart (option_copied c.args.choice.now.hold) c.args.threshold c.args.iw.now
    c.args.rows.now.pe.now c.args.rows.now.len.now (before g c)
starts g c = c.start-first.ensures.starts c.args.iw.now c.requires.can

-- there is a place for each row in the list of sizes
sized : (g : Over) (c : After-start-first g) → length c.start-first.new.rows.nv.now ≡ length c.args.rows.now.len.now
sized g c = let w = c.requires.can.graph in (starts g c w.0 w.1 w.2).3.laid.sized.nv ∙ sym w.2.neighbours.size

pub advance-last-requires-clause-wide : goal.advance-last-requires-clause-wide
advance-last-requires-clause-wide g c = rw (sized g (goal.at.advance-last-requires-clause-wide g c).After-start-first) c.requires.narrow

pub advance-last-requires-clause-stands : goal.advance-last-requires-clause-stands
advance-last-requires-clause-stands g c =
    let w = c.requires.can.graph in let a = c.args in let to = (goal.at.advance-last-requires-clause-stands g c).After-start-first in
    start_some (option_copied a.choice.now.hold) a.threshold a.iw.now a.rows.now.pe.now a.rows.now.len.now (before g to) (starts g to)
    w.0 w.1 w.2

-- the workspace has all its words
none : (g : Over) (c : After-advance-last g) → c.advance-last.result.live ≡ 0
none g c = elim (cases_eq c.advance-last.result.live 0) [
  | inl zero ↦ zero
  | inr ne ↦ absurd (let e = c.advance-last.ensures.rounds.end (omega (arith, ne)) in omega (arith, e))
]

pub returns-clause-runs : goal.returns-clause-runs
returns-clause-runs g c =
    let at = goal.at.returns-clause-runs g c in
    runs_in_place _ _ _ _ _ _ _ _ _ _ (starts g at.After-start-first) c.advance-last.ensures.rounds.rounds
    (none_live _ (none g at.After-advance-last))

pub returns-clause-packs : goal.returns-clause-packs
returns-clause-packs g c =
    let at = goal.at.returns-clause-packs g c in let w = c.requires.can.graph in
    packs_few _ _ _ _ _ _ _ _ c.advance-last.new.rows _ (starts g at.After-start-first) c.advance-last.ensures.rounds.rounds w.0 w.1 w.2

pub returns-clause-over : goal.returns-clause-over
returns-clause-over g c =
    let at = goal.at.returns-clause-over g c in let w = c.requires.can.graph in
    are_over _ _ _ _ _ _ _ _ _ _ (starts g at.After-start-first) c.advance-last.ensures.rounds.rounds
    (none_live _ (none g at.After-advance-last)) w.0 w.1 w.2
