use Rattle.std.proofs.Common.{◌≡◌, inl, inr, arith}
use Rattle.std.proofs.lemmas.Bool.{cases_eq}
use Rattle.amd_lists.specs.Workspaces.{workspace_of}
use Rattle.amd_rounds.proofs.Rounds.{none_live}
use Rattle.amd_rounds.proofs.round.eliminate.Goals.{After-eliminate_within}
use Rattle.amd_rounds.proofs.round.eliminate.Given.{Over}
use Rattle.amd_rounds.proofs.round.eliminate.Goals as goal

-- no workspace has fewer words than none
none : (g : Over) (c : After-eliminate_within g) → c.eliminate_within.new.work.live ≡ 0
none g c = elim (cases_eq c.eliminate_within.new.work.live 0) [
  | inl zero ↦ zero
  | inr ne ↦ absurd (let e = c.eliminate_within.ensures.rounds.end (omega (arith, ne)) in omega (arith, e))
]

pub returns-clause-end : goal.returns-clause-end
returns-clause-end g c = none_live (workspace_of c.eliminate_within.new.work) (none g (goal.at.returns-clause-end g
    c).After-eliminate_within)

pub returns-clause-none : goal.returns-clause-none
returns-clause-none g c = none g (goal.at.returns-clause-none g c).After-eliminate_within

pub returns-clause-rounds : goal.returns-clause-rounds
returns-clause-rounds g c = c.eliminate_within.ensures.rounds.rounds

pub returns-clause-long : goal.returns-clause-long
returns-clause-long g c = c.eliminate_within.ensures.rounds.long
