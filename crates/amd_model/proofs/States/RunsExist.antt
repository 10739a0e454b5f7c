-- Each graph and each set of rows held last have a start, and the rounds of the elimination in lists make a run from it.
use Rattle.std.proofs.Common.{ℕ, Bool, false, ◌&&◌, cond, refl, ◌∙◌, arith, List, None}
use Rattle.std.specs.Prelude.{nat_lt, ◌==◌}
use Rattle.std.proofs.lemmas.Bool.{eq-eqb, ne_eqb, lt-ltb, le-ltb, and_from, and_parts}
use Rattle.std.specs.Cmp.{both_ways}
use Rattle.amd_model.specs.Below.{list_below}
use Rattle.amd_model.specs.Graph.{Graph, IsGraph, degree}
use Rattle.amd_model.specs.State.{State, Home, Last, Live, Gone, IsStart}
use Rattle.amd_model.specs.Quotient.{start_quotient}
use Rattle.amd_model.specs.QuotientLaws.{NamesNeighbours}
use Rattle.amd_model.specs.Laws.{RunsExist}
use Rattle.amd_model.proofs.Quotient.Start.{has_below, once_below, start_fits}
use Rattle.amd_model.proofs.Quotient.Rounds.{rounds_are_a_run}
use Rattle.amd_model.proofs.States.Words.{edge_small}

module _ (g : Graph) (dense : ℕ → Bool) where
  first_home : ℕ → Home
  first_home v = cond (nat_lt v g.size) (cond (dense v) Last (cond (degree g v == 0) (Gone v) (Live v))) Last

  pub first_state : State
  first_state = record { home = first_home; bound = degree g; border = λ e v. false; parent = λ e. None }

  pub starts : IsStart g dense first_state
  unfolding first_state first_home
  starts = record {
    last = λ v l d. rw (lt-ltb v g.size l, d) refl;
    empty = λ v l d z. rw (lt-ltb v g.size l, d, eq-eqb (degree g v) 0 z) refl;
    alone = λ v l d some. rw (lt-ltb v g.size l, d, ne_eqb (degree g v) 0 (λ z. omega (arith, some, z))) refl;
    outside = λ v l. rw (le-ltb v g.size l) refl;
    bounds = λ v h. refl;
    borders = λ e v. refl;
    parents = λ e. refl;
  }

-- the neighbours of a row, rising
names_neighbours : (g : Graph) → IsGraph g → (i : ℕ) → NamesNeighbours g i (list_below g.size (g.edge i))
names_neighbours g laws i = record {
  named = λ j. has_below g.size (g.edge i) j ∙ both_ways (nat_lt j g.size && g.edge i j) (g.edge i j)
      (λ h. (and_parts (nat_lt j g.size) (g.edge i j) h).1)
      (λ e. and_from (nat_lt j g.size) (g.edge i j) (lt-ltb j g.size (edge_small g laws i j e).1) e);
  once = once_below g.size (g.edge i);
}

pub runs_exist : RunsExist
runs_exist g dense aggressive laws =
    let lists : ℕ → List ℕ = λ i. list_below g.size (g.edge i) in
    let fits = start_fits g dense (first_state g dense) lists laws (starts g dense) (λ i h. names_neighbours g laws i) in
    let run = rounds_are_a_run g dense aggressive (start_quotient g dense lists) (first_state g dense) laws (starts g dense) fits in
    (first_state g dense, run.0, run.1)
