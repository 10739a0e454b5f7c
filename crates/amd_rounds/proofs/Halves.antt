-- The first half of a round, seen from the workspace before it: what its parts say, over the lists that stood before.
use Rattle.std.proofs.Common.{ℕ, Bool, true, false, List, ◌≡◌, ◌<◌, ◌≤◌, sym, ap, ◌∙◌, subst, cond}
use Rattle.std.proofs.Common.{arith, sum_by}
use Rattle.amd_model.specs.Graph.{Graph}
use Rattle.amd_model.specs.State.{State}
use Rattle.amd_model.specs.Quotient.{QuotientGraph, has}
use Rattle.amd_round_laws.specs.Views.{ClassLists}
use Rattle.amd_words.specs.Words.{num, word, place, size_of, flip_of}
use Rattle.amd_fronts.specs.Counts.{counter, settled, ends}
use Rattle.amd_lists.specs.Layout.{rows_met}
use Rattle.amd_elements.specs.Pivots.{built_front}
use Rattle.amd_lists.specs.Layout.{elements_in, variables_in}
use Rattle.amd_lists.specs.Chains.{Chooses}
use Rattle.amd_elements.specs.Beginning.{Begins}
use Rattle.amd_elements.proofs.Made.{IsTouched}
use Rattle.amd_lists.specs.Renewal.{is_kept, is_outside}
use Rattle.amd_fronts.specs.Fronts.{is_done, kept_in, near_in}
use Rattle.amd_fronts.specs.TurningLists.{AreTurning}
use Rattle.amd_fronts.proofs.FrontTurns.{left_me, left_front}
use Rattle.amd_elements.proofs.Beginnings.{begins_moved}
use Rattle.amd_elements.proofs.MakingRoom.{rooms_stay}
use Rattle.amd_elements.proofs.Touching.{front_apart, begun_elements, begun_variables, begun_rows, begun_met}
use Rattle.amd_lists.specs.Workspaces.{Workspace}
use Rattle.amd_rounds.specs.Keeps.{Stands, by_bound}
use Rattle.amd_fronts.specs.Tallies.{front_at}
use Rattle.amd_rounds.specs.Parts.{Picks, BeginsElement, TurnsOver}
use Rattle.amd_rounds.specs.Premises.{CanTurn}
use Rattle.amd_rounds.proofs.ByBound as by_bounds
use Rattle.amd_rounds.proofs.Standing as standing
use Rattle.amd_rounds.proofs.Begun as begun

-- the first half of a round, from a workspace that stands for a state: a pivot, its element, and its front turned over to it
pub record HalfRound (g : Graph) (dense : ℕ → Bool) (nzaat : ℕ) (aggressive : Bool) (p : Workspace) (t : QuotientGraph) (s : State)
    : Type 0 where
  pub st : Stands g dense nzaat p t s
  pub c : ℕ
  pub p1 : Workspace
  pub picks : Picks g.size c p p1
  pub block : ℕ
  pub total : ℕ
  pub is_built : Bool
  pub p2 : Workspace
  pub begins : BeginsElement g.size c block total is_built p1 p2
  pub gone : ℕ
  pub most_cell : ℕ
  pub p3 : Workspace
  pub turns : TurnsOver aggressive g.size c gone most_cell p2 p3

module _ {g : Graph} {dense : ℕ → Bool} {nzaat : ℕ} {aggressive : Bool} {p : Workspace} {t : QuotientGraph} {s : State}
    (r : HalfRound g dense nzaat aggressive p t s) where
  abbrev pub front : List ℕ
  front = r.begins.front

  -- what a class keeps, by the counters and marks of the round, of the lists that it had before it
  abbrev pub kept_lists : ClassLists
  kept_lists = record {
    variables = near_in (is_outside r.p2.nv) p.iw p.pe p.e_len p.len;
    elements = kept_in (is_kept r.p3.w) p.iw p.pe p.e_len;
  }

  abbrev pub ended_in : ℕ → Bool
  ended_in i = is_done (is_kept r.p3.w) (is_outside r.p2.nv) p.iw p.pe p.e_len p.len i

  -- the counter of e once the front is met, and whether e ended by aggressive absorption
  abbrev pub count_of : ℕ → ℕ
  count_of e = counter r.p3.flag (num r.turns.first e) (num p.degree e) (rows_met r.p2.iw r.p2.pe r.p2.e_len r.p2.nv r.begins.front e)

  abbrev pub ends_by : ℕ → Bool
  ends_by e = ends aggressive r.p3.flag (counter r.p3.flag (num r.turns.first e) (num p.degree e)
      (rows_met r.p2.iw r.p2.pe r.p2.e_len r.p2.nv r.begins.front e))

  -- ---- the pivot

  pub chosen : Chooses g.size p.least (by_bound t) r.c r.p1.least
  chosen = r.picks.chosen (by_bound t) r.st.linked

  pub bound_small : (i : ℕ) → has t.placed i ≡ true → t.bound i < g.size
  bound_small = standing.bound_small g dense nzaat p t s r.st

  pub pivot_chosen : (has t.placed r.c ≡ true) × (t.bound r.c ≡ r.p1.least)
  pivot_chosen = begun.pivot_chosen g dense nzaat p t s r.st r.c r.p1 r.picks r.block r.total r.is_built r.p2 r.begins

  pub pivot_placed : has t.placed r.c ≡ true
  pivot_placed = pivot_chosen.0

  pub pivot_least : (d : ℕ) → has t.placed d ≡ true → t.bound r.c ≤ t.bound d
  pivot_least d h = let a = by_bounds.chosen_least g.size p.head p.next p.last p.degree t r.st.linked p.least r.st.view.keeps.least
      bound_small r.c r.p1.least chosen d h in let b = pivot_chosen.1 in omega (arith, a, b)

  -- ---- the beginning of its element

  pub begins_here : Begins g.size r.c (elements_in p.iw p.pe p.e_len r.c) front r.total p r.p2
  begins_here = begins_moved (rooms_stay r.st.laid.laid)
      (subst (λ (w : Workspace). Begins g.size r.c (elements_in w.iw w.pe w.e_len r.c) front r.total w r.p2) r.picks.same r.begins.begins)

  pub front_here : front ≡ built_front p r.c
  front_here = subst (λ (w : Workspace). front ≡ built_front w r.c) r.picks.same r.begins.front_is

  pub counters_here : (e : ℕ) → num r.p2.w e ≡ cond (has (elements_in p.iw p.pe p.e_len r.c) e) 0 (num p.w e)
  counters_here = subst (λ (w : Workspace). (e : ℕ) → num r.p2.w e ≡ cond (has (elements_in w.iw w.pe w.e_len r.c) e) 0 (num w.w e))
      r.picks.same r.begins.counters

  pub total_here : r.total ≡ sum_by (size_of p.nv) front
  total_here = subst (λ (w : Workspace). r.total ≡ sum_by (size_of w.nv) front) r.picks.same r.begins.total_is

  pub block_here : r.block ≡ size_of p.nv r.c
  block_here = subst (λ (w : Workspace). r.block ≡ size_of w.nv r.c) r.picks.same r.begins.block_is

  -- ---- what stays

  pub degree_stays : r.p2.degree ≡ p.degree
  degree_stays = ap (λ (w : Workspace). w.degree) r.begins.same ∙ ap (λ (w : Workspace). w.degree) r.picks.same

  pub hash_stays : r.p3.hash ≡ p.hash
  hash_stays = ap (λ (w : Workspace). w.hash) r.turns.same ∙ ap (λ (w : Workspace). w.hash) r.begins.same
      ∙ ap (λ (w : Workspace). w.hash) r.picks.same

  pub most_stays : r.p3.most ≡ p.most
  most_stays = ap (λ (w : Workspace). w.most) r.turns.same ∙ ap (λ (w : Workspace). w.most) r.begins.same
      ∙ ap (λ (w : Workspace). w.most) r.picks.same

  pub live_stays : r.p3.live ≡ p.live
  live_stays = ap (λ (w : Workspace). w.live) r.turns.same ∙ ap (λ (w : Workspace). w.live) r.begins.same
      ∙ ap (λ (w : Workspace). w.live) r.picks.same

  pub free_stays : r.p3.free ≡ r.p2.free
  free_stays = ap (λ (w : Workspace). w.free) r.turns.same

  -- ---- the front

  pub front_placed : (i : ℕ) → has front i ≡ true → has t.placed i ≡ true
  front_placed i h = standing.front_placed g dense nzaat p t s r.st r.c pivot_placed i (ap (λ l. has l i) (sym front_here) ∙ h)

  pub front_other : has front r.c ≡ false
  front_other = ap (λ l. has l r.c) front_here
      ∙ front_apart p.iw p.nv p.pe p.len r.c (place (word p.e_len r.c))

  touched : (i : ℕ) → has front i ≡ true → IsTouched r.c (elements_in p.iw p.pe p.e_len r.c) p i
  touched i h = standing.touched g dense nzaat p t s r.st r.c pivot_placed i (ap (λ l. has l i) (sym front_here) ∙ h)

  pub elements_begun : (i : ℕ) → has front i ≡ true → elements_in r.p2.iw r.p2.pe r.p2.e_len i ≡ elements_in p.iw p.pe p.e_len i
  elements_begun = begun_elements r.st.laid.laid begins_here counters_here front_other touched

  pub variables_begun : (i : ℕ) → has front i ≡ true →
      variables_in r.p2.iw r.p2.pe r.p2.e_len r.p2.len i ≡ variables_in p.iw p.pe p.e_len p.len i
  variables_begun = begun_variables r.st.laid.laid begins_here counters_here front_other touched

  pub met_begun : (e : ℕ) → rows_met r.p2.iw r.p2.pe r.p2.e_len r.p2.nv front e ≡ rows_met p.iw p.pe p.e_len p.nv front e
  met_begun = begun_met r.st.laid.laid begins_here counters_here front_other touched

  pub rows_begun : (i : ℕ) → has front i ≡ true → size_of r.p2.nv i ≡ size_of p.nv i
  rows_begun = begun_rows r.st.laid.laid begins_here counters_here front_other touched

  pub front_begun : front_at r.p2 r.c ≡ front
  front_begun = begins_here.list

  pub can_turn : CanTurn g.size r.c r.p2
  can_turn = begun.can_turn g dense nzaat p t s r.st r.c r.p1 r.picks r.block r.total r.is_built r.p2 r.begins

  -- ---- the counters, and where the lists start once elements ended

  count_same : (e : ℕ) → counter r.p3.flag (num r.turns.first e) (num r.p2.degree e)
      (rows_met r.p2.iw r.p2.pe r.p2.e_len r.p2.nv (front_at r.p2 r.c) e) ≡ count_of e
  count_same e =
      ap (λ (d : List ℕ). counter r.p3.flag (num r.turns.first e) (num d e)
      (rows_met r.p2.iw r.p2.pe r.p2.e_len r.p2.nv (front_at r.p2 r.c) e)) degree_stays
      ∙ ap (λ m. counter r.p3.flag (num r.turns.first e) (num p.degree e) m)
      (ap (λ l. rows_met r.p2.iw r.p2.pe r.p2.e_len r.p2.nv l e) front_begun)

  pub counted : (e : ℕ) → num r.p3.w e ≡ settled aggressive r.p3.flag (count_of e)
  counted e = r.turns.turns.counted e ∙ ap (settled aggressive r.p3.flag) (count_same e)

  pub left_is : (e : ℕ) → word r.turns.turns.left e ≡ cond (ends_by e) (flip_of r.c) (word r.p2.pe e)
  left_is e = r.turns.turns.ended e ∙ ap (λ m. cond (ends aggressive r.p3.flag m) (flip_of r.c) (word r.p2.pe e)) (count_same e)

  -- the workspace as the count reads it
  abbrev counting : Workspace
  counting = record r.p2 { w = r.turns.first; flag = r.p3.flag }

  turning : AreTurning g.size r.c counting
  turning i h = begun.turning_zeros r.turns.renews.zeros (can_turn.classes i h)

  pub left_pivot : word r.turns.turns.left r.c ≡ word r.p2.pe r.c
  left_pivot = left_me {p = counting} aggressive can_turn.front.laid r.turns.renews.two r.turns.renews.under turning
      r.turns.turns.left r.turns.turns.ended

  pub left_class : (i : ℕ) → has front i ≡ true → word r.turns.turns.left i ≡ word r.p2.pe i
  left_class i h = left_front {p = counting} aggressive can_turn.front.laid r.turns.renews.two r.turns.renews.under turning
      r.turns.turns.left r.turns.turns.ended i (ap (λ l. has l i) front_begun ∙ h)
