-- A run on a forest with no dense row makes no fill.
use Rattle.std.proofs.Common.{ℕ, Bool, true, ◌≡◌, ◌≢◌, ◌<◌, ◌+◌, inl, inr, refl, sym, ◌∙◌, subst, arith, List, [], ◌∷◌, length}
use Rattle.std.specs.Prelude.{slice_index}
use Rattle.std.proofs.lemmas.Bool.{true≢false, cases_eq}
use Rattle.amd_model.specs.Below.{count_below}
use Rattle.amd_model.specs.Graph.{Graph, IsGraph, edge_count}
use Rattle.amd_model.specs.Forest.{IsForest}
use Rattle.amd_model.specs.State.{State, Home, Last, Live, Gone, IsStart}
use Rattle.amd_model.specs.Step.{StepAt}
use Rattle.amd_model.specs.Run.{Steps, last_state}
use Rattle.amd_model.specs.Figures.{figure, entries}
use Rattle.amd_model.specs.Reach.{Reach, direct, by}
use Rattle.amd_model.specs.Factor.{before}
use Rattle.amd_model.specs.Sound.{IsSound}
use Rattle.amd_model.specs.Laws.{OfEachListing, HasNoFill}
use Rattle.amd_model.proofs.Counting.Points.{zero_counted}
use Rattle.amd_model.proofs.States.Words.{live_from, reach_flip, edge_small}
use Rattle.amd_model.proofs.States.SoundStep.{step_sound}
use Rattle.amd_model.proofs.States.SoundStart.{start_sound}
use Rattle.amd_model.proofs.States.Bounds.{Bounded, step_bounded}
use Rattle.amd_model.proofs.States.Paths.{start_bounded}
use Rattle.amd_model.proofs.Forests.Thin.{IsThin, start_thin, step_thin}
use Rattle.amd_model.proofs.Forests.EntriesMade.{edges_left, left_step, figure_step, start_entries, end_edges_left}
use Rattle.amd_model.proofs.Counting.Places.{places_differ}
use Rattle.amd_model.proofs.States.EndState.{at_the_end}
use Rattle.amd_model.proofs.Listings.ListedOnce.{listing_distinct}
use Rattle.amd_model.proofs.Listings.ColumnsInside.{columns_inside}

-- what holds of each state of a run on a forest
record IsSparse (g : Graph) (dense : ℕ → Bool) (s : State) : Type 0 where
  sound : IsSound g s
  bounded : Bounded g s
  thin : IsThin g s
  count : figure entries g dense s + edges_left g s ≡ edge_count g

module _ (g : Graph) (laws : IsGraph g) (dense : ℕ → Bool) (none_dense : count_below g.size dense ≡ 0) where
  start_sparse : (s : State) → IsStart g dense s → IsSparse g dense s
  start_sparse s start = record {
    sound = start_sound g laws dense s start;
    bounded = start_bounded g laws dense s start;
    thin = start_thin g laws dense (zero_counted g.size dense none_dense) s start;
    count = start_entries g laws dense none_dense s start;
  }

  step_sparse : IsForest g → (aggressive : Bool) (c : ℕ) (old new : State) → StepAt g aggressive c old new → IsSparse g dense old →
      IsSparse g dense new
  step_sparse forest aggressive c old new step m = record {
    sound = step_sound g laws aggressive c old new m.sound step;
    bounded = step_bounded g laws aggressive c old new m.sound step m.bounded;
    thin = step_thin g laws forest aggressive c old new m.sound m.bounded step m.thin;
    count = (let a = left_step g laws forest aggressive c old new m.sound m.bounded step m.thin in
        let b = figure_step g laws forest aggressive c old new m.sound m.bounded step m.thin dense none_dense in
        let k = m.count in omega (arith, a, b, k));
  }

  steps_sparse : IsForest g → (aggressive : Bool) (s : State) (states : List State) → IsSparse g dense s → Steps g aggressive s states →
      IsSparse g dense (last_state s states)
  steps_sparse forest aggressive s [] m steps = m
  steps_sparse forest aggressive s (t ∷ rest) m steps = steps_sparse forest aggressive t rest
      (step_sparse forest aggressive (steps.0).0 s t (steps.0).1 m) steps.1

  -- a path begins at a row below the size
  reach_small : (through : ℕ → Bool) {v w : ℕ} → Reach g through v w → v < g.size
  reach_small through (direct {v} {w} e) = (edge_small g laws v w e).0
  reach_small through (by {v} {u} {w} e t r) = (edge_small g laws v u e).0

  -- different rows of one block are joined by an edge, and so are a row of a block and the row on its border
  block_joined : (s : State) → IsThin g s → (v w e : ℕ) → s.home v ≡ Gone e → s.home w ≡ Gone e → v ≢ w → g.edge v w ≡ true
  block_joined s thin v w e hv hw ne = elim (cases_eq v e) [
    | inl q ↦ subst (λ m. g.edge m w ≡ true) (sym q) (thin.block_edge w e hw (λ z. ne (q ∙ sym z)))
    | inr nv ↦ elim (cases_eq w e) [
      | inl q ↦ laws.symmetric v w ∙ subst (λ m. g.edge m v ≡ true) (sym q) (thin.block_edge v e hv nv)
      | inr nw ↦ absurd (ne (thin.block_pair v w e hv hw nv nw))
    ]
  ]

  border_joined : (s : State) → IsThin g s → (v w e : ℕ) → s.home v ≡ Gone e → s.border e w ≡ true → g.edge v w ≡ true
  border_joined s thin v w e hv b = elim (cases_eq v e) [
    | inl q ↦ subst (λ m. g.edge m w ≡ true) (sym q) (thin.border_edge e w b)
    | inr ne ↦ absurd (thin.block_closed v e w hv ne b)
  ]

pub no_fill : OfEachListing (λ g dense s p. IsForest g → count_below g.size dense ≡ 0 → HasNoFill g dense s p)
no_fill g dense aggressive first states laws run p post forest none_dense = record { count = count; entry = entry }
  where
    s : State
    s = last_state first states

    sparse : IsSparse g dense s
    sparse = steps_sparse g laws dense none_dense forest aggressive first states (start_sparse g laws dense none_dense first run.start)
        run.steps

    count : figure entries g dense s ≡ edge_count g
    count = let a = sparse.count in let b = end_edges_left g s run.end in omega (arith, a, b)

    differ : (k j : ℕ) → k < j → j < length p → slice_index p k ≢ slice_index p j
    differ = places_differ p (listing_distinct g dense s (at_the_end g dense aggressive first states laws run) p post)

    entry : (k j : ℕ) → k < j → j < length p → Reach g (before p k) (slice_index p k) (slice_index p j) →
        g.edge (slice_index p k) (slice_index p j) ≡ true
    entry k j l m r = go (s.home (slice_index p k)) refl
      where
        go : (h : Home) → s.home (slice_index p k) ≡ h → g.edge (slice_index p k) (slice_index p j) ≡ true
        go Last q = absurd (let a = sparse.thin.last (slice_index p k) q in let b = reach_small g laws dense none_dense (before p k) r in
            omega (arith, a, b))
        go (Live c) q = absurd (true≢false (sym (live_from c (s.home (slice_index p k)) q) ∙ run.end (slice_index p k)))
        go (Gone e) q = elim (columns_inside g dense aggressive first states laws run p post k j e l m q r) [
          | inl same ↦ block_joined g laws dense none_dense s sparse.thin (slice_index p k) (slice_index p j) e q same (differ k j l m)
          | inr other ↦ elim other [
            | inl b ↦ border_joined g laws dense none_dense s sparse.thin (slice_index p k) (slice_index p j) e q b
            | inr last ↦ absurd (let a = sparse.thin.last (slice_index p j) last in
                let b = reach_small g laws dense none_dense (before p k) (reach_flip g laws (before p k) r) in omega (arith, a, b))
          ]
        ]
