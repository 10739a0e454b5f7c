-- The last state of a run: it is sound, its elements make a tree, no row is live, and the rows held last are the dense ones.
use Rattle.std.proofs.Common.{ℕ, Bool, true, false, ◌≡◌, ◌<◌, ◌⊎◌, inl, inr, refl, sym, ◌∙◌, ap, subst, arith, List, [], ◌∷◌}
use Rattle.std.proofs.lemmas.Bool.{cases_Bool, cases_eq, true≢false}
use Rattle.amd_model.specs.Graph.{Graph, IsGraph, degree}
use Rattle.amd_model.specs.State.{State, Home, Last, Live, Gone, live, eliminated, IsStart}
use Rattle.amd_model.specs.Step.{StepAt}
use Rattle.amd_model.specs.Run.{Run, Steps, EachState, last_state}
use Rattle.amd_model.specs.Sound.{IsSound}
use Rattle.amd_model.specs.Laws.{Under, itself, over, is_last, LastRowsAre, LastRowsStay, DenseAreLast, EdgesFollowTree, AtTheEnd}
use Rattle.amd_model.proofs.States.Words.{live_from, gone_from}
use Rattle.amd_model.proofs.States.Sound.{gone_small}
use Rattle.amd_model.proofs.States.SoundStep.{step_sound, goes, moves, stays, fate}
use Rattle.amd_model.proofs.States.SoundStart.{start_sound}
use Rattle.amd_model.proofs.Listings.Tree.{IsTree, step_tree, start_tree, Descends, self, via, chain_descends, one_block}
use Rattle.amd_model.proofs.Listings.Tree.{w_above, u_above, edge_line}
use Rattle.amd_model.proofs.States.StepFronts.{last_stays}

-- what holds of each state of a run
pub record IsMade (g : Graph) (dense : ℕ → Bool) (s : State) : Type 0 where
  pub sound : IsSound g s
  pub tree : IsTree g s
  pub dense_last : (v : ℕ) → v < g.size → dense v ≡ true → s.home v ≡ Last
  pub last_dense : (v : ℕ) → v < g.size → s.home v ≡ Last → dense v ≡ true

-- what holds of the last one: besides, no row is live, and eliminated rows lie below the size
pub record IsEnd (g : Graph) (dense : ℕ → Bool) (s : State) : Type 0 where
  pub made : IsMade g dense s
  pub over : (v : ℕ) → live s v ≡ false
  pub small : (v e : ℕ) → s.home v ≡ Gone e → v < g.size

start_made : (g : Graph) → IsGraph g → (dense : ℕ → Bool) (s : State) → IsStart g dense s → IsMade g dense s
start_made g laws dense s start = record {
  sound = start_sound g laws dense s start;
  tree = start_tree g laws dense s start;
  dense_last = start.last;
  last_dense = λ v l h. elim (cases_Bool (dense v)) [
    | inl d ↦ d
    | inr d ↦ elim (begins_small v l d) [ inl k ↦ absurd (cc) | inr k ↦ absurd (cc) ]
  ];
}
  where
    begins_small : (v : ℕ) → v < g.size → dense v ≡ false → (s.home v ≡ Live v) ⊎ (s.home v ≡ Gone v)
    begins_small v l d = elim (cases_eq (degree g v) 0) [
      | inl z ↦ inr (start.empty v l d z)
      | inr nz ↦ inl (start.alone v l d (omega arith))
    ]

step_made : (g : Graph) → IsGraph g → (dense : ℕ → Bool) (aggressive : Bool) (c : ℕ) (old new : State) → StepAt g aggressive c old new →
    IsMade g dense old → IsMade g dense new
step_made g laws dense aggressive c old new step m = record {
  sound = step_sound g laws aggressive c old new m.sound step;
  tree = step_tree g laws aggressive c old new m.sound step m.tree;
  dense_last = λ v l d. last_stays g laws aggressive c old new m.sound step v (m.dense_last v l d);
  last_dense = λ v l h. elim (fate g laws aggressive c old new m.sound step v) [
    | goes b q ↦ absurd (cc)
    | moves s x j p q r a o n ↦ absurd (cc)
    | stays ni nf q ↦ m.last_dense v l (sym q ∙ h)
  ];
}

steps_made : (g : Graph) → IsGraph g → (dense : ℕ → Bool) (aggressive : Bool) (s : State) (states : List State) → IsMade g dense s →
    Steps g aggressive s states → IsMade g dense (last_state s states)
steps_made g laws dense aggressive s [] m steps = m
steps_made g laws dense aggressive s (t ∷ rest) m steps = steps_made g laws dense aggressive t rest
    (step_made g laws dense aggressive (steps.0).0 s t (steps.0).1 m) steps.1

-- exactly the rows of the set are held last
last_rows : (g : Graph) (dense : ℕ → Bool) (s : State) → IsMade g dense s → LastRowsAre g dense s
unfolding is_last
last_rows g dense s m v l = elim (cases_Bool (dense v)) [
  | inl d ↦ ap is_last (m.dense_last v l d) ∙ sym d
  | inr d ↦ not_held (s.home v) refl d ∙ sym d
]
  where
    not_held : (h : Home) → s.home v ≡ h → dense v ≡ false → is_last h ≡ false
    not_held Last e d = absurd (true≢false (sym (m.last_dense v l e) ∙ d))
    not_held (Live c) e d = refl
    not_held (Gone c) e d = refl

last_rows_from : (g : Graph) → IsGraph g → (dense : ℕ → Bool) (aggressive : Bool) (s : State) (states : List State) → IsMade g dense s →
    Steps g aggressive s states →
    EachState (LastRowsAre g dense) s states
last_rows_from g laws dense aggressive s [] m steps = last_rows g dense s m
last_rows_from g laws dense aggressive s (t ∷ rest) m steps = (
  last_rows g dense s m,
  last_rows_from g laws dense aggressive t rest (step_made g laws dense aggressive (steps.0).0 s t (steps.0).1 m)
      steps.1,
)

pub last_rows_stay : LastRowsStay
last_rows_stay g dense aggressive first states laws start steps =
    last_rows_from g laws dense aggressive first states (start_made g laws dense first start) steps

pub at_the_end : (g : Graph) (dense : ℕ → Bool) (aggressive : Bool) (first : State) (states : List State) → IsGraph g →
    Run g dense aggressive first states → IsEnd g dense (last_state first states)
at_the_end g dense aggressive first states laws run =
    let m = steps_made g laws dense aggressive first states (start_made g laws dense first run.start) run.steps in
    record { made = m; over = run.end; small = gone_small g laws (last_state first states) m.sound }

under : {s : State} {e f : ℕ} → Descends s e f → Under s e f
under self = itself
under (via p d) = over p (under d)

end_edges : (g : Graph) (dense : ℕ → Bool) (s : State) → IsEnd g dense s → EdgesFollowTree g s
end_edges g dense s end v w e f ed hv hw = elim (edge_line g s end.made.tree end.over end.small v w e f hv hw ed) [
  | one_block q ↦ inl (subst (Under s e) q itself)
  | w_above k ↦ inl (under (chain_descends k))
  | u_above k ↦ inr (under (chain_descends k))
]

pub edges_follow_tree : AtTheEnd (λ g dense s. EdgesFollowTree g s)
edges_follow_tree g dense aggressive first states laws run =
    end_edges g dense (last_state first states) (at_the_end g dense aggressive first states laws run)

end_dense : (g : Graph) (dense : ℕ → Bool) (s : State) → IsEnd g dense s → DenseAreLast g dense s
end_dense g dense s end = record { held = end.made.dense_last; others = λ v l d. gone v l d (s.home v) refl }
  where
    gone : (v : ℕ) → v < g.size → dense v ≡ false → (h : Home) → s.home v ≡ h → eliminated s v ≡ true
    gone v l d Last h = absurd (true≢false (sym (end.made.last_dense v l h) ∙ d))
    gone v l d (Live c) h = absurd (true≢false (sym (live_from c (s.home v) h) ∙ end.over v))
    gone v l d (Gone e) h = gone_from e (s.home v) h

pub dense_are_last : AtTheEnd DenseAreLast
dense_are_last g dense aggressive first states laws run = end_dense g dense (last_state first states)
    (at_the_end g dense aggressive first states laws run)
