-- The path theorem over runs.
use Rattle.std.proofs.Common.{ℕ, Bool, ◌≤◌, arith, List, [], ◌∷◌}
use Rattle.amd_model.specs.Below.{count_below}
use Rattle.amd_model.specs.Graph.{Graph, IsGraph, degree}
use Rattle.amd_model.specs.State.{State, front, IsStart}
use Rattle.amd_model.specs.Run.{Steps, EachState}
use Rattle.amd_model.specs.Laws.{FrontsArePaths, InEachState}
use Rattle.amd_model.proofs.Counting.Below.{count_mono}
use Rattle.amd_model.proofs.States.Words.{class_gives, front_gives}
use Rattle.amd_model.specs.Sound.{IsSound}
use Rattle.amd_model.proofs.States.Sound.{front_live, front_reached, reached_front}
use Rattle.amd_model.proofs.States.SoundStep.{step_sound}
use Rattle.amd_model.proofs.States.SoundStart.{start_sound, path_is_edge}
use Rattle.amd_model.proofs.States.Bounds.{Bounded}

pub fronts_are_paths : (g : Graph) → IsGraph g → (s : State) → IsSound g s → FrontsArePaths g s
fronts_are_paths g laws s sound c v w i = let hv = class_gives c (s.home v) i in (
  (λ f. (front_live g laws s sound c w f, (front_gives g s c w f).0, front_reached g laws s sound c v w hv f)),
  (λ t. reached_front g laws s sound c v w hv t.0 t.1 t.2),
)

pub start_bounded : (g : Graph) → IsGraph g → (dense : ℕ → Bool) (s : State) → IsStart g dense s → Bounded g s
unfolding degree
start_bounded g laws dense s start c h =
    let sound = start_sound g laws dense s start in
    let m : count_below g.size (front g s c) ≤ degree g c = count_mono g.size (front g s c) (g.edge c)
    (λ v l f. path_is_edge g laws dense s start (front_reached g laws s sound c c v h f)) in
    let b = start.bounds c h in omega (arith, m, b)

-- a law of each sound state holds of each state that steps lead to
pub sound_states : (P : State → Type 0) (g : Graph) → IsGraph g → (aggressive : Bool) → ((s : State) → IsSound g s → P s) →
    (s : State) (states : List State) → IsSound g s → Steps g aggressive s states → EachState P s states
sound_states P g laws aggressive each s [] sound steps = each s sound
sound_states P g laws aggressive each s (t ∷ rest) sound steps =
    (each s sound, sound_states P g laws aggressive each t rest (step_sound g laws aggressive (steps.0).0 s t sound (steps.0).1) steps.1)

pub fronts_in_each_state : InEachState (λ g aggressive s. FrontsArePaths g s)
fronts_in_each_state g dense aggressive first states laws start steps =
    sound_states (FrontsArePaths g) g laws aggressive (fronts_are_paths g laws) first states (start_sound g laws dense first start) steps

pub sound_in_each_state : InEachState (λ g aggressive s. IsSound g s)
sound_in_each_state g dense aggressive first states laws start steps =
    sound_states (IsSound g) g laws aggressive (λ s sound. sound) first states (start_sound g laws dense first start) steps
