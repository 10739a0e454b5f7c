-- A live row has an edge, and an element whose pivot row has none was made at the start, for itself alone.
use Rattle.std.proofs.Common.{ℕ, Bool, ◌≡◌, ◌<◌, inl, inr, sym, ◌∙◌, ap, arith, List, [], ◌∷◌}
use Rattle.std.proofs.lemmas.Bool.{cases_Bool, cases_eq}
use Rattle.amd_model.specs.Graph.{Graph, IsGraph, degree}
use Rattle.amd_model.specs.State.{State, Live, Gone, IsStart}
use Rattle.amd_model.specs.Step.{StepAt}
use Rattle.amd_model.specs.Run.{Steps, last_state}
use Rattle.amd_model.specs.Sound.{IsSound}
use Rattle.amd_model.proofs.States.Sound.{live_small}
use Rattle.amd_model.proofs.States.SoundStep.{step_sound, goes, moves, stays, fate, pivot_live, was_live}
use Rattle.amd_model.proofs.States.SoundStart.{start_sound, begins, is_last, is_empty, is_live}

pub record IsBusy (g : Graph) (s : State) : Type 0 where
  pub live : (v c : ℕ) → s.home v ≡ Live c → 0 < degree g v
  pub empty : (v e : ℕ) → s.home v ≡ Gone e → degree g e ≡ 0 → degree g v ≡ 0

start_busy : (g : Graph) → IsGraph g → (dense : ℕ → Bool) (s : State) → IsStart g dense s → IsBusy g s
start_busy g laws dense s start = record {
  live = λ v c h. let l = live_small g laws s (start_sound g laws dense s start) v c h in elim (cases_Bool (dense v)) [
    | inl d ↦ absurd (let q = start.last v l d in cc)
    | inr d ↦ elim (cases_eq (degree g v) 0) [
      | inl z ↦ absurd (let q = start.empty v l d z in cc)
      | inr nz ↦ omega arith
    ]
  ];
  empty = λ v e h z. elim (begins g laws dense s start v) [
    | is_last k ↦ absurd (cc)
    | is_empty k y ↦ y
    | is_live k ↦ absurd (cc)
  ];
}

step_busy : (g : Graph) → IsGraph g → (aggressive : Bool) (c : ℕ) (old new : State) → IsSound g old → StepAt g aggressive c old new →
    IsBusy g old → IsBusy g new
step_busy g laws aggressive c old new sound step busy = record {
  live = λ v i h. let w = was_live g laws aggressive c old new sound step v i h in busy.live v w.0 w.1;
  empty = λ v e h z. elim (fate g laws aggressive c old new sound step v) [
    | goes b q ↦ absurd (let k : c ≡ e = (let f : Gone c ≡ Gone e = sym q ∙ h in cc) in let d : degree g c ≡ degree g e = ap (degree g) k in
        let some = busy.live c c (pivot_live g laws aggressive c old new sound step) in omega (arith, d, some))
    | moves s x j p q r a o w ↦ absurd (cc)
    | stays ni nf q ↦ busy.empty v e (sym q ∙ h) z
  ];
}

steps_busy : (g : Graph) → IsGraph g → (aggressive : Bool) (s : State) (states : List State) → IsSound g s → IsBusy g s →
    Steps g aggressive s states → IsBusy g (last_state s states)
steps_busy g laws aggressive s [] sound busy steps = busy
steps_busy g laws aggressive s (t ∷ rest) sound busy steps = let c : ℕ = (steps.0).0 in let step = (steps.0).1 in
    steps_busy g laws aggressive t rest (step_sound g laws aggressive c s t sound step) (step_busy g laws aggressive c s t sound step busy)
    steps.1

pub busy_at_the_end : (g : Graph) → IsGraph g → (dense : ℕ → Bool) (aggressive : Bool) (first : State) (states : List State) →
    IsStart g dense first → Steps g aggressive first states → IsBusy g (last_state first states)
busy_at_the_end g laws dense aggressive first states start steps =
    steps_busy g laws aggressive first states (start_sound g laws dense first start) (start_busy g laws dense first start) steps
