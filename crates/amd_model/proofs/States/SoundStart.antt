-- The start is sound, and so is each state of a run.
use Rattle.std.proofs.Common.{ℕ, Bool, true, ◌≡◌, ◌<◌, inl, inr, sym, ◌∙◌, subst, arith, List, [], ◌∷◌}
use Rattle.std.proofs.lemmas.Bool.{cases_Bool, true≢false, cases_eq, cases_lt}
use Rattle.amd_model.specs.Graph.{Graph, IsGraph, degree}
use Rattle.amd_model.specs.State.{State, Last, Live, Gone, eliminated, stands, IsStart}
use Rattle.amd_model.specs.Run.{Steps, last_state}
use Rattle.amd_model.specs.Reach.{Reach, direct, by}
use Rattle.amd_model.proofs.Counting.Below.{any_gives, count_pos}
use Rattle.amd_model.proofs.States.Words.{stands_gives, gone_gives, edge_small}
use Rattle.amd_model.specs.Sound.{IsSound}
use Rattle.amd_model.proofs.States.SoundStep.{step_sound}

module _ (g : Graph) (laws : IsGraph g) (dense : ℕ → Bool) (s : State) (start : IsStart g dense s) where
  -- where a row is at the start
  pub data Begins (v : ℕ) : Type 0 where
    is_last : s.home v ≡ Last → Begins v
    is_empty : s.home v ≡ Gone v → degree g v ≡ 0 → Begins v
    is_live : s.home v ≡ Live v → Begins v

  pub begins : (v : ℕ) → Begins v
  begins v = elim (cases_lt v g.size) [
    | inr l ↦ is_last (start.outside v l)
    | inl l ↦ elim (cases_Bool (dense v)) [
      | inl d ↦ is_last (start.last v l d)
      | inr d ↦ elim (cases_eq (degree g v) 0) [
        | inl z ↦ is_empty (start.empty v l d z) z
        | inr nz ↦ is_live (start.alone v l d (omega arith))
      ]
    ]
  ]

  pub no_edge : (v w : ℕ) → degree g v ≡ 0 → g.edge v w ≡ true → ⊥
  unfolding degree
  no_edge v w z e = let t : 0 < degree g v = count_pos g.size (g.edge v) w (edge_small g laws v w e).1 e in omega arith

  -- no element stands
  pub none_stands : (e : ℕ) → stands g s e ≡ true → ⊥
  none_stands e st = let r = any_gives g.size (s.border e) (stands_gives g s e st).some in true≢false (sym r.2 ∙ start.borders e r.0)

  -- a class is one row
  pub own : (v c : ℕ) → s.home v ≡ Live c → v ≡ c
  own v c h = elim (begins v) [
    | is_last k ↦ cc
    | is_empty k z ↦ cc
    | is_live k ↦ cc
  ]

  -- eliminated rows have no edge, so paths are edges
  pub path_is_edge : {v w : ℕ} → Reach g (eliminated s) v w → g.edge v w ≡ true
  path_is_edge (direct e) = e
  path_is_edge (by {v} {u} {w} e x r) = let k = gone_gives (s.home u) x in elim (begins u) [
    | is_last h ↦ absurd (let f = k.1 in cc)
    | is_empty h z ↦ absurd (no_edge u v z (laws.symmetric u v ∙ e))
    | is_live h ↦ absurd (let f = k.1 in cc)
  ]

  pub start_sound : IsSound g s
  start_sound = record {
    rows = start.outside;
    named = λ v c h. subst (λ k. s.home k ≡ Live c) (own v c h) h;
    borders_live = λ e v st b. absurd (none_stands e st);
    whole = λ e c v w st hv hw b. absurd (none_stands e st);
    uniform = λ c d v x w hv hx hw ne apart e. subst (λ k. g.edge k w ≡ true) (own v c hv ∙ sym (own x c hx)) e;
    met = λ e v w st bv bw ne. absurd (none_stands e st);
    only = λ v w lv lw ne r. inr (path_is_edge r);
  }

pub steps_sound : (g : Graph) → IsGraph g → (aggressive : Bool) (s : State) (states : List State) → IsSound g s →
    Steps g aggressive s states → IsSound g (last_state s states)
steps_sound g laws aggressive s [] sound steps = sound
steps_sound g laws aggressive s (t ∷ rest) sound steps =
    steps_sound g laws aggressive t rest (step_sound g laws aggressive (steps.0).0 s t sound (steps.0).1) steps.1
