-- Holding and direct neighbours after a step, in terms of those before it: what an engine has to keep in its lists.
use Rattle.std.proofs.Common.{ℕ, Bool, true, false, ◌≡◌, ◌<◌, ◌&&◌, ◌⊎◌, ◌↔◌, inl, inr, refl, sym, ◌∙◌, ap, subst, not}
use Rattle.std.proofs.lemmas.Bool.{cases_Bool, and_parts, and_from}
use Rattle.amd_model.specs.Below.{any_below}
use Rattle.amd_model.specs.Graph.{Graph, IsGraph}
use Rattle.amd_model.specs.State.{State, Live, stands, holds, neighbours, front, is_class}
use Rattle.amd_model.specs.Step.{StepAt, other, outer, mass, border_of}
use Rattle.amd_model.proofs.Counting.Below.{none_any, clash}
use Rattle.amd_model.proofs.States.Steps.{other_gives}
use Rattle.amd_model.proofs.States.Words.{class_from, holds_gives, neighbours_gives, neighbours_from}
use Rattle.amd_model.specs.Sound.{IsSound}
use Rattle.amd_model.proofs.States.Sound.{live_small, holds_class, standing_small, neighbours_edge}
use Rattle.amd_model.proofs.States.SoundStep.{step_sound, goes, moves, stays, fate, other_stands, other_border}
use Rattle.amd_model.proofs.States.SoundStep.{stands_new, pivot_stands, still_together}

-- an element holds a class if its representative is on the border
pub holds_by_rep : (g : Graph) → IsGraph g → (s : State) → IsSound g s → (e i : ℕ) → s.home i ≡ Live i →
    (holds g s e i ≡ true) ↔ ((stands g s e ≡ true) × (s.border e i ≡ true))
holds_by_rep g laws s sound e i hi = (
  (λ h. let k = holds_gives g s e i h in (k.standing, k.rows i (live_small g laws s sound i i hi) hi)),
  (λ p. holds_class g laws s sound e i i p.0 hi p.1),
)

module _ (g : Graph) (laws : IsGraph g) (aggressive : Bool) (c : ℕ) (old new : State) (sound : IsSound g old)
    (step : StepAt g aggressive c old new) where
  after : IsSound g new
  after = step_sound g laws aggressive c old new sound step

  -- a class of the new state was one, with the same name
  pub was_class : (i : ℕ) → new.home i ≡ Live i → old.home i ≡ Live i
  was_class i h = elim (fate g laws aggressive c old new sound step i) [
    | goes b q ↦ absurd (cc)
    | moves s x j p q r a o w ↦ (let e : j ≡ i = (let f : Live j ≡ Live i = sym q ∙ h in cc) in subst (λ m. old.home m ≡ Live m) e o)
    | stays ni nf q ↦ sym q ∙ h
  ]

  border_at : (e v : ℕ) → e ≡ c → new.border e v ≡ border_of g aggressive old c v
  border_at e v q = ap (λ m. new.border m v) q ∙ step.made v

  -- the elements that hold a class: the others, and on S the new one
  pub holds_new : (e i : ℕ) → new.home i ≡ Live i →
      (holds g new e i ≡ true) ↔ (((e ≡ c) × (border_of g aggressive old c i ≡ true))
      ⊎ ((other g aggressive old c e ≡ true) × (holds g old e i ≡ true)))
  holds_new e i h = let oi = was_class i h in (
    (λ k. let p = (holds_by_rep g laws new after e i h).0 k in elim (stands_new g laws aggressive c old new sound step e p.0) [
      | inl q ↦ inl (q, sym (border_at e i q) ∙ p.1)
      | inr o ↦ inr (
        o.1,
        (holds_by_rep g laws old sound e i oi).1 (
          (other_gives g aggressive old c e o.1).0,
          sym (other_border g laws aggressive c old new sound step e i o.1) ∙
              p.1,
        ),
      )
    ]),
    (λ k. elim k [
      | inl p ↦ (holds_by_rep g laws new after e i h).1 (
        subst (λ m. stands g new m ≡ true) (sym p.0) (pivot_stands g laws aggressive c old new sound step i
            (live_small g laws old sound i i oi) p.1),
        border_at e i p.0 ∙ p.1,
      )
      | inr p ↦ (holds_by_rep g laws new after e i h).1 (
        other_stands g laws aggressive c old new sound step e p.0,
        other_border g laws aggressive c old new sound step e i p.0 ∙
            ((holds_by_rep g laws old sound e i oi).0 p.1).1,
      )
    ]),
  )

  -- direct neighbours stay, but for two classes of S
  pub neighbours_new : (i j : ℕ) → new.home i ≡ Live i → new.home j ≡ Live j →
      (neighbours g new i j ≡ true) ↔ ((neighbours g old i j ≡ true)
      × ((border_of g aggressive old c i && border_of g aggressive old c j) ≡ false))
  neighbours_new i j hi hj = let oi = was_class i hi in let oj = was_class j hj in
      let li = live_small g laws old sound i i oi in let lj = live_small g laws old sound j j oj in (
        (λ k. let n = neighbours_gives g new i j k in let e = neighbours_edge g laws new after i j i j k hi hj in (
          neighbours_from g old i j (record {
            first = oi;
            second = oj;
            differ = n.differ;
            edge = (i, j, li, lj, oi, oj, e);
            apart = λ x l a b. let t = still_together g laws aggressive c old new sound step i j i j hi hj
                (record {
                  element = x;
                  standing = (holds_gives g old x i a).standing;
                  first =
                      (holds_gives g old x i a).rows i li oi;
                  second = (holds_gives g old x j b).rows j lj oj;
                }) in
                n.apart t.element (standing_small g laws new after t.element t.standing)
                (holds_class g laws new after t.element i i t.standing hi t.first)
                (holds_class g laws new after t.element j j t.standing hj t.second);
          }),
          (elim (cases_Bool (border_of g aggressive old c i && border_of g aggressive old c j)) [
            | inr f ↦ f
            | inl b ↦ (let p = and_parts (border_of g aggressive old c i) (border_of g aggressive old c j) b in
                let st = pivot_stands g laws aggressive c old new sound step i li p.0 in
                absurd (n.apart c (standing_small g laws new after c st) ((holds_new c i hi).1 (inl (refl, p.0)))
                ((holds_new c j hj).1 (inl (refl, p.1)))))
          ]),
        )),
        (λ k. let n = neighbours_gives g old i j k.0 in let e = neighbours_edge g laws old sound i j i j k.0 oi oj in
            neighbours_from g new i j (record {
              first = hi;
              second = hj;
              differ = n.differ;
              edge = (i, j, li, lj, hi, hj, e);
              apart = λ x l a b. elim ((holds_new x i hi).0 a) [
                | inl p ↦ elim ((holds_new x j hj).0 b) [
                  | inl q ↦ clash (and_from (border_of g aggressive old c i) (border_of g aggressive old c j) p.1 q.1) k.1
                  | inr q ↦ absurd (Rattle.amd_model.proofs.States.SoundStep.other_not_pivot g laws aggressive c old new sound step x q.0
                      p.0)
                ]
                | inr p ↦ elim ((holds_new x j hj).0 b) [
                  | inl q ↦ absurd (Rattle.amd_model.proofs.States.SoundStep.other_not_pivot g laws aggressive c old new sound step x p.0
                      q.0)
                  | inr q ↦ n.apart x l p.1 q.1
                ]
              ];
            })),
      )

-- mass elimination and likeness, as an engine sees them in its lists of what is left
module _ (g : Graph) (laws : IsGraph g) (aggressive : Bool) (c : ℕ) (s : State) (sound : IsSound g s) where
  pub mass_from : (d : ℕ) → s.home d ≡ Live d → front g s c d ≡ true →
      ((e : ℕ) → e < g.size → other g aggressive s c e ≡ true → holds g s e d ≡ true → ⊥) →
      ((x : ℕ) → x < g.size → outer g s c d x ≡ true → ⊥) → mass g aggressive s c d ≡ true
  unfolding mass
  mass_from d h f no_e no_x =
      let byE : ℕ → Bool = λ e. other g aggressive s c e && holds g s e d in
      and_from (is_class s d && front g s c d && not (any_below g.size byE)) (not (any_below g.size (outer g s c d)))
      (and_from (is_class s d && front g s c d) (not (any_below g.size byE))
      (and_from (is_class s d) (front g s c d) (class_from d (s.home d) h) f)
      (Rattle.std.proofs.lemmas.Bool.not_from_false (any_below g.size byE)
      (none_any g.size byE (λ e l k. let p = and_parts (other g aggressive s c e) (holds g s e d) k in no_e e l p.0 p.1))))
      (Rattle.std.proofs.lemmas.Bool.not_from_false (any_below g.size (outer g s c d)) (none_any g.size (outer g s c d) no_x))
