-- A state after a step, made from a choice of representatives.
use Rattle.std.proofs.Common.{ℕ, Bool, true, false, ◌≡◌, ◌≢◌, ◌≤◌, inl, inr, refl, sym, ◌∙◌, ap, cond, None, Some, eqb}
use Rattle.std.proofs.lemmas.Bool.{cases_Bool, eq-eqb, ne_eqb, cond-true, cond-false}
use Rattle.amd_model.proofs.Counting.Below.{clash}
use Rattle.amd_model.specs.Graph.{Graph, IsGraph}
use Rattle.amd_model.specs.State.{State, Home, Last, Live, Gone, in_class, is_class, front, holds, stands}
use Rattle.amd_model.specs.Step.{StepAt, Alike, absorbed, block, border_of, new_bound, outside}
use Rattle.amd_model.proofs.States.Words.{class_gives, class_from, stands_gives}
use Rattle.amd_model.specs.Sound.{IsSound}
use Rattle.amd_model.proofs.States.Sound.{front_whole}
use Rattle.amd_model.proofs.States.Steps.{mass_gives, block_cases, border_gives, border_whole, no_border, absorbed_stands}

unfoldable pub class_in : Home → ℕ
class_in Last = 0
class_in (Live c) = c
class_in (Gone e) = 0

-- the choice of a representative for each class of S
pub record IsPick (g : Graph) (aggressive : Bool) (s : State) (c : ℕ) (pick : ℕ → ℕ) : Type 0 where
  pub class : (x : ℕ) → s.home x ≡ Live x → border_of g aggressive s c x ≡ true → s.home (pick x) ≡ Live (pick x)
  pub in_border : (x : ℕ) → s.home x ≡ Live x → border_of g aggressive s c x ≡ true → border_of g aggressive s c (pick x) ≡ true
  pub alike : (x : ℕ) → s.home x ≡ Live x → border_of g aggressive s c x ≡ true → Alike g aggressive s c x (pick x)
  pub same : (x y : ℕ) → s.home x ≡ Live x → s.home y ≡ Live y → border_of g aggressive s c x ≡ true → border_of g aggressive s c y ≡ true →
      Alike g aggressive s c x y → pick x ≡ pick y

module _ (g : Graph) (aggressive : Bool) (c : ℕ) (s : State) (pick : ℕ → ℕ) where
  unfoldable pub next_home : ℕ → Home
  next_home v = cond (block g aggressive s c v) (Gone c) (cond (border_of g aggressive s c v) (Live (pick (class_in (s.home v))))
      (s.home v))

  unfoldable pub unbounded : State
  unbounded = record {
    home = next_home;
    bound = s.bound;
    border = λ e v. cond (eqb e c) (border_of g aggressive s c v) (s.border e v);
    parent = λ e. cond (eqb e c) None (cond (absorbed g aggressive s c e) (Some c) (s.parent e));
  }

  unfoldable pub next_state : State
  next_state = record unbounded { bound = λ i. cond (border_of g aggressive s c i) (new_bound g aggressive s unbounded c i) (s.bound i) }

module _ (g : Graph) (laws : IsGraph g) (aggressive : Bool) (c : ℕ) (s : State) (sound : IsSound g s) (pick : ℕ → ℕ)
    (is : IsPick g aggressive s c pick)
    (class : is_class s c ≡ true) (least : (d : ℕ) → is_class s d ≡ true → s.bound c ≤ s.bound d) where
  kept_block : (v : ℕ) → in_class s c v ≡ false → front g s c v ≡ false → block g aggressive s c v ≡ false
  kept_block v out nf = elim (cases_Bool (block g aggressive s c v)) [
    | inr b ↦ b
    | inl b ↦ elim (block_cases g aggressive s c v b) [
      | inl h ↦ clash (class_from c (s.home v) h) out
      | inr k ↦ (let m = mass_gives g aggressive s c k.0 k.1 in
          clash (front_whole g laws s sound c k.0 k.0 v m.class k.2 m.in_front) nf)
    ]
  ]

  absorbed_not_pivot : (e : ℕ) → absorbed g aggressive s c e ≡ true → e ≢ c
  unfolding absorbed
  absorbed_not_pivot e a q =
      let st = absorbed_stands g aggressive s c e a in
      let k = (stands_gives g s e st).element in let p = class_gives c (s.home c) class in let m : s.home e ≡ Live c = ap s.home q ∙ p in cc

  home_gone : (v : ℕ) → block g aggressive s c v ≡ true → (next_state g aggressive c s pick).home v ≡ Gone c
  unfolding next_home unbounded next_state
  home_gone v b = cond-true (block g aggressive s c v) (Gone c) _ b

  pub home_moved : (v x : ℕ) → border_of g aggressive s c v ≡ true → s.home v ≡ Live x →
      (next_state g aggressive c s pick).home v ≡ Live (pick x)
  unfolding next_home unbounded next_state class_in
  home_moved v x b h = cond-false (block g aggressive s c v) (Gone c) _ (border_gives g aggressive s c v b).1 ∙
      cond-true (border_of g aggressive s c v) _ (s.home v) b ∙ ap (λ k. Live (pick (class_in k))) h

  pub home_kept : (v : ℕ) → block g aggressive s c v ≡ false → border_of g aggressive s c v ≡ false →
      (next_state g aggressive c s pick).home v ≡ s.home v
  unfolding next_home unbounded next_state
  home_kept v b o = cond-false (block g aggressive s c v) (Gone c) _ b ∙ cond-false (border_of g aggressive s c v) _ (s.home v) o

  picked : (v x : ℕ) → border_of g aggressive s c v ≡ true → s.home v ≡ Live x →
      (next_state g aggressive c s pick).home (pick x) ≡ Live (pick x)
  picked v x b h = let hx = sound.named v x h in
      let bx = border_whole g laws aggressive s sound c x v x h hx b in let hp = is.class x hx bx in
      home_moved (pick x) (pick x) (is.in_border x hx bx) hp
      ∙ ap Live (sym (is.same x (pick x) hx hp bx (is.in_border x hx bx) (is.alike x hx bx)))

  pub next_is_step : StepAt g aggressive c s (next_state g aggressive c s pick)
  unfolding next_state unbounded next_home new_bound outside holds stands
  next_is_step = record {
    class = class;
    least = least;
    gone = home_gone;
    kept = λ v out nf. home_kept v (kept_block v out nf) (no_border g aggressive s c v nf);
    moved = λ v x b k. let h = class_gives x (s.home v) k in let hx = sound.named v x h in
        let bx = border_whole g laws aggressive s sound c x v x h hx b in
        (pick x, home_moved v x b h, picked v x b h, is.class x hx bx, is.in_border x hx bx, is.alike x hx bx);
    merged = λ x y kx ky bx by' a. let hx = class_gives x (s.home x) kx in let hy = class_gives y (s.home y) ky in
        home_moved x x bx hx ∙ ap Live (is.same x y hx hy bx by' a) ∙ sym (home_moved y y by' hy);
    made = λ v. cond-true (eqb c c) _ _ (eq-eqb c c refl);
    root = cond-true (eqb c c) _ _ (eq-eqb c c refl);
    taken = λ e a. cond-false (eqb e c) _ _ (ne_eqb e c (absorbed_not_pivot e a)) ∙ cond-true (absorbed g aggressive s c e) _ _ a;
    border_stays = λ e v ne. cond-false (eqb e c) _ _ (ne_eqb e c ne);
    parent_stays = λ e ne a. cond-false (eqb e c) _ _ (ne_eqb e c ne) ∙ cond-false (absorbed g aggressive s c e) _ _ a;
    bounds = λ i k b. cond-true (border_of g aggressive s c i) _ _ b;
    bound_stays = λ i k b. cond-false (border_of g aggressive s c i) _ _ b;
  }
