-- The bound of a class is at least the number of rows in L(c).
use Rattle.std.proofs.Common.{ℕ, Bool, true, false, ◌≡◌, ◌≤◌, ◌+◌, ◌-◌, ◌&&◌, ◌||◌, not, inl, inr, sym, ◌∙◌, ap, subst, arith}
use Rattle.std.proofs.lemmas.Bool.{cases_Bool, and_parts, and_from, or_left, or_right, not-true, not_from_false}
use Rattle.amd_model.specs.Below.{any_below, count_below}
use Rattle.amd_model.specs.Graph.{Graph, IsGraph}
use Rattle.amd_model.specs.State.{State, Live, live, eliminated, in_class, holds, front}
use Rattle.amd_model.specs.Step.{StepAt, absorbed, other, outer, block, border_of, beyond, outside, new_bound}
use Rattle.amd_model.specs.Reach.{Reach}
use Rattle.amd_model.proofs.Counting.Below.{any_from, count_mono, count_or, count_union, count_minus, clash}
use Rattle.amd_model.proofs.States.Steps.{absorbed_border, border_gives, border_whole, other_from, outer_from}
use Rattle.amd_model.proofs.States.Words.{class_gives, class_from, live_gives, live_from, holds_gives, neighbours_gives, by_element}
use Rattle.amd_model.proofs.States.Words.{by_neighbour, front_gives, reach_split, reach_flip}
use Rattle.amd_model.specs.Sound.{IsSound}
use Rattle.amd_model.proofs.States.Sound.{live_small, holds_class, front_live, front_whole, front_reached, reached_front}
use Rattle.amd_model.proofs.States.SoundStep.{step_sound, goes, moves, stays, fate, other_stands, other_border}
use Rattle.amd_model.proofs.States.SoundStep.{class_border, live_border, live_not_pivot, was_live}
use Rattle.amd_model.proofs.States.SoundStep.{was_eliminated, block_reaches}

-- each class has a bound of at least the size of its L
abbrev pub Bounded : Graph → State → Type 0
Bounded g s = (c : ℕ) → s.home c ≡ Live c → count_below g.size (front g s c) ≤ s.bound c

module _ (g : Graph) (laws : IsGraph g) (aggressive : Bool) (c : ℕ) (old new : State) (sound : IsSound g old)
    (step : StepAt g aggressive c old new) where
  after : IsSound g new
  after = step_sound g laws aggressive c old new sound step

  -- a class outside S is as it was
  pub kept_class : (i v : ℕ) → border_of g aggressive old c i ≡ false → new.home i ≡ Live i → new.home v ≡ Live i → old.home v ≡ Live i
  kept_class i v off hi hv = elim (fate g laws aggressive c old new sound step v) [
    | goes b q ↦ absurd (cc)
    | moves s x j p q r a o w ↦ clash (class_border g laws aggressive c old new sound step v i i hv hi s) off
    | stays ni nf q ↦ sym q ∙ hv
  ]

  -- what a live row outside L reaches now it reached before, where it is live
  reached_before : (i w k : ℕ) → new.home i ≡ Live k → border_of g aggressive old c i ≡ false → Reach g (eliminated new) i w →
      Reach g (eliminated old) i w
  reached_before i w k hi off r =
      elim (reach_split g (eliminated old) (block g aggressive old c) (eliminated new)
      (was_eliminated g laws aggressive c old new sound step) r) [
        | inl q ↦ q
        | inr t ↦ clash (block_reaches g laws aggressive c old new sound step t.enter i k t.enters hi
            (reach_flip g laws (eliminated old) t.to))
            off
      ]

  -- L of a class outside S has lost no row and won none
  front_shrinks : (i v : ℕ) → new.home i ≡ Live i → border_of g aggressive old c i ≡ false → front g new i v ≡ true → front g old i v ≡ true
  front_shrinks i v hi off f =
      let lv = live_gives (new.home v) (front_live g laws new after i v f) in
      let ov = was_live g laws aggressive c old new sound step v lv.0 lv.1 in
      let oi = kept_class i i off hi hi in
      let out : in_class old i v ≡ false = elim (cases_Bool (in_class old i v)) [
        | inl k ↦ elim (fate g laws aggressive c old new sound step v) [
          | goes b q ↦ absurd (let z = lv.1 in cc)
          | moves s x j p q r a o w ↦ clash (border_whole g laws aggressive old sound c i v i (class_gives i (old.home v) k) oi s)
              off
          | stays ni nf q ↦ clash (class_from i (new.home v) (q ∙ class_gives i (old.home v) k)) (front_gives g new i v f).0
        ]
        | inr k ↦ k
      ] in
      reached_front g laws old sound i i v oi (live_from ov.0 (old.home v) ov.1) out
      (reached_before i v i hi off (front_reached g laws new after i i v hi f))

  -- a row of the new L of a class of S that is not in L(c) was in its old L
  far_before : (i v : ℕ) → new.home i ≡ Live i → border_of g aggressive old c i ≡ true → old.home i ≡ Live i → front g new i v ≡ true →
      front g old c v ≡ false → front g old i v ≡ true
  far_before i v hi on oi f far =
      let lv = live_gives (new.home v) (front_live g laws new after i v f) in
      let ov = was_live g laws aggressive c old new sound step v lv.0 lv.1 in
      let out : in_class old i v ≡ false = elim (cases_Bool (in_class old i v)) [
        | inl k ↦ clash (border_gives g aggressive old c v
            (border_whole g laws aggressive old sound c i i v oi (class_gives i (old.home v) k) on)).0 far
        | inr k ↦ k
      ] in
      let r = front_reached g laws new after i i v hi f in
      let r' : Reach g (eliminated old) i v =
      elim (reach_split g (eliminated old) (block g aggressive old c) (eliminated new)
      (was_eliminated g laws aggressive c old new sound step) r) [
        | inl q ↦ q
        | inr t ↦ clash (border_gives g aggressive old c v
            (block_reaches g laws aggressive c old new sound step t.leave v lv.0 t.leaves lv.1 t.on)).0 far
      ] in
      reached_front g laws old sound i i v oi (live_from ov.0 (old.home v) ov.1) out r'

  abbrev far : ℕ → ℕ → Bool
  far i v = front g new i v && not (front g old c v)

  module _ (i : ℕ) (hi : new.home i ≡ Live i) (oi : old.home i ≡ Live i) (on : border_of g aggressive old c i ≡ true) where
    pub near_count : count_below g.size (λ v. border_of g aggressive old c v && not (in_class new i v)) ≡ count_below g.size
        (border_of g aggressive old c) - count_below g.size (in_class new i)
    near_count = count_minus g.size (border_of g aggressive old c) (in_class new i)
        (λ v l k. class_border g laws aggressive c old new sound step i v i hi (class_gives i (new.home v) k) on)

    left_count : count_below g.size (front g new i) ≤ count_below g.size (live new) - count_below g.size (in_class new i)
    left_count =
        let m = count_minus g.size (live new) (in_class new i) (λ v l k. live_from i (new.home v) (class_gives i (new.home v) k)) in
        let n : count_below g.size (front g new i) ≤ count_below g.size (λ v. live new v && not (in_class new i v)) =
        count_mono g.size (front g new i) (λ v. live new v && not (in_class new i v))
        (λ v l f. and_from (live new v) (not (in_class new i v)) (front_live g laws new after i v f)
        (not_from_false (in_class new i v) (front_gives g new i v f).0)) in
        omega (arith, m)

    -- L is what is near, in S, and what is far
    parts_count : count_below g.size (front g new i) ≤ (count_below g.size (border_of g aggressive old c) - count_below g.size
        (in_class new i)) + count_below g.size (far i)
    parts_count =
        let n : count_below g.size (front g new i) ≤ count_below g.size
        (λ v. (border_of g aggressive old c v && not (in_class new i v)) || far i v)
        = count_mono g.size (front g new i) (λ v. (border_of g aggressive old c v && not (in_class new i v)) || far i v) (λ v l f.
        let lv = live_gives (new.home v) (front_live g laws new after i v f) in
        elim (cases_Bool (front g old c v)) [
          | inl near ↦ or_left (border_of g aggressive old c v && not (in_class new i v)) (far i v)
              (and_from (border_of g aggressive old c v) (not (in_class new i v))
              (live_border g laws aggressive c old new sound step v lv.0 lv.1 near)
              (not_from_false (in_class new i v) (front_gives g new i v f).0))
          | inr away ↦ or_right (border_of g aggressive old c v && not (in_class new i v)) (far i v)
              (and_from (front g new i v) (not (front g old c v)) f (not_from_false (front g old c v) away))
        ]) in
        let u = count_or g.size (λ v. border_of g aggressive old c v && not (in_class new i v)) (far i) in
        let e = near_count in omega (arith, n, u, e)

    far_old : count_below g.size (far i) ≤ count_below g.size (front g old i)
    far_old = count_mono g.size (far i) (front g old i) (λ v l k. let p = and_parts (front g new i v) (not (front g old c v)) k in
        far_before i v hi on oi p.0 (not-true (front g old c v) p.1))

    far_outside : count_below g.size (far i) ≤ outside g aggressive old new c i
    unfolding outside beyond
    far_outside =
        let he : ℕ → Bool = λ e. other g aggressive old c e && holds g new e i in
        let ue : ℕ → Bool = λ v. any_below g.size (λ e. he e && (old.border e v && not (front g old c v))) in
        let ud : ℕ → Bool = λ v. any_below g.size (λ d. outer g old c i d && in_class old d v) in
        let n : count_below g.size (far i) ≤ count_below g.size (λ v. ue v || ud v) =
        count_mono g.size (far i) (λ v. ue v || ud v) (λ v l k.
        let p = and_parts (front g new i v) (not (front g old c v)) k in
        let away = not-true (front g old c v) p.1 in
        let lv = live_gives (new.home v) (front_live g laws new after i v p.0) in
        let apart = live_not_pivot g laws aggressive c old new sound step v lv.0 lv.1 in
        elim ((front_gives g old i v (far_before i v hi on oi p.0 away)).1) [
          | by_element e le h b ↦ (let st = (holds_gives g old e i h).standing in elim (cases_Bool (absorbed g aggressive old c e)) [
            | inl a ↦ clash (absorbed_border g laws aggressive old sound c e v a b l apart) away
            | inr a ↦ (let o = other_from g aggressive old c e st a in
                let h' = holds_class g laws new after e i i (other_stands g laws aggressive c old new sound step e o) hi
                (other_border g laws aggressive c old new sound step e i o ∙
                (holds_gives g old e i h).rows i (live_small g laws old sound i i oi) oi) in
                or_left (ue v) (ud v) (any_from g.size (λ e. he e && (old.border e v && not (front g old c v))) e le
                (and_from (he e) (old.border e v && not (front g old c v)) (and_from (other g aggressive old c e) (holds g new e i) o h')
                (and_from (old.border e v) (not (front g old c v)) b p.1))))
          ])
          | by_neighbour d ld nb hd ↦ (
              let fd : front g old c d ≡ false = elim (cases_Bool (front g old c d)) [
                | inl f ↦ clash (front_whole g laws old sound c d d v (neighbours_gives g old i d nb).second hd f) away
                | inr f ↦ f
              ] in
              let o = outer_from g old c i d nb fd
              (λ q. clash (class_from c (old.home v) (hd ∙ ap Live q)) apart) in
              or_right (ue v) (ud v) (any_from g.size (λ d. outer g old c i d && in_class old d v) d ld
              (and_from (outer g old c i d) (in_class old d v) o (class_from d (old.home v) hd))))
        ]) in
        let u = count_or g.size ue ud in
        let s = count_union g.size g.size he (λ e v. old.border e v && not (front g old c v)) in
        omega (arith, n, u, s)

    new_bounded : count_below g.size (front g old i) ≤ old.bound i → count_below g.size (front g new i) ≤ new_bound g aggressive old new c i
    unfolding new_bound
    new_bounded b = let p = parts_count in let q = far_old in let r = far_outside in let l = left_count in omega (arith, p, q, r, l, b)

  pub step_bounded : Bounded g old → Bounded g new
  step_bounded b i hi = elim (cases_Bool (border_of g aggressive old c i)) [
    | inl on ↦ elim (fate g laws aggressive c old new sound step i) [
      | goes k q ↦ absurd (cc)
      | moves s x j p q r a o w ↦ (
          let e : j ≡ i = (let f : Live j ≡ Live i = sym q ∙ hi in cc) in
          let oi : old.home i ≡ Live i = subst (λ m. old.home m ≡ Live m) e o in
          let k = new_bounded i hi oi on (b i oi) in
          let z = step.bounds i (class_from i (new.home i) hi) on in omega (arith, k, z))
      | stays ni nf q ↦ clash (border_gives g aggressive old c i on).0 nf
    ]
    | inr off ↦ (
        let z = step.bound_stays i (class_from i (new.home i) hi) off in
        let k = b i (kept_class i i off hi hi) in
        let m = count_mono g.size (front g new i) (front g old i) (λ v l f. front_shrinks i v hi off f) in
        omega (arith, z, k, m))
  ]
