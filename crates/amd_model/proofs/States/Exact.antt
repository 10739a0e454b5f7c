-- The bound of a class that one or two elements hold is the size of its front, and that of a class that none holds is its degree.
use Rattle.std.proofs.Common.{ℕ, Bool, true, false, ◌≡◌, ◌≢◌, ◌<◌, ◌≤◌, ◌+◌, ◌-◌, ◌&&◌, ◌||◌, ◌==◌, not, inl, inr, refl, sym, ◌∙◌, ap}
use Rattle.std.proofs.Common.{arith, cond, List, [], ◌∷◌}
use Rattle.std.proofs.lemmas.Bool.{false_from_ne_true, cases_Bool, true≢false, and_parts, and_from, or_cases, not-true, eq-eqb}
use Rattle.std.specs.Cmp.{both_ways}
use Rattle.amd_model.specs.Below.{any_below, count_below, sum_below}
use Rattle.amd_model.specs.Graph.{Graph, IsGraph, degree}
use Rattle.amd_model.specs.State.{State, Home, Last, Live, Gone, live_at, gone_at, live, eliminated, in_class, holds, neighbours, front}
use Rattle.amd_model.specs.State.{IsStart}
use Rattle.amd_model.specs.Step.{StepAt, absorbed, other, outer, border_of, beyond, outside, new_bound}
use Rattle.amd_model.specs.Run.{Steps, EachState}
use Rattle.amd_model.specs.Reach.{direct}
use Rattle.amd_model.specs.Laws.{InEachState, BoundsMeetDegrees, front_size, holders, last_neighbours, is_last}
use Rattle.amd_model.specs.Sound.{IsSound}
use Rattle.amd_model.proofs.Counting.Below.{any_gives, any_from, count_mono, count_same, count_split, count_pos, clash, count_zero}
use Rattle.amd_model.proofs.Counting.Unions.{count_apart, count_all_apart, count_three}
use Rattle.amd_model.proofs.States.Steps.{absorbed_border, border_gives, other_from}
use Rattle.amd_model.proofs.States.Words.{class_gives, class_from, live_gives, live_from, gone_gives, holds_gives, neighbours_gives}
use Rattle.amd_model.proofs.States.Words.{by_element, by_neighbour, front_gives, front_from, reach_more, reach_flip}
use Rattle.amd_model.proofs.States.Sound.{live_small, holds_class, standing_small, neighbours_edge, front_live, front_whole, front_reached}
use Rattle.amd_model.proofs.States.Sound.{reached_front}
use Rattle.amd_model.proofs.States.SoundStep.{step_sound, goes, moves, stays, fate, other_border, other_not_pivot}
use Rattle.amd_model.proofs.States.SoundStep.{class_border, live_border, live_not_pivot, was_eliminated}
use Rattle.amd_model.proofs.States.SoundStep.{still_eliminated, block_reaches}
use Rattle.amd_model.proofs.States.SoundStart.{none_stands, own, no_edge, is_last as starts_last, is_empty, is_live, begins, start_sound}
use Rattle.amd_model.proofs.States.Bounds.{Bounded, kept_class, near_count, step_bounded}
use Rattle.amd_model.proofs.States.Paths.{start_bounded}
use Rattle.amd_model.proofs.States.NewParts.{was_class, holds_new, neighbours_new}

-- a class that one or two elements hold has the size of its front as bound, at most
abbrev pub IsExact : Graph → State → Type 0
IsExact g s = (i : ℕ) → s.home i ≡ Live i → 0 < holders g s i → holders g s i ≤ 2 → s.bound i ≤ count_below g.size (front g s i)

-- a class that no element holds is one row, with no eliminated neighbour, and has its degree as bound
pub record IsUntouched (g : Graph) (s : State) (i : ℕ) : Type 0 where
  pub bound : s.bound i ≡ degree g i
  pub alone : (v : ℕ) → s.home v ≡ Live i → v ≡ i
  pub clear : (w : ℕ) → g.edge i w ≡ true → eliminated s w ≡ true → ⊥

abbrev pub AreUntouched : Graph → State → Type 0
AreUntouched g s = (i : ℕ) → s.home i ≡ Live i → ((e : ℕ) → holds g s e i ≡ true → ⊥) → IsUntouched g s i

module _ (g : Graph) (laws : IsGraph g) (aggressive : Bool) (c : ℕ) (old new : State) (sound : IsSound g old)
    (step : StepAt g aggressive c old new) where
  after : IsSound g new
  after = step_sound g laws aggressive c old new sound step

  -- a class outside S is held as before
  holds_kept : (e i : ℕ) → new.home i ≡ Live i → border_of g aggressive old c i ≡ false → holds g old e i ≡ true → holds g new e i ≡ true
  holds_kept e i hi off h =
      let k = holds_gives g old e i h in let oi = was_class g laws aggressive c old new sound step i hi in
      let li = live_small g laws old sound i i oi in
      (holds_new g laws aggressive c old new sound step e i hi).1 (inr (
        other_from g aggressive old c e k.standing (elim (cases_Bool (absorbed g aggressive old c e)) [
          | inl a ↦ clash (live_border g laws aggressive c old new sound step i i hi
              (absorbed_border g laws aggressive old sound c e i a (k.rows i li oi) li
              (live_not_pivot g laws aggressive c old new sound step i i hi))) off
          | inr a ↦ a
        ]),
        h,
      ))

  holds_before : (e i : ℕ) → new.home i ≡ Live i → border_of g aggressive old c i ≡ false → holds g new e i ≡ true → holds g old e i ≡ true
  holds_before e i hi off h = elim ((holds_new g laws aggressive c old new sound step e i hi).0 h) [
    | inl p ↦ clash p.1 off
    | inr p ↦ p.1
  ]

  holders_kept : (i : ℕ) → new.home i ≡ Live i → border_of g aggressive old c i ≡ false → holders g new i ≡ holders g old i
  unfolding holders
  holders_kept i hi off = count_same g.size (λ e. holds g new e i) (λ e. holds g old e i)
      (λ e l. both_ways (holds g new e i) (holds g old e i) (holds_before e i hi off) (holds_kept e i hi off))

  -- L of a class outside S has lost no row
  front_kept : (i v : ℕ) → new.home i ≡ Live i → border_of g aggressive old c i ≡ false → front g old i v ≡ true → front g new i v ≡ true
  front_kept i v hi off f =
      let oi = was_class g laws aggressive c old new sound step i hi in
      let r = front_reached g laws old sound i i v oi f in
      let lv : live new v ≡ true = elim (fate g laws aggressive c old new sound step v) [
        | goes b q ↦ clash (block_reaches g laws aggressive c old new sound step v i i b hi (reach_flip g laws (eliminated old) r)) off
        | moves s x j p q z a o w ↦ live_from j (new.home v) q
        | stays ni nf q ↦ (let x = live_gives (old.home v) (front_live g laws old sound i v f) in live_from x.0 (new.home v) (q ∙ x.1))
      ] in
      let out : in_class new i v ≡ false = elim (cases_Bool (in_class new i v)) [
        | inl k ↦ clash (class_from i (old.home v) (kept_class g laws aggressive c old new sound step i v off hi
            (class_gives i (new.home v) k))) (front_gives g old i v f).0
        | inr k ↦ k
      ] in
      reached_front g laws new after i i v hi lv out (reach_more g (eliminated old) (eliminated new)
      (still_eliminated g laws aggressive c old new sound step) r)

  module _ (i : ℕ) (hi : new.home i ≡ Live i) (oi : old.home i ≡ Live i) (on : border_of g aggressive old c i ≡ true) where
    near : ℕ → Bool
    near v = border_of g aggressive old c v && not (in_class new i v)

    -- an element from before that holds the class
    also : ℕ → Bool
    also e = other g aggressive old c e && holds g new e i

    by_others : ℕ → ℕ → Bool
    by_others e v = old.border e v && not (front g old c v)

    by_rows : ℕ → Bool
    by_rows v = any_below g.size (λ d. outer g old c i d && in_class old d v)

    holds_pivot : holds g new c i ≡ true
    holds_pivot = (holds_new g laws aggressive c old new sound step c i hi).1 (inl (refl, on))

    also_held : (e : ℕ) → also e ≡ true → (other g aggressive old c e ≡ true) × (holds g new e i ≡ true) × (holds g old e i ≡ true)
    unfolding also
    also_held e h = let p = and_parts (other g aggressive old c e) (holds g new e i) h in (
      p.0,
      p.1,
      elim ((holds_new g laws aggressive c old new sound step e i hi).0 p.1) [
        | inl q ↦ absurd (other_not_pivot g laws aggressive c old new sound step e p.0 q.0)
        | inr q ↦ q.1
      ],
    )

    -- beside the new element, two elements hold the class at most
    one_other : holders g new i ≤ 2 → (e f : ℕ) → e < f → also e ≡ true → also f ≡ true → ⊥
    unfolding holders
    one_other few e f less he hf =
        let a = also_held e he in let b = also_held f hf in
        let held : ℕ → Bool = λ k. holds g new k i in
        let small : (k : ℕ) → held k ≡ true → k < g.size = λ k h. standing_small g laws new after k (holds_gives g new k i h).standing in
        let three : 3 ≤ count_below g.size held = count_three g.size held c e f (small c holds_pivot) (small e a.1) (small f b.1)
        holds_pivot a.1 b.1
        (other_not_pivot g laws aggressive c old new sound step e a.0) (other_not_pivot g laws aggressive c old new sound step f b.0)
        (λ q. omega arith) in
        omega (arith, few, three)

    near_front : (v : ℕ) → near v ≡ true → front g new i v ≡ true
    unfolding near
    near_front v h = let p = and_parts (border_of g aggressive old c v) (not (in_class new i v)) h in
        front_from g new i v (not-true (in_class new i v) p.1)
        (by_element c (standing_small g laws new after c (holds_gives g new c i holds_pivot).standing) holds_pivot (step.made v ∙ p.0))

    others_front : (e v : ℕ) → e < g.size → also e ≡ true → by_others e v ≡ true → front g new i v ≡ true
    unfolding by_others
    others_front e v l a b =
        let p = also_held e a in let q = and_parts (old.border e v) (not (front g old c v)) b in
        let out : in_class new i v ≡ false = elim (cases_Bool (in_class new i v)) [
          | inl k ↦ clash (border_gives g aggressive old c v
              (class_border g laws aggressive c old new sound step i v i hi (class_gives i (new.home v) k) on)).0
              (not-true (front g old c v) q.1)
          | inr k ↦ k
        ] in
        front_from g new i v out (by_element e l p.1 (other_border g laws aggressive c old new sound step e v p.0 ∙ q.0))

    record Outer (v : ℕ) : Type 0 where
      class : ℕ
      small : class < g.size
      next_to : neighbours g old i class ≡ true
      away : front g old c class ≡ false
      not_pivot : class ≢ c
      home : old.home v ≡ Live class

    rows_give : (v : ℕ) → by_rows v ≡ true → Outer v
    unfolding by_rows outer
    rows_give v h =
        let r = any_gives g.size (λ d. outer g old c i d && in_class old d v) h in let d : ℕ = r.0 in
        let p = and_parts (outer g old c i d) (in_class old d v) r.2 in
        let a = and_parts (neighbours g old i d && not (front g old c d)) (not (d == c)) p.0 in
        let b = and_parts (neighbours g old i d) (not (front g old c d)) a.0 in
        record {
          class = d;
          small = r.1;
          next_to = b.0;
          away = not-true (front g old c d) b.1;
          not_pivot = λ q. clash (eq-eqb d c q) (not-true (d == c) a.1);
          home = class_gives d (old.home v) p.1;
        }

    -- a row of a class outside L and c stays where it is
    rows_stay : (v : ℕ) (o : Outer v) → (w : ℕ) → old.home w ≡ Live o.class → (front g old c w ≡ false) × (new.home w ≡ Live o.class)
    rows_stay v o w hw =
        let far : front g old c w ≡ false = elim (cases_Bool (front g old c w)) [
          | inl f ↦ clash (front_whole g laws old sound c o.class w o.class hw (sound.named w o.class hw) f) o.away
          | inr f ↦ f
        ] in
        let apart : in_class old c w ≡ false = elim (cases_Bool (in_class old c w)) [
          | inl k ↦ absurd (o.not_pivot (let q : Live o.class ≡ Live c = sym hw ∙ class_gives c (old.home w) k in cc))
          | inr k ↦ k
        ] in
        (far, step.kept w apart far ∙ hw)

    rows_front : (v : ℕ) → by_rows v ≡ true → front g new i v ≡ true
    rows_front v h =
        let o = rows_give v h in let d : ℕ = o.class in
        let hv = (rows_stay v o v o.home).1 in
        let hd = rows_stay v o d (sound.named v d o.home) in
        let n = neighbours_gives g old i d o.next_to in
        let off : (border_of g aggressive old c i && border_of g aggressive old c d) ≡ false =
        elim (cases_Bool (border_of g aggressive old c i && border_of g aggressive old c d)) [
          | inl b ↦ clash (border_gives g aggressive old c d
              (and_parts (border_of g aggressive old c i) (border_of g aggressive old c d) b).1).0 o.away
          | inr b ↦ b
        ] in
        let out : in_class new i v ≡ false = elim (cases_Bool (in_class new i v)) [
          | inl k ↦ absurd (n.differ (let q : Live i ≡ Live d = sym (class_gives i (new.home v) k) ∙ hv in cc))
          | inr k ↦ k
        ] in
        front_from g new i v out
        (by_neighbour d o.small ((neighbours_new g laws aggressive c old new sound step i d hi hd.1).1 (o.next_to, off)) hv)

    -- what is near, what the other element adds and the rows of direct neighbours share no row and lie in L
    exact_count : holders g new i ≤ 2 → outside g aggressive old new c
        i + (count_below g.size (border_of g aggressive old c) - count_below g.size (in_class new i)) ≤ count_below g.size (front g new i)
    unfolding outside beyond near also by_others by_rows
    exact_count few =
        let ue : ℕ → Bool = λ v. any_below g.size (λ e. also e && by_others e v) in
        let others : sum_below g.size (λ e. cond (also e) (count_below g.size (by_others e)) 0) ≤ count_below g.size ue
        = count_all_apart g.size g.size also by_others (λ e f v less he hf a b. one_other few e f less he hf) in
        let ue_gives : (v : ℕ) → ue v ≡ true → (e : ℕ) × (e < g.size) × (also e ≡ true) × (by_others e v ≡ true)
        = λ v h. let r = any_gives g.size (λ e. also e && by_others e v) h in let p = and_parts (also r.0) (by_others r.0 v) r.2 in
        (r.0, r.1, p.0, p.1) in
        let far : count_below g.size ue + count_below g.size by_rows ≤ count_below g.size (λ v. ue v || by_rows v) =
        count_apart g.size ue by_rows (λ v l a b.
        let r = ue_gives v a in let h = also_held r.0 r.2 in let o = rows_give v b in
        let q = and_parts (old.border r.0 v) (not (front g old c v)) r.3 in
        (neighbours_gives g old i o.class o.next_to).apart r.0 r.1 h.2
        (holds_class g laws old sound r.0 o.class v (holds_gives g old r.0 i h.2).standing o.home q.0)) in
        let all : count_below g.size near + count_below g.size (λ v. ue v || by_rows v) ≤ count_below g.size
        (λ v. near v || (ue v || by_rows v)) = count_apart g.size near (λ v. ue v || by_rows v) (λ v l a b.
        let f = (border_gives g aggressive old c v
        (and_parts (border_of g aggressive old c v) (not (in_class new i v)) a).0).0 in
        elim (or_cases (ue v) (by_rows v) b) [
          | inl x ↦ (let r = ue_gives v x in
              clash f (not-true (front g old c v) (and_parts (old.border r.0 v) (not (front g old c v)) r.3).1))
          | inr x ↦ (let o = rows_give v x in clash f (rows_stay v o v o.home).0)
        ]) in
        let inner : count_below g.size (λ v. near v || (ue v || by_rows v)) ≤ count_below g.size (front g new i) =
        count_mono g.size (λ v. near v || (ue v || by_rows v)) (front g new i) (λ v l h.
        elim (or_cases (near v) (ue v || by_rows v) h) [
          | inl a ↦ near_front v a
          | inr b ↦ elim (or_cases (ue v) (by_rows v) b) [
            | inl x ↦ (let r = ue_gives v x in others_front r.0 v r.1 r.2 r.3)
            | inr x ↦ rows_front v x
          ]
        ]) in
        let e = near_count g laws aggressive c old new sound step i hi oi on in
        omega (arith, others, far, all, inner, e)

  pub step_exact : IsExact g old → IsExact g new
  unfolding new_bound
  step_exact exact i hi some few = elim (cases_Bool (border_of g aggressive old c i)) [
    | inl on ↦ (
        let b = step.bounds i (class_from i (new.home i) hi) on in
        let k = exact_count i hi (was_class g laws aggressive c old new sound step i hi) on few in omega (arith, b, k))
    | inr off ↦ (
        let h = holders_kept i hi off in
        let b = step.bound_stays i (class_from i (new.home i) hi) off in
        let o : old.bound i ≤ count_below g.size (front g old i) =
        exact i (was_class g laws aggressive c old new sound step i hi) (omega (arith, h, some)) (omega (arith, h, few)) in
        let m = count_mono g.size (front g old i) (front g new i) (λ v l f. front_kept i v hi off f) in
        omega (arith, b, o, m))
  ]

  pub step_untouched : AreUntouched g old → AreUntouched g new
  step_untouched untouched i hi none = elim (cases_Bool (border_of g aggressive old c i)) [
    | inl on ↦ absurd (none c (holds_pivot i hi (was_class g laws aggressive c old new sound step i hi) on))
    | inr off ↦ (
        let u = untouched i (was_class g laws aggressive c old new sound step i hi) (λ e h. none e (holds_kept e i hi off h)) in
        record {
          bound = step.bound_stays i (class_from i (new.home i) hi) off ∙ u.bound;
          alone = λ v h. u.alone v (kept_class g laws aggressive c old new sound step i v off hi h);
          clear = λ w e x. elim (was_eliminated g laws aggressive c old new sound step w x) [
            | inl o ↦ u.clear w e o
            | inr b ↦ clash (block_reaches g laws aggressive c old new sound step w i i b hi (direct (laws.symmetric w i ∙ e))) off
          ];
        })
  ]

-- no element holds a class at the start
start_exact : (g : Graph) → IsGraph g → (dense : ℕ → Bool) (s : State) → IsStart g dense s → IsExact g s
unfolding holders
start_exact g laws dense s start i hi some few =
    let none = count_zero g.size (λ e. holds g s e i) (λ e l. false_from_ne_true (holds g s e i)
    (λ h. none_stands g laws dense s start e (holds_gives g s e i h).standing)) in
    omega (arith, none, some)

start_untouched : (g : Graph) → IsGraph g → (dense : ℕ → Bool) (s : State) → IsStart g dense s → AreUntouched g s
start_untouched g laws dense s start i hi none = record {
  bound = start.bounds i hi;
  alone = λ v h. own g laws dense s start v i h;
  clear = λ w e x. elim (begins g laws dense s start w) [
    | starts_last k ↦ absurd (let z = gone_gives (s.home w) x in let q = z.1 in cc)
    | is_empty k z ↦ absurd (no_edge g laws dense s start w i z (laws.symmetric w i ∙ e))
    | is_live k ↦ absurd (let z = gone_gives (s.home w) x in let q = z.1 in cc)
  ];
}

module _ (g : Graph) (laws : IsGraph g) (s : State) (sound : IsSound g s) where
  -- the live neighbours of the row of an untouched class are its front
  live_edge : (i v : ℕ) → s.home i ≡ Live i → IsUntouched g s i → ((e : ℕ) → holds g s e i ≡ true → ⊥) →
      front g s i v ≡ (g.edge i v && live s v)
  live_edge i v hi u none = both_ways (front g s i v) (g.edge i v && live s v)
      (λ f. and_from (g.edge i v) (live s v) (elim ((front_gives g s i v f).1) [
        | by_element e l h b ↦ absurd (none e h)
        | by_neighbour d l n hv ↦ neighbours_edge g laws s sound i d i v n hi hv
      ]) (front_live g laws s sound i v f))
      (λ h. let p = and_parts (g.edge i v) (live s v) h in
      let out : in_class s i v ≡ false = elim (cases_Bool (in_class s i v)) [
        | inl k ↦ clash (ap (g.edge i) (sym (u.alone v (class_gives i (s.home v) k))) ∙ p.0) (laws.no_loop i)
        | inr k ↦ k
      ] in
      reached_front g laws s sound i i v hi p.1 out (direct p.0))

  -- its other neighbours are held last
  last_edge : (i v : ℕ) → v < g.size → s.home i ≡ Live i → IsUntouched g s i →
      (is_last (s.home v) && any_below g.size (λ w. in_class s i w && g.edge w v)) ≡ (g.edge i v && not (live s v))
  unfolding is_last live_at gone_at
  last_edge i v l hi u = both_ways (is_last (s.home v) && any_below g.size near) (g.edge i v && not (live s v))
      (λ h. let p = and_parts (is_last (s.home v)) (any_below g.size near) h in
      let r = any_gives g.size near p.1 in let q = and_parts (in_class s i r.0) (g.edge r.0 v) r.2 in
      and_from (g.edge i v) (not (live s v)) (ap (λ k. g.edge k v) (sym (u.alone r.0 (class_gives i (s.home r.0) q.0))) ∙ q.1)
      (last_not_live (s.home v) p.0))
      (λ h. let p = and_parts (g.edge i v) (not (live s v)) h in
      and_from (is_last (s.home v)) (any_below g.size near)
      (still_last (s.home v) (not-true (live s v) p.1) (λ x. u.clear v p.0 x))
      (any_from g.size near i (live_small g laws s sound i i hi) (and_from (in_class s i i) (g.edge i v) (class_from i (s.home i) hi) p.0)))
    where
      near : ℕ → Bool
      near w = in_class s i w && g.edge w v

      last_not_live : (h : Home) → is_last h ≡ true → not (live_at h) ≡ true
      last_not_live Last e = refl
      last_not_live (Live d) e = absurd (true≢false (sym e))
      last_not_live (Gone d) e = refl

      still_last : (h : Home) → live_at h ≡ false → (gone_at h ≡ true → ⊥) → is_last h ≡ true
      still_last Last e n = refl
      still_last (Live d) e n = absurd (true≢false e)
      still_last (Gone d) e n = absurd (n refl)

  pub bounds_meet : Bounded g s → IsExact g s → AreUntouched g s → BoundsMeetDegrees g s
  unfolding front_size last_neighbours holders degree
  bounds_meet bounded exact untouched = record {
    degree = λ c k. record {
      test = front g s c;
      exact = λ v l. (
        (λ f. (
          front_live g laws s sound c v f,
          (front_gives g s c v f).0,
          (c, k, front_reached g laws s sound c c v (class_gives c (s.home c) k) f),
        )),
        (λ r. reached_front g laws s sound c (r.2).0 v (class_gives c (s.home (r.2).0) (r.2).1) r.0 r.1 (r.2).2),
      );
      count = refl;
    };
    enough = λ c k. bounded c (class_gives c (s.home c) k);
    exact = λ c k some few. let hc = class_gives c (s.home c) k in let least = bounded c hc in let most = exact c hc some few in
        omega (arith, least, most);
    untouched = λ c k zero'. let hc = class_gives c (s.home c) k in
        let none : (e : ℕ) → holds g s e c ≡ true → ⊥
        = λ e h. let pos = count_pos g.size (λ e. holds g s e c) e (standing_small g laws s sound e (holds_gives g s e c h).standing) h in
        omega (arith, pos, zero') in
        let u = untouched c hc none in
        let split = count_split g.size (g.edge c) (live s) in
        let first = count_same g.size (front g s c) (λ v. g.edge c v && live s v) (λ v l. live_edge c v hc u none) in
        let second = count_same g.size (λ v. is_last (s.home v) && any_below g.size (λ w. in_class s c w && g.edge w v))
        (λ v. g.edge c v && not (live s v)) (λ v l. last_edge c v l hc u) in
        let b : s.bound c ≡ count_below g.size (g.edge c) = u.bound in
        omega (arith, split, first, second, b);
  }

each_meets : (g : Graph) → IsGraph g → (aggressive : Bool) (s : State) (states : List State) →
    IsSound g s → Bounded g s → IsExact g s → AreUntouched g s → Steps g aggressive s states → EachState (BoundsMeetDegrees g) s states
each_meets g laws aggressive s [] sound bounded exact untouched steps = bounds_meet g laws s sound bounded exact untouched
each_meets g laws aggressive s (t ∷ rest) sound bounded exact untouched steps = let c : ℕ = (steps.0).0 in let step = (steps.0).1 in (
  bounds_meet g laws s sound bounded exact untouched,
  each_meets g laws aggressive t rest (step_sound g laws aggressive c s t sound step)
      (step_bounded g laws aggressive c s t sound step bounded)
      (step_exact g laws aggressive c s t sound step exact) (step_untouched g laws aggressive c s t sound step untouched) steps.1,
)

pub bounds_in_each_state : InEachState (λ g aggressive s. BoundsMeetDegrees g s)
bounds_in_each_state g dense aggressive first states laws start steps =
    each_meets g laws aggressive first states (start_sound g laws dense first start) (start_bounded g laws dense first start)
    (start_exact g laws dense first start) (start_untouched g laws dense first start) steps
