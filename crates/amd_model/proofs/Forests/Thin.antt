-- Each state of a run on a forest with no dense row is thin: its classes are single rows, its borders have at most one row, and paths are
-- edges.
use Rattle.std.proofs.Common.{ℕ, Bool, true, false, ◌≡◌, ◌≢◌, ◌<◌, ◌≤◌, ◌&&◌, not, cond, ◌⊎◌, inl, inr, refl, sym, ◌∙◌, ap, subst, arith}
use Rattle.std.proofs.lemmas.Bool.{cases_Bool, true≢false, cases_eq, cases_lt, and_parts, and_from, not-true}
use Rattle.amd_model.specs.Below.{any_below, sum_below, count_below}
use Rattle.amd_model.specs.Graph.{Graph, IsGraph, degree}
use Rattle.amd_model.specs.Forest.{IsForest}
use Rattle.amd_model.specs.State.{State, Last, Live, Gone, live, eliminated, in_class, holds, front, IsStart}
use Rattle.amd_model.specs.Step.{StepAt, other, outer, block, border_of, beyond, outside, new_bound}
use Rattle.amd_model.specs.Reach.{Reach, direct}
use Rattle.amd_model.specs.Sound.{IsSound}
use Rattle.amd_model.proofs.Counting.Below.{any_gives, count_mono, count_pos, clash, sum_zero, count_zero}
use Rattle.amd_model.proofs.Counting.Points.{one_counted}
use Rattle.amd_model.proofs.Forests.Leaf.{leaf}
use Rattle.amd_model.proofs.States.Words.{class_gives, class_from, live_gives, live_from, holds_gives, front_gives, reach_split, reach_flip}
use Rattle.amd_model.proofs.States.Sound.{live_small, front_live, front_reached, neighbours_edge, front_below}
use Rattle.amd_model.proofs.States.SoundStep.{step_sound, Fate, goes, moves, stays, fate, pivot_live, was_live}
use Rattle.amd_model.proofs.States.SoundStep.{was_eliminated, block_reaches, other_border}
use Rattle.amd_model.proofs.States.SoundStart.{begins, is_last, is_empty, is_live, own, no_edge, path_is_edge}
use Rattle.amd_model.proofs.States.NewParts.{was_class}
use Rattle.amd_model.proofs.States.Bounds.{Bounded}
use Rattle.amd_model.proofs.States.Steps.{outer_parts, mass_gives, block_cases, border_gives}
use Rattle.amd_model.proofs.States.StepFronts.{gone_named}

-- the live neighbours of a row
abbrev pub live_neighbour : Graph → State → ℕ → ℕ → Bool
live_neighbour g s v w = live s w && g.edge v w

-- every live row is a class and a path between live rows is an edge, bounds are at most live degrees, and no row is held last
pub record IsThin (g : Graph) (s : State) : Type 0 where
  pub last : (v : ℕ) → s.home v ≡ Last → g.size ≤ v
  pub alone : (v c : ℕ) → s.home v ≡ Live c → v ≡ c
  pub named : (v e : ℕ) → s.home v ≡ Gone e → s.home e ≡ Gone e
  pub edges : (v w : ℕ) → live s v ≡ true → live s w ≡ true → v ≢ w → Reach g (eliminated s) v w → g.edge v w ≡ true
  pub bounds : (v : ℕ) → s.home v ≡ Live v → s.bound v ≤ count_below g.size (live_neighbour g s v)
  -- a border has at most one row, and an edge joins it to the pivot row
  pub single : (e v w : ℕ) → s.border e v ≡ true → s.border e w ≡ true → v ≡ w
  pub border_edge : (e v : ℕ) → s.border e v ≡ true → g.edge e v ≡ true
  -- a block has at most one row besides the pivot row, an edge joins the two, and then the border is empty
  pub block_edge : (v e : ℕ) → s.home v ≡ Gone e → v ≢ e → g.edge e v ≡ true
  pub block_pair : (v w e : ℕ) → s.home v ≡ Gone e → s.home w ≡ Gone e → v ≢ e → w ≢ e → v ≡ w
  pub block_closed : (v e w : ℕ) → s.home v ≡ Gone e → v ≢ e → s.border e w ≡ true → ⊥

module _ (g : Graph) (laws : IsGraph g) (dense : ℕ → Bool) (none_dense : (v : ℕ) → v < g.size → dense v ≡ false) (s : State)
    (start : IsStart g dense s) where
  start_last : (v : ℕ) → s.home v ≡ Last → g.size ≤ v
  start_last v h = elim (cases_lt v g.size) [
    | inr l ↦ l
    | inl l ↦ absurd (elim (cases_eq (degree g v) 0) [
      | inl z ↦ (let k = start.empty v l (none_dense v l) z in cc)
      | inr nz ↦ (let k = start.alone v l (none_dense v l) (omega arith) in cc)
    ])
  ]

  own_block : (v e : ℕ) → s.home v ≡ Gone e → v ≡ e
  own_block v e h = elim (begins g laws dense s start v) [
    | is_last k ↦ cc
    | is_empty k z ↦ cc
    | is_live k ↦ cc
  ]

  -- an edge leads to live rows
  pub edge_live : (v w : ℕ) → g.edge v w ≡ true → live s w ≡ true
  edge_live v w e = elim (begins g laws dense s start w) [
    | is_last k ↦ absurd (true≢false (sym e ∙ laws.symmetric v w ∙ laws.in_size w v (start_last w k)))
    | is_empty k z ↦ absurd (no_edge g laws dense s start w v z (laws.symmetric w v ∙ e))
    | is_live k ↦ live_from w (s.home w) k
  ]

  start_bounds : (v : ℕ) → s.home v ≡ Live v → s.bound v ≤ count_below g.size (live_neighbour g s v)
  unfolding degree
  start_bounds v h = let b = start.bounds v h in
      let m : degree g v ≤ count_below g.size (live_neighbour g s v) =
      count_mono g.size (g.edge v) (live_neighbour g s v) (λ w l e. and_from (live s w) (g.edge v w) (edge_live v w e) e) in
      omega (arith, b, m)

  pub start_thin : IsThin g s
  start_thin = record {
    last = start_last;
    alone = own g laws dense s start;
    named = λ v e h. subst (λ k. s.home k ≡ Gone e) (own_block v e h) h;
    edges = λ v w lv lw ne r. path_is_edge g laws dense s start r;
    bounds = start_bounds;
    single = λ e v w b b'. absurd (true≢false (sym b ∙ start.borders e v));
    border_edge = λ e v b. absurd (true≢false (sym b ∙ start.borders e v));
    block_edge = λ v e h ne. absurd (ne (own_block v e h));
    block_pair = λ v w e h h' ne. absurd (ne (own_block v e h));
    block_closed = λ v e w h ne. absurd (ne (own_block v e h));
  }

module _ (g : Graph) (laws : IsGraph g) (forest : IsForest g) (aggressive : Bool) (c : ℕ) (old new : State) (sound : IsSound g old)
    (bounded : Bounded g old)
    (step : StepAt g aggressive c old new) (thin : IsThin g old) where
  after : IsSound g new
  after = step_sound g laws aggressive c old new sound step

  fate' : (v : ℕ) → Fate g laws aggressive c old new sound step v
  fate' = fate g laws aggressive c old new sound step

  pub pivot_home : old.home c ≡ Live c
  pivot_home = pivot_live g laws aggressive c old new sound step

  -- a live row is a class
  own_class : (v : ℕ) → live old v ≡ true → old.home v ≡ Live v
  own_class v l = let k = live_gives (old.home v) l in subst (λ m. old.home v ≡ Live m) (sym (thin.alone v k.0 k.1)) k.1

  live_in_size : (v : ℕ) → live old v ≡ true → v < g.size
  live_in_size v l = live_small g laws old sound v v (own_class v l)

  -- the pivot has at most one live neighbour, since some live row has
  pub front_few : count_below g.size (front g old c) ≤ 1
  front_few =
      let u = leaf g laws forest (live old) live_in_size c (live_from c (old.home c) pivot_home) in
      let hu = own_class u.0 (u.1).0 in
      let few : count_below g.size (live_neighbour g old u.0) ≤ 1 = (u.1).1 in
      let a = step.least u.0 (class_from u.0 (old.home u.0) hu) in
      let b = thin.bounds u.0 hu in
      let d = bounded c pivot_home in
      omega (arith, few, a, b, d)

  pub front_single : (v w : ℕ) → front g old c v ≡ true → front g old c w ≡ true → v ≡ w
  front_single v w fv fw = one_counted g.size (front g old c) front_few v w (front_below g laws old sound c v fv)
      (front_below g laws old sound c w fw) fv fw

  pub front_edge : (v : ℕ) → front g old c v ≡ true → g.edge c v ≡ true
  front_edge v f = thin.edges c v (live_from c (old.home c) pivot_home) (front_live g laws old sound c v f)
      (λ q. clash (class_from c (old.home v) (ap old.home (sym q) ∙ pivot_home)) (front_gives g old c v f).0)
      (front_reached g laws old sound c c v pivot_home f)

  -- a row of the block is the pivot row or the one row of L
  pub block_row : (v : ℕ) → block g aggressive old c v ≡ true → v ≢ c → front g old c v ≡ true
  block_row v b ne = elim (block_cases g aggressive old c v b) [
    | inl h ↦ absurd (ne (thin.alone v c h))
    | inr k ↦ subst (λ m. front g old c m ≡ true) (sym (thin.alone v k.0 k.2)) (mass_gives g aggressive old c k.0 k.1).in_front
  ]

  -- what is eliminated afterwards was so with the same home, or is in the new block
  pub gone_from_old : (v e : ℕ) → new.home v ≡ Gone e → ((e ≡ c) × (block g aggressive old c v ≡ true)) ⊎ ((e ≢ c) × (old.home v ≡ Gone e))
  gone_from_old v e h = elim (fate' v) [
    | goes b q ↦ inl ((let f : Gone e ≡ Gone c = sym h ∙ q in cc), b)
    | moves s x j p q r a o w ↦ absurd (cc)
    | stays ni nf q ↦ (let k : old.home v ≡ Gone e = sym q ∙ h in
        inr ((λ z. let m = thin.named v e k in let p = pivot_home in let y : old.home e ≡ Live c = ap old.home z ∙ p in cc), k))
  ]

  -- a border is the new one, or as it was
  border_from_old : (e v : ℕ) → new.border e v ≡ true → ((e ≡ c) × (border_of g aggressive old c v ≡ true))
      ⊎ ((e ≢ c) × (old.border e v ≡ true))
  border_from_old e v b = elim (cases_eq e c) [
    | inl q ↦ inl (q, sym (step.made v) ∙ ap (λ m. new.border m v) (sym q) ∙ b)
    | inr ne ↦ inr (ne, sym (step.border_stays e v ne) ∙ b)
  ]

  -- a live row that stays live keeps its live neighbours, unless it is in L
  neighbour_stays : (v w : ℕ) → live new v ≡ true → live old w ≡ true → border_of g aggressive old c v ≡ false → g.edge v w ≡ true →
      live new w ≡ true
  neighbour_stays v w lv lw off e = elim (fate' w) [
    | goes b q ↦ (let i = live_gives (new.home v) lv in
        clash (block_reaches g laws aggressive c old new sound step w v i.0 b i.1 (direct (laws.symmetric w v ∙ e))) off)
    | moves s x j p q r a o k ↦ live_from j (new.home w) q
    | stays ni nf q ↦ (let i = live_gives (old.home w) lw in live_from i.0 (new.home w) (q ∙ i.1))
  ]

  new_alone : (v i : ℕ) → new.home v ≡ Live i → v ≡ i
  new_alone v i h = elim (fate' v) [
    | goes b q ↦ absurd (cc)
    | moves s x j p q r a o w ↦ front_single v i (border_gives g aggressive old c v s).0
        (border_gives g aggressive old c i
        (subst (λ m. border_of g aggressive old c m ≡ true) (let f : Live j ≡ Live i = sym q ∙ h in cc) r)).0
    | stays ni nf q ↦ thin.alone v i (sym q ∙ h)
  ]

  new_last : (v : ℕ) → new.home v ≡ Last → g.size ≤ v
  new_last v h = elim (fate' v) [
    | goes b q ↦ absurd (cc)
    | moves s x j p q r a o w ↦ absurd (cc)
    | stays ni nf q ↦ thin.last v (sym q ∙ h)
  ]

  new_edges : (v w : ℕ) → live new v ≡ true → live new w ≡ true → v ≢ w → Reach g (eliminated new) v w → g.edge v w ≡ true
  new_edges v w lv lw ne r =
      let i = live_gives (new.home v) lv in let j = live_gives (new.home w) lw in
      let ov = was_live g laws aggressive c old new sound step v i.0 i.1 in
      let ow = was_live g laws aggressive c old new sound step w j.0 j.1 in
      elim (reach_split g (eliminated old) (block g aggressive old c) (eliminated new)
      (was_eliminated g laws aggressive c old new sound step) r) [
        | inl q ↦ thin.edges v w (live_from ov.0 (old.home v) ov.1) (live_from ow.0 (old.home w) ow.1) ne q
        | inr t ↦ absurd (ne (front_single v w
            (border_gives g aggressive old c v (block_reaches g laws aggressive c old new sound step t.enter v i.0 t.enters i.1
            (reach_flip g laws (eliminated old) t.to))).0
            (border_gives g aggressive old c w (block_reaches g laws aggressive c old new sound step t.leave w j.0 t.leaves j.1 t.on)).0))
      ]

  -- an other element that holds the row of L has no row beyond L
  none_beyond : (i e : ℕ) → new.home i ≡ Live i → border_of g aggressive old c i ≡ true → other g aggressive old c e ≡ true →
      holds g new e i ≡ true → beyond g old c e ≡ 0
  unfolding beyond
  none_beyond i e hi on o h = count_zero g.size (λ v. old.border e v && not (front g old c v))
      (λ v l. elim (cases_Bool (old.border e v && not (front g old c v))) [
        | inr f ↦ f
        | inl t ↦ (let p = and_parts (old.border e v) (not (front g old c v)) t in
            let b : old.border e i ≡ true = sym (other_border g laws aggressive c old new sound step e i o) ∙
            (holds_gives g new e i h).rows i (live_small g laws new after i i hi) hi in
            clash (subst (λ m. front g old c m ≡ true) (thin.single e i v b p.0)
            (border_gives g aggressive old c i on).0) (not-true (front g old c v) p.1))
      ])

  -- a direct neighbour outside L is a live neighbour, and stays one
  outer_stays : (i v : ℕ) → new.home i ≡ Live i → any_below g.size (λ d. outer g old c i d && in_class old d v) ≡ true →
      live_neighbour g new i v ≡ true
  outer_stays i v hi h =
      let oi = was_class g laws aggressive c old new sound step i hi in
      let d = any_gives g.size (λ d. outer g old c i d && in_class old d v) h in
      let p = and_parts (outer g old c i d.0) (in_class old d.0 v) d.2 in
      let o = outer_parts g old c i d.0 p.0 in
      let hv = class_gives d.0 (old.home v) p.1 in
      let same : v ≡ d.0 = thin.alone v d.0 hv in
      and_from (live new v) (g.edge i v)
      (elim (fate' v) [
        | goes b q ↦ clash (subst (λ m. front g old c m ≡ true) same (block_row v b (λ z. o.2 (sym same ∙ z)))) o.1
        | moves s x j r q u a k w ↦ live_from j (new.home v) q
        | stays ni nf q ↦ live_from d.0 (new.home v) (q ∙ hv)
      ])
      (neighbours_edge g laws old sound i d.0 i v o.0 oi hv)

  outside_few : (i : ℕ) → new.home i ≡ Live i → border_of g aggressive old c i ≡ true →
      outside g aggressive old new c i ≤ count_below g.size (live_neighbour g new i)
  unfolding outside
  outside_few i hi on =
      let far : sum_below g.size (λ e. cond (other g aggressive old c e && holds g new e i) (beyond g old c e) 0) ≡ 0
      = sum_zero g.size (λ e. cond (other g aggressive old c e && holds g new e i) (beyond g old c e) 0)
      (λ e l. given (other g aggressive old c e && holds g new e i) (beyond g old c e)
      (λ h. let p = and_parts (other g aggressive old c e) (holds g new e i) h in none_beyond i e hi on p.0 p.1)) in
      let near : count_below g.size (λ v. any_below g.size (λ d. outer g old c i d && in_class old d v)) ≤ count_below g.size
      (live_neighbour g new i)
      = count_mono g.size (λ v. any_below g.size (λ d. outer g old c i d && in_class old d v)) (live_neighbour g new i)
      (λ v l h. outer_stays i v hi h) in
      omega arith
    where
      given : (b : Bool) (k : ℕ) → (b ≡ true → k ≡ 0) → cond b k 0 ≡ 0
      given true k f = f refl
      given false k f = refl

  new_bound_few : (i : ℕ) → new.home i ≡ Live i → border_of g aggressive old c i ≡ true →
      new_bound g aggressive old new c i ≤ count_below g.size (live_neighbour g new i)
  unfolding new_bound
  new_bound_few i hi on =
      let far = outside_few i hi on in
      let few : count_below g.size (border_of g aggressive old c) ≤ 1 = (
      let m = count_mono g.size (border_of g aggressive old c) (front g old c) (λ v l b. (border_gives g aggressive old c v b).0) in
      let f = front_few in
      omega (arith, m, f)) in
      let own' : 0 < count_below g.size (in_class new i) = count_pos g.size (in_class new i) i (live_small g laws new after i i hi)
      (class_from i (new.home i) hi) in
      omega (arith, far)

  new_bounds : (v : ℕ) → new.home v ≡ Live v → new.bound v ≤ count_below g.size (live_neighbour g new v)
  new_bounds v h = let ov = was_class g laws aggressive c old new sound step v h in elim (cases_Bool (border_of g aggressive old c v)) [
    | inl on ↦ (let b = step.bounds v (class_from v (new.home v) h) on in let k = new_bound_few v h on in omega (arith, b, k))
    | inr off ↦ (
        let b = step.bound_stays v (class_from v (new.home v) h) off in
        let k = thin.bounds v ov in
        let m = count_mono g.size (live_neighbour g old v) (live_neighbour g new v)
        (λ w l n. let p = and_parts (live old w) (g.edge v w) n in
        and_from (live new w) (g.edge v w) (neighbour_stays v w (live_from v (new.home v) h) p.0 off p.1) p.1) in
        omega (arith, b, k, m))
  ]

  new_single : (e v w : ℕ) → new.border e v ≡ true → new.border e w ≡ true → v ≡ w
  new_single e v w bv bw = elim (border_from_old e v bv) [
    | inl p ↦ elim (border_from_old e w bw) [
      | inl q ↦ front_single v w (border_gives g aggressive old c v p.1).0 (border_gives g aggressive old c w q.1).0
      | inr q ↦ absurd (q.0 p.0)
    ]
    | inr p ↦ elim (border_from_old e w bw) [
      | inl q ↦ absurd (p.0 q.0)
      | inr q ↦ thin.single e v w p.1 q.1
    ]
  ]

  new_border_edge : (e v : ℕ) → new.border e v ≡ true → g.edge e v ≡ true
  new_border_edge e v b = elim (border_from_old e v b) [
    | inl p ↦ subst (λ m. g.edge m v ≡ true) (sym p.0) (front_edge v (border_gives g aggressive old c v p.1).0)
    | inr p ↦ thin.border_edge e v p.1
  ]

  new_block_edge : (v e : ℕ) → new.home v ≡ Gone e → v ≢ e → g.edge e v ≡ true
  new_block_edge v e h ne = elim (gone_from_old v e h) [
    | inl p ↦ subst (λ m. g.edge m v ≡ true) (sym p.0) (front_edge v (block_row v p.1 (λ q. ne (q ∙ sym p.0))))
    | inr p ↦ thin.block_edge v e p.1 ne
  ]

  new_block_pair : (v w e : ℕ) → new.home v ≡ Gone e → new.home w ≡ Gone e → v ≢ e → w ≢ e → v ≡ w
  new_block_pair v w e hv hw nv nw = elim (gone_from_old v e hv) [
    | inl p ↦ elim (gone_from_old w e hw) [
      | inl q ↦ front_single v w (block_row v p.1 (λ z. nv (z ∙ sym p.0))) (block_row w q.1 (λ z. nw (z ∙ sym q.0)))
      | inr q ↦ absurd (q.0 p.0)
    ]
    | inr p ↦ elim (gone_from_old w e hw) [
      | inl q ↦ absurd (p.0 q.0)
      | inr q ↦ thin.block_pair v w e p.1 q.1 nv nw
    ]
  ]

  new_block_closed : (v e w : ℕ) → new.home v ≡ Gone e → v ≢ e → new.border e w ≡ true → ⊥
  new_block_closed v e w h ne b = elim (gone_from_old v e h) [
    | inl p ↦ elim (border_from_old e w b) [
      | inl q ↦ clash (subst (λ m. block g aggressive old c m ≡ true)
          (front_single v w (block_row v p.1 (λ z. ne (z ∙ sym p.0))) (border_gives g aggressive old c w q.1).0) p.1)
          (border_gives g aggressive old c w q.1).1
      | inr q ↦ q.0 p.0
    ]
    | inr p ↦ elim (border_from_old e w b) [
      | inl q ↦ p.0 q.0
      | inr q ↦ thin.block_closed v e w p.1 ne q.1
    ]
  ]

  pub step_thin : IsThin g new
  step_thin = record {
    last = new_last;
    alone = new_alone;
    named = gone_named g laws aggressive c old new sound step thin.named;
    edges = new_edges;
    bounds = new_bounds;
    single = new_single;
    border_edge = new_border_edge;
    block_edge = new_block_edge;
    block_pair = new_block_pair;
    block_closed = new_block_closed;
  }
