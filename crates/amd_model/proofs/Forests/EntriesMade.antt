-- In a run on a forest the entries of the elements made so far and the edges among the live rows are all edges.
use Rattle.std.proofs.Common.{ℕ, Bool, true, false, ◌≡◌, ◌≢◌, ◌<◌, ◌≤◌, ◌+◌, ◌&&◌, not, cond, inl, inr, refl, sym, ◌∙◌, ap, subst, arith}
use Rattle.std.specs.Prelude.{◌==◌, nat_lt}
use Rattle.std.proofs.lemmas.Bool.{cases_Bool, false≢true, cases_eq, and_parts, and_from, not-true, not_from_false, eq-eqb, ne_eqb}
use Rattle.std.specs.Cmp.{both_ways}
use Rattle.amd_model.specs.Below.{sum_below, count_below}
use Rattle.amd_model.specs.Graph.{Graph, IsGraph, degree, edge_count}
use Rattle.amd_model.specs.Forest.{IsForest}
use Rattle.amd_model.specs.State.{State, Live, live, in_class, in_block, is_element, front, IsStart}
use Rattle.amd_model.specs.Step.{StepAt, block, border_of}
use Rattle.amd_model.specs.Figures.{front_sum, is_made, figure, entries}
use Rattle.amd_model.specs.Reach.{direct}
use Rattle.amd_model.specs.Sound.{IsSound}
use Rattle.amd_model.proofs.Counting.Below.{count_mono, count_same, count_split, count_pos, sum_same, clash, sum_at, sum_zero, count_zero}
use Rattle.amd_model.proofs.Counting.Points.{zero_counted, count_drop}
use Rattle.amd_model.proofs.Forests.EdgesWithin.{within, without, within_same, within_without}
use Rattle.amd_model.proofs.Figures.Sums.{entries_sum}
use Rattle.amd_model.proofs.States.Steps.{block_pivot, border_gives}
use Rattle.amd_model.proofs.States.Words.{class_gives, live_gives, live_from, block_gives, block_from}
use Rattle.amd_model.proofs.States.Sound.{live_small, front_live, reached_front}
use Rattle.amd_model.proofs.States.SoundStep.{Fate, goes, moves, stays, fate, was_live, block_reaches, live_not_block}
use Rattle.amd_model.proofs.States.SoundStart.{begins, is_last, is_empty, is_live}
use Rattle.amd_model.proofs.States.Bounds.{Bounded}
use Rattle.amd_model.proofs.Forests.Thin.{IsThin, edge_live, pivot_home, front_few, front_single, front_edge, block_row}
use Rattle.amd_model.proofs.Forests.Thin.{gone_from_old}
use Rattle.amd_model.proofs.States.StepFronts.{made_not, made_stays, made_new, block_count_stays, border_count_stays}

-- the edges among the live rows
unfoldable pub edges_left : Graph → State → ℕ
edges_left g s = within g.edge g.size (live s)

-- the entries of a front with at most two rows are the rows besides the pivot row
few_entries : (f r l : ℕ) → f + r ≡ l + 1 → 0 < f → l ≤ 1 → front_sum entries f r ≡ l
few_entries f r l sum some few = elim (cases_eq f 1) [
  | inl q ↦ (let z : r ≡ l = omega arith in let k = entries_sum 1 l in let m : front_sum entries 1 l ≡ l = omega (arith, k) in cc)
  | inr ne ↦ (let q : f ≡ 2 = omega arith in let z : r ≡ 0 = omega arith in let o : l ≡ 1 = omega arith in
      let k = entries_sum 2 0 in let m : front_sum entries 2 0 ≡ 1 = omega (arith, k) in cc)
]

module _ (g : Graph) (laws : IsGraph g) (forest : IsForest g) (aggressive : Bool) (c : ℕ) (old new : State) (sound : IsSound g old)
    (bounded : Bounded g old)
    (step : StepAt g aggressive c old new) (thin : IsThin g old) where
  fate' : (v : ℕ) → Fate g laws aggressive c old new sound step v
  fate' = fate g laws aggressive c old new sound step

  home_c : old.home c ≡ Live c
  home_c = pivot_home g laws forest aggressive c old new sound bounded step thin

  one_row : (v w : ℕ) → front g old c v ≡ true → front g old c w ≡ true → v ≡ w
  one_row = front_single g laws forest aggressive c old new sound bounded step thin

  edge_to : (v : ℕ) → front g old c v ≡ true → g.edge c v ≡ true
  edge_to = front_edge g laws forest aggressive c old new sound bounded step thin

  row_of : (v : ℕ) → block g aggressive old c v ≡ true → v ≢ c → front g old c v ≡ true
  row_of = block_row g laws forest aggressive c old new sound bounded step thin

  size_c : c < g.size
  size_c = live_small g laws old sound c c home_c

  block_c : block g aggressive old c c ≡ true
  block_c = block_pivot g aggressive old c c home_c

  joined_differ : (v w : ℕ) → g.edge v w ≡ true → v ≢ w
  joined_differ v w e q = clash e (ap (g.edge v) (sym q) ∙ laws.no_loop v)

  -- an edge among live rows other than the pivot row joins live rows afterwards
  edge_stays : (v w : ℕ) → live old v ≡ true → live old w ≡ true → v ≢ c → w ≢ c → g.edge v w ≡ true → live new v ≡ true
  edge_stays v w lv lw nv nw e = elim (fate' v) [
    | goes b q ↦ absurd (joined_differ v w e (one_row v w (row_of v b nv) (elim (fate' w) [
      | goes b' q' ↦ row_of w b' nw
      | moves s x j p q' r a o k ↦ (border_gives g aggressive old c w s).0
      | stays ni nf q' ↦ (let i = live_gives (old.home w) lw in (border_gives g aggressive old c w
          (block_reaches g laws aggressive c old new sound step v w i.0 b (q' ∙ i.1) (direct e)))).0
    ])))
    | moves s x j p q r a o k ↦ live_from j (new.home v) q
    | stays ni nf q ↦ (let i = live_gives (old.home v) lv in live_from i.0 (new.home v) (q ∙ i.1))
  ]

  new_live_old : (v : ℕ) → live new v ≡ true → without (live old) c v ≡ true
  unfolding without
  new_live_old v l = let i = live_gives (new.home v) l in let o = was_live g laws aggressive c old new sound step v i.0 i.1 in
      and_from (live old v) (not (v == c)) (live_from o.0 (old.home v) o.1) (not_from_false (v == c) (ne_eqb v c
      (λ q. live_not_block g laws aggressive c old new sound step v i.0 i.1
      (subst (λ m. block g aggressive old c m ≡ true) (sym q) block_c))))

  without_gives : (v : ℕ) → without (live old) c v ≡ true → (live old v ≡ true) × (v ≢ c)
  unfolding without
  without_gives v h = let p = and_parts (live old v) (not (v == c)) h in (p.0, (λ q. clash (eq-eqb v c q) (not-true (v == c) p.1)))

  left_after : within g.edge g.size (without (live old) c) ≡ within g.edge g.size (live new)
  left_after = within_same g.edge g.size (without (live old) c) (live new) (λ w v lw lv.
      let a : Bool = without (live old) c w in let b : Bool = without (live old) c v in
      both_ways (a && (b && g.edge w v)) (live new w && (live new v && g.edge w v))
      (λ h. let p = and_parts a (b && g.edge w v) h in let q = and_parts b (g.edge w v) p.1 in let w' = without_gives w p.0 in
      let v' = without_gives v q.0 in
      and_from (live new w) (live new v && g.edge w v) (edge_stays w v w'.0 v'.0 w'.1 v'.1 q.1)
      (and_from (live new v) (g.edge w v) (edge_stays v w v'.0 w'.0 v'.1 w'.1 (laws.symmetric v w ∙ q.1)) q.1))
      (λ h. let p = and_parts (live new w) (live new v && g.edge w v) h in let q = and_parts (live new v) (g.edge w v) p.1 in
      and_from a (b && g.edge w v) (new_live_old w p.0) (and_from b (g.edge w v) (new_live_old v q.0) q.1)))

  -- L has the live neighbours of the pivot row
  front_neighbours : count_below g.size (λ v. live old v && g.edge c v) ≡ count_below g.size (front g old c)
  front_neighbours = count_same g.size (λ v. live old v && g.edge c v) (front g old c)
      (λ v l. both_ways (live old v && g.edge c v) (front g old c v)
      (λ h. let p = and_parts (live old v) (g.edge c v) h in reached_front g laws old sound c c v home_c p.0
      (elim (cases_Bool (in_class old c v)) [
        | inl k ↦ absurd (joined_differ c v p.1 (sym (thin.alone v c (class_gives c (old.home v) k))))
        | inr k ↦ k
      ]) (direct p.1))
      (λ f. and_from (live old v) (g.edge c v) (front_live g laws old sound c v f) (edge_to v f)))

  pub left_step : edges_left g old ≡ edges_left g new + count_below g.size (front g old c)
  unfolding edges_left
  left_step =
      let a = within_without g.edge laws.symmetric laws.no_loop g.size (live old) c size_c (live_from c (old.home c) home_c) in
      let b = left_after in let d = front_neighbours in omega (arith, a, b, d)

  border_is : (v : ℕ) → border_of g aggressive old c v ≡ (front g old c v && not (block g aggressive old c v))
  unfolding border_of
  border_is v = refl

  -- the new block and the new border have the pivot row and L
  new_rows : count_below g.size (in_block new c) + count_below g.size (new.border c) ≡ count_below g.size (front g old c) + 1
  new_rows =
      let B : ℕ → Bool = block g aggressive old c in let F : ℕ → Bool = front g old c in
      let a : count_below g.size (in_block new c) ≡ count_below g.size B =
      count_same g.size (in_block new c) B (λ v l. both_ways (in_block new c v) (B v)
      (λ h. elim (gone_from_old g laws forest aggressive c old new sound bounded step thin v c (block_gives c (new.home v) h))
      [ inl p ↦ p.1 | inr p ↦ absurd (p.0 refl) ])
      (λ h. block_from c (new.home v) (step.gone v h))) in
      let b : count_below g.size (new.border c) ≡ count_below g.size (λ v. F v && not (B v)) =
      count_same g.size (new.border c) (λ v. F v && not (B v)) (λ v l. step.made v ∙ border_is v) in
      let d : count_below g.size B ≡ count_below g.size (λ v. B v && not (v == c)) + cond (B c) 1 0 = count_drop g.size B c size_c in
      let e : cond {A = ℕ} (B c) 1 0 ≡ 1 = ap (λ b. cond {A = ℕ} b 1 0) block_c in
      let f : count_below g.size (λ v. B v && not (v == c)) ≡ count_below g.size (λ v. F v && B v) =
      count_same g.size (λ v. B v && not (v == c)) (λ v. F v && B v) (λ v l. besides v) in
      let h : count_below g.size F ≡ count_below g.size (λ v. F v && B v) + count_below g.size (λ v. F v && not (B v)) =
      count_split g.size F B in
      omega arith
    where
      besides : (v : ℕ) → (block g aggressive old c v && not (v == c)) ≡ (front g old c v && block g aggressive old c v)
      besides v = both_ways (block g aggressive old c v && not (v == c)) (front g old c v && block g aggressive old c v)
          (λ h. let p = and_parts (block g aggressive old c v) (not (v == c)) h in
          and_from (front g old c v) (block g aggressive old c v) (row_of v p.0 (λ q. clash (eq-eqb v c q) (not-true (v == c) p.1))) p.0)
          (λ h. let p = and_parts (front g old c v) (block g aggressive old c v) h in
          and_from (block g aggressive old c v) (not (v == c)) p.1
          (not_from_false (v == c) (ne_eqb v c (λ q. joined_differ c v (edge_to v p.0) (sym q)))))

  new_degree : count_below g.size (front g old c) ≤ degree g c
  unfolding degree
  new_degree = count_mono g.size (front g old c) (g.edge c) (λ v l f. edge_to v f)

  module _ (dense : ℕ → Bool) (none_dense : count_below g.size dense ≡ 0) where
    -- what an element adds to the figure
    part : State → ℕ → ℕ
    part s e = cond (is_made g s e) (front_sum entries (count_below g.size (in_block s e))
        (count_below g.size (s.border e) + count_below g.size dense)) 0

    part_same : (e : ℕ) → e ≢ c → part new e ≡ part old e
    unfolding part
    part_same e ne =
        let a = made_stays g laws aggressive c old new sound step e ne in
        let b = block_count_stays g laws aggressive c old new sound step e ne in
        let d = border_count_stays g laws aggressive c old new sound step e ne in
        cc

    part_made : part new c ≡ count_below g.size (front g old c)
    unfolding part
    part_made =
        let f : ℕ = count_below g.size (in_block new c) in let r : ℕ = count_below g.size (new.border c) + count_below g.size dense in
        let l : ℕ = count_below g.size (front g old c) in
        let rows = new_rows in
        let few : l ≤ 1 = front_few g laws forest aggressive c old new sound bounded step thin in
        let some : 0 < f = count_pos g.size (in_block new c) c size_c (block_from c (new.home c) (step.gone c block_c)) in
        let is : front_sum entries f r ≡ l = few_entries f r l (omega (arith, rows, none_dense)) some few in
        elim (cases_eq l 0) [
          | inl z ↦ (let k : front_sum entries f r ≡ 0 = is ∙ z in nothing (is_made g new c) (front_sum entries f r) k ∙ sym z)
          | inr nz ↦ (let d = new_degree in let m = made_new g laws aggressive c old new sound step (omega (arith, d)) in
              ap (λ b. cond b (front_sum entries f r) 0) m ∙ is)
        ]
      where
        nothing : (b : Bool) (k : ℕ) → k ≡ 0 → cond b k 0 ≡ 0
        nothing true k q = q
        nothing false k q = refl

    part_before : part old c ≡ 0
    unfolding part
    part_before = ap (λ b.
        cond b (front_sum entries (count_below g.size (in_block old c)) (count_below g.size (old.border c) + count_below g.size dense)) 0)
        (made_not g laws aggressive c old new sound step)

    pub figure_step : figure entries g dense new ≡ figure entries g dense old + count_below g.size (front g old c)
    unfolding figure part
    figure_step =
        let a = part_made in let b = part_before in
        let s : sum_below g.size (part new) + part old c ≡ sum_below g.size (part old) + part new c =
        sum_at g.size (part new) (part old) c size_c (λ e l ne. part_same e ne) in
        omega (arith, a, b, s)

-- at the start no entry is made, and all edges are left
pub start_entries : (g : Graph) → IsGraph g → (dense : ℕ → Bool) → count_below g.size dense ≡ 0 → (s : State) → IsStart g dense s →
    figure entries g dense s + edges_left g s ≡ edge_count g
unfolding figure edges_left within edge_count is_made
start_entries g laws dense none_dense s start =
    let free : (v : ℕ) → v < g.size → dense v ≡ false = zero_counted g.size dense none_dense in
    let share : ℕ → ℕ = λ e. front_sum entries (count_below g.size (in_block s e))
    (count_below g.size (s.border e) + count_below g.size dense) in
    let parts : sum_below g.size (λ e. cond (is_element s e && nat_lt 0 (degree g e)) (share e) 0) ≡ 0
    = sum_zero g.size (λ e. cond (is_element s e && nat_lt 0 (degree g e)) (share e) 0) (λ e l. ap (λ b. cond b (share e) 0) (unmade e)) in
    let last : front_sum entries (count_below g.size dense) 0 ≡ 0 = ap (λ f. front_sum entries f 0) none_dense ∙ few_none in
    let left : sum_below g.size (λ w. count_below w (λ v. live s w && (live s v && g.edge w v))) ≡ sum_below g.size
    (λ w. count_below w (g.edge w))
    = sum_same g.size (λ w. count_below w (λ v. live s w && (live s v && g.edge w v))) (λ w. count_below w (g.edge w))
    (λ w lw. count_same w (λ v. live s w && (live s v && g.edge w v)) (g.edge w) (λ v lv.
    both_ways (live s w && (live s v && g.edge w v)) (g.edge w v)
    (λ h. (and_parts (live s v) (g.edge w v) (and_parts (live s w) (live s v && g.edge w v) h).1).1)
    (λ e. and_from (live s w) (live s v && g.edge w v) (edge_live g laws dense free s start v w (laws.symmetric v w ∙ e))
    (and_from (live s v) (g.edge w v) (edge_live g laws dense free s start w v e) e)))) in
    omega arith
  where
    few_none : front_sum entries 0 0 ≡ 0
    few_none = (let k = entries_sum 0 0 in omega (arith, k))

    unmade : (e : ℕ) → (is_element s e && nat_lt 0 (degree g e)) ≡ false
    unmade e = elim (cases_Bool (is_element s e && nat_lt 0 (degree g e))) [
      | inr f ↦ f
      | inl t ↦ (let p = and_parts (is_element s e) (nat_lt 0 (degree g e)) t in let h = block_gives e (s.home e) p.0 in
          absurd (elim (begins g laws dense s start e) [
            | is_last k ↦ cc
            | is_empty k z ↦ false≢true (sym (ap (nat_lt 0) z) ∙ p.1)
            | is_live k ↦ cc
          ]))
    ]

-- at the end no edge is left
pub end_edges_left : (g : Graph) (s : State) → ((v : ℕ) → live s v ≡ false) → edges_left g s ≡ 0
unfolding edges_left within
end_edges_left g s over = sum_zero g.size (λ w. count_below w (λ v. live s w && (live s v && g.edge w v)))
    (λ w lw. count_zero w (λ v. live s w && (live s v && g.edge w v))
    (λ v lv. ap (λ b. b && (live s v && g.edge w v)) (over w)))
