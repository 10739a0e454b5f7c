-- The figures of a run are at most those of a full matrix: by induction over its steps.
use Rattle.std.proofs.Common.{ℕ, Bool, true, false, ◌≡◌, ◌||◌, ◌<◌, ◌≤◌, ◌+◌, max, cond, inl, inr, sym, ◌∙◌, ap, arith, List, []}
use Rattle.std.proofs.Common.{◌∷◌}
use Rattle.std.specs.Prelude.{nat_lt}
use Rattle.std.proofs.lemmas.Bool.{cases_Bool, cases_eq, and_parts, cond-true, cond-false}
use Rattle.std.proofs.Common.{ltb-true}
use Rattle.amd_model.specs.Below.{sum_below, count_below}
use Rattle.amd_model.specs.Graph.{Graph, IsGraph, degree}
use Rattle.amd_model.specs.State.{State, Gone, live, in_block, is_element, IsStart}
use Rattle.amd_model.specs.Step.{StepAt, block, border_of}
use Rattle.amd_model.specs.Run.{Steps, last_state}
use Rattle.amd_model.specs.Figures.{front_sum, is_made, figure, entries, greatest_front}
use Rattle.amd_model.specs.Laws.{FiguresAreSmall, AtTheEnd}
use Rattle.amd_model.specs.Sound.{IsSound}
use Rattle.amd_model.proofs.Counting.Below.{count_same, count_mono, sum_at, sum_zero, count_most, clash}
use Rattle.amd_model.proofs.States.Steps.{border_gives}
use Rattle.amd_model.proofs.States.Words.{live_gives, live_from, block_gives}
use Rattle.amd_model.proofs.States.Sound.{live_small}
use Rattle.amd_model.proofs.States.SoundStep.{step_sound, goes, moves, stays, fate, pivot_live}
use Rattle.amd_model.proofs.States.SoundStart.{start_sound, begins, is_last, is_empty, is_live}
use Rattle.amd_model.proofs.Listings.Tree.{IsTree, step_tree, start_tree}
use Rattle.amd_model.proofs.Figures.FrontSums.{front_fits, first_sums_rise, first_sum, max_most}
use Rattle.amd_model.proofs.Counting.Unions.{count_apart}
use Rattle.amd_model.proofs.States.StepFronts.{block_new, live_parts, made_stays, block_count_stays, border_count_stays, made_not}

pub record Made (g : Graph) (s : State) (e : ℕ) : Type 0 where
  pub element : s.home e ≡ Gone e
  pub busy : 0 < degree g e

pub made_gives : (g : Graph) (s : State) (e : ℕ) → is_made g s e ≡ true → Made g s e
unfolding is_made
made_gives g s e h = let p = and_parts (is_element s e) (nat_lt 0 (degree g e)) h in
    record { element = block_gives e (s.home e) p.0; busy = ltb-true 0 (degree g e) p.1 }

-- what a step does to blocks, borders and the number of live rows
module _ (g : Graph) (laws : IsGraph g) (aggressive : Bool) (c : ℕ) (old new : State) (sound : IsSound g old)
    (step : StepAt g aggressive c old new) (tree : IsTree g old) where
  pivot_free : (v : ℕ) → old.home v ≡ Gone c → ⊥
  pivot_free v h = let a = tree.named v c h in let b = pivot_live g laws aggressive c old new sound step in cc

  pub border_live : count_below g.size (border_of g aggressive old c) ≤ count_below g.size (live new)
  border_live = count_mono g.size (border_of g aggressive old c) (live new) (λ v l s. elim (fate g laws aggressive c old new sound step v) [
    | goes b q ↦ clash b (border_gives g aggressive old c v s).1
    | moves t x j p q r a o w ↦ live_from j (new.home v) q
    | stays ni nf q ↦ clash (border_gives g aggressive old c v s).0 nf
  ])

  pub rows_new : count_below g.size (in_block new c) ≡ count_below g.size (block g aggressive old c)
  rows_new = count_same g.size (in_block new c) (block g aggressive old c)
      (λ v l. block_new g laws aggressive c old new sound step pivot_free v)

  pub border_new : count_below g.size (new.border c) ≡ count_below g.size (border_of g aggressive old c)
  border_new = count_same g.size (new.border c) (border_of g aggressive old c) (λ v l. step.made v)

-- the share of an element, with that many dense rows
unfoldable pub share_at : (ℕ → ℕ) → Graph → ℕ → State → ℕ → ℕ
share_at share g dense_count s e =
    cond (is_made g s e) (front_sum share (count_below g.size (in_block s e)) (count_below g.size (s.border e) + dense_count)) 0

-- what holds of each state of a run with that many dense rows
pub record IsSmall (g : Graph) (dense_count : ℕ) (s : State) : Type 0 where
  pub room : count_below g.size (live s) + dense_count ≤ g.size
  pub sum : sum_below g.size (share_at entries g dense_count s) + front_sum entries
      (count_below g.size (live s) + dense_count) 0 ≤ front_sum entries g.size 0
  pub fronts : (e : ℕ) → e < g.size → is_made g s e ≡ true →
      count_below g.size (in_block s e) + (count_below g.size (s.border e) + dense_count) ≤ g.size

pub start_small : (g : Graph) → IsGraph g → (dense : ℕ → Bool) (s : State) → IsStart g dense s → IsSmall g (count_below g.size dense) s
unfolding share_at
start_small g laws dense s start =
    let dense_count : ℕ = count_below g.size dense in
    let none : (e : ℕ) → is_made g s e ≡ false = λ e. elim (cases_Bool (is_made g s e)) [
      | inr h ↦ h
      | inl h ↦ (let m = made_gives g s e h in let k = m.element in elim (begins g laws dense s start e) [
        | is_last q ↦ absurd (cc)
        | is_empty q z ↦ (let b = m.busy in absurd (omega arith))
        | is_live q ↦ absurd (cc)
      ])
    ] in
    let apart = count_apart g.size (live s) dense (λ v l a b. let k = live_gives (s.home v) a in let q = start.last v l b in let z = k.1 in
    cc) in
    let most = count_most g.size (λ v. live s v || dense v) in
    let room : count_below g.size (live s) + dense_count ≤ g.size = omega (arith, apart, most) in
    let zero_sum = sum_zero g.size (share_at entries g dense_count s) (λ e l. cond-false (is_made g s e) _ 0 (none e)) in
    let rise = first_sums_rise (count_below g.size (live s) + dense_count) g.size room in
    record {
      room = room;
      sum = omega (arith, zero_sum, rise);
      fronts = λ e l h. clash h (none e);
    }

pub step_small : (g : Graph) → IsGraph g → (aggressive : Bool) (dense_count c : ℕ) (old new : State) → IsSound g old → IsTree g old →
    StepAt g aggressive c old new → IsSmall g dense_count old → IsSmall g dense_count new
unfolding share_at
step_small g laws aggressive dense_count c old new sound tree step small =
    let f : ℕ = count_below g.size (block g aggressive old c) in
    let b : ℕ = count_below g.size (border_of g aggressive old c) in
    let n : ℕ = count_below g.size (live new) in
    let o : ℕ = count_below g.size (live old) in
    let parts : o ≡ n + f = live_parts g laws aggressive c old new sound step in
    let within : b ≤ n = border_live g laws aggressive c old new sound step tree in
    let rows : count_below g.size (in_block new c) ≡ f = rows_new g laws aggressive c old new sound step tree in
    let border : count_below g.size (new.border c) ≡ b = border_new g laws aggressive c old new sound step tree in
    let l : c < g.size = live_small g laws old sound c c (pivot_live g laws aggressive c old new sound step) in
    let room : o + dense_count ≤ g.size = small.room in
    let at : sum_below g.size (share_at entries g dense_count new) + share_at entries g dense_count old c ≡ sum_below g.size
    (share_at entries g dense_count old) + share_at entries g dense_count new c
    = sum_at g.size (share_at entries g dense_count new) (share_at entries g dense_count old) c l (λ e le ne.
    let m = made_stays g laws aggressive c old new sound step e ne in
    let r = block_count_stays g laws aggressive c old new sound step e ne in
    let k = border_count_stays g laws aggressive c old new sound step e ne in cc) in
    let before : share_at entries g dense_count old c ≡ 0 = cond-false (is_made g old c) _ 0
    (made_not g laws aggressive c old new sound step) in
    let after : share_at entries g dense_count new c ≤ front_sum entries f (b + dense_count) = elim (cases_Bool (is_made g new c)) [
      | inl y ↦ (let q = cond-true (is_made g new c) (front_sum entries (count_below g.size (in_block new c))
          (count_below g.size (new.border c) + dense_count)) 0 y in
          let e : front_sum entries (count_below g.size (in_block new c)) (count_below g.size (new.border c) + dense_count) ≡ front_sum
          entries f (b + dense_count) = cc in omega (arith, q, e))
      | inr y ↦ (let q = cond-false (is_made g new c) (front_sum entries (count_below g.size (in_block new c))
          (count_below g.size (new.border c) + dense_count)) 0 y in omega (arith, q))
    ] in
    let fits : front_sum entries f (b + dense_count) + front_sum entries (n + dense_count) 0 ≤ front_sum entries (n + dense_count + f) 0 =
    front_fits f (b + dense_count) (n + dense_count) (omega arith) in
    let same : front_sum entries (n + dense_count + f) 0 ≡ front_sum entries (o + dense_count) 0 =
    ap (λ k. front_sum entries k 0) (let e : n + dense_count + f ≡ o + dense_count = omega arith in e) in
    let sum = small.sum in
    record {
      room = omega arith;
      sum = omega arith;
      fronts = λ e le h. elim (cases_eq e c) [
        | inl q ↦ (let r : count_below g.size (in_block new e) ≡ count_below g.size (in_block new c) =
            ap (λ k. count_below g.size (in_block new k)) q in
            let k : count_below g.size (new.border e) ≡ count_below g.size (new.border c) = ap (λ k. count_below g.size (new.border k)) q in
            omega arith)
        | inr ne ↦ (let r = block_count_stays g laws aggressive c old new sound step e ne in
            let k = border_count_stays g laws aggressive c old new sound step e ne in
            let t = small.fronts e le (sym (made_stays g laws aggressive c old new sound step e ne) ∙ h) in omega arith)
      ];
    }

pub steps_small : (g : Graph) → IsGraph g → (aggressive : Bool) (dense_count : ℕ) (s : State) (states : List State) → IsSound g s →
    IsTree g s → IsSmall g dense_count s → Steps g aggressive s states → IsSmall g dense_count (last_state s states)
steps_small g laws aggressive dense_count s [] sound tree small steps = small
steps_small g laws aggressive dense_count s (t ∷ rest) sound tree small steps =
    let c : ℕ = (steps.0).0 in let step = (steps.0).1 in
    steps_small g laws aggressive dense_count t rest (step_sound g laws aggressive c s t sound step)
    (step_tree g laws aggressive c s t sound step tree)
    (step_small g laws aggressive dense_count c s t sound tree step small) steps.1

-- at the end no row is live, and the dense rows are one front more
pub figures_are_small : AtTheEnd FiguresAreSmall
unfolding figure share_at greatest_front
figures_are_small g dense aggressive first states laws run =
    let s : State = last_state first states in
    let dense_count : ℕ = count_below g.size dense in
    let small = steps_small g laws aggressive dense_count first states (start_sound g laws dense first run.start)
    (start_tree g laws dense first run.start) (start_small g laws dense first run.start) run.steps in
    let sum : sum_below g.size (share_at entries g dense_count s) + front_sum entries
    (count_below g.size (live s) + dense_count) 0 ≤ front_sum entries g.size 0 = small.sum in
    let room : count_below g.size (live s) + dense_count ≤ g.size = small.room in
    let rise : front_sum entries dense_count 0 ≤ front_sum entries (count_below g.size (live s) + dense_count) 0 =
    first_sums_rise dense_count (count_below g.size (live s) + dense_count) (omega arith) in
    let closed = first_sum g.size in
    record {
      entries_most = omega (arith, sum, rise, closed);
      front_most = λ some. max_most g.size (is_made g s) (λ e.
          count_below g.size (in_block s e) + (count_below g.size (s.border e) + dense_count)) (max 1 dense_count) g.size small.fronts
          (omega arith);
    }
