-- What a step does to blocks, borders, parents and figures, and how many rows it leaves.
use Rattle.std.proofs.Common.{ℕ, zero, suc, Bool, true, false, None, ◌≡◌, ◌≢◌, ◌<◌, ◌+◌, ◌-◌, ◌&&◌, not, cond, inl, inr, refl, sym}
use Rattle.std.proofs.Common.{◌∙◌, ap, subst, arith}
use Rattle.std.specs.Prelude.{nat_lt, max}
use Rattle.std.specs.Cmp.{both_ways}
use Rattle.std.proofs.lemmas.Bool.{cases_Bool, cases_eq, and_parts, and_from, not-true, not_from_false, cond-true, cond-false}
use Rattle.std.proofs.lemmas.Bool.{lt-ltb}
use Rattle.amd_model.specs.Below.{count_below}
use Rattle.amd_model.specs.Graph.{Graph, IsGraph, degree}
use Rattle.amd_model.specs.State.{State, Last, Live, Gone, live, in_class, in_block, is_element, front}
use Rattle.amd_model.specs.Step.{StepAt, absorbed, block, border_of}
use Rattle.amd_model.specs.Figures.{front_sum, is_made, figure, max_below, greatest_front}
use Rattle.amd_model.specs.Listing.{weight}
use Rattle.amd_model.specs.Sound.{IsSound}
use Rattle.amd_model.proofs.Counting.Below.{clash, sum_at, count_same, count_split, count_minus}
use Rattle.amd_model.proofs.States.Words.{class_gives, class_from, live_gives, live_from, block_gives, block_from, stands_gives}
use Rattle.amd_model.proofs.States.Words.{front_gives}
use Rattle.amd_model.proofs.States.Steps.{mass_gives, block_cases, block_pivot, border_from, border_gives, block_was, absorbed_stands}
use Rattle.amd_model.proofs.States.Sound.{live_small, front_whole}
use Rattle.amd_model.proofs.States.SoundStep.{Fate, goes, moves, stays, fate, pivot_live, was_live}
use Rattle.amd_model.proofs.States.SoundStep.{live_not_block}

-- the greatest of numbers that are the same
pub max_same : (n : ℕ) (p q : ℕ → Bool) (f h : ℕ → ℕ) (d : ℕ) → ((k : ℕ) → k < n → cond (p k) (f k) 0 ≡ cond (q k) (h k) 0) →
    max_below n p f d ≡ max_below n q h d
unfolding max_below
max_same zero p q f h d same = refl
max_same (suc n) p q f h d same = let here = same n (omega arith) in let there = max_same n p q f h d (λ k l. same k (omega arith)) in
    omega (arith, here, there)

-- the greatest with one number more
pub max_at : (n : ℕ) (p q : ℕ → Bool) (f h : ℕ → ℕ) (d c : ℕ) → c < n → p c ≡ false → q c ≡ true →
    ((k : ℕ) → k < n → k ≢ c → cond (p k) (f k) 0 ≡ cond (q k) (h k) 0) → max_below n q h d ≡ max (max_below n p f d) (h c)
unfolding max_below
max_at zero p q f h d c l no' yes' same = absurd (omega (arith, l))
max_at (suc n) p q f h d c l no' yes' same = elim (cases_eq c n) [
  | inl e ↦ (let a = cond-false (p n) (f n) 0 (ap p (sym e) ∙ no') in let b = cond-true (q n) (h n) 0 (ap q (sym e) ∙ yes') in
      let r = max_same n p q f h d (λ k lk. same k (omega arith) (λ z. omega (arith, z, e, lk))) in let m = ap h e in
      omega (arith, a, b, r, m))
  | inr ne ↦ (let here = same n (omega arith) (λ z. ne (sym z)) in
      let there = max_at n p q f h d c (omega (arith, l, ne)) no' yes' (λ k lk off. same k (omega arith) off) in omega (arith, here, there))
]

module _ (g : Graph) (laws : IsGraph g) (aggressive : Bool) (c : ℕ) (old new : State) (sound : IsSound g old)
    (step : StepAt g aggressive c old new) where
  fate_of : (v : ℕ) → Fate g laws aggressive c old new sound step v
  fate_of v = fate g laws aggressive c old new sound step v

  home_c : old.home c ≡ Live c
  home_c = pivot_live g laws aggressive c old new sound step

  pub size_c : c < g.size
  size_c = live_small g laws old sound c c home_c

  pub block_c : block g aggressive old c c ≡ true
  block_c = block_pivot g aggressive old c c home_c

  -- homes of rows that are not live stay
  pub gone_stays : (v e : ℕ) → old.home v ≡ Gone e → new.home v ≡ Gone e
  gone_stays v e h = elim (fate_of v) [
    | goes b q ↦ absurd (let x = (block_was g aggressive old c v b).1 in cc)
    | moves s x j p q r a o w ↦ absurd (cc)
    | stays ni nf q ↦ q ∙ h
  ]

  pub last_stays : (v : ℕ) → old.home v ≡ Last → new.home v ≡ Last
  last_stays v h = elim (fate_of v) [
    | goes b q ↦ absurd (let x = (block_was g aggressive old c v b).1 in cc)
    | moves s x j p q r a o w ↦ absurd (cc)
    | stays ni nf q ↦ q ∙ h
  ]

  -- where each eliminated row named an element, each does so
  pub gone_named : ((v e : ℕ) → old.home v ≡ Gone e → old.home e ≡ Gone e) → (v e : ℕ) → new.home v ≡ Gone e → new.home e ≡ Gone e
  gone_named named v e h = elim (fate_of v) [
    | goes b q ↦ (let k : c ≡ e = (let f : Gone c ≡ Gone e = sym q ∙ h in cc) in
        subst (λ m. new.home m ≡ Gone m) k (step.gone c block_c))
    | moves s x j p q r a o w ↦ absurd (cc)
    | stays ni nf q ↦ gone_stays e e (named v e (sym q ∙ h))
  ]

  -- another element stays one, or none, with its block, its border and its weight
  pub block_stays : (e v : ℕ) → e ≢ c → in_block new e v ≡ in_block old e v
  block_stays e v ne = both_ways (in_block new e v) (in_block old e v)
      (λ h. let k = block_gives e (new.home v) h in elim (fate_of v) [
        | goes b q ↦ absurd (ne (let f : Gone e ≡ Gone c = sym k ∙ q in cc))
        | moves s x j p q r a o w ↦ absurd (cc)
        | stays ni nf q ↦ block_from e (old.home v) (sym q ∙ k)
      ])
      (λ h. block_from e (new.home v) (gone_stays v e (block_gives e (old.home v) h)))

  pub element_stays : (e : ℕ) → e ≢ c → is_element new e ≡ is_element old e
  element_stays e ne = block_stays e e ne

  pub border_stays : (e v : ℕ) → e ≢ c → new.border e v ≡ old.border e v
  border_stays e v ne = step.border_stays e v ne

  pub block_count_stays : (e : ℕ) → e ≢ c → count_below g.size (in_block new e) ≡ count_below g.size (in_block old e)
  block_count_stays e ne = count_same g.size (in_block new e) (in_block old e) (λ v l. block_stays e v ne)

  pub border_count_stays : (e : ℕ) → e ≢ c → count_below g.size (new.border e) ≡ count_below g.size (old.border e)
  border_count_stays e ne = count_same g.size (new.border e) (old.border e) (λ v l. border_stays e v ne)

  pub weight_stays : (e : ℕ) → e ≢ c → weight g new e ≡ weight g old e
  unfolding weight
  weight_stays e ne = let a = block_count_stays e ne in let b = border_count_stays e ne in omega (arith, a, b)

  -- the pivot row names an element afterwards, and none before
  pub pivot_element : is_element new c ≡ true
  pivot_element = block_from c (new.home c) (step.gone c block_c)

  pub pivot_no_element : is_element old c ≡ false
  pivot_no_element = elim (cases_Bool (is_element old c)) [
    | inr f ↦ f
    | inl y ↦ absurd (let k = block_gives c (old.home c) y in let h = home_c in cc)
  ]

  pub weight_new : weight g new c ≡ count_below g.size (in_block new c) + count_below g.size (new.border c)
  unfolding weight
  weight_new = refl

  -- where the pivot row named no block before, that of the new element is the block of the step
  pub block_new : ((v : ℕ) → old.home v ≢ Gone c) → (v : ℕ) → in_block new c v ≡ block g aggressive old c v
  block_new none v = both_ways (in_block new c v) (block g aggressive old c v)
      (λ h. let k = block_gives c (new.home v) h in elim (fate_of v) [
        | goes b q ↦ b
        | moves s x j p q r a o w ↦ absurd (cc)
        | stays ni nf q ↦ absurd (none v (sym q ∙ k))
      ])
      (λ b. block_from c (new.home v) (step.gone v b))

  pub border_new : (v : ℕ) → new.border c v ≡ border_of g aggressive old c v
  border_new v = step.made v

  -- what is live was so, and has no parent
  pub still_live : (v : ℕ) → live new v ≡ true → live old v ≡ true
  still_live v h = let d = live_gives (new.home v) h in let o = was_live g laws aggressive c old new sound step v d.0 d.1 in
      live_from o.0 (old.home v) o.1

  no_block : (v : ℕ) → live new v ≡ true → block g aggressive old c v ≡ true → ⊥
  no_block v h b = let d = live_gives (new.home v) h in live_not_block g laws aggressive c old new sound step v d.0 d.1 b

  pub no_parent : ((v : ℕ) → live old v ≡ true → old.parent v ≡ None) → (v : ℕ) → live new v ≡ true → new.parent v ≡ None
  no_parent free v h = let o = still_live v h in let d = live_gives (old.home v) o in
      step.parent_stays v (λ q. no_block v h (subst (λ m. block g aggressive old c m ≡ true) (sym q) block_c))
      (elim (cases_Bool (absorbed g aggressive old c v)) [
        | inr n ↦ n
        | inl y ↦ absurd (let k = (stands_gives g old v (absorbed_stands g aggressive old c v y)).element in
            let m = d.1 in cc)
      ])
      ∙ free v o

  -- the rows that were live are live, or go with the block
  pub live_parts : count_below g.size (live old) ≡ count_below g.size (live new) + count_below g.size (block g aggressive old c)
  live_parts =
      let a = count_split g.size (live old) (live new) in
      let b = count_same g.size (λ v. live old v && live new v) (live new) (λ v l. both_ways (live old v && live new v) (live new v)
      (λ h. (and_parts (live old v) (live new v) h).1) (λ h. and_from (live old v) (live new v) (still_live v h) h)) in
      let d = count_same g.size (λ v. live old v && not (live new v)) (block g aggressive old c)
      (λ v l. both_ways (live old v && not (live new v)) (block g aggressive old c v)
      (λ h. let p = and_parts (live old v) (not (live new v)) h in let n = not-true (live new v) p.1 in elim (fate_of v) [
        | goes k q ↦ k
        | moves s x j y q r z o w ↦ clash (live_from j (new.home v) q) n
        | stays ni nf q ↦ (let i = live_gives (old.home v) p.0 in clash (live_from i.0 (new.home v) (q ∙ i.1)) n)
      ])
      (λ k. let x = block_was g aggressive old c v k in and_from (live old v) (not (live new v)) (live_from x.0 (old.home v) x.1)
      (not_from_false (live new v) (elim (cases_Bool (live new v)) [ inr n ↦ n | inl y ↦ absurd (no_block v y k) ])))) in
      omega (arith, a, b, d)

  -- the block has the rows of the pivot's class, and those of L that are not on the border
  pub block_parts : count_below g.size (block g aggressive old c) ≡ count_below g.size
      (in_class old c) + (count_below g.size (front g old c) - count_below g.size (border_of g aggressive old c))
  block_parts =
      let B : ℕ → Bool = block g aggressive old c in let S : ℕ → Bool = border_of g aggressive old c in let F : ℕ → Bool = front g old c in
      let a = count_split g.size B (in_class old c) in
      let b = count_same g.size (λ v. B v && in_class old c v) (in_class old c)
      (λ v l. both_ways (B v && in_class old c v) (in_class old c v)
      (λ h. (and_parts (B v) (in_class old c v) h).1)
      (λ h. and_from (B v) (in_class old c v) (block_pivot g aggressive old c v (class_gives c (old.home v) h)) h)) in
      let d = count_same g.size (λ v. B v && not (in_class old c v)) (λ v. F v && not (S v))
      (λ v l. both_ways (B v && not (in_class old c v)) (F v && not (S v))
      (λ h. let p = and_parts (B v) (not (in_class old c v)) h in
      and_from (F v) (not (S v)) (in_front v p.0 (not-true (in_class old c v) p.1))
      (not_from_false (S v)
      (elim (cases_Bool (S v)) [ inr n ↦ n | inl y ↦ clash p.0 (border_gives g aggressive old c v y).1 ])))
      (λ h. let p = and_parts (F v) (not (S v)) h in and_from (B v) (not (in_class old c v)) (in_the_block v p.0 (not-true (S v) p.1))
      (not_from_false (in_class old c v) (front_gives g old c v p.0).0))) in
      let e = count_minus g.size F S (λ v l h. (border_gives g aggressive old c v h).0) in
      omega (arith, a, b, d, e)
    where
      in_front : (v : ℕ) → block g aggressive old c v ≡ true → in_class old c v ≡ false → front g old c v ≡ true
      in_front v b out = elim (block_cases g aggressive old c v b) [
        | inl h ↦ clash (class_from c (old.home v) h) out
        | inr k ↦ (let m = mass_gives g aggressive old c k.0 k.1 in front_whole g laws old sound c k.0 k.0 v m.class k.2 m.in_front)
      ]

      in_the_block : (v : ℕ) → front g old c v ≡ true → border_of g aggressive old c v ≡ false → block g aggressive old c v ≡ true
      in_the_block v f nb = elim (cases_Bool (block g aggressive old c v)) [
        | inl y ↦ y
        | inr n ↦ clash (border_from g aggressive old c v f n) nb
      ]

  -- one front is made
  pub made_stays : (e : ℕ) → e ≢ c → is_made g new e ≡ is_made g old e
  unfolding is_made
  made_stays e ne = ap (λ b. b && nat_lt 0 (degree g e)) (element_stays e ne)

  pub made_not : is_made g old c ≡ false
  unfolding is_made
  made_not = Rattle.std.proofs.lemmas.Bool.and_left (is_element old c) (nat_lt 0 (degree g c)) pivot_no_element

  pub made_new : 0 < degree g c → is_made g new c ≡ true
  unfolding is_made
  made_new l = and_from (is_element new c) (nat_lt 0 (degree g c)) pivot_element (lt-ltb 0 (degree g c) l)

  -- and the figures grow by its columns
  module _ (dense : ℕ → Bool) where
    columns : (ℕ → ℕ) → State → ℕ → ℕ
    columns share s e = front_sum share (count_below g.size (in_block s e)) (count_below g.size (s.border e) + count_below g.size dense)

    columns_stay : (share : ℕ → ℕ) (e : ℕ) → e ≢ c → cond (is_made g new e) (columns share new e) 0 ≡ cond (is_made g old e)
        (columns share old e) 0
    unfolding columns
    columns_stay share e ne = rw (made_stays e ne, block_count_stays e ne, border_count_stays e ne) refl

    pub figure_new : 0 < degree g c → (share : ℕ → ℕ) →
        figure share g dense new ≡ figure share g dense old + front_sum share (count_below g.size (in_block new c))
        (count_below g.size (new.border c) + count_below g.size dense)
    unfolding figure columns
    figure_new some share =
        let s = sum_at g.size (λ e. cond (is_made g new e) (columns share new e) 0) (λ e. cond (is_made g old e) (columns share old e) 0) c
        size_c (λ e l ne. columns_stay share e ne) in
        let a = cond-true (is_made g new c) (columns share new c) 0 (made_new some) in
        let b = cond-false (is_made g old c) (columns share old c) 0 made_not in
        omega (arith, s, a, b)

    rows : State → ℕ → ℕ
    rows s e = count_below g.size (in_block s e) + (count_below g.size (s.border e) + count_below g.size dense)

    rows_stay : (e : ℕ) → e ≢ c → cond (is_made g old e) (rows old e) 0 ≡ cond (is_made g new e) (rows new e) 0
    unfolding rows
    rows_stay e ne = rw (made_stays e ne, block_count_stays e ne, border_count_stays e ne) refl

    pub greatest_new : 0 < degree g c →
        greatest_front g dense new ≡ max (greatest_front g dense old)
        (count_below g.size (in_block new c) + (count_below g.size (new.border c) + count_below g.size dense))
    unfolding greatest_front rows
    greatest_new some = max_at g.size (is_made g old) (is_made g new) (rows old) (rows new) (max 1 (count_below g.size dense)) c size_c
        made_not (made_new some) (λ e l ne. rows_stay e ne)
