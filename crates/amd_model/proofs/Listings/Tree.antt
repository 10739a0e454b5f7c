-- The tree of the elements: borders lead upwards, and edges join blocks of one line.
use Rattle.std.proofs.Common.{ℕ, zero, suc, Bool, true, false, ◌≡◌, ◌≢◌, ◌<◌, ◌≤◌, ◌+◌, ◌-◌, ◌⊎◌, inl, inr, refl, sym, ◌∙◌, ap}
use Rattle.std.proofs.Common.{subst, arith, Option, None, Some, cond}
use Rattle.std.proofs.lemmas.Bool.{cases_Bool, true≢false, cases_eq}
use Rattle.amd_model.specs.Below.{sum_below}
use Rattle.amd_model.specs.Graph.{Graph, IsGraph}
use Rattle.amd_model.specs.State.{State, Home, Last, Live, Gone, live, front, IsStart}
use Rattle.amd_model.specs.Step.{StepAt, absorbed, block, border_of}
use Rattle.amd_model.specs.Reach.{Reach, direct, by}
use Rattle.amd_model.proofs.Counting.Below.{term_le_sum, any_from, clash}
use Rattle.amd_model.proofs.States.Words.{live_gives, live_from, stands_gives, stands_from}
use Rattle.amd_model.specs.Sound.{IsSound}
use Rattle.amd_model.proofs.States.Sound.{live_small, gone_small, front_live}
use Rattle.amd_model.proofs.States.SoundStep.{step_sound, Fate, goes, moves, stays, fate, pivot_live}
use Rattle.amd_model.proofs.States.SoundStep.{block_reaches}
use Rattle.amd_model.proofs.States.SoundStart.{is_last, is_empty, is_live, begins, no_edge}
use Rattle.amd_model.proofs.States.Steps.{absorbed_border, block_pivot, border_gives, block_was, absorbed_stands}
use Rattle.amd_model.proofs.States.StepFronts.{gone_stays, last_stays, gone_named}

pub data Linked (s : State) (e u w : ℕ) : Type 0 where
  to_last : s.home w ≡ Last → Linked s e u w
  same : s.home w ≡ Gone e → Linked s e u w
  above : s.border e w ≡ true → Linked s e u w
  below : (f : ℕ) → s.home w ≡ Gone f → s.border f u ≡ true → Linked s e u w

pub record IsTree (g : Graph) (s : State) : Type 0 where
  pub named : (v e : ℕ) → s.home v ≡ Gone e → s.home e ≡ Gone e
  pub small : (e v : ℕ) → s.border e v ≡ true → v < g.size
  pub top : (e v : ℕ) → s.home e ≡ Gone e → s.parent e ≡ None → s.border e v ≡ true → live s v ≡ true
  pub up : (e f v : ℕ) → s.parent e ≡ Some f → s.border e v ≡ true → (s.border f v ≡ true) ⊎ (s.home v ≡ Gone f)
  pub over : (e f : ℕ) → s.parent e ≡ Some f → s.home f ≡ Gone f
  pub under : (e f : ℕ) → s.parent e ≡ Some f → s.home e ≡ Gone e
  -- an edge of an eliminated row leads to a dense row, to its own block, to its border, or to a row on whose border it was
  pub edges : (u w e : ℕ) → s.home u ≡ Gone e → g.edge u w ≡ true → Linked s e u w
  -- parents are made later
  pub rank : ℕ → ℕ
  pub later : (e f : ℕ) → s.parent e ≡ Some f → rank e < rank f

module _ (g : Graph) (laws : IsGraph g) (aggressive : Bool) (c : ℕ) (old new : State) (sound : IsSound g old)
    (step : StepAt g aggressive c old new) (tree : IsTree g old) where
  after : IsSound g new
  after = step_sound g laws aggressive c old new sound step

  fate' : (v : ℕ) → Fate g laws aggressive c old new sound step v
  fate' = fate g laws aggressive c old new sound step

  pub not_pivot : (e : ℕ) → old.home e ≡ Gone e → e ≢ c
  not_pivot e h q = let p = pivot_live g laws aggressive c old new sound step in let m : old.home e ≡ Live c = ap old.home q ∙ p in cc

  -- where a parent of the new state comes from
  parent_from : (e f : ℕ) → new.parent e ≡ Some f → ((f ≡ c) × (absorbed g aggressive old c e ≡ true)) ⊎ ((e ≢ c) × (old.parent e ≡ Some f))
  parent_from e f h = elim (cases_Bool (absorbed g aggressive old c e)) [
    | inl a ↦ inl ((let t = step.taken e a in let q : Some f ≡ Some c = sym h ∙ t in cc), a)
    | inr a ↦ (let ne : e ≢ c = λ q. (let r = step.root in let k : Some f ≡ None = sym h ∙ ap new.parent q ∙ r in cc) in
        inr (ne, sym (step.parent_stays e ne a) ∙ h))
  ]

  new_small : (e v : ℕ) → new.border e v ≡ true → v < g.size
  new_small e v b = elim (cases_eq e c) [
    | inl q ↦ (let s : border_of g aggressive old c v ≡ true = sym (step.made v) ∙ ap (λ m. new.border m v) (sym q) ∙ b in
        let x = live_gives (old.home v) (front_live g laws old sound c v (border_gives g aggressive old c v s).0) in
        live_small g laws old sound v x.0 x.1)
    | inr ne ↦ tree.small e v (sym (step.border_stays e v ne) ∙ b)
  ]

  new_top : (e v : ℕ) → new.home e ≡ Gone e → new.parent e ≡ None → new.border e v ≡ true → live new v ≡ true
  new_top e v h r b = after.borders_live e v (stands_from g new e (record {
    element = h;
    root = ap Rattle.std.proofs.Common.is_none r;
    some = any_from g.size (new.border e) v (new_small e v b) b;
  })) b

  new_up : (e f v : ℕ) → new.parent e ≡ Some f → new.border e v ≡ true → (new.border f v ≡ true) ⊎ (new.home v ≡ Gone f)
  new_up e f v h b = elim (parent_from e f h) [
    | inl k ↦ (let st = absorbed_stands g aggressive old c e k.1 in let ne = not_pivot e (stands_gives g old e st).element in
        let b' : old.border e v ≡ true = sym (step.border_stays e v ne) ∙ b in
        elim (fate' v) [
          | goes bl q ↦ inr (q ∙ ap Gone (sym k.0))
          | moves s x j p q r a o w ↦ inl (ap (λ m. new.border m v) k.0 ∙ step.made v ∙ s)
          | stays ni nf q ↦ clash (absorbed_border g laws aggressive old sound c e v k.1 b' (tree.small e v b') ni) nf
        ])
    | inr k ↦ elim (tree.up e f v k.1 (sym (step.border_stays e v k.0) ∙ b)) [
      | inl bf ↦ inl (step.border_stays f v (not_pivot f (tree.over e f k.1)) ∙ bf)
      | inr hv ↦ inr (gone_stays g laws aggressive c old new sound step v f hv)
    ]
  ]

  new_over : (e f : ℕ) → new.parent e ≡ Some f → new.home f ≡ Gone f
  new_over e f h = elim (parent_from e f h) [
    | inl k ↦ subst (λ m. new.home m ≡ Gone m) (sym k.0)
        (step.gone c (block_pivot g aggressive old c c (pivot_live g laws aggressive c old new sound step)))
    | inr k ↦ gone_stays g laws aggressive c old new sound step f f (tree.over e f k.1)
  ]

  new_under : (e f : ℕ) → new.parent e ≡ Some f → new.home e ≡ Gone e
  new_under e f h = elim (parent_from e f h) [
    | inl k ↦ gone_stays g laws aggressive c old new sound step e e
        (stands_gives g old e (absorbed_stands g aggressive old c e k.1)).element
    | inr k ↦ gone_stays g laws aggressive c old new sound step e e (tree.under e f k.1)
  ]

  linked_stays : (e u w : ℕ) → old.home u ≡ Gone e → Linked old e u w → Linked new e u w
  linked_stays e u w h (to_last k) = to_last (last_stays g laws aggressive c old new sound step w k)
  linked_stays e u w h (same k) = same (gone_stays g laws aggressive c old new sound step w e k)
  linked_stays e u w h (above k) = above (step.border_stays e w (not_pivot e (tree.named u e h)) ∙ k)
  linked_stays e u w h (below f k b) = below f (gone_stays g laws aggressive c old new sound step w f k)
      (step.border_stays f u (not_pivot f (tree.named w f k)) ∙ b)

  new_edges : (u w e : ℕ) → new.home u ≡ Gone e → g.edge u w ≡ true → Linked new e u w
  new_edges u w e h ed = elim (fate' u) [
    | moves s x j p q r a o n ↦ absurd (cc)
    | stays ni nf q ↦ (let k : old.home u ≡ Gone e = sym q ∙ h in linked_stays e u w k (tree.edges u w e k ed))
    | goes b q ↦ (
        let ce : c ≡ e = (let f : Gone c ≡ Gone e = sym q ∙ h in cc) in let x = block_was g aggressive old c u b in
        subst (λ m. Linked new m u w) ce (elim (fate' w) [
          | goes b' q' ↦ same q'
          | moves s y j p q' r a o n ↦ above (step.made w ∙ s)
          | stays ni nf q' ↦ still (old.home w) refl q' nf x b
        ]))
  ]
    where
      still : (h : Home) → old.home w ≡ h → new.home w ≡ old.home w → front g old c w ≡ false → (x : ℕ) × (old.home u ≡ Live x) →
          block g aggressive old c u ≡ true → Linked new c u w
      still Last k q nf x b = to_last (q ∙ k)
      still (Live i) k q nf x b =
          clash (border_gives g aggressive old c w
          (block_reaches g laws aggressive c old new sound step u w i b (q ∙ k) (direct ed))).0 nf
      still (Gone f) k q nf x b = elim (tree.edges w u f k (laws.symmetric w u ∙ ed)) [
        | to_last z ↦ absurd (let y = x.1 in cc)
        | same z ↦ absurd (let y = x.1 in cc)
        | above z ↦ below f (q ∙ k) (step.border_stays f u (not_pivot f (tree.named w f k)) ∙ z)
        | below f' z bz ↦ absurd (let y = x.1 in cc)
      ]

  new_rank : ℕ → ℕ
  new_rank e = cond (Rattle.std.proofs.Common.eqb e c) (suc (sum_below g.size tree.rank)) (tree.rank e)

  rank_pivot : (e : ℕ) → e ≡ c → new_rank e ≡ suc (sum_below g.size tree.rank)
  unfolding new_rank
  rank_pivot e q = rw (Rattle.std.proofs.lemmas.Bool.eq-eqb e c q) refl

  rank_other : (e : ℕ) → e ≢ c → new_rank e ≡ tree.rank e
  unfolding new_rank
  rank_other e q = rw (Rattle.std.proofs.lemmas.Bool.ne_eqb e c q) refl

  new_later : (e f : ℕ) → new.parent e ≡ Some f → new_rank e < new_rank f
  new_later e f h = elim (parent_from e f h) [
    | inl k ↦ (let el = (stands_gives g old e (absorbed_stands g aggressive old c e k.1)).element in
        let a = rank_other e (not_pivot e el) in let b = rank_pivot f k.0 in
        let t = term_le_sum g.size tree.rank e (gone_small g laws old sound e e el) in omega (arith, a, b, t))
    | inr k ↦ (let a = rank_other e k.0 in let b = rank_other f (not_pivot f (tree.over e f k.1)) in let t = tree.later e f k.1 in
        omega (arith, a, b, t))
  ]

  pub step_tree : IsTree g new
  step_tree = record {
    named = gone_named g laws aggressive c old new sound step tree.named;
    small = new_small;
    top = new_top;
    up = new_up;
    over = new_over;
    under = new_under;
    edges =
        new_edges;
    rank = new_rank;
    later = new_later;
  }

pub start_tree : (g : Graph) → IsGraph g → (dense : ℕ → Bool) (s : State) → IsStart g dense s → IsTree g s
start_tree g laws dense s start = record {
  named = λ v e h. elim (begins g laws dense s start v) [
    | is_last k ↦ absurd (cc)
    | is_empty k z ↦ (let q : v ≡ e = (let f : Gone v ≡ Gone e = sym k ∙ h in cc) in subst (λ m. s.home m ≡ Gone e) q h)
    | is_live k ↦ absurd (cc)
  ];
  small = λ e v b. absurd (true≢false (sym b ∙ start.borders e v));
  top = λ e v h r b. absurd (true≢false (sym b ∙ start.borders e v));
  up = λ e f v h b. absurd (let p = start.parents e in cc);
  over = λ e f h. absurd (let p = start.parents e in cc);
  under = λ e f h. absurd (let p = start.parents e in cc);
  edges = λ u w e h ed. elim (begins g laws dense s start u) [
    | is_last k ↦ absurd (cc)
    | is_empty k z ↦ absurd (no_edge g laws dense s start u w z ed)
    | is_live k ↦ absurd (cc)
  ];
  rank = λ e. e;
  later = λ e f h. absurd (let p = start.parents e in cc);
}

-- e is f, or lies below f
pub data Descends (s : State) : ℕ → ℕ → Type 0 where
  self : {e : ℕ} → Descends s e e
  via : {e m f : ℕ} → s.parent e ≡ Some m → Descends s m f → Descends s e f

-- v was on the border of each element from e up to the one in whose block it is
pub data Chain (s : State) (v : ℕ) : ℕ → ℕ → Type 0 where
  ends : {e f : ℕ} → s.border e v ≡ true → s.parent e ≡ Some f → s.home v ≡ Gone f → Chain s v e f
  link : {e m f : ℕ} → s.border e v ≡ true → s.parent e ≡ Some m → Chain s v m f → Chain s v e f

pub record Proper (s : State) (e f : ℕ) : Type 0 where
  pub next : ℕ
  pub parent : s.parent e ≡ Some next
  pub rest : Descends s next f

some_same : {a b : ℕ} {o : Option ℕ} → o ≡ Some a → o ≡ Some b → a ≡ b
some_same p q = cc

gone_same : {a b : ℕ} {h : Home} → h ≡ Gone a → h ≡ Gone b → a ≡ b
gone_same p q = cc

pub chain_descends : {s : State} {v e f : ℕ} → Chain s v e f → Descends s e f
chain_descends (ends b p h) = via p self
chain_descends (link b p r) = via p (chain_descends r)

chain_proper : {s : State} {v e f : ℕ} → Chain s v e f → Proper s e f
chain_proper {f = f} (ends b p h) = record { next = f; parent = p; rest = self }
chain_proper (link {m = m} b p r) = record { next = m; parent = p; rest = chain_descends r }

chain_border : {s : State} {v e f : ℕ} → Chain s v e f → s.border e v ≡ true
chain_border (ends b p h) = b
chain_border (link b p r) = b

pub descends_join : {s : State} {e m f : ℕ} → Descends s e m → Descends s m f → Descends s e f
descends_join self d = d
descends_join (via p r) d = via p (descends_join r d)

module _ (g : Graph) (s : State) (tree : IsTree g s) (over : (v : ℕ) → live s v ≡ false) where
  -- at the end a row on a border is eliminated higher up
  chain_within : (n m e v : ℕ) → ((f : ℕ) → s.home f ≡ Gone f → tree.rank f < m) → m ≤ tree.rank e + n → s.home e ≡ Gone e →
      s.border e v ≡ true → (f : ℕ) × Chain s v e f
  chain_within zero m e v most l h b = absurd (let k = most e h in omega (arith, k))
  chain_within (suc n) m e v most l h b = go (s.parent e) refl (λ f p bf. let k = tree.later e f p in
      chain_within n m f v most (omega (arith, k)) (tree.over e f p) bf)
    where
      go : (o : Option ℕ) → s.parent e ≡ o → ((f : ℕ) → s.parent e ≡ Some f → s.border f v ≡ true → (k : ℕ) × Chain s v f k) →
          (f : ℕ) × Chain s v e f
      go None p on = absurd (true≢false (sym (tree.top e v h p b) ∙ over v))
      go (Some f) p on = elim (tree.up e f v p b) [
        | inl bf ↦ (let r = on f p bf in (r.0, link b p r.1))
        | inr hv ↦ (f, ends b p hv)
      ]

  module _ (gone_below : (f e : ℕ) → s.home f ≡ Gone e → f < g.size) where
    chain : (e v : ℕ) → s.home e ≡ Gone e → s.border e v ≡ true → (f : ℕ) × Chain s v e f
    chain e v h b = chain_within (suc (sum_below g.size tree.rank)) (suc (sum_below g.size tree.rank)) e v
        (λ f hf. let t = term_le_sum g.size tree.rank f (gone_below f f hf) in omega (arith, t)) (omega arith) h b

    chain_to : (e f v : ℕ) → s.home e ≡ Gone e → s.border e v ≡ true → s.home v ≡ Gone f → Chain s v e f
    chain_to e f v h b hv = let r = chain e v h b in subst (Chain s v e) (gone_same (ending r.1) hv) r.1
      where
        ending : {e f : ℕ} → Chain s v e f → s.home v ≡ Gone f
        ending (ends b p h) = h
        ending (link b p r) = ending r

    -- an edge joins rows of one block, or of two of which one is below the other
    pub data Line (u w e f : ℕ) : Type 0 where
      one_block : e ≡ f → Line u w e f
      w_above : Chain s w e f → Line u w e f
      u_above : Chain s u f e → Line u w e f

    pub edge_line : (u w e f : ℕ) → s.home u ≡ Gone e → s.home w ≡ Gone f → g.edge u w ≡ true → Line u w e f
    edge_line u w e f hu hw ed = elim (tree.edges u w e hu ed) [
      | to_last k ↦ absurd (cc)
      | same k ↦ one_block (gone_same k hw)
      | above b ↦ w_above (chain_to e f w (tree.named u e hu) b hw)
      | below k hk b ↦ (let q = gone_same hk hw in u_above (chain_to f e u (tree.named w f hw) (ap (λ m. s.border m u) (sym q) ∙ b) hu))
    ]

    -- two lines up from one element are one line
    linear : {v f f' e : ℕ} → Chain s v f f' → Descends s f e → Descends s f' e ⊎ ((s.border e v ≡ true) × Proper s e f')
    linear k self = inr (chain_border k, chain_proper k)
    linear (ends {e = f} {f = f'} b p h) (via {m = m} {f = e} q d) = inl (subst (λ k. Descends s k e) (some_same q p) d)
    linear {v = v} (link {m = m'} {f = f'} b p r) (via {m = m} {f = e} q d) = linear (subst (λ k. Chain s v k f') (some_same p q) r) d

    -- the column of a row of the block e, for any listing in which the blocks below e stand before the row, and those above e and the dense
    -- rows after it
    module _ (e : ℕ) (before : ℕ → Bool)
        (dense_later : (u : ℕ) → s.home u ≡ Last → before u ≡ false)
        (above_later : (u f : ℕ) → s.home u ≡ Gone f → Proper s e f → before u ≡ false)
        (below_before : (u f : ℕ) → s.home u ≡ Gone f → Proper s f e → before u ≡ true) where
      pub data InFrontOf (w : ℕ) : Type 0 where
        in_dense : s.home w ≡ Last → InFrontOf w
        in_block_e : s.home w ≡ Gone e → InFrontOf w
        in_border : s.border e w ≡ true → InFrontOf w

      lower : {f : ℕ} (w : ℕ) → s.home w ≡ Gone f → Descends s f e → before w ≡ false → InFrontOf w
      lower w h self n = in_block_e h
      lower {f} w h (via {m = m} p d) n = clash (below_before w f h (record { next = m; parent = p; rest = d })) n

      step_to : (u w f f' : ℕ) → s.home w ≡ Gone f' → Line u w f f' → Descends s f e → Descends s f' e
          ⊎ ((s.border e w ≡ true) × Proper s e f')
      step_to u w f f' hw (one_block q) d = inl (subst (λ k. Descends s k e) q d)
      step_to u w f f' hw (w_above k) d = linear k d
      step_to u w f f' hw (u_above k) d = inl (descends_join (chain_descends k) d)

      pub path_inside : {u w : ℕ} (f : ℕ) → s.home u ≡ Gone f → Descends s f e → before w ≡ false → Reach g before u w → InFrontOf w
      path_inside {u} {w} f hu d n (direct ed) = go (s.home w) refl
        where
          go : (h : Home) → s.home w ≡ h → InFrontOf w
          go Last k = in_dense k
          go (Live i) k = clash (live_from i (s.home w) k) (over w)
          go (Gone f') k = elim (step_to u w f f' k (edge_line u w f f' hu k ed) d) [
            | inl d' ↦ lower w k d' n
            | inr b ↦ in_border b.0
          ]
      path_inside {u} {w} f hu d n (by {u = x} ed bx r) = go (s.home x) refl (λ f' k d'. path_inside f' k d' n r)
        where
          go : (h : Home) → s.home x ≡ h → ((f' : ℕ) → s.home x ≡ Gone f' → Descends s f' e → InFrontOf w) → InFrontOf w
          go Last k on = clash bx (dense_later x k)
          go (Live i) k on = clash (live_from i (s.home x) k) (over x)
          go (Gone f') k on = elim (step_to u x f f' k (edge_line u x f f' hu k ed) d) [
            | inl d' ↦ on f' k d'
            | inr b ↦ clash bx (above_later x f' k b.1)
          ]
