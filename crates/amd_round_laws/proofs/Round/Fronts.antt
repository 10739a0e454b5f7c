-- A round keeps the sizes of blocks and fronts, the figures, and the number of live rows.
use Rattle.std.proofs.Common.{ℕ, zero, suc, Bool, true, false, Option, None, Some, ◌≡◌, ◌≢◌, ◌≤◌, ◌<◌, ◌+◌, ◌-◌, ◌∙◌, ◌⊎◌, ap, sym, refl}
use Rattle.std.proofs.Common.{subst, inl, inr, arith}
use Rattle.std.specs.Prelude.{sum_by, ◌==◌}
use Rattle.std.proofs.lemmas.Bool.{cases_eq, cond-true, cond-false, eq-eqb, ne_eqb}
use Rattle.amd_model.specs.Below.{count_below}
use Rattle.amd_model.specs.Graph.{Graph, degree}
use Rattle.amd_model.specs.Figures.{cut, front_sum, figure, greatest_front, entries, ldl_steps, lu_steps}
use Rattle.amd_model.specs.State.{State, Home, Live, Gone, live, is_element, in_block}
use Rattle.amd_model.specs.Listing.{weight}
use Rattle.amd_model.specs.Step.{StepAt}
use Rattle.amd_model.specs.Quotient.{QuotientGraph, gathered, border_of, left, round}
use Rattle.amd_model.proofs.Counting.Below.{clash}
use Rattle.amd_model.proofs.States.Words.{class_from, live_from}
use Rattle.amd_model.proofs.Quotient.Round.RoundAt.{RoundAt, pivot_live}
use Rattle.amd_model.proofs.Quotient.Round.Front.{front_class}
use Rattle.amd_model.proofs.Quotient.Round.Border.{border_class}
use Rattle.amd_model.proofs.Quotient.Round.After.{state_after, step_after}
use Rattle.amd_model.proofs.Quotient.Round.Rows.{block_rows, border_rows, left_rows, left_sum, left_less}
use Rattle.amd_model.proofs.States.StepFronts.{element_stays, block_count_stays, weight_stays, pivot_element, weight_new, still_live}
use Rattle.amd_model.proofs.States.StepFronts.{figure_new}
use Rattle.amd_model.proofs.States.StepFronts.{greatest_new}
use Rattle.amd_model.proofs.States.StepFronts.{no_parent as parent_free}
use Rattle.amd_round_laws.specs.Keeps.{KeepsFronts, LinksLead, ViewStands}
use Rattle.amd_round_laws.specs.Views.{View}
use Rattle.amd_types.proofs.CutSums.{cut_add}
use Rattle.amd_round_laws.proofs.Lists.Named.{sum_named}
use Rattle.amd_round_laws.proofs.Rounding.{Rounding}

module _ (n : ℕ) (links : ℕ → Option ℕ) (home : ℕ → Home) (lead : LinksLead n links home) where
  which : (o : Option ℕ) → (o ≡ None) ⊎ ((u : ℕ) × (o ≡ Some u))
  which None = inl refl
  which (Some u) = inr (u, refl)

  gone_alone : (x e : ℕ) → links x ≡ None → home x ≡ Gone e → home e ≡ Gone e
  gone_alone x e q h = elim (lead.alone x q) [
    | inl k ↦ absurd (cc)
    | inr k ↦ elim k [
      | inl m ↦ (let f : Gone x ≡ Gone e = sym m ∙ h in let same : x ≡ e = cc in subst (λ y. home y ≡ Gone e) same h)
      | inr m ↦ absurd (cc)
    ]
  ]

  gone_within : (n x e : ℕ) → lead.top ≤ lead.rank x + n → home x ≡ Gone e → home e ≡ Gone e
  gone_within zero x e far h = elim (which (links x)) [
    | inl q ↦ gone_alone x e q h
    | inr q ↦ absurd (let b = lead.end.below x q.0 q.1 in omega (arith, b, far))
  ]
  gone_within (suc n) x e far h = elim (which (links x)) [
    | inl q ↦ gone_alone x e q h
    | inr q ↦ (let b = (lead.end.rise x q.0 q.1).0 in gone_within n q.0 e (omega (arith, b, far)) (sym (lead.linked x q.0 q.1) ∙ h))
  ]

  -- what is in a block is in that of an element
  pub gone_named : (x e : ℕ) → home x ≡ Gone e → home e ≡ Gone e
  gone_named x e h = gone_within lead.top x e (omega arith) h

module _ (g : Graph) (dense : ℕ → Bool) (aggressive : Bool) (w v : View) (t : QuotientGraph) (s : State) (st : ViewStands g dense w t s)
    (r : Rounding aggressive w v)
    (this : RoundAt g aggressive t s r.c) (front_is : r.front ≡ gathered t r.c)
    (rest_is : r.rest ≡ border_of aggressive t r.c (gathered t r.c)) where
  abbrev pub U : State
  U = state_after this

  abbrev step_of : StepAt g aggressive r.c s U
  step_of = step_after this

  home_c : s.home r.c ≡ Live r.c
  home_c = pivot_live this

  size_of : (i : ℕ) → s.home i ≡ Live i → w.size i ≡ t.size i
  size_of i h = st.keeps.size i (st.fits.placed i ∙ class_from i (s.home i) h)

  pub front_rows_are : sum_by w.size r.front ≡ sum_by t.size (gathered t r.c)
  front_rows_are = ap (sum_by w.size) front_is
      ∙ sum_named w.size t.size (gathered t r.c) (λ i k. size_of i
      (front_class this i k).0)

  pub border_is : r.border ≡ sum_by t.size (border_of aggressive t r.c (gathered t r.c))
  border_is = r.border_is ∙ ap (sum_by w.size) rest_is
      ∙ sum_named w.size t.size (border_of aggressive t r.c (gathered t r.c))
      (λ i k. size_of i (border_class this i k).0)

  pub block_is : r.block ≡ t.size r.c + (sum_by t.size (gathered t r.c) - sum_by t.size (border_of aggressive t r.c (gathered t r.c)))
  block_is = let a = r.block_is in let b = border_is in let c = front_rows_are in let d = size_of r.c home_c in omega (arith, a, b, c, d)

  pub live_left : v.live ≡ left aggressive t r.c (gathered t r.c)
  live_left = let a = block_is in let b = left_rows this in
      let l = st.keeps.live in let m = r.live_is in omega (arith, a, b, l, m)

  pub live_is : v.live ≡ sum_by (round aggressive t r.c (gathered t r.c)).size (round aggressive t r.c (gathered t r.c)).placed
  live_is = live_left ∙ sym (left_sum this)

  pub live_less : v.live < w.live
  live_less = let a = live_left in let b = left_less this in let l =
      st.keeps.live in omega (arith, a, b, l)

  -- no row was in a block of the pivot's name
  no_block : (x : ℕ) → s.home x ≢ Gone r.c
  no_block x h = let k = gone_named w.rows w.link t.home st.keeps.links x r.c (st.fits.home x ∙ h) in let m =
      sym (st.fits.home r.c) ∙ k in let l = home_c in cc

  pub block_counts : r.block ≡ count_below g.size (in_block U r.c)
  block_counts = block_is ∙ sym (block_rows this no_block)

  pub border_counts : r.border ≡ count_below g.size (U.border r.c)
  border_counts = border_is ∙ sym (border_rows this)

  -- live rows have an edge and no parent
  pub joined : (x : ℕ) → live U x ≡ true → 0 < degree g x
  joined x h = st.joined x (still_live g st.graph aggressive r.c s U st.sound step_of x h)

  pub no_parent : (x : ℕ) → live U x ≡ true → U.parent x ≡ None
  no_parent x h = parent_free g st.graph aggressive r.c s U st.sound step_of st.no_parent x h

  some_degree : 0 < degree g r.c
  some_degree = st.joined r.c (live_from r.c (s.home r.c) home_c)

  -- the figures of the fronts so far
  figure_is : (share : ℕ → ℕ) (x : ℕ) → x ≡ cut (figure share g dense s) →
      cut (x + front_sum share r.block (r.border + w.n_dense)) ≡ cut (figure share g dense U)
  figure_is share x q =
      ap (λ y. cut (y + front_sum share r.block (r.border + w.n_dense))) q
      ∙ cut_add (figure share g dense s) (front_sum share r.block (r.border + w.n_dense))
      ∙ ap (λ y. cut (figure share g dense s + y)) columns
      ∙ ap cut (sym (figure_new g st.graph aggressive r.c s U st.sound step_of dense some_degree share))
    where
      columns : front_sum share r.block (r.border + w.n_dense) ≡ front_sum share (count_below g.size (in_block U r.c))
          (count_below g.size (U.border r.c) + count_below g.size dense)
      columns = ap (λ y. front_sum share y (r.border + w.n_dense)) block_counts
          ∙ ap (λ y. front_sum share (count_below g.size (in_block U r.c)) (y + w.n_dense)) border_counts
          ∙ ap (λ y. front_sum share (count_below g.size (in_block U r.c)) (count_below g.size (U.border r.c) + y)) st.fronts.dense_rows

  greatest_is : v.figures.d_max ≡ greatest_front g dense U
  greatest_is = let a = r.greatest in let b = st.fronts.greatest in let c = block_counts in let d = border_counts in let e =
      st.fronts.dense_rows in
      let f = greatest_new g st.graph aggressive r.c s U st.sound step_of dense some_degree in omega (arith, a, b, c, d, e, f)

  other_element : (e : ℕ) → e ≢ r.c → is_element s e ≡ is_element U e
  other_element e ne = sym (element_stays g st.graph aggressive r.c s U st.sound step_of e ne)

  new_block : (e : ℕ) → is_element U e ≡ true → v.block e ≡ count_below g.size (in_block U e)
  new_block e h = r.blocks e ∙ elim (cases_eq e r.c) [
    | inl q ↦ cond-true (e == r.c) r.block (w.block e) (eq-eqb e r.c q) ∙ block_counts ∙ ap (λ y. count_below g.size (in_block U y)) (sym q)
    | inr ne ↦ cond-false (e == r.c) r.block (w.block e) (ne_eqb e r.c ne) ∙ st.fronts.blocks e (other_element e ne ∙ h)
        ∙ sym (block_count_stays g st.graph aggressive r.c s U st.sound step_of e ne)
  ]

  no_new_block : (e : ℕ) → is_element U e ≡ false → v.block e ≡ 0
  no_new_block e h = r.blocks e ∙ elim (cases_eq e r.c) [
    | inl q ↦ clash (pivot_element g st.graph aggressive r.c s U st.sound step_of) (ap (is_element U) (sym q) ∙ h)
    | inr ne ↦ cond-false (e == r.c) r.block (w.block e) (ne_eqb e r.c ne) ∙ st.fronts.no_element e (other_element e ne ∙ h)
  ]

  new_front : (e : ℕ) → is_element U e ≡ true → v.front e ≡ weight g U e
  new_front e h = r.fronts e ∙ elim (cases_eq e r.c) [
    | inl q ↦ cond-true (e == r.c) (r.block + r.border) (w.front e) (eq-eqb e r.c q) ∙ both ∙ sym
        (weight_new g st.graph aggressive r.c s U st.sound step_of) ∙ ap (weight g U) (sym q)
    | inr ne ↦ cond-false (e == r.c) (r.block + r.border) (w.front e) (ne_eqb e r.c ne) ∙ st.fronts.fronts e (other_element e ne ∙ h)
        ∙ sym (weight_stays g st.graph aggressive r.c s U st.sound step_of e ne)
  ]
    where
      both : r.block + r.border ≡ count_below g.size (in_block U r.c) + count_below g.size (U.border r.c)
      both = let a = block_counts in let b = border_counts in omega (arith, a, b)

  pub fronts_kept : KeepsFronts g dense v U
  fronts_kept = record {
    blocks = new_block;
    no_element = no_new_block;
    fronts = new_front;
    dense_rows = r.dense_rows ∙ st.fronts.dense_rows;
    lnz = r.lnz ∙ figure_is entries w.figures.lnz st.fronts.lnz;
    ldl = r.ldl ∙ figure_is ldl_steps w.figures.n_mult_subs_ldl st.fronts.ldl;
    lu = r.lu ∙ figure_is lu_steps w.figures.n_mult_subs_lu st.fronts.lu;
    greatest = greatest_is;
  }
