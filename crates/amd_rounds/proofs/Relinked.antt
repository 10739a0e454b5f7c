-- The lists by bound after a round: those of the next order of placing.
use Rattle.std.proofs.Common.{ℕ, Bool, true, false, ◌++◌, ◌≡◌, ◌<◌, ◌+◌, ◌-◌, ◌||◌, refl, sym, ap, ◌∙◌}
use Rattle.std.proofs.Common.{cond, not, filter}
use Rattle.std.specs.Prelude.{◌==◌, nat_lt}
use Rattle.std.proofs.lemmas.Bool.{cond-true, cond-false, false_from_ne_true, not-true, or_parts, eq-eqb}
use Rattle.std.proofs.lemmas.List.{get_or-set_other}
use Rattle.amd_model.specs.Graph.{Graph}
use Rattle.amd_model.specs.State.{State}
use Rattle.amd_model.specs.Quotient.{QuotientGraph, has, gathered, pivot, round, next}
use Rattle.amd_model.specs.Quotient.{made as made_of}
use Rattle.amd_model.proofs.Counting.Below.{clash}
use Rattle.amd_model.proofs.Listings.Words.{has_filter as filter_gives, has_right}
use Rattle.amd_round_laws.proofs.Lists.Named.{filter_named}
use Rattle.amd_round_laws.proofs.Round.Finding as finding
use Rattle.amd_round_laws.specs.Keeps as views
use Rattle.amd_words.specs.Words.{num, size_of, in_front}
use Rattle.amd_lists.specs.Chains.{DegreeLists, without}
use Rattle.amd_merging.specs.Restoring.{marked_in, bound_in, put_all}
use Rattle.amd_lists.proofs.ChainLists.{lists_same}
use Rattle.amd_lists.specs.Workspaces.{Workspace}
use Rattle.amd_rounds.specs.Views.{view_of}
use Rattle.amd_rounds.specs.Keeps.{by_bound}
use Rattle.amd_fronts.specs.Tallies.{front_at}
use Rattle.amd_rounds.specs.Parts.{MergesFront, EndsFront}
use Rattle.amd_rounds.proofs.ByBound as by_bounds
use Rattle.amd_rounds.proofs.Standing as standing
use Rattle.amd_rounds.proofs.Halves.{HalfRound, chosen, bound_small, front, kept_lists, front_here, front_begun, front_other}
use Rattle.amd_rounds.proofs.Halves.{pivot_placed, pivot_least}
use Rattle.amd_rounds.proofs.Turned.{rest_is, front_after}
use Rattle.amd_rounds.proofs.Absorbed.{absorbed}
use Rattle.amd_rounds.proofs.Merged.{rest, into, into_is, made, marked_made, front_merged}
use Rattle.amd_rounds.proofs.Ending.{lists, still_linked}

module _ {g : Graph} {dense : ℕ → Bool} {nzaat : ℕ} {aggressive : Bool} {p : Workspace} {t : QuotientGraph} {s : State}
    (r : HalfRound g dense nzaat aggressive p t s) (p4 : Workspace)
    (merges : MergesFront g.size r.c (r.block + r.gone) (r.total - r.gone) r.p3 p4) where
  -- what represents others is what the rules place again
  pub made_same : made r p4 merges ≡ made_of aggressive t r.c (gathered t r.c)
  made_same = finding.made_same g dense aggressive (view_of p) t s r.st.view r.c (pivot_placed r) (pivot_least r) (front r) (front_here r)
      (kept_lists r) (view_of r.p3).parent (λ e. num r.p3.w e - r.p3.flag) (absorbed r) (rest r p4 merges) (made r p4 merges)
      (into r p4 merges) (rest_is r) (into_is r p4 merges) refl

  chosen_pivot : pivot t.bound t.placed ≡ r.c
  chosen_pivot = by_bounds.chosen_pivot g.size p.head p.next p.last p.degree t r.st.linked p.least r.st.view.keeps.least (bound_small r) r.c
      r.p1.least (chosen r)

  pub is_pivot : r.c ≡ pivot t.bound t.placed
  is_pivot = sym chosen_pivot

  next_is : next aggressive t ≡ round aggressive t r.c (gathered t r.c)
  unfolding next
  next_is = ap (λ c. round aggressive t c (gathered t c)) chosen_pivot

  in_front_is : (i : ℕ) → has (gathered t r.c) i ≡ has (front_at r.p2 r.c) i
  in_front_is i = ap (λ l. has l i) (sym (standing.front_is g dense nzaat p t s r.st r.c (pivot_placed r)) ∙ sym (front_here r)
      ∙ sym (front_begun r))

  placed_after : (next aggressive t).placed ≡ filter (λ i. not (i == r.c || has (front_at r.p2 r.c) i)) t.placed
      ++ marked_in p4.nv (front_at p4 r.c)
  unfolding round
  placed_after = ap (λ (u : QuotientGraph). u.placed) next_is
      ∙ ap (λ l. l ++ made_of aggressive t r.c (gathered t r.c)) (filter_named (λ i. not (i == r.c || has (gathered t r.c) i))
      (λ i. not (i == r.c || has (front_at r.p2 r.c) i)) t.placed (λ i h. ap (λ b. not (i == r.c || b)) (in_front_is i)))
      ∙ ap (λ l. filter (λ i. not (i == r.c || has (front_at r.p2 r.c) i)) t.placed ++ l) (sym (marked_made r p4 merges ∙ made_same))

  not_made : (i : ℕ) → (i == r.c || has (front_at r.p2 r.c) i) ≡ false → has (made_of aggressive t r.c (gathered t r.c)) i ≡ false
  not_made i out = false_from_ne_true (has (made_of aggressive t r.c (gathered t r.c)) i) (λ h. clash {P = ⊥}
      (in_rows i (ap (λ l. has l i) made_same ∙ h)) (or_parts (i == r.c) (has (front_at r.p2 r.c) i) out).1)
    where
      in_rows : (i : ℕ) → has (made r p4 merges) i ≡ true → has (front_at r.p2 r.c) i ≡ true
      in_rows i h = let a = (filter_gives (λ i. into r p4 merges i == i) (rest r p4 merges) i h).0 in
          ap (λ l. has l i) (front_begun r ∙ sym (front_after r))
          ∙ (filter_gives (λ j. nat_lt 0 (size_of r.p3.nv j)) (front_at r.p3 r.c) i a).0

  bound_stays : (i : ℕ) → has t.placed i ≡ true → (i == r.c || has (front_at r.p2 r.c) i) ≡ false →
      (next aggressive t).bound i ≡ t.bound i
  unfolding round
  bound_stays i h out = ap (λ (u : QuotientGraph). u.bound i) next_is ∙ cond-false (has (made_of aggressive t r.c (gathered t r.c)) i) _
      (t.bound i) (not_made i out)

  module _ (v : Workspace) (ended : EndsFront g.size r.c (r.block + r.gone) (r.total - r.gone) r.is_built p4 v)
      (keeps : views.Keeps (view_of v) (next aggressive t)) where
    abbrev bounds : ℕ → ℕ
    bounds i = bound_in (r.total - r.gone) p4.live p4.nv p4.degree i

    named_front : (i : ℕ) → has (marked_in p4.nv (front_at p4 r.c)) i ≡ true → (has (front_at p4 r.c) i ≡ true) × (in_front p4.nv i ≡ true)
    named_front i h = filter_gives (in_front p4.nv) (front_at p4 r.c) i h

    other : (i : ℕ) → has (front_at p4 r.c) i ≡ true → i ≡ r.c → ⊥
    other i h e = clash {P = ⊥} (ap (λ l. has l r.c) (sym (front_merged r p4 merges)) ∙ ap (has (front_at p4 r.c)) (sym e) ∙ h)
        (front_other r)

    bound_again : (i : ℕ) → has (marked_in p4.nv (front_at p4 r.c)) i ≡ true → (next aggressive t).bound i ≡ bounds i
    bound_again i h = let q = named_front i h in
        sym (keeps.bound i (ap (λ l. has l i) placed_after
        ∙ has_right i (filter (λ i. not (i == r.c || has (front_at r.p2 r.c) i)) t.placed) (marked_in p4.nv (front_at p4 r.c)) h))
        ∙ ap (λ l. num l i) ended.degrees ∙ get_or-set_other ended.bounds r.c i (r.total - r.gone) 0 (other i q.0)
        ∙ ended.restores.bounds i
        ∙ cond-true (has (front_at p4 r.c) i) (cond (in_front p4.nv i) (bounds i) (num p4.degree i)) (num p4.degree i) q.0
        ∙ cond-true (in_front p4.nv i) (bounds i) (num p4.degree i) q.1

    apart_pivot : (d : ℕ) → d < g.size → has (lists r p4 merges d) r.c ≡ false
    apart_pivot d l = false_from_ne_true (has (lists r p4 merges d) r.c) (λ h.
        let a = (filter_gives (λ j. not (has (front_at r.p2 r.c) j)) (without r.c (by_bound t d)) r.c h).0 in
        clash {P = ⊥} (eq-eqb r.c r.c refl) (not-true (r.c == r.c) (filter_gives (λ j. not (j == r.c)) (by_bound t d) r.c a).1))

    apart_front : (d x : ℕ) → d < g.size → has (lists r p4 merges d) x ≡ true → has (front_at p4 r.c) x ≡ false
    apart_front d x l h = ap (λ l. has l x) (front_merged r p4 merges ∙ sym (front_begun r))
        ∙ not-true (has (front_at r.p2 r.c) x) (filter_gives (λ j. not (has (front_at r.p2 r.c) j)) (without r.c (by_bound t d)) x h).1

    pub linked_after : DegreeLists g.size v.head v.next v.last v.degree (by_bound (next aggressive t))
    linked_after = lists_same g.size v.head v.next v.last v.degree (put_all bounds (marked_in p4.nv (front_at p4 r.c)) (lists r p4 merges))
        (by_bound (next aggressive t))
        (λ d l. by_bounds.by_bound_step t (next aggressive t) r.c (front_at r.p2 r.c) (marked_in p4.nv (front_at p4 r.c)) bounds
        placed_after bound_stays bound_again d)
        (ended.linked (lists r p4 merges) apart_pivot apart_front (still_linked r p4 merges))
