-- After a round what has a list is a class or a standing element.
use Rattle.std.proofs.Common.{ℕ, Bool, true, false, List, [], ◌∷◌, Some, ◌≡◌, ◌<◌, ◌+◌, ◌-◌, ◌⊎◌, inl, inr, refl, sym, ap, ◌∙◌, subst}
use Rattle.std.proofs.Common.{arith, cond, length, filter, sum_by, is_none}
use Rattle.std.specs.Prelude.{◌==◌, nat_lt}
use Rattle.std.proofs.lemmas.Bool.{cases_Bool, cases_eq, cond-true, cond-false, ne_eqb, ltb-true, or_from}
use Rattle.amd_model.specs.Graph.{Graph}
use Rattle.amd_model.specs.State.{State, Live, Gone, is_class, stands}
use Rattle.amd_model.specs.Step.{StepAt}
use Rattle.amd_model.specs.Quotient.{QuotientGraph, has, gathered, new_home, round, next, pivot, turned}
use Rattle.amd_model.proofs.Counting.Below.{any_gives, any_from}
use Rattle.amd_model.proofs.States.Words.{class_gives, holds_gives, stands_gives, stands_from}
use Rattle.amd_model.proofs.Listings.Words.{filter_has, has_filter as filter_gives, has_head}
use Rattle.amd_round_laws.specs.Keeps as views
use Rattle.amd_round_laws.proofs.Lists.Named.{named_sum}
use Rattle.amd_words.specs.Words.{num, start, size_of}
use Rattle.amd_words.proofs.RowLists.{rows_length}
use Rattle.amd_lists.specs.Layout.{has_list, elements_in}
use Rattle.amd_lists.proofs.Frames.{has_parts}
use Rattle.amd_lists.specs.Workspaces.{Workspace}
use Rattle.amd_rounds.specs.Views.{view_of}
use Rattle.amd_fronts.specs.Tallies.{front_at}
use Rattle.amd_rounds.specs.Parts.{MergesFront, EndsFront}
use Rattle.amd_rounds.proofs.Standing as standing
use Rattle.amd_rounds.proofs.Halves.{HalfRound, kept_lists, ends_by}
use Rattle.amd_rounds.proofs.Absorbed.{absorbed, taken_ends}
use Rattle.amd_rounds.proofs.RoundLists.{lists_after}
use Rattle.amd_rounds.proofs.Relaid.{size_open}
use Rattle.amd_rounds.proofs.Merged.{rest, into, made}
use Rattle.amd_rounds.proofs.RoundFields.{parent_after}
use Rattle.amd_rounds.proofs.RoundLaw.{members_now, elements_now}

some_row : (xs : List ℕ) → 0 < length xs → (x : ℕ) × (has xs x ≡ true)
some_row [] l = absurd (omega (arith, l))
some_row (x ∷ xs) l = (x, has_head x x xs refl)

-- a row that was eliminated stays where it is
gone_next : (aggressive : Bool) (t : QuotientGraph) (v e : ℕ) → t.home v ≡ Gone e → (next aggressive t).home v ≡ Gone e
unfolding next round new_home
gone_next aggressive t v e is = let c = pivot t.bound t.placed in ap (new_home aggressive t c (gathered t c)) is

module _ {g : Graph} {dense : ℕ → Bool} {nzaat : ℕ} {aggressive : Bool} {p : Workspace} {t : QuotientGraph} {s : State}
    (r : HalfRound g dense nzaat aggressive p t s) (p4 : Workspace)
    (merges : MergesFront g.size r.c (r.block + r.gone) (r.total - r.gone) r.p3 p4) (v : Workspace)
    (ended : EndsFront g.size r.c (r.block + r.gone) (r.total - r.gone) r.is_built p4 v) where
  -- a class that the new element holds has rows
  made_size : (x : ℕ) → has (made r p4 merges) x ≡ true → 0 < size_of v.nv x
  made_size x h =
      let q = filter_gives (λ i. into r p4 merges i == i) (rest r p4 merges) x h in
      let some = ltb-true 0 (size_of r.p3.nv x) (filter_gives (λ i. nat_lt 0 (size_of r.p3.nv i)) (front_at r.p3 r.c) x q.0).1 in
      let all : ℕ = sum_by (size_of r.p3.nv) (filter (λ i. into r p4 merges i == x) (rest r p4 merges)) in
      let size : size_of v.nv x ≡ all = ended.restores.sizes x ∙ merges.list.merged.sizes x
      ∙ cond-true (has (rest r p4 merges) x) (cond (into r p4 merges x == x) all 0) (size_of r.p3.nv x) q.0
      ∙ cond-true (into r p4 merges x == x) all 0 q.1 in
      let part = named_sum (size_of r.p3.nv) (filter (λ i. into r p4 merges i == x) (rest r p4 merges)) x
      (filter_has (λ i. into r p4 merges i == x) (rest r p4 merges) x q.0 q.1) in
      omega (arith, some, size, part)

  module _ (u : State) (step : StepAt g aggressive (pivot t.bound t.placed) s u)
      (stand : views.ViewStands g dense (view_of v) (next aggressive t) u) where
    placed_after : (i : ℕ) → 0 < size_of v.nv i → has (next aggressive t).placed i ≡ true
    placed_after i l = elim (cases_Bool (has (next aggressive t).placed i)) [
      | inl h ↦ h
      | inr n ↦ absurd (let z = stand.keeps.no_class i n in omega (arith, z, l))
    ]

    class_after : (i : ℕ) → 0 < size_of v.nv i → is_class u i ≡ true
    class_after i l = sym (stand.fits.placed i) ∙ placed_after i l

    -- the new element has a list only if it holds a class, and so stands
    pivot_stands : has_list v.pe v.len r.c ≡ true → stands g u r.c ≡ true
    pivot_stands h =
        let some = (has_parts v.pe v.len r.c h).1 in let e = rows_length v.iw (start v.pe r.c) (num v.len r.c) in
        let b = ap length (members_now r p4 merges v ended) in
        let q = some_row (made r p4 merges) (omega (arith, some, e, b)) in let x : ℕ = q.0 in
        let placed = placed_after x (made_size x q.1) in
        let home = class_gives x (u.home x) (sym (stand.fits.placed x) ∙ placed) in
        let listed : has (elements_in v.iw v.pe v.e_len x) r.c ≡ true = ap (λ l. has l r.c) (elements_now r p4 merges v ended x q.1)
        ∙ has_head r.c r.c (turned ((kept_lists r).elements x)) refl in
        (holds_gives g u r.c x (sym (stand.fits.elements x r.c home)
        ∙ sym (ap (λ l. has l r.c) (stand.keeps.elements x placed)) ∙ listed)).standing

    -- an element that was not absorbed still stands
    other_stands : (e : ℕ) → stands g s e ≡ true → (absorbed r).taken e ≡ false → stands g u e ≡ true
    other_stands e k stays =
        let was = stands_gives g s e k in
        let ne : e ≡ pivot t.bound t.placed → ⊥ = λ q. (
        let same : Gone e ≡ Live (pivot t.bound t.placed) = sym was.element ∙ ap s.home q
        ∙ class_gives (pivot t.bound t.placed) (s.home (pivot t.bound t.placed)) step.class in cc) in
        let parent : u.parent e ≡ s.parent e = sym (stand.fits.parent e) ∙ sym (stand.keeps.parents e)
        ∙ parent_after r p4 merges v ended e ∙ (absorbed r).parents e
        ∙ cond-false ((absorbed r).taken e) (Some r.c) ((view_of p).parent e) stays ∙ r.st.view.keeps.parents e ∙ r.st.view.fits.parent e in
        stands_from g u e (record {
          element = sym (stand.fits.home e) ∙ gone_next aggressive t e e (r.st.view.fits.home e ∙ was.element);
          root = ap is_none parent ∙ was.root;
          some = (let m = any_gives g.size (s.border e) was.some in
              any_from g.size (u.border e) m.0 m.1 (step.border_stays e m.0 ne ∙ m.2));
        })

    pub held_after : (j : ℕ) → has_list v.pe v.len j ≡ true → (is_class u j ≡ true) ⊎ (stands g u j ≡ true)
    held_after j h = elim (cases_eq j r.c) [
      | inl q ↦ inr (subst (λ x. stands g u x ≡ true) (sym q) (pivot_stands (subst (λ x. has_list v.pe v.len x ≡ true) q h)))
      | inr ne ↦ elim (lists_after r p4 merges v ended j h) [
        | inl q ↦ absurd (ne q)
        | inr (inl k) ↦ inl (class_after j k.1)
        | inr (inr o) ↦ elim (r.st.held j o.0) [
          | inr k ↦ inr (other_stands j k (taken_ends r j ∙ or_from (has (elements_in p.iw p.pe p.e_len r.c) j) (ends_by r j) o.2 o.3))
          | inl class ↦ (
              let some = (standing.placed_class g dense nzaat p t s r.st j (r.st.view.fits.placed j ∙ class)).0 in
              let a = size_open r p4 merges v ended j o.1 in
              let b = cond-false (j == r.c) 0 (size_of p.nv j) (ne_eqb j r.c ne) in inl (class_after j (omega (arith, some, a, b))))
        ]
      ]
    ]
