-- After a round each element that a class lists has a list, and the workspace is laid again.
use Rattle.std.proofs.Common.{ℕ, Bool, true, false, Option, None, Some, List, [], ◌∷◌, ◌≡◌, ◌<◌, ◌+◌, ◌-◌, inl, inr, refl, sym, ap, ◌∙◌}
use Rattle.std.proofs.Common.{arith, not, length, ◌&&◌, is_none}
use Rattle.std.specs.Prelude.{◌==◌, ◌^◌}
use Rattle.std.proofs.lemmas.Bool.{false≢true, cases_Bool, cases_eq, cond-true, cond-false, eq-eqb, ne_eqb, or_parts, false_from_ne_true}
use Rattle.std.proofs.lemmas.Bool.{not_from_false}
use Rattle.amd_model.specs.Graph.{Graph}
use Rattle.amd_model.specs.State.{State}
use Rattle.amd_model.specs.Quotient.{QuotientGraph, has, next, turned}
use Rattle.amd_model.proofs.Counting.Below.{clash}
use Rattle.amd_model.proofs.Quotient.Lists.{has_turned}
use Rattle.amd_model.proofs.States.Words.{holds_gives, stands_gives, class_gives}
use Rattle.amd_model.proofs.Listings.Words.{filter_has, has_filter as filter_gives, has_cases, has_none}
use Rattle.amd_round_laws.specs.Keeps as views
use Rattle.amd_words.specs.Words.{num, start, size_of}
use Rattle.amd_lists.specs.Layout.{has_list, elements_in}
use Rattle.amd_lists.specs.Renewal.{is_kept}
use Rattle.amd_lists.proofs.Frames.{has_from}
use Rattle.amd_words.proofs.RowLists.{rows_length}
use Rattle.amd_lists.specs.Workspaces.{Workspace}
use Rattle.amd_rounds.specs.Views.{view_of}
use Rattle.amd_rounds.specs.Laid.{IsLaid}
use Rattle.amd_rounds.specs.Parts.{MergesFront, EndsFront}
use Rattle.amd_rounds.proofs.Standing as standing
use Rattle.amd_rounds.proofs.Halves.{HalfRound, front, kept_lists, ended_in, ends_by, front_placed, pivot_placed}
use Rattle.amd_rounds.proofs.Turned.{done_is, rest_is}
use Rattle.amd_rounds.proofs.Absorbed.{absorbed, taken_ends}
use Rattle.amd_rounds.proofs.RoundLists.{through}
use Rattle.amd_rounds.proofs.Relaid as relaid
use Rattle.amd_rounds.proofs.Merged.{rest, into, made}
use Rattle.amd_rounds.proofs.RoundFields.{pivot_at, parent_after}
use Rattle.amd_rounds.proofs.RoundLaw.{members_now, elements_now, view_next}
use Rattle.amd_rounds.proofs.LaidAfter.{laid_from}

some_length : (xs : List ℕ) (x : ℕ) → has xs x ≡ true → 0 < length xs
some_length [] x h = absurd (has_none x h)
some_length (y ∷ xs) x h = omega arith

module _ {g : Graph} {dense : ℕ → Bool} {nzaat : ℕ} {aggressive : Bool} {p : Workspace} {t : QuotientGraph} {s : State}
    (r : HalfRound g dense nzaat aggressive p t s) (p4 : Workspace)
    (merges : MergesFront g.size r.c (r.block + r.gone) (r.total - r.gone) r.p3 p4) (v : Workspace)
    (ended : EndsFront g.size r.c (r.block + r.gone) (r.total - r.gone) r.is_built p4 v) where
  -- an element that was not absorbed, and that a class listed
  kept_list : (i e : ℕ) → has t.placed i ≡ true → has (elements_in p.iw p.pe p.e_len i) e ≡ true → (absorbed r).taken e ≡ false →
      has_list v.pe v.len e ≡ true
  kept_list i e h k stays =
      let q = or_parts (has (elements_in p.iw p.pe p.e_len r.c) e) (ends_by r e) (sym (taken_ends r e) ∙ stays) in
      let out = false_from_ne_true (has (front r) e) (λ m. clash {P = ⊥} k
      (standing.element_apart g dense nzaat p t s r.st i e h (front_placed r e m))) in
      let ne : e ≡ r.c → ⊥ = λ m. clash {P = ⊥} k (ap (has (elements_in p.iw p.pe p.e_len i)) m
      ∙ standing.element_apart g dense nzaat p t s r.st i r.c h (pivot_placed r)) in
      (through r p4 merges v ended e (r.st.laid.elements i e (standing.placed_class g dense nzaat p t s r.st i h).0 k) ne out q.0 q.1).0

  pivot_list : (i : ℕ) → has (made r p4 merges) i ≡ true → has_list v.pe v.len r.c ≡ true
  pivot_list i h = has_from v.pe v.len r.c (pivot_at r p4 merges v ended)
      (let a = some_length (made r p4 merges) i h in let b = ap length (members_now r p4 merges v ended) in
      let e = rows_length v.iw (start v.pe r.c) (num v.len r.c) in omega (arith, a, b, e))

  module _ (u : State) (stand : views.ViewStands g dense (view_of v) (next aggressive t) u) where
    none_some : (k : ℕ) → (let none : Option ℕ = None in none ≡ Some k) → ⊥
    none_some k e = absurd (cc)

    is_some : (o : Option ℕ) (k : ℕ) → is_none o ≡ true → o ≡ Some k → ⊥
    is_some None k h e = none_some k e
    is_some (Some m) k h e = false≢true h

    -- what a class lists now stands, so it was not absorbed
    not_taken : (i e : ℕ) → 0 < size_of v.nv i → has (elements_in v.iw v.pe v.e_len i) e ≡ true → (absorbed r).taken e ≡ false
    not_taken i e l k =
        let placed : has (next aggressive t).placed i ≡ true = elim (cases_Bool (has (next aggressive t).placed i)) [
          | inl h ↦ h
          | inr n ↦ absurd (let z = stand.keeps.no_class i n in omega (arith, z, l))
        ] in
        let home = class_gives i (u.home i) (sym (stand.fits.placed i) ∙ placed) in
        let standing = (holds_gives g u e i (sym (stand.fits.elements i e home)
        ∙ sym (ap (λ l. has l e) (stand.keeps.elements i placed)) ∙ k)).standing in
        false_from_ne_true ((absorbed r).taken e) (λ y. is_some (u.parent e) r.c (stands_gives g u e standing).root
        (sym (stand.fits.parent e) ∙ sym (stand.keeps.parents e) ∙ parent_after r p4 merges v ended e ∙ (absorbed r).parents e
        ∙ cond-true ((absorbed r).taken e) (Some r.c) ((view_of p).parent e) y))

    made_of : (i : ℕ) → has (front r) i ≡ true → 0 < size_of v.nv i → has (made r p4 merges) i ≡ true
    made_of i h l =
        let q = relaid.made_parts r p4 merges v ended i h l in
        let in_rest : has (rest r p4 merges) i ≡ true = ap (λ xs. has xs i) (rest_is r)
        ∙ filter_has (λ i. not (ended_in r i)) (front r) i h (not_from_false (ended_in r i) (sym (done_is r i h) ∙ q.1)) in
        filter_has (λ j. into r p4 merges j == j) (rest r p4 merges) i in_rest (fixed (has (rest r p4 merges) i)
        (into r p4 merges i == i) in_rest q.0)
      where
        fixed : (a b : Bool) → a ≡ true → (a && not b) ≡ false → b ≡ true
        fixed true true e f = refl
        fixed true false e f = sym f
        fixed false b e f = absurd (false≢true e)

    pub elements_after : (i e : ℕ) → 0 < size_of v.nv i → has (elements_in v.iw v.pe v.e_len i) e ≡ true → has_list v.pe v.len e ≡ true
    elements_after i e l k = elim (cases_Bool (has (front r) i)) [
      | inl h ↦ (let m = made_of i h l in elim (has_cases e r.c (turned ((kept_lists r).elements i))
          (ap (λ xs. has xs e) (sym (elements_now r p4 merges v ended i m)) ∙ k)) [
            | inl q ↦ ap (has_list v.pe v.len) q ∙ pivot_list i m
            | inr o ↦ kept_list i e (front_placed r i h) (filter_gives (is_kept r.p3.w) (elements_in p.iw p.pe p.e_len i) e
                (sym (has_turned ((kept_lists r).elements i) e) ∙ o)).0 (not_taken i e l k)
          ])
      | inr out ↦ elim (cases_eq i r.c) [
        | inl q ↦ absurd (let a = relaid.size_open r p4 merges v ended i out in
            let b = cond-true (i == r.c) 0 (size_of p.nv i) (eq-eqb i r.c q) in omega (arith, a, b, l))
        | inr ne ↦ (let a = relaid.size_open r p4 merges v ended i out in
            let b = cond-false (i == r.c) 0 (size_of p.nv i) (ne_eqb i r.c ne) in
            let placed = standing.class_placed g dense nzaat p t s r.st i (omega (arith, a, b, l)) in
            kept_list i e placed (ap (λ xs. has xs e) (sym (relaid.open_elements r p4 merges v ended i placed ne out)) ∙ k)
            (not_taken i e l k))
      ]
    ]

  pub laid_after : g.size < 2 ^ 63 → IsLaid g.size nzaat v
  laid_after small = let next_stands = view_next r p4 merges v ended small in
      laid_from r p4 merges v ended (elements_after next_stands.1.0 next_stands.1.2)
