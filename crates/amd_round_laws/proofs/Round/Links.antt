-- After a round the links of rows still lead to where the rows are, and come to an end.
use Rattle.std.proofs.Common.{ℕ, suc, Bool, true, Option, None, Some, ◌≡◌, ◌≢◌, ◌≤◌, ◌<◌, ◌∙◌, ◌&&◌}
use Rattle.std.proofs.Common.{not, cond, ap, sym, refl, subst, inl, inr, arith}
use Rattle.std.specs.Prelude.{is_none, ◌==◌, ◌⊎◌}
use Rattle.std.proofs.lemmas.Bool.{cases_Bool, cases_eq, cond-true, cond-false, and_from}
use Rattle.std.proofs.lemmas.Bool.{and_parts, and_left, eq-eqb, ne_eqb, not-true, not_from_false}
use Rattle.amd_model.specs.Graph.{Graph}
use Rattle.amd_model.specs.State.{State, Last, Live, Gone}
use Rattle.amd_model.specs.Quotient.{QuotientGraph, has, mass as mass_listed}
use Rattle.amd_model.specs.Quotient.{represents}
use Rattle.amd_model.proofs.Counting.Below.{clash}
use Rattle.amd_round_laws.specs.Rounds.{keeps_nothing as mass_viewed}
use Rattle.amd_round_laws.specs.Keeps.{LinksLead}
use Rattle.amd_round_laws.specs.Views.{View}
use Rattle.amd_round_laws.proofs.Round.Turn.{Turn, front_placed, in_front, in_left, in_rest, made_front, none_kept}
use Rattle.amd_round_laws.proofs.Round.Turn.{not_pivot, row_small, parts}
use Rattle.amd_round_laws.proofs.Round.Homes.{done_home, made_home, moved, moved_gone, moved_last, moved_other, new_home_is, pivot_home}
use Rattle.amd_round_laws.proofs.Round.Homes.{rest_home, was_gone, was_last, was_live}

module _ {g : Graph} {dense : ℕ → Bool} {aggressive : Bool} {w v : View} {t : QuotientGraph} {s : State}
    (turn : Turn g dense aggressive w v t s)
  where
    open turn use {before as st, wrote as r, found as f}
    open parts turn use {L, R, new_lists}

    abbrev merges : ℕ → Bool
    merges x = has R x && not (represents aggressive t r.c L x == x)

    abbrev leaves : ℕ → Bool
    leaves x = has L x && mass_listed aggressive t r.c L x

    merges_is : (x : ℕ) → (has r.rest x && not (r.into x == x)) ≡ merges x
    merges_is x = elim (cases_Bool (has R x)) [
      | inl y ↦ ap (λ b. b && not (r.into x == x)) (in_rest turn x) ∙ ap (λ n. has R x && not (n == x)) (f.into_is x y)
      | inr n ↦ and_left (has r.rest x) (not (r.into x == x)) (in_rest turn x ∙ n) ∙ sym
          (and_left (has R x) (not (represents aggressive t r.c L x == x)) n)
    ]

    leaves_is : (x : ℕ) → (has r.front x && mass_viewed r.kept.elements r.kept.variables x) ≡ leaves x
    leaves_is x = elim (cases_Bool (has L x)) [
      | inl y ↦ ap (λ b. b && mass_viewed r.kept.elements r.kept.variables x) (in_front turn x)
          ∙ ap (λ b. has L x && b) (none_kept turn x y)
      | inr n ↦ and_left (has r.front x) (mass_viewed r.kept.elements r.kept.variables x) (in_front turn x ∙ n) ∙ sym
          (and_left (has L x) (mass_listed aggressive t r.c L x) n)
    ]

    -- the new link of a row: to its representative, to the pivot, or the old one
    data NewLink (x : ℕ) : Type 0 where
      merged : has R x ≡ true → represents aggressive t r.c L x ≢ x → v.link x ≡ Some (represents aggressive t r.c L x) → NewLink x
      left_out : has L x ≡ true → mass_listed aggressive t r.c L x ≡ true → v.link x ≡ Some r.c → NewLink x
      as_before : (has R x ≡ true → represents aggressive t r.c L x ≡ x) → (has L x ≡ true → has R x ≡ true) → v.link x ≡ w.link x →
          NewLink x

    new_link : (x : ℕ) → NewLink x
    new_link x = elim (cases_Bool (merges x)) [
      | inl y ↦ (let p = and_parts (has R x) (not (represents aggressive t r.c L x == x)) y in
          merged p.0 (λ e. clash (eq-eqb (represents aggressive t r.c L x) x e) (not-true (represents aggressive t r.c L x == x) p.1))
          (r.link_is x ∙ cond-true (has r.rest x && not (r.into x == x)) _ _ (merges_is x ∙ y) ∙ ap (λ n. Some n) (f.into_is x p.0)))
      | inr n ↦ elim (cases_Bool (leaves x)) [
        | inl y ↦ (let p = and_parts (has L x) (mass_listed aggressive t r.c L x) y in
            left_out p.0 p.1 (r.link_is x ∙ cond-false (has r.rest x && not (r.into x == x)) _ _ (merges_is x ∙ n) ∙ cond-true
            (has r.front x && mass_viewed r.kept.elements r.kept.variables x) _ _ (leaves_is x ∙ y)))
        | inr k ↦ as_before
            (λ h. elim (cases_eq (represents aggressive t r.c L x) x) [
              | inl q ↦ q
              | inr ne ↦ clash (and_from (has R x) (not (represents aggressive t r.c L x == x)) h
                  (not_from_false (represents aggressive t r.c L x == x) (ne_eqb (represents aggressive t r.c L x) x ne))) n
            ])
            (λ h. in_left turn x h (elim (cases_Bool (mass_listed aggressive t r.c L x))
            [ inr m ↦ m | inl m ↦ clash (and_from (has L x) (mass_listed aggressive t r.c L x) h m) k ]))
            (r.link_is x ∙ cond-false (has r.rest x && not (r.into x == x)) _ _ (merges_is x ∙ n) ∙ cond-false
            (has r.front x && mass_viewed r.kept.elements r.kept.variables x) _ _ (leaves_is x ∙ k))
      ]
    ]

    some_same : {a b : ℕ} → Some a ≡ Some b → a ≡ b
    some_same e = cc

    linked_kept : (x u : ℕ) → v.link x ≡ Some u → new_lists.home x ≡ new_lists.home u
    linked_kept x u e = elim (new_link x) [
      | merged h ne q ↦ (let same = some_same (sym q ∙ e) in rest_home turn x h ∙ sym
          (made_home turn (represents aggressive t r.c L x) (f.one_made x h)) ∙ ap new_lists.home same)
      | left_out h k q ↦ done_home turn x h k ∙ sym (pivot_home turn) ∙ ap new_lists.home (some_same (sym q ∙ e))
      | as_before a b q ↦ new_home_is turn x ∙ ap (moved turn) (st.keeps.links.linked x u (sym q ∙ e)) ∙ sym (new_home_is turn u)
    ]

    alone_kept : (x : ℕ) → v.link x ≡ None → (new_lists.home x ≡ Live x) ⊎ (new_lists.home x ≡ Gone x) ⊎ (new_lists.home x ≡ Last)
    alone_kept x e = elim (new_link x) [
      | merged h ne q ↦ absurd (let k = sym q ∙ e in cc)
      | left_out h k q ↦ absurd (let m = sym q ∙ e in cc)
      | as_before a b q ↦ elim (st.keeps.links.alone x (sym q ∙ e)) [
        | inl h ↦ elim (cases_eq x r.c) [
          | inl y ↦ inr (inl (ap new_lists.home y ∙ pivot_home turn ∙ sym (ap Gone y)))
          | inr ne ↦ elim (cases_Bool (has L x)) [
            | inl l ↦ inl (rest_home turn x (b l) ∙ ap Live (a (b l)))
            | inr n ↦ inl (new_home_is turn x ∙ ap (moved turn) h ∙ moved_other turn x (ne_eqb x r.c ne) n)
          ]
        ]
        | inr (inl h) ↦ inr (inl (new_home_is turn x ∙ ap (moved turn) h ∙ moved_gone turn x))
        | inr (inr h) ↦ inr (inr (new_home_is turn x ∙ ap (moved turn) h ∙ moved_last turn))
      ]
    ]

    free_kept : (x : ℕ) → (new_lists.home x ≡ Live x) ⊎ (new_lists.home x ≡ Gone x) → v.link x ≡ None
    free_kept x h = elim (new_link x) [
      | merged k ne q ↦ absurd (elim h [
        | inl y ↦ ne (let e : Live (represents aggressive t r.c L x) ≡ Live x = sym (rest_home turn x k) ∙ y in cc)
        | inr y ↦ (let e : Live (represents aggressive t r.c L x) ≡ Gone x = sym (rest_home turn x k) ∙ y in cc)
      ])
      | left_out k d q ↦ absurd (elim h [
        | inl y ↦ (let e : Gone r.c ≡ Live x = sym (done_home turn x k d) ∙ y in cc)
        | inr y ↦ (let e : Gone r.c ≡ Gone x = sym (done_home turn x k d) ∙ y in let same : r.c ≡ x = cc in
            clash k (sym (ap (has L) same) ∙ not_pivot turn))
      ])
      | as_before a b q ↦ q ∙ st.keeps.links.free x (elim h [ inl y ↦ inl (was_live turn x y) | inr y ↦ was_gone turn x y ])
    ]

    last_kept : (x : ℕ) → new_lists.home x ≡ Last → v.link x ≡ None
    last_kept x h = elim (new_link x) [
      | merged k ne q ↦ absurd (let e = sym (rest_home turn x k) ∙ h in cc)
      | left_out k d q ↦ absurd (let e = sym (done_home turn x k d) ∙ h in cc)
      | as_before a b q ↦ q ∙ st.keeps.links.last x (was_last turn x h)
    ]

    abbrev old_rank : ℕ → ℕ
    old_rank = st.keeps.links.rank

    abbrev old_top : ℕ
    old_top = st.keeps.links.top

    abbrev new_rank : ℕ → ℕ
    new_rank x = cond (is_none (v.link x)) (suc old_top) (old_rank x)

    -- what is linked now had a rank no higher than the top
    old_small : (x : ℕ) → old_rank x ≤ old_top
    old_small x = low (w.link x) refl
      where
        low : (o : Option ℕ) → w.link x ≡ o → old_rank x ≤ old_top
        low None e = let k = st.keeps.links.end.ends x e in omega (arith, k)
        low (Some u) e = let k = st.keeps.links.end.below x u e in omega (arith, k)

    rank_linked : (x u : ℕ) → v.link x ≡ Some u → new_rank x ≡ old_rank x
    rank_linked x u e = ap (λ o. cond (is_none o) (suc old_top) (old_rank x)) e

    rank_free : (x : ℕ) → v.link x ≡ None → new_rank x ≡ suc old_top
    rank_free x e = ap (λ o. cond (is_none o) (suc old_top) (old_rank x)) e

    rank_least : (x : ℕ) → old_rank x ≤ new_rank x
    rank_least x = low (v.link x) refl
      where
        low : (o : Option ℕ) → v.link x ≡ o → old_rank x ≤ new_rank x
        low None e = let a = rank_free x e in let b = old_small x in omega (arith, a, b)
        low (Some u) e = let a = rank_linked x u e in omega (arith, a)

    linked_small : (x u : ℕ) → v.link x ≡ Some u → u < g.size
    linked_small x u e = elim (new_link x) [
      | merged h ne q ↦ subst (λ n. n < g.size) (some_same (sym q ∙ e))
          (row_small turn (represents aggressive t r.c L x) (front_placed turn (represents aggressive t r.c L x)
          (made_front turn (represents aggressive t r.c L x) (f.one_made x h))))
      | left_out h k q ↦ subst (λ n. n < g.size) (some_same (sym q ∙ e)) (row_small turn r.c f.placed)
      | as_before a b q ↦ (let k = (st.keeps.links.end.rise x u (sym q ∙ e)).1 in let n = st.rows in omega (arith, k, n))
    ]

    rank_rises : (x u : ℕ) → v.link x ≡ Some u → new_rank x < new_rank u
    rank_rises x u e = let a = rank_linked x u e in let o = old_small x in elim (new_link x) [
      | merged h ne q ↦ (let same = some_same (sym q ∙ e) in let k =
          rank_free u (free_kept u (inl (subst (λ n. new_lists.home n ≡ Live n) same
          (made_home turn (represents aggressive t r.c L x) (f.one_made x h))))) in omega (arith, a, o, k))
      | left_out h d q ↦ (let same = some_same (sym q ∙ e) in let k =
          rank_free u (free_kept u (inr (subst (λ n. new_lists.home n ≡ Gone n) same (pivot_home turn)))) in omega (arith, a, o, k))
      | as_before m b q ↦ (let k = (st.keeps.links.end.rise x u (sym q ∙ e)).0 in let l = rank_least u in omega (arith, a, k, l))
    ]

    pub links_kept : LinksLead v.rows v.link new_lists.home
    links_kept = record {
      linked = linked_kept;
      alone = alone_kept;
      free = free_kept;
      last = last_kept;
      rank = new_rank;
      top = suc old_top;
      end = record {
        rise = λ x u e. (rank_rises x u e, (let k = linked_small x u e in let n = r.rows in let z = st.rows in omega (arith, k, n, z)));
        ends = rank_free;
        below = λ x u e. (let a = rank_linked x u e in let o = old_small x in omega (arith, a, o));
      };
    }
