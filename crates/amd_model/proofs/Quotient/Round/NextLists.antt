-- What the next lists name, each once.
use Rattle.std.proofs.Common.{ℕ, Bool, true, false, ◌≡◌, ◌≢◌, ◌&&◌, ◌||◌, not, inl, inr, refl, sym, ◌∙◌, ap, List, [], ◌∷◌}
use Rattle.std.specs.Prelude.{filter, ◌==◌}
use Rattle.std.proofs.lemmas.Bool.{cases_Bool, false≢true, and_parts, and_from, or_cases, or_left, or_right, or_parts, or_from, eqb-true}
use Rattle.std.proofs.lemmas.Bool.{eq-eqb, ne_eqb, cases_eq, cond-true, cond-false, not_from_false, not-true, and_left, and_right}
use Rattle.std.proofs.lemmas.Bool.{and_cases, cond_both}
use Rattle.std.specs.Cmp.{both_ways}
use Rattle.amd_model.specs.Graph.{Graph}
use Rattle.amd_model.specs.State.{State, Live, is_class, holds, neighbours}
use Rattle.amd_model.specs.Step.{absorbed, other, outer, border_of}
use Rattle.amd_model.specs.Quotient.{QuotientGraph, has, turned, kept_elements, kept_variables, border_of as border_of_listed, made, round}
use Rattle.amd_model.specs.Quotient.{Once}
use Rattle.amd_model.proofs.States.Words.{class_gives, class_from, holds_gives, neighbours_gives}
use Rattle.amd_model.proofs.States.Sound.{live_small}
use Rattle.amd_model.proofs.States.SoundStep.{other_not_pivot}
use Rattle.amd_model.proofs.States.NewParts.{holds_new, neighbours_new}
use Rattle.amd_model.proofs.States.Steps.{outer_parts, outer_from, other_gives, other_from, absorbed_border, no_border}
use Rattle.amd_model.proofs.Quotient.Lists.{has_append, has_turned, has_filter, once_append, once_filter, once_turned}
use Rattle.amd_model.proofs.Quotient.Round.RoundAt.{RoundAt, border_list, made_list, elements_kept, variables_kept}
use Rattle.amd_model.proofs.Quotient.Round.RoundAt.{representative, keeps_none, taken, ended, outside_pivot}
use Rattle.amd_model.proofs.Quotient.Round.Front.{class_front, front_once, absorbed_is}
use Rattle.amd_model.proofs.Quotient.Round.Kept.{elements_left, variables_left}
use Rattle.amd_model.proofs.Quotient.Round.After.{parts, class_before, made_from, made_class, border_front}
use Rattle.amd_model.proofs.Quotient.Round.After.{out_of, kept_class, class_not_ended, not_ended_class, not_made}
use Rattle.amd_model.proofs.Counting.Below.{clash}

module _ {g : Graph} {aggressive : Bool} {t : QuotientGraph} {s : State} {c : ℕ} (this : RoundAt g aggressive t s c) where
  open this use {laws, sound, fits}
  open parts this use {L, new, step, now}

  pub placed_after : (i : ℕ) → has now.placed i ≡ is_class new i
  unfolding round
  placed_after i = let far : List ℕ = filter (λ i. not (i == c || has L i)) t.placed in let m : List ℕ = made_list this in
      has_append far m i ∙ both_ways (has far i || has m i) (is_class new i)
      (λ a. class_from i (new.home i) (elim (or_cases (has far i) (has m i) a) [
        | inr k ↦ (made_class this i k).0
        | inl k ↦ (let p = and_parts (has t.placed i) (not (i == c || has L i))
            (sym (has_filter (λ i. not (i == c || has L i)) t.placed i) ∙ k) in
            let q = or_parts (i == c) (has L i) (not-true (i == c || has L i) p.1) in
            let h = class_gives i (s.home i) (sym (fits.placed i) ∙ p.0) in
            kept_class this i h (λ e. clash (eq-eqb i c e) q.0) (sym (class_front this i h) ∙ q.1))
      ]))
      (λ a. let h = class_gives i (new.home i) a in elim (cases_Bool (border_of g aggressive s c i)) [
        | inl b ↦ or_right (has far i) (has m i) (made_from this i h b)
        | inr nb ↦ (let o = out_of this i h nb in or_left (has far i) (has m i) (has_filter (λ i. not (i == c || has L i)) t.placed i ∙
            and_from (has t.placed i) (not (i == c || has L i)) (fits.placed i ∙ class_from i (s.home i) (class_before this i h))
            (not_from_false (i == c || has L i) (or_from (i == c) (has L i) (ne_eqb i c o.not_c) o.not_L))))
      ])

  pub variables_after : (i j : ℕ) → new.home i ≡ Live i → has (now.variables i) j ≡ neighbours g new i j
  unfolding round
  variables_after i j h = let kv : List ℕ = variables_kept this i in
      let fs : List ℕ = filter (λ j. not (ended this j)) (t.variables i) in
      elim (cases_Bool (border_of g aggressive s c i)) [
        | inl b ↦ ap (λ l. has l j) (cond-true (has (made_list this) i) (turned kv) fs (made_from this i h b)) ∙ has_turned kv j ∙
            variables_left this i j (class_before this i h) ∙
            both_ways (outer g s c i j) (neighbours g new i j)
            (λ o. let p = outer_parts g s c i j o in let hj = kept_class this j (neighbours_gives g s i j p.0).second p.2 p.1 in
            (neighbours_new g laws aggressive c s new sound step i j h hj).1 (
              p.0,
              and_right (border_of g aggressive s c i) (border_of g aggressive s c j)
                  (no_border g aggressive s c j p.1),
            ))
            (λ n. let hj = (neighbours_gives g new i j n).second in
            let p = (neighbours_new g laws aggressive c s new sound step i j h hj).0 n in
            let o = out_of this j hj (elim (and_cases (border_of g aggressive s c i) (border_of g aggressive s c j)
            p.1) [ inl k ↦ clash b k | inr k ↦ k ]) in
            outer_from g s c i j p.0 o.not_front o.not_c)
        | inr nb ↦ ap (λ l. has l j) (cond-false (has (made_list this) i) (turned kv) fs (not_made this i nb)) ∙
            has_filter (λ j. not (ended this j)) (t.variables i) j ∙
            both_ways (has (t.variables i) j && not (ended this j)) (neighbours g new i j)
            (λ a. let p = and_parts (has (t.variables i) j) (not (ended this j)) a in
            let n = sym (fits.variables i j (class_before this i h)) ∙ p.0 in
            (neighbours_new g laws aggressive c s new sound step i j h
            (not_ended_class this j (neighbours_gives g s i j n).second (not-true (ended this j) p.1))).1
            (n, and_left (border_of g aggressive s c i) (border_of g aggressive s c j) nb))
            (λ n. let hj = (neighbours_gives g new i j n).second in
            let p = (neighbours_new g laws aggressive c s new sound step i j h hj).0 n in
            and_from (has (t.variables i) j) (not (ended this j)) (fits.variables i j (class_before this i h) ∙ p.0)
            (not_from_false (ended this j) (class_not_ended this j hj)))
      ]

  other_of : (e i : ℕ) → holds g s e i ≡ true → absorbed g aggressive s c e ≡ false → other g aggressive s c e ≡ true
  other_of e i h n = other_from g aggressive s c e
      (holds_gives g s e i h).standing n

  pub other_apart : (e : ℕ) → other g aggressive s c e ≡ true → e ≢ c
  other_apart e o = other_not_pivot g laws aggressive c s new sound step e o

  pub elements_after : (i e : ℕ) → new.home i ≡ Live i → has (now.elements i) e ≡ holds g new e i
  unfolding round has
  elements_after i e h = let ke : List ℕ = elements_kept this i in
      let both = holds_new g laws aggressive c s new sound step e i h in
      elim (cases_Bool (border_of g aggressive s c i)) [
        | inl b ↦ ap (λ l. has l e) (cond-true (has (made_list this) i) (c ∷ turned ke) (t.elements i) (made_from this i h b)) ∙
            ap (λ k. (c == e) || k) (has_turned ke e ∙ elements_left this i e (class_before this i h)) ∙
            both_ways ((c == e) || (other g aggressive s c e && holds g s e i)) (holds g new e i)
            (λ a. both.1 (elim (or_cases (c == e) (other g aggressive s c e && holds g s e i) a) [
              | inl q ↦ inl (sym (eqb-true c e q), b)
              | inr q ↦ inr (and_parts (other g aggressive s c e) (holds g s e i) q)
            ]))
            (λ a. elim (both.0 a) [
              | inl q ↦ or_left (c == e) (other g aggressive s c e && holds g s e i) (eq-eqb c e (sym q.0))
              | inr q ↦ or_right (c == e) (other g aggressive s c e && holds g s e i)
                  (and_from (other g aggressive s c e) (holds g s e i) q.0 q.1)
            ])
        | inr nb ↦ ap (λ l. has l e) (cond-false (has (made_list this) i) (c ∷ turned ke) (t.elements i) (not_made this i nb)) ∙
            fits.elements i e (class_before this i h) ∙
            both_ways (holds g s e i) (holds g new e i)
            (λ a. let o = out_of this i h nb in let hi = class_before this i h in let l = live_small g laws s sound i i hi in both.1 (inr (
              other_of e i a (elim (cases_Bool (absorbed g aggressive s c e)) [
                | inr k ↦ k
                | inl k ↦ clash (absorbed_border g laws aggressive s sound c e i k ((holds_gives g s e i a).rows i l hi) l
                    (outside_pivot this i hi o.not_c)) o.not_front
              ]),
              a,
            )))
            (λ a. elim (both.0 a) [ inl q ↦ clash q.1 nb | inr q ↦ q.1 ])
      ]

  pub members_after : (e i : ℕ) → has (now.members e) i ≡ holds g new e i
  unfolding round has
  members_after e i = let m : List ℕ = made_list this in let fs : List ℕ = filter (λ j. not (ended this j)) (t.members e) in
      let both : (h : new.home i ≡ Live i) → _ = λ h. holds_new g laws aggressive c s new sound step e i h in
      let class_of : holds g new e i ≡ true → new.home i ≡ Live i = λ a. (holds_gives g new e i a).class in
      elim (cases_eq e c) [
        | inl q ↦ ap (λ l. has l i) (cond-true (e == c) m _ (eq-eqb e c q)) ∙ both_ways (has m i) (holds g new e i)
            (λ k. let p = made_class this i k in (both p.0).1 (inl (q, p.1)))
            (λ a. elim ((both (class_of a)).0 a) [ inl p ↦ made_from this i (class_of a) p.1 | inr p ↦ absurd (other_apart e p.0 q) ])
        | inr ne ↦ ap (λ l. has l i) (cond-false (e == c) m _ (ne_eqb e c ne)) ∙ elim (cases_Bool (taken this e)) [
          | inl k ↦ ap (λ l. has l i) (cond-true (taken this e) [] fs k) ∙ both_ways false (holds g new e i)
              (λ a. absurd (false≢true a))
              (λ a. elim ((both (class_of a)).0 a) [
                | inl p ↦ absurd (ne p.0)
                | inr p ↦ clash (sym (absorbed_is this e) ∙ k) (other_gives g aggressive s c e p.0).1
              ])
          | inr k ↦ ap (λ l. has l i) (cond-false (taken this e) [] fs k) ∙
              has_filter (λ j. not (ended this j)) (t.members e) i ∙
              both_ways (has (t.members e) i && not (ended this i)) (holds g new e i)
              (λ a. let p = and_parts (has (t.members e) i) (not (ended this i)) a in let w = sym (fits.members e i) ∙ p.0 in
              (both (not_ended_class this i (holds_gives g s e i w).class (not-true (ended this i) p.1))).1
              (inr (other_of e i w (sym (absorbed_is this e) ∙ k), w)))
              (λ a. elim ((both (class_of a)).0 a) [
                | inl p ↦ absurd (ne p.0)
                | inr p ↦ and_from (has (t.members e) i) (not (ended this i)) (fits.members e i ∙ p.1)
                    (not_from_false (ended this i) (class_not_ended this i (class_of a)))
              ])
        ]
      ]

  made_once : Once (made_list this)
  unfolding made border_of_listed
  made_once = once_filter (λ i. representative this i == i) (border_list this)
      (once_filter (λ i. not (keeps_none this i)) L (front_once this))

  pub placed_once : Once now.placed
  unfolding round
  placed_once = let far : List ℕ = filter (λ i. not (i == c || has L i)) t.placed in let m : List ℕ = made_list this in
      once_append far m (once_filter (λ i. not (i == c || has L i)) t.placed fits.placed_once) made_once
      (λ x a b. let p = and_parts (has t.placed x) (not (x == c || has L x))
      (sym (has_filter (λ i. not (i == c || has L i)) t.placed x) ∙ a) in
      let k = made_class this x b in clash (class_front this x (class_before this x k.0) ∙ border_front this x k.1)
      (or_parts (x == c) (has L x) (not-true (x == c || has L x) p.1)).1)

  pub variables_once : (i : ℕ) → new.home i ≡ Live i → Once (now.variables i)
  unfolding round kept_variables
  variables_once i h = cond_both (has (made_list this) i) _ _ Once
      (λ k. once_turned (variables_kept this i) (once_filter (λ j. not (j == c || has L j)) (t.variables i)
      (fits.variables_once i (class_before this i h))))
      (λ k. once_filter (λ j. not (ended this j)) (t.variables i) (fits.variables_once i (class_before this i h)))

  pub elements_once : (i : ℕ) → new.home i ≡ Live i → Once (now.elements i)
  unfolding round kept_elements
  elements_once i h = cond_both (has (made_list this) i) _ _ Once
      (λ k. (
        elim (cases_Bool (has (turned (elements_kept this i)) c)) [
          | inr n ↦ n
          | inl y ↦ absurd (other_apart c (and_parts (other g aggressive s c c) (holds g s c i)
              (sym (elements_left this i c (class_before this i h)) ∙ (sym (has_turned (elements_kept this i) c) ∙ y))).0 refl)
        ],
        once_turned (elements_kept this i) (once_filter (λ e. not (taken this e)) (t.elements i)
            (fits.elements_once i (class_before this i h))),
      ))
      (λ k. fits.elements_once i (class_before this i h))

  pub members_once : (e : ℕ) → Once (now.members e)
  unfolding round
  members_once e = cond_both (e == c) _ _ Once (λ k. made_once)
      (λ k. cond_both (taken this e) _ _ Once (λ m. tt)
      (λ m. once_filter (λ j. not (ended this j)) (t.members e) (fits.members_once e)))
