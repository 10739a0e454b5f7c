-- The list of the front names the classes of L, and the elements taken are those absorbed.
use Rattle.std.proofs.Common.{ℕ, Bool, true, ◌≡◌, ◌≢◌, ◌&&◌, ◌||◌, not, inl, inr, refl, sym, ◌∙◌, ap, List, [], ◌++◌}
use Rattle.std.specs.Prelude.{flat_map, ◌==◌}
use Rattle.std.proofs.lemmas.Bool.{cases_Bool, and_parts, and_from, or_cases, or_left, or_right, eq-eqb, ne_eqb, not_from_false, not-true}
use Rattle.std.specs.Cmp.{both_ways}
use Rattle.amd_model.specs.Graph.{Graph}
use Rattle.amd_model.specs.State.{State, Live, is_class, stands, inside, holds, neighbours, front}
use Rattle.amd_model.specs.Step.{absorbed}
use Rattle.amd_model.specs.Quotient.{QuotientGraph, has, each, is_empty, gathered, absorbed as absorbed_listed, Once}
use Rattle.amd_model.proofs.Counting.Below.{any_gives, clash}
use Rattle.amd_model.proofs.States.Words.{class_gives, class_from, live_gives, stands_gives, holds_gives, inside_gives, inside_from}
use Rattle.amd_model.proofs.States.Words.{neighbours_gives, by_element, by_neighbour, front_gives, front_from}
use Rattle.amd_model.proofs.States.Sound.{live_small, holds_class, standing_small, front_whole}
use Rattle.amd_model.proofs.Quotient.Lists.{has_append, each_gives, each_from, empty_gives, some_of, firsts}
use Rattle.amd_model.proofs.Quotient.Lists.{once_firsts, flat_gives, flat_from}
use Rattle.amd_model.proofs.Quotient.Round.RoundAt.{RoundAt, front_list, taken, pivot_live, same_class, outside_pivot}

module _ {g : Graph} {aggressive : Bool} {t : QuotientGraph} {s : State} {c : ℕ} (this : RoundAt g aggressive t s c) where
  open this use {laws, sound, fits}

  abbrev L : List ℕ
  L = front_list this

  -- L lists the classes of the front
  pub front_is : (i : ℕ) → has L i ≡ (is_class s i && front g s c i)
  unfolding gathered is_empty
  front_is i =
      let vs : List ℕ = flat_map t.members (t.elements c) ++ t.variables c in
      firsts (λ x. x == c) [] vs i ∙ both_ways (has [] i || (has vs i && not (i == c))) (is_class s i && front g s c i)
      (λ h. elim (or_cases (has [] i) (has vs i && not (i == c)) h) [
        | inl n ↦ absurd (empty_gives [] refl i n)
        | inr n ↦ (let p = and_parts (has vs i) (not (i == c)) n in
            let ne : i ≢ c = λ q. clash (eq-eqb i c q) (not-true (i == c) p.1) in
            elim (or_cases (has (flat_map t.members (t.elements c)) i) (has (t.variables c) i)
            (sym (has_append (flat_map t.members (t.elements c)) (t.variables c) i) ∙ p.0)) [
              | inl a ↦ (let r = flat_gives t.members (t.elements c) i a in
                  let he = sym (fits.elements c r.0 (pivot_live this)) ∙ r.1 in let hi = sym (fits.members r.0 i) ∙ r.2 in
                  let k = holds_gives g s r.0 i hi in
                  and_from (is_class s i) (front g s c i) (class_from i (s.home i) k.class)
                  (front_from g s c i (outside_pivot this i k.class ne) (by_element r.0 (standing_small g laws s sound r.0 k.standing) he
                  (k.rows i (live_small g laws s sound i i k.class) k.class))))
              | inr a ↦ (let n = sym (fits.variables c i (pivot_live this)) ∙ a in let k = neighbours_gives g s c i n in
                  and_from (is_class s i) (front g s c i) (class_from i (s.home i) k.second)
                  (front_from g s c i (outside_pivot this i k.second ne)
                  (by_neighbour i (live_small g laws s sound i i k.second) n k.second)))
            ])
      ])
      (λ h. let p = and_parts (is_class s i) (front g s c i) h in let hi = class_gives i (s.home i) p.0 in
      let f = front_gives g s c i p.1 in
      let ne : i ≢ c = λ q. clash (class_from c (s.home i) (ap s.home q ∙ pivot_live this)) f.0 in
      or_right (has [] i) (has vs i && not (i == c)) (and_from (has vs i) (not (i == c))
      (has_append (flat_map t.members (t.elements c)) (t.variables c) i ∙ elim f.1 [
        | by_element e l h b ↦ or_left (has (flat_map t.members (t.elements c)) i) (has (t.variables c) i)
            (flat_from t.members (t.elements c) i e (fits.elements c e (pivot_live this) ∙ h)
            (fits.members e i ∙ holds_class g laws s sound e i i (holds_gives g s e c h).standing hi b))
        | by_neighbour d l n hd ↦ or_right (has (flat_map t.members (t.elements c)) i) (has (t.variables c) i)
            (fits.variables c i (pivot_live this) ∙ ap (neighbours g s c) (sym (same_class this i d hi hd)) ∙ n)
      ])
      (not_from_false (i == c) (ne_eqb i c ne))))

  pub front_class : (i : ℕ) → has L i ≡ true → (s.home i ≡ Live i) × (front g s c i ≡ true)
  front_class i h = let p = and_parts (is_class s i) (front g s c i) (sym (front_is i) ∙ h) in (class_gives i (s.home i) p.0, p.1)

  pub class_front : (i : ℕ) → s.home i ≡ Live i → has L i ≡ front g s c i
  class_front i h = front_is i ∙ ap (λ b. b && front g s c i) (class_from i (s.home i) h)

  pub row_front : (v x : ℕ) → s.home v ≡ Live x → has L x ≡ front g s c v
  row_front v x h = let hx = sound.named v x h in class_front x hx ∙
      both_ways (front g s c x) (front g s c v) (front_whole g laws s sound c x x v hx h) (front_whole g laws s sound c x v x h hx)

  pub front_once : Once L
  unfolding gathered
  front_once = once_firsts (λ x. x == c) [] (flat_map t.members (t.elements c) ++ t.variables c) tt

  pub absorbed_is : (e : ℕ) → taken this e ≡ absorbed g aggressive s c e
  unfolding absorbed_listed absorbed
  absorbed_is e = ap (λ b. b || (aggressive && not (is_empty (t.members e)) && each (has L) (t.members e)))
      (fits.elements c e (pivot_live this))
      ∙ ap (λ b. holds g s e c || b) (both_ways (aggressive && not (is_empty (t.members e)) && each (has L) (t.members e))
      (aggressive && stands g s e && inside g (s.border e) (front g s c))
      (λ h. let p = and_parts (aggressive && not (is_empty (t.members e))) (each (has L) (t.members e)) h in
      let q = and_parts aggressive (not (is_empty (t.members e))) p.0 in
      let m = some_of (t.members e) (not-true (is_empty (t.members e)) q.1) in
      let st = (holds_gives g s e m.0 (sym (fits.members e m.0) ∙ m.1)).standing in
      and_from (aggressive && stands g s e) (inside g (s.border e) (front g s c)) (and_from aggressive (stands g s e) q.0 st)
      (inside_from g (s.border e) (front g s c) (λ v l b. let d = live_gives (s.home v) (sound.borders_live e v st b) in
      let f = front_class d.0 (each_gives (has L) (t.members e) p.1 d.0 (fits.members e d.0 ∙ holds_class g laws s sound e d.0 v st d.1 b))
      in
      front_whole g laws s sound c d.0 d.0 v f.0 d.1 f.1)))
      (λ h. let p = and_parts (aggressive && stands g s e) (inside g (s.border e) (front g s c)) h in
      let q = and_parts aggressive (stands g s e) p.0 in
      let some = any_gives g.size (s.border e) (stands_gives g s e q.1).some in
      let d = live_gives (s.home some.0) (sound.borders_live e some.0 q.1 some.2) in
      and_from (aggressive && not (is_empty (t.members e))) (each (has L) (t.members e))
      (and_from aggressive (not (is_empty (t.members e))) q.0
      (not_from_false (is_empty (t.members e)) (elim (cases_Bool (is_empty (t.members e))) [
        | inr k ↦ k
        | inl k ↦ absurd (empty_gives (t.members e) k d.0 (fits.members e d.0 ∙ holds_class g laws s sound e d.0 some.0 q.1 d.1 some.2))
      ])))
      (each_from (has L) (t.members e) (λ i k. let m = holds_gives g s e i (sym (fits.members e i) ∙ k) in
      let l = live_small g laws s sound i i m.class in
      class_front i m.class ∙ inside_gives g (s.border e) (front g s c) p.1 i l (m.rows i l m.class)))))
