-- The bounds after a round.
use Rattle.std.proofs.Common.{ℕ, Bool, true, false, ◌≡◌, ◌≢◌, ◌+◌, ◌-◌, ◌&&◌, ◌||◌, not, cond, inl, inr, refl, sym, ◌∙◌, ap, arith, List}
use Rattle.std.specs.Prelude.{filter, ◌==◌, sum_by, min}
use Rattle.std.proofs.lemmas.Bool.{cases_Bool, and_parts, and_from, or_parts, or_from, eq-eqb, ne_eqb, cond-true, cond-false}
use Rattle.std.proofs.lemmas.Bool.{not_from_false, not-true, and_left}
use Rattle.std.specs.Cmp.{both_ways}
use Rattle.amd_model.specs.Below.{any_below, count_below, sum_below}
use Rattle.amd_model.specs.Graph.{Graph}
use Rattle.amd_model.specs.State.{State, Live, live, in_class, stands, holds, front}
use Rattle.amd_model.specs.Step.{other, outer, border_of, outside, beyond, new_bound}
use Rattle.amd_model.specs.Quotient.{QuotientGraph, has, new_size, outside as outside_listed, left, new_bound as new_bound_listed, round}
use Rattle.amd_model.proofs.Counting.Below.{any_gives, any_from, sum_same, count_same, count_split, clash}
use Rattle.amd_model.proofs.States.Words.{class_gives, class_from, live_gives, holds_gives, neighbours_gives, live_from}
use Rattle.amd_model.proofs.States.Sound.{live_small, holds_class, standing_small}
use Rattle.amd_model.proofs.States.SoundStep.{goes, moves, stays}
use Rattle.amd_model.proofs.States.NewParts.{holds_new}
use Rattle.amd_model.proofs.States.Steps.{outer_parts, other_gives}
use Rattle.amd_model.proofs.Quotient.Sums.{named, named_gives, named_from, class_sum, sum_over}
use Rattle.amd_model.proofs.Quotient.Lists.{has_filter, once_filter}
use Rattle.amd_model.proofs.Quotient.Round.RoundAt.{RoundAt, border_list, made_list, elements_kept, variables_kept}
use Rattle.amd_model.proofs.Quotient.Round.RoundAt.{representative}
use Rattle.amd_model.proofs.Quotient.Round.Front.{row_front}
use Rattle.amd_model.proofs.Quotient.Round.Kept.{elements_left, variables_left, variables_kept_once, elements_kept_once}
use Rattle.amd_model.proofs.Quotient.Round.After.{parts, fate_of, class_before, moved_to, made_from}
use Rattle.amd_model.proofs.Quotient.Round.After.{border_front, not_made}
use Rattle.amd_model.proofs.Quotient.Round.NextLists.{other_apart}
use Rattle.amd_model.proofs.Quotient.Round.Sizes.{border_named, border_sum, size_is}

module _ {g : Graph} {aggressive : Bool} {t : QuotientGraph} {s : State} {c : ℕ} (this : RoundAt g aggressive t s c) where
  open this use {laws, sound, fits}
  open parts this use {L, new, step, now}

  -- the rows of an element outside L
  beyond_is : (e : ℕ) → stands g s e ≡ true → sum_by t.size (filter (λ j. not (has L j)) (t.members e)) ≡ beyond g s c e
  unfolding beyond
  beyond_is e st = let p : ℕ → Bool = λ j. not (has L j) in let xs : List ℕ = t.members e in
      class_sum g s t.size (filter p xs) (once_filter p xs (fits.members_once e))
      (λ x k. fits.size x (holds_gives g s e x (sym (fits.members e x) ∙
      (and_parts (has xs x) (p x) (sym (has_filter p xs x) ∙ k)).0)).class)
      ∙ count_same g.size (λ v. named (filter p xs) (s.home v)) (λ v. s.border e v && not (front g s c v))
      (λ v l. both_ways (named (filter p xs) (s.home v)) (s.border e v && not (front g s c v))
      (λ k. let d = named_gives (filter p xs) (s.home v) k in let q = and_parts (has xs d.0) (p d.0) (sym (has_filter p xs d.0) ∙ d.2) in
      and_from (s.border e v) (not (front g s c v)) ((holds_gives g s e d.0 (sym (fits.members e d.0) ∙ q.0)).rows v l d.1)
      (ap not (sym (row_front this v d.0 d.1)) ∙ q.1))
      (λ k. let q = and_parts (s.border e v) (not (front g s c v)) k in let d = live_gives (s.home v) (sound.borders_live e v st q.0) in
      named_from (filter p xs) (s.home v) d.0 d.1 (has_filter p xs d.0 ∙
      and_from (has xs d.0) (p d.0) (fits.members e d.0 ∙ holds_class g laws s sound e d.0 v st d.1 q.0)
      (ap not (row_front this v d.0 d.1) ∙ q.1))))

  neighbours_rows : (i : ℕ) → s.home i ≡ Live i → sum_by t.size (variables_kept this i) ≡ count_below g.size
      (λ v. any_below g.size (λ d. outer g s c i d && in_class s d v))
  neighbours_rows i h = let kv : List ℕ = variables_kept this i in
      class_sum g s t.size kv (variables_kept_once this i h)
      (λ x k. fits.size x (neighbours_gives g s i x (outer_parts g s c i x (sym (variables_left this i x h) ∙ k)).0).second)
      ∙ count_same g.size (λ v. named kv (s.home v)) (λ v. any_below g.size (λ d. outer g s c i d && in_class s d v))
      (λ v l. both_ways (named kv (s.home v)) (any_below g.size (λ d. outer g s c i d && in_class s d v))
      (λ k. let d = named_gives kv (s.home v) k in any_from g.size (λ d. outer g s c i d && in_class s d v) d.0
      (live_small g laws s sound d.0 d.0 (sound.named v d.0 d.1))
      (and_from (outer g s c i d.0) (in_class s d.0 v) (sym (variables_left this i d.0 h) ∙ d.2) (class_from d.0 (s.home v) d.1)))
      (λ k. let r = any_gives g.size (λ d. outer g s c i d && in_class s d v) k in
      let q = and_parts (outer g s c i r.0) (in_class s r.0 v) r.2 in
      named_from kv (s.home v) r.0 (class_gives r.0 (s.home v) q.1) (variables_left this i r.0 h ∙ q.0)))

  outside_is : (i : ℕ) → new.home i ≡ Live i → outside_listed aggressive t c L i ≡ outside g aggressive s new c i
  unfolding outside_listed outside
  outside_is i hi = let h = class_before this i hi in let ke : List ℕ = elements_kept this i in
      let F : ℕ → ℕ = λ e. sum_by t.size (filter (λ j. not (has L j)) (t.members e)) in
      let a = sum_over g.size F ke (elements_kept_once this i h)
      (λ e k. standing_small g laws s sound e
      (other_gives g aggressive s c e (and_parts (other g aggressive s c e) (holds g s e i) (sym (elements_left this i e h) ∙ k)).0).0) in
      let b = sum_same g.size (λ e. cond (has ke e) (F e) 0) (λ e. cond (other g aggressive s c e && holds g new e i) (beyond g s c e) 0)
      (λ e l. elim (cases_Bool (other g aggressive s c e)) [
        | inl o ↦ ap (λ b. cond b (F e) 0) (elements_left this i e h ∙
            ap (λ b. other g aggressive s c e && b) (both_ways (holds g s e i) (holds g new e i)
            (λ k. (holds_new g laws aggressive c s new sound step e i hi).1 (inr (o, k)))
            (λ k. elim ((holds_new g laws aggressive c s new sound step e i hi).0 k) [
              | inl q ↦ absurd (other_apart this e o q.0)
              | inr q ↦ q.1
            ])))
            ∙ ap (λ m. cond (other g aggressive s c e && holds g new e i) m 0) (beyond_is e (other_gives g aggressive s c e o).0)
        | inr o ↦ cond-false (has ke e) (F e) 0 (elements_left this i e h ∙
            and_left (other g aggressive s c e) (holds g s e i) o)
            ∙ sym (cond-false (other g aggressive s c e && holds g new e i) (beyond g s c e) 0
            (and_left (other g aggressive s c e) (holds g new e i) o))
      ]) in
      ap (λ m. m + sum_by t.size (variables_kept this i)) (a ∙ b) ∙
      ap (λ m. sum_below g.size (λ e. cond (other g aggressive s c e && holds g new e i) (beyond g s c e) 0) + m) (neighbours_rows i h)

  pub live_is : left aggressive t c L ≡ count_below g.size (live new)
  unfolding left
  live_is = let p : ℕ → Bool = λ i. not (i == c || has L i) in let xs : List ℕ = filter p t.placed in
      let parts : (x : ℕ) → has xs x ≡ true → (s.home x ≡ Live x) × (x ≢ c) × (has L x ≡ false)
      = λ x k. let q = and_parts (has t.placed x) (p x) (sym (has_filter p t.placed x) ∙ k) in
      let r = or_parts (x == c) (has L x) (not-true (x == c || has L x) q.1) in
      (class_gives x (s.home x) (sym (fits.placed x) ∙ q.0), (λ e. clash (eq-eqb x c e) r.0), r.1) in
      let a = class_sum g s t.size xs (once_filter p t.placed fits.placed_once) (λ x k. fits.size x (parts x k).0) in
      let whole = count_split g.size (live new) (border_of g aggressive s c) in
      let one = count_same g.size (λ v. live new v && border_of g aggressive s c v) (border_of g aggressive s c)
      (λ v l. both_ways (live new v && border_of g aggressive s c v) (border_of g aggressive s c v)
      (λ k. (and_parts (live new v) (border_of g aggressive s c v) k).1)
      (λ b. let d = named_gives (border_list this) (s.home v) (border_named this v ∙ b) in
      and_from (live new v) (border_of g aggressive s c v)
      (live_from (representative this d.0) (new.home v) (moved_to this v d.0 b d.1)) b)) in
      let two = count_same g.size (λ v. live new v && not (border_of g aggressive s c v)) (λ v. named xs (s.home v))
      (λ v l. both_ways (live new v && not (border_of g aggressive s c v)) (named xs (s.home v))
      (λ k. let q = and_parts (live new v) (not (border_of g aggressive s c v)) k in
      let nb = not-true (border_of g aggressive s c v) q.1 in let d = live_gives (new.home v) q.0 in let hd = d.1 in elim (fate_of this v) [
        | goes b r ↦ absurd (cc)
        | moves b x j p' r' r a w z ↦ clash b nb
        | stays ni nf r ↦ (let h : s.home v ≡ Live d.0 = sym r ∙ hd in
            named_from xs (s.home v) d.0 h (has_filter p t.placed d.0 ∙ and_from (has t.placed d.0) (p d.0)
            (fits.placed d.0 ∙ class_from d.0 (s.home d.0) (sound.named v d.0 h))
            (not_from_false (d.0 == c || has L d.0)
            (or_from (d.0 == c) (has L d.0) (ne_eqb d.0 c (λ e. clash (class_from c (s.home v) (h ∙ ap Live e)) ni))
            (row_front this v d.0 h ∙ nf)))))
      ])
      (λ k. let d = named_gives xs (s.home v) k in let q = parts d.0 d.2 in let nf = sym (row_front this v d.0 d.1) ∙ q.2 in
      let hv : new.home v ≡ Live d.0 =
      step.kept v (elim (cases_Bool (in_class s c v)) [
        | inr n ↦ n
        | inl y ↦ absurd (q.1 (let e : Live d.0 ≡ Live c = sym d.1 ∙ class_gives c (s.home v) y in cc))
      ]) nf ∙ d.1 in
      and_from (live new v) (not (border_of g aggressive s c v)) (live_from d.0 (new.home v) hv)
      (not_from_false (border_of g aggressive s c v)
      (elim (cases_Bool (border_of g aggressive s c v)) [ inr n ↦ n | inl y ↦ clash (border_front this v y) nf ])))) in
      let r = border_sum this in omega (arith, a, whole, one, two, r)

  as_bound : (i : ℕ) → min
      (min (s.bound i) (outside g aggressive s new c i) + (count_below g.size (border_of g aggressive s c) - count_below g.size
      (in_class new i))) (count_below g.size (live new) - count_below g.size (in_class new i)) ≡ new_bound g aggressive s new c i
  unfolding new_bound
  as_bound i = refl

  pub bound_after : (i : ℕ) → new.home i ≡ Live i → now.bound i ≡ new.bound i
  unfolding round new_bound_listed
  bound_after i hi = elim (cases_Bool (border_of g aggressive s c i)) [
    | inr nb ↦ cond-false (has (made_list this) i) _ _ (not_made this i nb) ∙ fits.bound i (class_before this i hi) ∙
        sym (step.bound_stays i (class_from i (new.home i) hi) nb)
    | inl b ↦ cond-true (has (made_list this) i) _ _ (made_from this i hi b)
        ∙ formula (t.bound i) (s.bound i) (outside_listed aggressive t c L i) (outside g aggressive s new c i)
        (sum_by t.size (border_list this)) (count_below g.size (border_of g aggressive s c))
        (new_size aggressive t c L i) (count_below g.size (in_class new i)) (left aggressive t c L) (count_below g.size (live new))
        (fits.bound i (class_before this i hi)) (outside_is i hi) (border_sum this) (size_is this i hi b) live_is
        ∙ as_bound i ∙ sym (step.bounds i (class_from i (new.home i) hi) b)
  ]
    where
      formula : (a a' f f' r r' z z' l l' : ℕ) → a ≡ a' → f ≡ f' → r ≡ r' → z ≡ z' → l ≡ l' →
          min (min a f + (r - z)) (l - z) ≡ min (min a' f' + (r' - z')) (l' - z')
      formula a a' f f' r r' z z' l l' p q u w x = rw (p, q, u, w, x) refl
