-- Two engines that meet the contract of an engine give one answer.
use Rattle.std.proofs.Common.{ℕ, ℤ, pos, negsuc, Bool, List, Option, ◌≡◌, ◌≤◌, ◌∙◌, map, max, sym, ap, subst, refl, arith}
use Rattle.std.specs.Prelude.{◌*◌, min}
use Rattle.std.proofs.lemmas.List.{ext_get_or}
use Rattle.amd_model.specs.Graph.{Graph}
use Rattle.amd_model.specs.Run.{last_state}
use Rattle.amd_model.specs.Figures.{entries, ldl_steps, lu_steps}
use Rattle.amd_model.specs.Ordering.{IsListingOf, SameTree}
use Rattle.amd_model.specs.State.{State}
use Rattle.amd_model.specs.Input.Columns.{at}
use Rattle.amd_model.specs.Input.Dense.{IsThreshold, IsRawThreshold, IsGreatest}
use Rattle.amd_model.specs.Input.Held.{is_held_last}
use Rattle.amd_model.proofs.Listings.OneOrdering.{one_ordering, figure_same, greatest_same}
use Rattle.amd_types.specs.Permutations.{AreInverse}
use Rattle.amd_types.specs.declared.amd.Control.{Control}
use Rattle.amd_types.specs.declared.amd.Info.{Info}
use Rattle.amd_engine_law.specs.Engine.{IsAnswerOf, with_figures}

-- there is one greatest number with a property
greatest_one : (P : ℕ → Type 0) (d e : ℕ) → IsGreatest P d → IsGreatest P e → d ≡ e
greatest_one P d e a b = let up = b.most d a.has in let down = a.most e b.has in omega (arith, up, down)

root_one : (n : ℕ) (t : ℤ) (d e : ℕ) → IsRawThreshold n t d → IsRawThreshold n t e → d ≡ e
root_one n (pos t) d e a b = greatest_one (λ m. (1000 * m) * (1000 * m) ≤ t * t * n) d e a b
root_one n (negsuc t) d e a b = a ∙ sym b

-- a size and a parameter have one threshold
pub threshold_one : (n : ℕ) (t : ℤ) (x y : ℕ) → IsThreshold n t x → IsThreshold n t y → x ≡ y
threshold_one n t x y a b = a.2 ∙ ap (λ d. min (max d 16) n) (root_one n t a.0 b.0 a.1 b.1) ∙ sym b.2

-- a permutation has one inverse
pub inverse_one : (n : ℕ) (p q s : List ℤ) → AreInverse n p q → AreInverse n p s → q ≡ s
inverse_one n p q s a b = ext_get_or (pos 0) q s (a.q_length ∙ sym b.q_length) (λ k h.
    let back = b.back k (let l = a.q_length in omega (arith, h, l)) in
    let there = a.there back.0 back.1 in
    let same : pos there.0 ≡ pos k = sym there.2 ∙ back.3 in
    let k_is : there.0 ≡ k = cc in
    ap (at q) (sym k_is) ∙ there.3 ∙ sym back.2)

-- one tree has one set of figures
told_one : (g : Graph) (dense : ℕ → Bool) (s t : State) (old : Info) → SameTree s t →
    with_figures g dense s 0 old ≡ with_figures g dense t 0 old
told_one g dense s t old same =
    rw (
      figure_same entries g dense s t same,
      figure_same ldl_steps g dense s t same,
      figure_same lu_steps g dense s t same,
      greatest_same g dense s t same,
    ) refl

-- the record of an answer, the count of compactions aside
without_packs : (g : Graph) (dense : ℕ → Bool) (s : State) (old new : Info) → new ≡ with_figures g dense s new.n_cmp_a old →
    (record new { n_cmp_a = 0 }) ≡ with_figures g dense s 0 old
without_packs g dense s old new told = ap {A = Info} (λ x. record x { n_cmp_a = 0 }) told

module _ (g : Graph) (lists : ℕ → List ℕ) (hold : Option (List Bool)) (n : ℕ) (control : Control) (p q r s : List ℤ)
    (old one other : Info) (a : IsAnswerOf g lists hold n control p q old one)
    (b : IsAnswerOf g lists hold n control r s old other) where
  threshold_is : b.threshold ≡ a.threshold
  threshold_is = threshold_one n control.dense b.threshold a.threshold b.is_threshold a.is_threshold

  abbrev dense : ℕ → Bool
  dense = is_held_last hold g a.threshold

  listing : IsListingOf g (is_held_last hold g a.threshold) control.aggressive lists b.first b.states b.rows
  listing = subst (λ k. IsListingOf g (is_held_last hold g k) control.aggressive lists b.first b.states b.rows) threshold_is b.listing

  told : other ≡ with_figures g (is_held_last hold g a.threshold) (last_state b.first b.states) other.n_cmp_a old
  told = subst (λ k. other ≡ with_figures g (is_held_last hold g k) (last_state b.first b.states) other.n_cmp_a old) threshold_is b.told

  pub answers_one : (p ≡ r) × (q ≡ s) × ((record one { n_cmp_a = 0 }) ≡ (record other { n_cmp_a = 0 }))
  answers_one =
      let o = one_ordering g dense control.aggressive lists a.first b.first a.states b.states a.rows b.rows a.listing listing in
      let same : p ≡ r = a.listed ∙ ap (map pos) o.0 ∙ sym b.listed in (
        same,
        inverse_one n p q s a.inverse (subst (λ x. AreInverse n x s) (sym same) b.inverse),
        without_packs g dense (last_state a.first a.states) old one a.told
            ∙ told_one g dense (last_state a.first a.states) (last_state b.first b.states) old o.1
            ∙ sym (without_packs g dense (last_state b.first b.states) old other told),
      )
