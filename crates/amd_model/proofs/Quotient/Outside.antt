-- The rows of an element outside a front: what is left of the rows of its border when those of the classes of the front that it
-- holds are taken off.
use Rattle.std.proofs.Common.{ℕ, Bool, true, false, ◌≡◌, ◌+◌, ◌&&◌, not, cond, inl, inr, refl, sym, ◌∙◌, ap, arith, List}
use Rattle.std.specs.Prelude.{filter, sum_by}
use Rattle.std.proofs.lemmas.Bool.{cases_Bool, and_parts, cond-true, cond-false}
use Rattle.std.proofs.lemmas.List.Filters.{sum_by-filter_both}
use Rattle.std.specs.Cmp.{both_ways}
use Rattle.amd_model.specs.Below.{count_below}
use Rattle.amd_model.specs.Graph.{Graph, IsGraph}
use Rattle.amd_model.specs.State.{State, Live, stands}
use Rattle.amd_model.specs.Sound.{IsSound}
use Rattle.amd_model.specs.Quotient.{QuotientGraph, Fits, Once, has}
use Rattle.amd_model.proofs.Counting.Below.{sum_same, count_same}
use Rattle.amd_model.proofs.States.Words.{live_gives, holds_gives}
use Rattle.amd_model.proofs.States.Sound.{live_small, holds_class}
use Rattle.amd_model.proofs.Quotient.Lists.{has_filter, once_filter}
use Rattle.amd_model.proofs.Quotient.Sums.{named, named_gives, named_from, class_sum, sum_over}

module _ (g : Graph) (laws : IsGraph g) (t : QuotientGraph) (s : State) (sound : IsSound g s) (fits : Fits g t s) (e : ℕ)
    (st : stands g s e ≡ true) where
  -- a member of the element is a class, and lists it
  member_class : (i : ℕ) → has (t.members e) i ≡ true → s.home i ≡ Live i
  member_class i h = (holds_gives g s e i (sym (fits.members e i) ∙ h)).class

  listed_both : (i : ℕ) → s.home i ≡ Live i → has (t.elements i) e ≡ has (t.members e) i
  listed_both i h = fits.elements i e h ∙ sym (fits.members e i)

  -- its members have the rows of its border
  pub members_rows : sum_by t.size (t.members e) ≡ count_below g.size (s.border e)
  members_rows = let xs : List ℕ = t.members e in
      class_sum g s t.size xs (fits.members_once e) (λ x k. fits.size x (member_class x k))
      ∙ count_same g.size (λ v. named xs (s.home v)) (s.border e) (λ v l. both_ways (named xs (s.home v)) (s.border e v)
      (λ k. let d = named_gives xs (s.home v) k in (holds_gives g s e d.0 (sym (fits.members e d.0) ∙ d.2)).rows v l d.1)
      (λ b. let d = live_gives (s.home v) (sound.borders_live e v st b) in
      named_from xs (s.home v) d.0 d.1 (fits.members e d.0 ∙ holds_class g laws s sound e d.0 v st d.1 b)))

  -- those of its members that a list of classes names are those of the classes that list it
  held_rows : (xs : List ℕ) → Once xs → ((i : ℕ) → has xs i ≡ true → s.home i ≡ Live i) →
      sum_by t.size (filter (has xs) (t.members e)) ≡ sum_by (λ i. cond (has (t.elements i) e) (t.size i) 0) xs
  held_rows xs once classes =
      sum_over g.size t.size (filter (has xs) (t.members e)) (once_filter (has xs) (t.members e) (fits.members_once e))
      (λ x h. let m = (and_parts (has (t.members e) x) (has xs x) (sym (has_filter (has xs) (t.members e) x) ∙ h)).0 in
      live_small g laws s sound x x (member_class x m))
      ∙ sum_same g.size (λ k. cond (has (filter (has xs) (t.members e)) k) (t.size k) 0)
      (λ k. cond (has xs k) (cond (has (t.elements k) e) (t.size k) 0) 0) (λ k l.
      ap (λ b. cond b (t.size k) 0) (has_filter (has xs) (t.members e) k) ∙ elim (cases_Bool (has xs k)) [
        | inl h ↦ ap (λ b. cond (has (t.members e) k && b) (t.size k) 0) h ∙ on (has (t.members e) k) (t.size k) ∙
            ap (λ b. cond b (t.size k) 0) (sym (listed_both k (classes k h)))
            ∙ sym (cond-true (has xs k) (cond (has (t.elements k) e) (t.size k) 0) 0 h)
        | inr h ↦ ap (λ b. cond (has (t.members e) k && b) (t.size k) 0) h ∙ off (has (t.members e) k) (t.size k) ∙
            sym (cond-false (has xs k) (cond (has (t.elements k) e) (t.size k) 0) 0 h)
      ])
      ∙ sym (sum_over g.size (λ i. cond (has (t.elements i) e) (t.size i) 0) xs once (λ x h. live_small g laws s sound x x (classes x h)))
    where
      on : (b : Bool) (m : ℕ) → cond (b && true) m 0 ≡ cond b m 0
      on true m = refl
      on false m = refl

      off : (b : Bool) (m : ℕ) → cond (b && false) m 0 ≡ 0
      off true m = refl
      off false m = refl

  -- the rows of its border are those of the classes of a list that list it, and those outside
  pub border_parts : (xs : List ℕ) → Once xs → ((i : ℕ) → has xs i ≡ true → s.home i ≡ Live i) →
      count_below g.size (s.border e) ≡ sum_by (λ i. cond (has (t.elements i) e) (t.size i) 0) xs + sum_by t.size
      (filter (λ j. not (has xs j)) (t.members e))
  border_parts xs once classes =
      let all = members_rows in let parts = sum_by-filter_both (has xs) (λ j. not (has xs j)) (λ j. refl) t.size (t.members e) in
      let held = held_rows xs once classes in omega (arith, all, parts, held)
