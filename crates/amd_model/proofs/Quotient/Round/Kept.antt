-- What the classes of the front keep in their lists.
use Rattle.std.proofs.Common.{ℕ, Bool, true, ◌≡◌, ◌<◌, ◌&&◌, ◌||◌, not, sym, ◌∙◌, ap, List}
use Rattle.std.specs.Prelude.{◌==◌}
use Rattle.std.proofs.lemmas.Bool.{and_parts, and_from, or_parts, or_from, not_from_false, not-true}
use Rattle.std.specs.Cmp.{both_ways}
use Rattle.amd_model.specs.Graph.{Graph}
use Rattle.amd_model.specs.State.{State, Live, stands, holds, neighbours, front}
use Rattle.amd_model.specs.Step.{absorbed, other, outer, mass}
use Rattle.amd_model.specs.Quotient.{QuotientGraph, has, is_empty, kept_elements, kept_variables, mass as mass_listed, Once}
use Rattle.amd_model.proofs.States.Words.{holds_gives, neighbours_gives}
use Rattle.amd_model.proofs.States.Sound.{live_small, standing_small}
use Rattle.amd_model.proofs.States.NewParts.{mass_from}
use Rattle.amd_model.proofs.States.Steps.{outer_parts, mass_gives}
use Rattle.amd_model.proofs.Quotient.Lists.{has_filter, empty_gives, empty_from, once_filter}
use Rattle.amd_model.proofs.Quotient.Round.RoundAt.{RoundAt, front_list, elements_kept, variables_kept, keeps_none, taken}
use Rattle.amd_model.proofs.Quotient.Round.Front.{front_class, class_front, absorbed_is}
use Rattle.amd_model.proofs.Counting.Below.{clash}

module _ {g : Graph} {aggressive : Bool} {t : QuotientGraph} {s : State} {c : ℕ} (this : RoundAt g aggressive t s c) where
  open this use {laws, sound, fits}

  abbrev L : List ℕ
  L = front_list this

  -- what is left in the lists of a class
  pub elements_left : (i e : ℕ) → s.home i ≡ Live i → has (elements_kept this i) e ≡ (other g aggressive s c e && holds g s e i)
  unfolding kept_elements other
  elements_left i e h = has_filter (λ e. not (taken this e)) (t.elements i) e ∙
      both_ways (has (t.elements i) e && not (taken this e)) (stands g s e && not (absorbed g aggressive s c e) && holds g s e i)
      (λ a. let p = and_parts (has (t.elements i) e) (not (taken this e)) a in let k = sym (fits.elements i e h) ∙ p.0 in
      and_from (stands g s e && not (absorbed g aggressive s c e)) (holds g s e i)
      (and_from (stands g s e) (not (absorbed g aggressive s c e)) (holds_gives g s e i k).standing
      (ap not (sym (absorbed_is this e)) ∙ p.1)) k)
      (λ a. let p = and_parts (stands g s e && not (absorbed g aggressive s c e)) (holds g s e i) a in
      and_from (has (t.elements i) e) (not (taken this e)) (fits.elements i e h ∙ p.1)
      (ap not (absorbed_is this e) ∙ (and_parts (stands g s e) (not (absorbed g aggressive s c e)) p.0).1))

  pub variables_left : (i j : ℕ) → s.home i ≡ Live i → has (variables_kept this i) j ≡ outer g s c i j
  unfolding kept_variables outer
  variables_left i j h = has_filter (λ j. not (j == c || has L j)) (t.variables i) j ∙
      both_ways (has (t.variables i) j && not (j == c || has L j)) (neighbours g s i j && not (front g s c j) && not (j == c))
      (λ a. let p = and_parts (has (t.variables i) j) (not (j == c || has L j)) a in let n = sym (fits.variables i j h) ∙ p.0 in
      let k = or_parts (j == c) (has L j) (not-true (j == c || has L j) p.1) in
      and_from (neighbours g s i j && not (front g s c j)) (not (j == c)) (and_from (neighbours g s i j) (not (front g s c j)) n
      (not_from_false (front g s c j) (sym (class_front this j (neighbours_gives g s i j n).second) ∙ k.1))) (not_from_false (j == c) k.0))
      (λ a. let p = and_parts (neighbours g s i j && not (front g s c j)) (not (j == c)) a in
      let q = and_parts (neighbours g s i j) (not (front g s c j)) p.0 in
      and_from (has (t.variables i) j) (not (j == c || has L j)) (fits.variables i j h ∙ q.0)
      (not_from_false (j == c || has L j) (or_from (j == c) (has L j) (not-true (j == c) p.1)
      (class_front this j (neighbours_gives g s i j q.0).second ∙ not-true (front g s c j) q.1))))

  pub outer_small : (i x : ℕ) → outer g s c i x ≡ true → x < g.size
  outer_small i x o = live_small g laws s sound x x (neighbours_gives g s i x (outer_parts g s c i x o).0).second

  pub mass_is : (i : ℕ) → has L i ≡ true → keeps_none this i ≡ mass g aggressive s c i
  unfolding mass_listed
  mass_is i h = let f = front_class this i h in let ke : List ℕ = elements_kept this i in
      let kv : List ℕ = variables_kept this i in
      both_ways (is_empty ke && is_empty kv) (mass g aggressive s c i)
      (λ a. let p = and_parts (is_empty ke) (is_empty kv) a in mass_from g laws aggressive c s sound i f.0 f.1
      (λ e l o k. empty_gives ke p.0 e (elements_left i e f.0 ∙ and_from (other g aggressive s c e) (holds g s e i) o k))
      (λ x l o. empty_gives kv p.1 x (variables_left i x f.0 ∙ o)))
      (λ a. let m = mass_gives g aggressive s c i a in and_from (is_empty ke) (is_empty kv)
      (empty_from ke (λ e k. let p = and_parts (other g aggressive s c e) (holds g s e i) (sym (elements_left i e f.0) ∙ k) in
      m.no_other e (standing_small g laws s sound e (holds_gives g s e i p.1).standing) p.0 p.1))
      (empty_from kv (λ x k. let o = sym (variables_left i x f.0) ∙ k in clash o (m.no_outer x (outer_small i x o)))))

  pub variables_kept_once : (i : ℕ) → s.home i ≡ Live i → Once (variables_kept this i)
  unfolding kept_variables
  variables_kept_once i h = once_filter (λ j. not (j == c || has L j)) (t.variables i) (fits.variables_once i h)

  pub elements_kept_once : (i : ℕ) → s.home i ≡ Live i → Once (elements_kept this i)
  unfolding kept_elements
  elements_kept_once i h = once_filter (λ e. not (taken this e)) (t.elements i) (fits.elements_once i h)
