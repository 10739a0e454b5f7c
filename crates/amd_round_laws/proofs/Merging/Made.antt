-- The classes of a new element that are left, and those that represent others, are those of the elimination kept in lists.
use Rattle.std.proofs.Common.{ℕ, Bool, true, ◌≡◌, ◌&&◌, ◌||◌, not, inl, refl, sym, ◌∙◌, ap, List}
use Rattle.std.specs.Prelude.{◌==◌, filter}
use Rattle.amd_model.specs.Graph.{Graph, IsGraph}
use Rattle.amd_model.specs.State.{State}
use Rattle.amd_model.specs.Sound.{IsSound}
use Rattle.amd_model.specs.Quotient.{QuotientGraph, Fits, has, is_empty, each, last_that, gathered, kept_elements, kept_variables, absorbed}
use Rattle.amd_model.specs.Quotient.{mass as mass_listed, border_of}
use Rattle.amd_model.specs.Quotient.{alike, represents, made, Once}
use Rattle.amd_model.proofs.Quotient.Lists.{once_filter, last_same'}
use Rattle.amd_model.proofs.Listings.Words.{has_filter as filter_gives}
use Rattle.amd_round_laws.specs.Rounds.{keeps_nothing as mass_viewed, alike_in}
use Rattle.amd_round_laws.proofs.Lists.Named.{filter_named}
use Rattle.amd_round_laws.proofs.Merging.Representatives.{alike_self, alike_flip, alike_through, rep_in, rep_rep}
use Rattle.amd_round_laws.proofs.Fronts.Gathered.{gathered_once, gathered_live}

module _ (g : Graph) (laws : IsGraph g) (s : State) (sound : IsSound g s) (t : QuotientGraph) (fits : Fits g t s) (c : ℕ)
    (placed : has t.placed c ≡ true) (aggressive : Bool) where
  pub rest_in_front : (i : ℕ) → has (border_of aggressive t c (gathered t c)) i ≡ true → has (gathered t c) i ≡ true
  unfolding border_of
  rest_in_front i h = (filter_gives (λ i. not (mass_listed aggressive t c (gathered t c) i)) (gathered t c) i h).0

  pub rest_once : Once (border_of aggressive t c (gathered t c))
  unfolding border_of
  rest_once = once_filter (λ i. not (mass_listed aggressive t c (gathered t c) i)) (gathered t c) (gathered_once t c)

  pub made_once : Once (made aggressive t c (gathered t c))
  unfolding made
  made_once = once_filter (λ i. represents aggressive t c (gathered t c) i == i) (border_of aggressive t c (gathered t c)) rest_once

  -- the lists that a class of the front keeps name each number once
  pub elements_once : (i : ℕ) → has (gathered t c) i ≡ true → Once (kept_elements aggressive t c (gathered t c) i)
  unfolding kept_elements
  elements_once i h = once_filter (λ e. not (absorbed aggressive t c (gathered t c) e)) (t.elements i)
      (fits.elements_once i (gathered_live g s t fits c placed i h))

  pub variables_once : (i : ℕ) → has (gathered t c) i ≡ true → Once (kept_variables aggressive t c (gathered t c) i)
  unfolding kept_variables
  variables_once i h = once_filter (λ j. not (j == c || has (gathered t c) j)) (t.variables i)
      (fits.variables_once i (gathered_live g s t fits c placed i h))

  pub made_is : filter (λ i. represents aggressive t c (gathered t c) i == i) (border_of aggressive t c (gathered t c))
      ≡ made aggressive t c (gathered t c)
  unfolding made
  made_is = refl

  -- with lists that hold what the classes of the front keep
  module _ (elements variables : ℕ → List ℕ) (es : (i : ℕ) → has (gathered t c) i ≡ true →
      elements i ≡ kept_elements aggressive t c (gathered t c) i)
      (vs : (i : ℕ) → has (gathered t c) i ≡ true → variables i ≡ kept_variables aggressive t c (gathered t c) i) where
    pub rest_of : filter (λ i. not (mass_viewed elements variables i)) (gathered t c) ≡ border_of aggressive t c (gathered t c)
    unfolding border_of mass_listed
    rest_of = filter_named (λ i. not (mass_viewed elements variables i)) (λ i. not (mass_listed aggressive t c (gathered t c) i))
        (gathered t c)
        (λ i h. ap (λ xs. not (is_empty xs && is_empty (variables i))) (es i h) ∙ ap
        (λ xs. not (is_empty (kept_elements aggressive t c (gathered t c) i) && is_empty xs)) (vs i h))

    pub alike_is : (i j : ℕ) → has (border_of aggressive t c (gathered t c)) i ≡ true →
        has (border_of aggressive t c (gathered t c)) j ≡ true →
        alike_in elements variables i j ≡ alike aggressive t c (gathered t c) i j
    unfolding alike
    alike_is i j hi hj = let fi = rest_in_front i hi in let fj = rest_in_front j hj in
        same_tests (elements i) (elements j) (variables i) (variables j) _ _ _ _ (es i fi) (es j fj) (vs i fi) (vs j fj)
      where
        same_tests : (ei ej vi vj ei' ej' vi' vj' : List ℕ) → ei ≡ ei' → ej ≡ ej' → vi ≡ vi' → vj ≡ vj' →
            (each (has ei) ej && each (has ej) ei && each (has vi) vj && each (has vj) vi)
            ≡ (each (has ei') ej' && each (has ej') ei' && each (has vi') vj' && each (has vj') vi')
        same_tests ei ej vi vj ei' ej' vi' vj' p q r w = ap (λ x. each (has x) ej && each (has ej) x && each (has vi) vj
            && each (has vj) vi) p
            ∙ ap (λ x. each (has ei') x && each (has x) ei' && each (has vi) vj && each (has vj) vi) q
            ∙ ap (λ x. each (has ei') ej' && each (has ej') ei' && each (has x) vj && each (has vj) x) r
            ∙ ap (λ x. each (has ei') ej' && each (has ej') ei' && each (has vi') x && each (has x) vi') w

    pub represents_is : (i : ℕ) → has (border_of aggressive t c (gathered t c)) i ≡ true →
        last_that (alike_in elements variables i) i (border_of aggressive t c (gathered t c)) ≡ represents aggressive t c (gathered t c) i
    unfolding represents
    represents_is i h = last_same' (alike_in elements variables i) (alike aggressive t c (gathered t c) i) i i
        (border_of aggressive t c (gathered t c)) (λ j k. alike_is i j h k) (inl refl)

    pub represents_in : (i : ℕ) → has (border_of aggressive t c (gathered t c)) i ≡ true →
        has (border_of aggressive t c (gathered t c)) (represents aggressive t c (gathered t c) i) ≡ true
    represents_in i h = ap (has (border_of aggressive t c (gathered t c))) (sym (represents_is i h))
        ∙ rep_in (alike_in elements variables) (alike_self elements variables) (alike_flip elements variables)
        (alike_through elements variables) (border_of aggressive t c (gathered t c)) i h

    pub represents_itself : (i : ℕ) → has (border_of aggressive t c (gathered t c)) i ≡ true →
        represents aggressive t c (gathered t c) (represents aggressive t c (gathered t c) i) ≡ represents aggressive t c (gathered t c) i
    represents_itself i h = let e = represents_is i h in
        sym (represents_is (represents aggressive t c (gathered t c) i) (represents_in i h)) ∙ ap
        (λ x. last_that (alike_in elements variables x) x (border_of aggressive t c (gathered t c))) (sym e)
        ∙ rep_rep (alike_in elements variables) (alike_self elements variables) (alike_flip elements variables)
        (alike_through elements variables) (border_of aggressive t c (gathered t c)) i h ∙ e
