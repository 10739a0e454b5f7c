-- The links of rows that were merged or mass-eliminated: a row linked straight to its root.
use Rattle.std.proofs.Common.{ℕ, true, ◌≡◌, ◌≢◌, ◌<◌, inl, inr, refl, sym, ◌∙◌, ap, arith, List}
use Rattle.std.proofs.Common.{length, Option, None, Some, is_none, le_of_eq}
use Rattle.std.proofs.Math.ListN.{set}
use Rattle.std.proofs.lemmas.List.{length-set, get_or-set_same, get_or-set_other}
use Rattle.std.proofs.lemmas.Bool.{cases_eq, true≢false}
use Rattle.amd_model.specs.State.{Home}
use Rattle.amd_listing.proofs.LinkSteps as link_steps
use Rattle.amd_plain.specs.Views.{some_at}
use Rattle.amd_plain.specs.Keeps.{PlainLinksLead}

-- a row without a link, where as many have one as before
pub none_as_before : (o p : Option ℕ) → is_none o ≡ is_none p → p ≡ None → o ≡ None
none_as_before None p q h = refl
none_as_before (Some u) p q h = absurd (let x : is_none (Some u) ≡ true = q ∙ ap is_none h in true≢false (sym x))

module _ (links : List (Option ℕ)) (row next root : ℕ) (small : row < length links) (on : some_at links row ≡ Some next)
    (end : some_at links root ≡ None) (root_small : root < length links) where
  here : some_at (set links row (Some root)) row ≡ Some root
  here = get_or-set_same links row (Some root) None small

  pub other : (r : ℕ) → r ≢ row → some_at (set links row (Some root)) r ≡ some_at links r
  other r ne = get_or-set_other links row r (Some root) None ne

  pub same_alone : (r : ℕ) → is_none (some_at (set links row (Some root)) r) ≡ is_none (some_at links r)
  same_alone r = elim (cases_eq r row) [
    | inl same ↦ ap (λ k. is_none (some_at (set links row (Some root)) k)) same ∙ ap is_none here ∙ sym (ap is_none on) ∙
        ap (λ k. is_none (some_at links k)) (sym same)
    | inr ne ↦ ap is_none (other r ne)
  ]

  -- a row linked straight to its root is led as before
  pub led_straight : (home : ℕ → Home) → PlainLinksLead links home → home row ≡ home root → PlainLinksLead (set links row (Some root)) home
  led_straight home led q = let size = length-set links row (Some root) in
      link_steps.led_straight (some_at links) (some_at (set links row (Some root))) row next root on here other (length links)
      (length (set links row (Some root))) home (le_of_eq (sym size)) (omega (arith, root_small, size)) end q led
