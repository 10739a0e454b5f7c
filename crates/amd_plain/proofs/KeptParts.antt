-- What the parts of an absorption make together.
use Rattle.std.proofs.Common.{ℕ, Bool, true, false, List, ◌≡◌, ◌<◌, ◌&&◌, ◌||◌, not, cond, inl, inr, refl, ◌∙◌, length, set}
use Rattle.std.proofs.Common.{get_or-set_same, get_or-set_other}
use Rattle.std.specs.Prelude.{Vec, flat_map, ◌==◌}
use Rattle.std.proofs.lemmas.Bool.{true≢false, false≢true, cases_eq, ne_eqb}
use Rattle.amd_model.specs.Quotient.{has}
use Rattle.amd_model.proofs.Quotient.Lists.{flat_gives}
use Rattle.amd_plain.specs.Views.{mark_at, list_at, Below, ListsBelow, Clear}
use Rattle.amd_plain.specs.Rounds.{firsts}
use Rattle.amd_round_laws.proofs.Lists.Named.{below_from, below_gives}
use Rattle.amd_round_laws.proofs.Fronts.Gathered.{firsts_gives}
use Rattle.amd_plain.proofs.ListPlaces.{list_below}

-- what is gathered from lists of numbers below n is below n
pub touched_below : {A : Type 0} (n : ℕ) (lists : List (Vec ℕ A)) (skip : ℕ → Bool) (front touched : List ℕ) → ListsBelow n lists →
    touched ≡ firsts skip (flat_map (list_at lists) front) → Below n touched
touched_below n lists skip front touched below is = below_from n touched (λ x h.
    let from = flat_gives (list_at lists) front x (firsts_gives skip (flat_map (list_at lists) front) touched is x h).0 in
    below_gives n (list_at lists from.0) (list_below n lists below from.0) x from.2)

-- of marks on two lists, those of the second stay where a test says so
pub spared_is : (own new stays : Bool) → (new ≡ true → own ≡ false) → ((own || new) && not (new && not stays)) ≡ (own || (new && stays))
spared_is true true stays apart = absurd (true≢false (apart refl))
spared_is true false stays apart = refl
spared_is false true true apart = refl
spared_is false true false apart = refl
spared_is false false stays apart = refl

-- and what stays is named by one of them
pub in_either : (own new stays : Bool) → (own || (new && stays)) ≡ true → (own || new) ≡ true
in_either true new stays h = refl
in_either false true stays h = refl
in_either false false stays h = h

-- the marked of two lists, which hold all that is marked, get a parent
pub adopted_is : {X : Type 0} (own new marked : Bool) (c before middle after : X) → (marked ≡ true → (own || new) ≡ true) →
    middle ≡ cond (own && marked) c before → after ≡ cond (new && marked) c middle → after ≡ cond marked c before
adopted_is true true true c before middle after in' first then = then
adopted_is true false true c before middle after in' first then = then ∙ first
adopted_is false true true c before middle after in' first then = then
adopted_is false false true c before middle after in' first then = absurd (false≢true (in' refl))
adopted_is true true false c before middle after in' first then = then ∙ first
adopted_is true false false c before middle after in' first then = then ∙ first
adopted_is false true false c before middle after in' first then = then ∙ first
adopted_is false false false c before middle after in' first then = then ∙ first

-- what is marked from two lists is clear when both are cleared
pub cleared_is : (own new stays : Bool) → (((own || (new && stays)) && not own) && not new) ≡ false
cleared_is true new stays = refl
cleared_is false true true = refl
cleared_is false true false = refl
cleared_is false false stays = refl

-- the marks of a pivot and of a list are clear when both are cleared
pub pivot_cleared : (marks : List Bool) (c : ℕ) (front : List ℕ) → c < length marks →
    ((j : ℕ) → mark_at marks j ≡ ((j == c || has front j) && not (has front j))) → Clear (set marks c false)
pivot_cleared marks c front small was j = elim (cases_eq j c) [
  | inl q ↦ rw q (get_or-set_same marks c false false small)
  | inr ne ↦ get_or-set_other marks c j false false ne ∙ was j ∙ gone (j == c) (has front j) (ne_eqb j c ne)
]
  where
    gone : (a b : Bool) → a ≡ false → ((a || b) && not b) ≡ false
    gone true b e = absurd (true≢false e)
    gone false true e = refl
    gone false false e = refl
