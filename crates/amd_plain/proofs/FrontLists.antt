-- The pivot and the list of its element are rows, and the list names each once, and not the pivot.
use Rattle.std.proofs.Common.{ℕ, true, false, List, [], ◌∷◌, ◌++◌, Some, ◌≡◌, ◌<◌, inl, inr, refl, sym, ◌∙◌, ap, subst}
use Rattle.std.specs.Prelude.{Vec, flat_map, nat_lt, ◌==◌}
use Rattle.std.proofs.lemmas.Bool.{eq-eqb}
use Rattle.amd_model.specs.Quotient.{has, Once}
use Rattle.amd_model.proofs.Quotient.Lists.{flat_gives, once_firsts}
use Rattle.amd_model.proofs.Listings.Words.{has_filter as filter_gives, has_append as append_gives, has_right, has_head}
use Rattle.amd_plain.specs.Views.{num, list_at, plain_live, Below, ListsBelow}
use Rattle.amd_plain.specs.ListsByBound.{Popped}
use Rattle.amd_plain.specs.Rounds.{firsts}
use Rattle.amd_round_laws.proofs.Lists.Named.{below_from, below_gives}
use Rattle.amd_plain.proofs.ListPlaces.{list_below}
use Rattle.amd_round_laws.proofs.Fronts.Gathered.{firsts_gives, firsts_skips}

-- what was taken from a list of numbers below n is below n
pub pivot_below : {A : Type 0} (n : ℕ) (size bound : List ℕ) (least : ℕ) (lists : List (Vec ℕ A)) (new : List ℕ) (c : ℕ) →
    ListsBelow n lists → Popped size bound least (list_at lists least) new (Some c) → c < n
unfolding has
pivot_below n size bound least lists new c below popped = below_gives n (list_at lists least) (list_below n lists below least) c
    (ap (λ l. has l c) popped.1 ∙ has_right c new (c ∷ popped.0) (has_head c c popped.0 refl))

-- the list of a new element, as it is gathered
module _ {A : Type 0} (size : List ℕ) (members elements variables : List (Vec ℕ A)) (c : ℕ) (front : List ℕ)
    (is : front ≡ firsts (λ x. x == c) (flat_map (λ e. plain_live size (list_at members e)) (list_at elements c) ++ plain_live size
    (list_at variables c))) where
  -- what is gathered
  abbrev front_all : List ℕ
  front_all = flat_map (λ e. plain_live size (list_at members e)) (list_at elements c) ++ plain_live size (list_at variables c)

  pub front_below : (n : ℕ) → ListsBelow n members → ListsBelow n variables → Below n front
  front_below n in_members in_variables = below_from n front (λ x h.
      let named = firsts_gives (λ x. x == c) front_all front is x h in
      elim (append_gives x (flat_map (λ e. plain_live size (list_at members e)) (list_at elements c))
      (plain_live size (list_at variables c))
      named.0) [
        | inl k ↦ (let from = flat_gives (λ e. plain_live size (list_at members e)) (list_at elements c) x k in
            small members in_members from.0 x from.2)
        | inr k ↦ small variables in_variables c x k
      ])
    where
      small : (lists : List (Vec ℕ A)) → ListsBelow n lists → (e x : ℕ) → has (plain_live size (list_at lists e)) x ≡ true → x < n
      small lists below e x h = below_gives n (list_at lists e) (list_below n lists below e) x
          (filter_gives (λ j. nat_lt 0 (num size j)) (list_at lists e) x h).0

  pub front_once : Once front
  front_once = subst Once (sym is) (once_firsts (λ x. x == c) [] front_all tt)

  pub front_other : has front c ≡ false
  front_other = firsts_skips (λ x. x == c) front_all front is c (eq-eqb c c refl)
