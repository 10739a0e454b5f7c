-- The rows of a class are taken off the number of each element that it lists.
use Rattle.std.proofs.Common.{ℕ, List, ◌≡◌, ◌<◌, ◌+◌, ◌-◌, ◌∙◌, inl, inr, refl, sym, ap, length, get_or, take, set, get_or-set_same}
use Rattle.std.proofs.Common.{get_or-set_other}
use Rattle.std.specs.Prelude.{◌==◌}
use Rattle.std.proofs.lemmas.Bool.{cases_eq, cond-true, cond-false, eq-eqb, ne_eqb}
use Rattle.amd_plain.specs.Views.{num}
use Rattle.amd_plain.specs.Rounds.{less}
use Rattle.amd_round_laws.proofs.Lists.Taken.{less_next}

-- the number of the next element of a list is written
pub less_written : (rows : ℕ) (xs : List ℕ) (k : ℕ) (old : ℕ → ℕ) (now : List ℕ) → k < length xs → get_or xs k 0 < length now →
    ((e : ℕ) → num now e ≡ less e rows (old e) (take k xs)) → (e : ℕ) →
    num (set now (get_or xs k 0) (num now (get_or xs k 0) - rows)) e ≡ less e rows (old e) (take (k + 1) xs)
less_written rows xs k old now here small was e = let x : ℕ = get_or xs k 0 in elim (cases_eq e x) [
  | inl q ↦ rw q (get_or-set_same now x (num now x - rows) 0 small ∙ ap (λ m. m - rows) (was x)
      ∙ sym (less_next x rows (old x) xs k here ∙ cond-true (x == x) _ _ (eq-eqb x x refl)))
  | inr ne ↦ get_or-set_other now x e (num now x - rows) 0 ne ∙ was e ∙
      sym (less_next e rows (old e) xs k here ∙ cond-false (x == e) _ _ (ne_eqb x e (λ q. ne (sym q))))
]
