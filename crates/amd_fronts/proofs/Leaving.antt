-- The classes of a front leave the lists by bound, one after another.
use Rattle.std.proofs.Common.{ℕ, ℤ, Bool, true, false, List, ◌≡◌, ◌+◌, ◌-◌, ◌||◌, ◌&&◌, not, inl}
use Rattle.std.proofs.Common.{inr, refl, sym, ap, ◌∙◌, filter}
use Rattle.std.specs.Prelude.{◌==◌}
use Rattle.std.proofs.lemmas.Bool.{cases_eq, eq-eqb, ne_eqb, not_from_false}
use Rattle.amd_model.specs.Quotient.{has}
use Rattle.amd_round_laws.proofs.Lists.Named.{filter_named, filter_all, filter_both}
use Rattle.amd_words.specs.Words.{word, place, rows}
use Rattle.amd_lists.specs.Chains.{without}
use Rattle.amd_words.proofs.WordMarks.{rows_start, rows_next}

-- all are left at first
pub all_left : (iw : List ℤ) (from : ℕ) (xs : List ℕ) → xs ≡ filter (λ j. not (has (rows iw from (from - from)) j)) xs
unfolding has
all_left iw from xs = sym (filter_all (λ j. not (has (rows iw from (from - from)) j)) xs (λ x h.
    not_from_false (has (rows iw from (from - from)) x) (ap (λ ys. has ys x) (rows_start iw from))))

-- and then those but the one that is named next
pub one_leaves : (iw : List ℤ) (from k i : ℕ) → i ≡ place (word iw (from + k)) → (xs : List ℕ) →
    without i (filter (λ j. not (has (rows iw from k) j)) xs) ≡ filter (λ j. not (has (rows iw from (k + 1)) j)) xs
one_leaves iw from k i is xs = sym (filter_both (λ j. not (has (rows iw from k) j)) (λ j. not (j == i)) xs)
    ∙ filter_named (λ j. not (has (rows iw from k) j) && not (j == i)) (λ j. not (has (rows iw from (k + 1)) j)) xs (λ j h.
    both (has (rows iw from k) j) (j == i) (place (word iw (from + k)) == j) (turned j) ∙ sym (ap not (rows_next iw from k j)))
  where
    both : (a b c : Bool) → b ≡ c → (not a && not b) ≡ not (a || c)
    both true b c e = refl
    both false b c e = ap not e

    turned : (j : ℕ) → (j == i) ≡ (place (word iw (from + k)) == j)
    turned j = elim (cases_eq j i) [
      | inl q ↦ eq-eqb j i q ∙ sym (eq-eqb (place (word iw (from + k))) j (sym is ∙ sym q))
      | inr ne ↦ ne_eqb j i ne ∙ sym (ne_eqb (place (word iw (from + k))) j (λ q. ne (sym q ∙ sym is)))
    ]
