-- The pairs of the places of entries, column by column.
use Rattle.std.proofs.Common.{◌≡◌, ◌++◌, ◌+◌, ◌<◌, ◌∙◌, ℕ, suc, List, [], ◌∷◌}
use Rattle.std.proofs.Common.{ap, append_assoc, arith, get_or, length, refl, subst, sym, take}
use Rattle.std.proofs.lemmas.List.{take_more}
use Rattle.std.specs.Prelude.{slice_index}
use Rattle.amd_report.specs.Patterns.{column_rows}
use Rattle.amd_command.specs.Permuted.{pairs_up_to, placed_pairs}

-- one row more
placed-more : (places : List ℕ) (column : ℕ) (xs : List ℕ) (x : ℕ) →
    placed_pairs places column (xs ++ x ∷ []) ≡ placed_pairs places column xs ++ (slice_index places x, column) ∷ []
placed-more places column [] x = refl
placed-more places column (y ∷ xs) x = ap (λ z. (slice_index places y, column) ∷ z) (placed-more places column xs x)

pub placed-next : (places rows : List ℕ) (column k x place : ℕ) (old mid new : List (ℕ × ℕ)) → k < length rows →
    place ≡ slice_index places (get_or rows k x) → mid ≡ old ++ placed_pairs places column (take k rows) →
    new ≡ mid ++ (place, column) ∷ [] → new ≡ old ++ placed_pairs places column (take (k + 1) rows)
placed-next places rows column k x place old mid new inside is_place so_far pushed =
    let front : List (ℕ × ℕ) = placed_pairs places column (take k rows) in
    pushed
    ∙ ap (λ z. mid ++ (z, column) ∷ []) is_place
    ∙ ap (λ z. z ++ (slice_index places (get_or rows k x), column) ∷ []) so_far
    ∙ append_assoc old front ((slice_index places (get_or rows k x), column) ∷ [])
    ∙ ap (λ z. old ++ z) (sym (placed-more places column (take k rows) (get_or rows k x)))
    ∙ ap (λ z. old ++ placed_pairs places column z) (sym (take_more rows k x inside))

-- one column more
pub pairs-next : (places ap_ ai rows : List ℕ) (k column : ℕ) (old new : List (ℕ × ℕ)) → rows ≡ column_rows ap_ ai k →
    column ≡ slice_index places k → old ≡ pairs_up_to places ap_ ai k → new ≡ old ++ placed_pairs places column rows
    → new ≡ pairs_up_to places ap_ ai (k + 1)
pairs-next places ap_ ai rows k column old new r s same h =
    let step : k + 1 ≡ suc k = omega arith in
    subst (λ m. new ≡ pairs_up_to places ap_ ai m) (sym step)
    (h ∙ ap (λ z. old ++ placed_pairs places z rows) s ∙ ap (λ z. old ++ placed_pairs places (slice_index places k) z) r
    ∙ ap (λ z. z ++ placed_pairs places (slice_index places k) (column_rows ap_ ai k)) same)
