-- A list with one item more, and one that is written over.
use Rattle.std.proofs.Common.{◌≡◌, ◌+◌, ◌<◌, ℕ, List, [], ◌∷◌, ◌++◌, length, get_or, arith, drop, subst, sym, take, ⊎_elim}
use Rattle.std.proofs.Math.Seq.{get_or-append_seam, take-append_seam}
use Rattle.std.proofs.lemmas.Bool.{cases_eq}
use Rattle.std.proofs.lemmas.List.{get_or_append_left, length-append}

-- it is longer by one
pub pushed-length : {X : Type 0} (xs : List X) (x : X) (n : ℕ) → length xs ≡ n → length (xs ++ x ∷ []) ≡ n + 1
pushed-length xs x n long = (let e = length-append xs (x ∷ []) in omega (arith, e, long))

-- what holds of each item at its place, and of the new one, holds of each item
pub pushed-each : {X : Type 0} (d : X) (P : ℕ → X → Type 0) (xs : List X) (x : X) (n : ℕ) → length xs ≡ n →
    ((i : ℕ) → i < n → P i (get_or xs i d)) → P n x → (i : ℕ) → i < n + 1 → P i (get_or (xs ++ x ∷ []) i d)
pushed-each d P xs x n long each last i low = ⊎_elim
    (λ e. subst (λ z. P z (get_or (xs ++ x ∷ []) z d)) (sym e)
    (subst (λ z. P n (get_or (xs ++ x ∷ []) z d)) long (subst (P n) (sym (get_or-append_seam xs x [] d)) last)))
    (λ ne. (let b : i < n = omega (arith, low, ne) in
    subst (P i) (sym (get_or_append_left xs (x ∷ []) d i (omega (arith, b, long)))) (each i b)))
    (cases_eq i n)

-- a list of the same length is written over all of another one
pub written-over : {X : Type 0} (new old : List X) (n : ℕ) → length new ≡ n → take n (new ++ drop (length new) old) ≡ new
written-over new old n long =
    subst (λ z. take z (new ++ drop (length new) old) ≡ new) long (take-append_seam new (drop (length new) old))
