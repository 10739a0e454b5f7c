-- The classes among the rows that some words name.
use Rattle.std.proofs.Common.{ℕ, ℤ, true, false, List, [], ◌∷◌, ◌++◌, ◌≡◌, ◌<◌, ◌+◌, ◌-◌, ◌∙◌, ap, arith, append-nil, cond}
use Rattle.std.specs.Prelude.{nat_lt}
use Rattle.std.proofs.lemmas.List.Elements.{filter-append}
use Rattle.amd_words.specs.Words.{place, word, size_of, classes, rows}
use Rattle.amd_words.proofs.RowLists.{rows_more, rows_both}

pub classes_more : (nv iw : List ℤ) (from n : ℕ) → classes nv (rows iw from (n + 1))
    ≡ classes nv (rows iw from n) ++ cond (nat_lt 0 (size_of nv (place (word iw (from + n))))) (place (word iw (from + n)) ∷ []) []
classes_more nv iw from n = ap (classes nv) (rows_more iw from n)
    ∙ filter-append (λ j. nat_lt 0 (size_of nv j)) (rows iw from n) (place (word iw (from + n)) ∷ [])

pub classes_yes : (nv iw : List ℤ) (from n : ℕ) → nat_lt 0 (size_of nv (place (word iw (from + n)))) ≡ true →
    classes nv (rows iw from (n + 1)) ≡ classes nv (rows iw from n) ++ place (word iw (from + n)) ∷ []
classes_yes nv iw from n h = classes_more nv iw from n ∙ ap (λ b.
    classes nv (rows iw from n) ++ cond b (place (word iw (from + n)) ∷ []) []) h

pub classes_no : (nv iw : List ℤ) (from n : ℕ) → nat_lt 0 (size_of nv (place (word iw (from + n)))) ≡ false →
    classes nv (rows iw from (n + 1)) ≡ classes nv (rows iw from n)
classes_no nv iw from n h = classes_more nv iw from n ∙ ap (λ b.
    classes nv (rows iw from n) ++ cond b (place (word iw (from + n)) ∷ []) []) h ∙ append-nil (classes nv (rows iw from n))

pub classes_split : (nv iw : List ℤ) (from n count : ℕ) → n < count → nat_lt 0 (size_of nv (place (word iw (from + n)))) ≡ true →
    classes nv (rows iw from count) ≡ (classes nv (rows iw from n) ++ place (word iw (from + n)) ∷ [])
    ++ classes nv (rows iw (from + (n + 1)) (count - (n + 1)))
classes_split nv iw from n count l h = let e : count ≡ (n + 1) + (count - (n + 1)) = omega (arith, l) in
    ap (λ m. classes nv (rows iw from m)) e ∙ ap (classes nv) (rows_both iw from (n + 1) (count - (n + 1)))
    ∙ filter-append (λ j. nat_lt 0 (size_of nv j)) (rows iw from (n + 1)) (rows iw (from + (n + 1)) (count - (n + 1)))
    ∙ ap (λ l. l ++ classes nv (rows iw (from + (n + 1)) (count - (n + 1)))) (classes_yes nv iw from n h)
