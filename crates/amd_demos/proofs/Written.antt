-- Numbers and lists of numbers that are written one after another.
use Rattle.std.proofs.Common.{◌≡◌, ◌++◌, ◌+◌, ◌<◌, ℕ, ℤ, List, [], ◌∷◌, append_assoc, append-nil, ◌∙◌, ap, sym, subst, take, take_all}
use Rattle.std.proofs.Common.{get_or, length, ◌≤◌}
use Rattle.std.proofs.lemmas.List.{take_more}
use Rattle.std.specs.Prelude.{Option}
use Rattle.std.specs.Fmt.{signed_decimal}
use Rattle.std.specs.Io.KnownBytes.{Appends}
use Rattle.std.proofs.KnownBytes.{Appends-trans}
use Rattle.amd_demos.specs.Lines.{each_of}

-- a number with a text in front of it, under another name
pub number-named : (before : List ℕ) (x y : ℤ) (a b : Option (List ℕ)) → x ≡ y → Appends a b (before ++ signed_decimal x) →
    Appends a b (before ++ signed_decimal y)
number-named before x y a b same h = subst (λ z. Appends a b (before ++ signed_decimal z)) same h

-- the numbers and one more
pub each-more : (before : List ℕ) (xs : List ℤ) (x : ℤ) → each_of before (xs ++ x ∷ []) ≡ each_of before xs ++ (before ++ signed_decimal x)
each-more before [] x = append-nil (before ++ signed_decimal x)
each-more before (y ∷ xs) x = ap (λ z. (before ++ signed_decimal y) ++ z) (each-more before xs x) ∙
    sym (append_assoc (before ++ signed_decimal y) (each_of before xs) (before ++ signed_decimal x))

-- a writer that took the first k numbers, and then the next one
pub each-next : (before : List ℕ) (xs : List ℤ) (k : ℕ) (x : ℤ) (a b c : Option (List ℕ)) → k < length xs →
    Appends a b (each_of before (take k xs))
    → Appends b c (before ++ signed_decimal (get_or xs k x)) → Appends a c (each_of before (take (k + 1) xs))
each-next before xs k x a b c inside first next =
    let more = ap (each_of before) (take_more xs k x inside) ∙ each-more before (take k xs) (get_or xs k x) in
    subst (Appends a c) (sym more) (Appends-trans a b c _ _ first next)

-- a writer that took as many numbers as there are
pub each-whole : (before : List ℕ) (xs : List ℤ) (k : ℕ) (a b : Option (List ℕ)) → length xs ≤ k → Appends a b (each_of before (take k xs))
    → Appends a b (each_of before xs)
each-whole before xs k a b past h = subst (λ z. Appends a b (each_of before z)) (take_all k xs past) h
