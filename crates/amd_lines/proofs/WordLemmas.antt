-- The words of a line, taken off its front one by one.
use Rattle.std.proofs.Common.{◌≡◌, ◌<◌, ◌≤◌, ◌+◌, ℕ, zero, suc, Bool, true, false, List, [], ◌∷◌}
use Rattle.std.proofs.Common.{◌++◌, append-nil, length, take, drop, get_or, not, cond, ltb, refl}
use Rattle.std.proofs.Common.{sym, ap, ◌∙◌, subst, length-drop, drop-cons, arith, Option, Some, None}
use Rattle.std.specs.Prelude.{filter, unwrap_or}
use Rattle.std.proofs.lemmas.Bool.{lt-ltb, ltb-false}
use Rattle.std.proofs.lemmas.List.{drop_all}
use Rattle.std.proofs.lemmas.List.Sums.{prefix_len-le-length}
use Rattle.std.proofs.lemmas.List.Folds.{length-prefix_len}
use Rattle.std.proofs.lemmas.List.Quantifiers.{position-Some}
use Rattle.std.proofs.lemmas.List.Elements.{filter-append}
use Rattle.std.specs.List.{slice_split, onto_first, position, position_or_len}
use Rattle.amd_lines.specs.Words.{has_bytes}

-- the parts of a list between elements that pass, but for empty ones
abbrev pub parts : (ℕ → Bool) → List ℕ → List (List ℕ)
parts p xs = filter has_bytes (slice_split p xs)

one-plus : (n : ℕ) → 1 + n ≡ suc n
one-plus n = omega arith

-- what passes in front of the first part parts nothing
pub parts-skip : (p : ℕ → Bool) (xs : List ℕ) → parts p (drop (position_or_len (λ x. not (p x)) xs) xs) ≡ parts p xs
parts-skip p [] = refl
parts-skip p (x ∷ xs) = at (parts-skip p xs) (p x) refl
  where
    at : parts p (drop (position_or_len (λ y. not (p y)) xs) xs) ≡ parts p xs → (b : Bool) → p x ≡ b →
        parts p (drop (position_or_len (λ y. not (p y)) (x ∷ xs)) (x ∷ xs)) ≡ parts p (x ∷ xs)
    at h true e = rw (e, one-plus) h
    at h false e = rw (e, e) refl

-- as many elements of the front as pass, one by one
pub parts-blank : (p : ℕ → Bool) (xs : List ℕ) (i : ℕ) → i ≤ length xs → ((j : ℕ) → j < i → p (get_or xs j 0) ≡ true) →
    parts p (drop i xs) ≡ parts p xs
parts-blank p xs zero within blank = refl
parts-blank p [] (suc i) within blank = absurd (omega (arith, within))
parts-blank p (x ∷ xs) (suc i) within blank =
    rw (blank 0 (omega arith)) (parts-blank p xs i (omega (arith, within)) (λ j l. blank (suc j) (omega (arith, l))))

-- a list cut behind an element that passes
onto-append : (x : ℕ) (t s : List (List ℕ)) → 0 < length t → onto_first x (t ++ s) ≡ onto_first x t ++ s
onto-append x [] s h = absurd (omega (arith, h))
onto-append x (w ∷ t) s h = refl

onto-some : (x : ℕ) (t : List (List ℕ)) → 0 < length (onto_first x t)
onto-some x [] = omega arith
onto-some x (w ∷ t) = omega arith

abbrev Cut : (ℕ → Bool) → List ℕ → ℕ → Type 0
Cut p xs k = (t : List (List ℕ)) × (slice_split p (take (suc k) xs) ≡ t ++ [] ∷ [])
    × (slice_split p xs ≡ t ++ slice_split p (drop (suc k) xs)) × (0 < length t)

cut : (p : ℕ → Bool) (xs : List ℕ) (k : ℕ) → k < length xs → p (get_or xs k 0) ≡ true → Cut p xs k
cut p [] k within e = absurd (omega (arith, within))
cut p (x ∷ xs) zero within e = ([] ∷ [], rw e refl, rw e refl, omega arith)
cut p (x ∷ xs) (suc k) within e = at (cut p xs k (omega (arith, within)) e) (p x) refl
  where
    at : Cut p xs k → (b : Bool) → p x ≡ b → Cut p (x ∷ xs) (suc k)
    at r true is = ([] ∷ r.0, rw is (ap (λ z. [] ∷ z) r.1), rw is (ap (λ z. [] ∷ z) r.2), omega arith)
    at r false is = (
      onto_first x r.0,
      rw is (ap (onto_first x) r.1 ∙ onto-append x r.0 ([] ∷ []) r.3),
      rw is (ap (onto_first x) r.2 ∙ onto-append x r.0 (slice_split p (drop (suc k) xs)) r.3),
      onto-some x r.0,
    )

pub parts-cut : (p : ℕ → Bool) (xs : List ℕ) (k : ℕ) → k < length xs → p (get_or xs k 0) ≡ true →
    parts p xs ≡ parts p (take (suc k) xs) ++ parts p (drop (suc k) xs)
parts-cut p xs k within e =
    let c = cut p xs k within e in
    let front : parts p (take (suc k) xs) ≡ filter has_bytes c.0
    = ap (filter has_bytes) c.1 ∙ filter-append has_bytes c.0 ([] ∷ []) ∙ append-nil (filter has_bytes c.0) in
    ap (filter has_bytes) c.2 ∙ filter-append has_bytes c.0 (slice_split p (drop (suc k) xs))
    ∙ ap (λ z. z ++ parts p (drop (suc k) xs)) (sym front)

-- the parts of a list from its first one on, which may be empty and ends at the first element that passes
abbrev Parted : (ℕ → Bool) → List ℕ → Type 0
Parted p xs = (t : List (List ℕ)) × (slice_split p xs ≡ take (position_or_len p xs) xs ∷ t)
    × (filter has_bytes t ≡ parts p (drop (position_or_len p xs) xs))

pub parts-first : (p : ℕ → Bool) (xs : List ℕ) → Parted p xs
parts-first p [] = ([], refl, refl)
parts-first p (x ∷ xs) = at (parts-first p xs) (p x) refl
  where
    at : Parted p xs → (b : Bool) → p x ≡ b → Parted p (x ∷ xs)
    at h true e = (slice_split p xs, rw e refl, rw (e, e) refl)
    at h false e = (h.0, rw (e, one-plus, h.1) refl, rw (e, one-plus) h.2)

-- the first part with a byte, and the parts behind it
pub parts-take : (p : ℕ → Bool) (xs : List ℕ) → 0 < position_or_len p xs →
    parts p xs ≡ take (position_or_len p xs) xs ∷ parts p (drop (position_or_len p xs) xs)
parts-take p xs h =
    let t = parts-first p xs in
    let has : ltb 0 (length (take (position_or_len p xs) xs)) ≡ true = lt-ltb _ _ (rw length-prefix_len h) in
    rw (t.1, has, t.2) refl

-- the place of the first element that passes, or the length
pub position-else : (p : ℕ → Bool) (xs : List ℕ) → unwrap_or (position p xs) (length xs) ≡ position_or_len p xs
position-else p xs = at (ltb (position_or_len p xs) (length xs)) refl
  where
    at : (b : Bool) → ltb (position_or_len p xs) (length xs) ≡ b → unwrap_or (position p xs) (length xs) ≡ position_or_len p xs
    at true e = rw e refl
    at false e = rw e (omega (arith, ltb-false _ _ e, prefix_len-le-length (λ x. not (p x)) xs))

-- a list that passes throughout holds no part
pub no-parts : (p : ℕ → Bool) (xs : List ℕ) → position (λ x. not (p x)) xs ≡ None → parts p xs ≡ []
no-parts p xs h = at (ltb (position_or_len (λ x. not (p x)) xs) (length xs)) refl h
  where
    at : (b : Bool) → ltb (position_or_len (λ x. not (p x)) xs) (length xs) ≡ b →
        cond b (Some (position_or_len (λ x. not (p x)) xs)) None ≡ None → parts p xs ≡ []
    at true e h = cc
    at false e h = sym (parts-skip p xs) ∙ ap (parts p) (drop_all (position_or_len (λ x. not (p x)) xs) xs (ltb-false _ _ e))

-- the place is that of the search by length
pub place-is : (p : ℕ → Bool) (xs : List ℕ) (i : ℕ) → position p xs ≡ Some i → position_or_len p xs ≡ i
place-is p xs i h = at (ltb (position_or_len p xs) (length xs)) h
  where
    at : (b : Bool) → cond b (Some (position_or_len p xs)) None ≡ Some i → position_or_len p xs ≡ i
    at true e = cc
    at false e = cc

pub not-true : (b : Bool) → not b ≡ true → b ≡ false
not-true false h = refl
not-true true h = cc

-- a part begins at the first element that does not pass
starts : (p : ℕ → Bool) (xs : List ℕ) (i : ℕ) → i < length xs → p (get_or xs i 0) ≡ false → 0 < position_or_len p (drop i xs)
starts p xs i within fails = rw (drop-cons xs i 0 within, fails) (omega arith)

-- a list whose first part begins at place i, and ends where the next element passes
pub parts-off : (p : ℕ → Bool) (xs text w r : List ℕ) (i k : ℕ) (end : Option ℕ) → position (λ x. not (p x)) xs ≡ Some i → text ≡ drop i xs
    → end ≡ position p text → k ≡ unwrap_or end (length text) → w ≡ take k text → r ≡ drop k text →
    (parts p xs ≡ w ∷ parts p r) × (length r < length xs)
parts-off p xs text w r i k end h at_text at_end at_k at_w at_r =
    let here = position-Some (λ x. not (p x)) xs i 0 h in
    let len : k ≡ position_or_len p text = at_k ∙ ap (λ o. unwrap_or o (length text)) at_end ∙ position-else p text in
    let some : 0 < position_or_len p text = rw at_text (starts p xs i here.0 (not-true _ here.1)) in
    let begin : parts p text ≡ parts p xs = rw at_text (subst (λ n. parts p (drop n xs) ≡ parts p xs) (place-is _ xs i h) (parts-skip p xs))
    in (
      sym begin ∙ rw (at_w, at_r, len) (parts-take p text some),
      rw (at_r, at_text, length-drop, length-drop)
          (omega (arith, here.0, some, len)),
    )

-- the first part of a list whose first element does not pass begins with that element
pub head-of : (p : ℕ → Bool) (x : ℕ) (xs : List ℕ) → p x ≡ false →
    parts p (x ∷ xs) ≡ (x ∷ take (position_or_len p xs) xs) ∷ parts p (drop (position_or_len p (x ∷ xs)) (x ∷ xs))
head-of p x xs e =
    let some : 0 < position_or_len p (x ∷ xs) = rw e (omega arith) in
    let same : take (position_or_len p (x ∷ xs)) (x ∷ xs) ≡ x ∷ take (position_or_len p xs) xs = rw (e, one-plus) refl in
    parts-take p (x ∷ xs) some ∙ ap (λ w. w ∷ parts p (drop (position_or_len p (x ∷ xs)) (x ∷ xs))) same

-- the first part with a byte begins with the first element that does not pass
pub parts-head : (p : ℕ → Bool) (xs : List ℕ) (i : ℕ) → position (λ x. not (p x)) xs ≡ Some i →
    (w : List ℕ) × (others : List (List ℕ)) × (parts p xs ≡ (get_or xs i 0 ∷ w) ∷ others)
parts-head p xs i h =
    let here = position-Some (λ x. not (p x)) xs i 0 h in
    let begin : parts p (drop i xs) ≡ parts p xs = subst (λ n. parts p (drop n xs) ≡ parts p xs) (place-is _ xs i h) (parts-skip p xs) in
    let x = get_or xs i 0 in
    let text = drop (suc i) xs in (
      take (position_or_len p text) text,
      parts p (drop (position_or_len p (x ∷ text)) (x ∷ text)),
      sym begin ∙ ap (parts p) (drop-cons xs i 0 here.0) ∙ head-of p x text (not-true _ here.1),
    )
