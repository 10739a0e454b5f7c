-- Lists that are gathered with marks: what is marked is passed over, and what is added is marked.
use Rattle.amd_model.proofs.Counting.Below.{clash}
use Rattle.std.proofs.Common.{ℕ, Bool, true, false, ◌≡◌, ◌<◌, ◌&&◌, ◌||◌, not, inl, inr, refl, sym, ◌∙◌, ap, List, [], ◌∷◌, ◌++◌, length}
use Rattle.std.proofs.Common.{set, get_or-set_same, get_or-set_other}
use Rattle.std.specs.Prelude.{fold, flat_map, ◌==◌}
use Rattle.std.proofs.Math.Bool.{or-true, or-false, and-true, and-false}
use Rattle.std.proofs.lemmas.Bool.{cases_Bool, cases_eq, eq-eqb, ne_eqb, or_left, or_right}
use Rattle.std.proofs.lemmas.List.Sums.{fold-append}
use Rattle.amd_model.specs.Quotient.{has, add_new}
use Rattle.amd_model.proofs.Quotient.Lists.{has_append, add_old, add_fresh}
use Rattle.amd_model.proofs.Listings.Words.{has_right}
use Rattle.amd_round_laws.proofs.Lists.Added.{same_adds, adds_marks}
use Rattle.amd_plain.specs.Views.{mark_at, Clear}

-- the next number of a list is marked
pub marks_next : (marks : List Bool) (i j : ℕ) (xs : List ℕ) → i < length marks →
    (mark_at (set marks i true) j || has xs j) ≡ (mark_at marks j || has (i ∷ xs) j)
unfolding has
marks_next marks i j xs l = elim (cases_eq j i) [
  | inl q ↦ ap (λ b. b || has xs j) (ap (mark_at (set marks i true)) q ∙ get_or-set_same marks i true false l) ∙
      sym (ap (λ b. mark_at marks j || (b || has xs j)) (eq-eqb i j (sym q)) ∙ or-true (mark_at marks j))
  | inr n ↦ ap (λ b. b || has xs j) (get_or-set_other marks i j true false n) ∙
      sym (ap (λ b. mark_at marks j || (b || has xs j)) (ne_eqb i j (λ e. n (sym e))))
]

-- the next number of a list is cleared
pub clears_next : (marks : List Bool) (i j : ℕ) (xs : List ℕ) → i < length marks →
    (mark_at (set marks i false) j && not (has xs j)) ≡ (mark_at marks j && not (has (i ∷ xs) j))
unfolding has
clears_next marks i j xs l = elim (cases_eq j i) [
  | inl q ↦ ap (λ b. b && not (has xs j)) (ap (mark_at (set marks i false)) q ∙ get_or-set_same marks i false false l) ∙
      sym (ap (λ b. mark_at marks j && not (b || has xs j)) (eq-eqb i j (sym q)) ∙ and-false (mark_at marks j))
  | inr n ↦ ap (λ b. b && not (has xs j)) (get_or-set_other marks i j false false n) ∙
      sym (ap (λ b. mark_at marks j && not (b || has xs j)) (ne_eqb i j (λ e. n (sym e))))
]

pub marks_end : (marks : List Bool) (j : ℕ) → (mark_at marks j || has [] j) ≡ mark_at marks j
unfolding has
marks_end marks j = or-false (mark_at marks j)

pub clears_end : (marks : List Bool) (j : ℕ) → (mark_at marks j && not (has [] j)) ≡ mark_at marks j
unfolding has
clears_end marks j = and-true (mark_at marks j)

-- what is listed is marked
abbrev pub Known : List Bool → List ℕ → Type 0
Known marks out = (j : ℕ) → has out j ≡ true → mark_at marks j ≡ true

-- a number that is marked is passed over
pub marked_passed : (marks : List Bool) (out xs : List ℕ) (y : ℕ) → mark_at marks y ≡ true →
    fold (add_new (mark_at marks)) out (y ∷ xs) ≡ fold (add_new (mark_at marks)) out xs
marked_passed marks out xs y h = ap (λ o. fold (add_new (mark_at marks)) o xs) (add_old (mark_at marks) out y (or_left (mark_at marks y)
    (has out y) h))

not_listed : (marks : List Bool) (out : List ℕ) (y : ℕ) → Known marks out → mark_at marks y ≡ false → (mark_at marks y || has out y) ≡ false
not_listed marks out y k h = elim (cases_Bool (has out y)) [
  | inl m ↦ clash (k y m) h
  | inr m ↦ ap (λ b. b || has out y) h ∙ m
]

-- a number that is not marked is added and marked
pub unmarked_added : (marks : List Bool) (out xs : List ℕ) (y : ℕ) → y < length marks → Known marks out → mark_at marks y ≡ false →
    fold (add_new (mark_at marks)) out (y ∷ xs) ≡ fold (add_new (mark_at (set marks y true))) (out ++ y ∷ []) xs
unfolding has
unmarked_added marks out xs y l k h = ap (λ o. fold (add_new (mark_at marks)) o xs) (add_fresh (mark_at marks)
    out y (not_listed marks out y k h))
    ∙ same_adds (mark_at marks) (mark_at (set marks y true)) (out ++ y ∷ []) xs agree
  where
    agree : (x : ℕ) → (mark_at marks x || has (out ++ y ∷ []) x) ≡ (mark_at (set marks y true) x || has (out ++ y ∷ []) x)
    agree x = elim (cases_eq x y) [
      | inl q ↦ (let named : has (out ++ y ∷ []) x ≡ true = has_right x out (y ∷ []) (or_left (y == x) false (eq-eqb y x (sym q))) in
          or_right (mark_at marks x) (has (out ++ y ∷ []) x) named ∙ sym (or_right (mark_at (set marks y true) x) (has (out ++ y ∷ []) x)
          named))
      | inr n ↦ ap (λ b. b || has (out ++ y ∷ []) x) (sym (get_or-set_other marks y x true false n))
    ]

-- and what is listed stays marked
pub known_added : (marks : List Bool) (out : List ℕ) (y : ℕ) → y < length marks → Known marks out → Known (set marks y true) (out ++ y ∷ [])
unfolding has
known_added marks out y l k j h = elim (cases_eq j y) [
  | inl q ↦ ap (mark_at (set marks y true)) q ∙ get_or-set_same marks y true false l
  | inr n ↦ get_or-set_other marks y j true false n ∙
      k j (sym (ap (λ b. has out j || (b || false)) (ne_eqb y j (λ e. n (sym e))) ∙ or-false (has out j)) ∙
      sym (has_append out (y ∷ []) j) ∙
      h)
]

-- a marked number adds no mark
pub marks_old : (marks : List Bool) (y j : ℕ) (xs : List ℕ) → mark_at marks y ≡ true →
    (mark_at marks j || has xs j) ≡ (mark_at marks j || has (y ∷ xs) j)
unfolding has
marks_old marks y j xs h = elim (cases_eq j y) [
  | inl q ↦ (let m : mark_at marks j ≡ true = ap (mark_at marks) q ∙ h in or_left (mark_at marks j) (has xs j) m ∙
      sym (or_left (mark_at marks j) (has (y ∷ xs) j) m))
  | inr n ↦ sym (ap (λ b. mark_at marks j || (b || has xs j)) (ne_eqb y j (λ e. n (sym e))))
]

or_twice : (a b : Bool) → ((a || b) || b) ≡ (a || b)
or_twice true b = refl
or_twice false true = refl
or_twice false false = refl

-- a list of lists is gathered: what is marked is what is skipped or listed so far
module _ (skip : ℕ → Bool) (marks : List Bool) (out grown xs : List ℕ) (marked : (j : ℕ) → mark_at marks j ≡ (skip j || has out j))
    (is_grown : grown ≡ fold (add_new (mark_at marks)) out xs) where
  -- so each list of them adds what the rule says
  pub gathered_list : grown ≡ fold (add_new skip) out xs
  gathered_list = is_grown ∙ same_adds (mark_at marks) skip out xs (λ x. ap (λ b. b || has out x) (marked x) ∙ or_twice (skip x)
      (has out x))

  -- and what is marked is what is skipped or listed then
  pub gathered_marks : (after : List Bool) → ((j : ℕ) → mark_at after j ≡ (mark_at marks j || has xs j)) → (j : ℕ) →
      mark_at after j ≡ (skip j || has grown j)
  gathered_marks after h j = h j ∙ ap (λ b. b || has xs j) (marked j) ∙ sym (adds_marks skip out xs j) ∙
      ap (λ l. skip j || has l j) (sym gathered_list)

-- the next one of a list of lists
pub gathered_next : (skip : ℕ → Bool) (f : ℕ → List ℕ) (out grown es : List ℕ) (e : ℕ) → grown ≡ fold (add_new skip) out (f e) →
    fold (add_new skip) grown (flat_map f es) ≡ fold (add_new skip) out (flat_map f (e ∷ es))
gathered_next skip f out grown es e h = ap (λ o. fold (add_new skip) o (flat_map f es)) h ∙
    sym (fold-append (add_new skip) out (f e) (flat_map f es))

-- one number alone is marked, and nothing is listed
pub marks_one : (marks : List Bool) (c : ℕ) (out : List ℕ) → c < length marks → Clear marks → out ≡ [] → (j : ℕ) →
    mark_at (set marks c true) j ≡ (j == c || has out j)
unfolding has
marks_one marks c out l none e j = elim (cases_eq j c) [
  | inl q ↦ ap (mark_at (set marks c true)) q ∙ get_or-set_same marks c true false l ∙ sym (or_left (j == c) (has out j) (eq-eqb j c q))
  | inr n ↦ get_or-set_other marks c j true false n ∙ none j ∙ sym (ap (λ b. b || has out j) (ne_eqb j c n) ∙ ap (λ l. has l j) e)
]

-- a list alone is marked, and nothing is listed
pub marks_list : (marks : List Bool) (xs out : List ℕ) (was : List Bool) → Clear was → out ≡ [] →
    ((j : ℕ) → mark_at marks j ≡ (mark_at was j || has xs j)) → (j : ℕ) → mark_at marks j ≡ (has xs j || has out j)
unfolding has
marks_list marks xs out was none e h j = h j ∙ ap (λ b. b || has xs j) (none j) ∙
    sym (ap (λ l. has xs j || has l j) e ∙ or-false (has xs j))
