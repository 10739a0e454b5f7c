-- Lists that name each number once, and name the same numbers: they are of one length, and have one sum.
use Rattle.std.proofs.Common.{ℕ, true, false, ◌≡◌, ◌≢◌, ◌≤◌, ◌+◌, ◌&&◌, not, inl, inr, refl, sym, ◌∙◌, ap, arith, List, [], ◌∷◌, length}
use Rattle.std.specs.Prelude.{◌==◌, filter, sum_by}
use Rattle.std.proofs.lemmas.Bool.{cases_Bool, and_parts, and_from, and_left, ne_eqb, not_from_false}
use Rattle.std.proofs.lemmas.List.Sums.{sum_by-cons, length-filter}
use Rattle.amd_model.specs.Quotient.{has, each, Once}
use Rattle.amd_model.proofs.Quotient.Lists.{once_filter, each_gives, each_from}
use Rattle.amd_model.proofs.Listings.Words.{filter_has, has_head, has_tail}
use Rattle.amd_model.proofs.Counting.Below.{clash}
use Rattle.amd_round_laws.proofs.Lists.Named.{filter_all, sum_apart}

-- the others of a list
others_of : ℕ → List ℕ → List ℕ
others_of x xs = filter (λ j. true && not (j == x)) xs

-- a number of the list and the others
sum_others : (f : ℕ → ℕ) (x : ℕ) (xs : List ℕ) → Once xs → has xs x ≡ true → f x + sum_by f (others_of x xs) ≡ sum_by f xs
unfolding others_of
sum_others f x xs o h = sum_apart f (λ j. true) x xs o h refl ∙ ap (sum_by f) (filter_all (λ j. true) xs (λ x h. refl))

other_in : (x y : ℕ) (xs : List ℕ) → has xs y ≡ true → y ≢ x → has (others_of x xs) y ≡ true
unfolding others_of
other_in x y xs h ne = filter_has (λ j. true && not (j == x)) xs y h (not_from_false (y == x) (ne_eqb y x ne))

-- what is in another list adds up to no more
pub part_sum : (f : ℕ → ℕ) (ys xs : List ℕ) → Once ys → Once xs → ((y : ℕ) → has ys y ≡ true → has xs y ≡ true) → sum_by f ys ≤ sum_by f xs
unfolding others_of
part_sum f [] xs o p h = omega arith
part_sum f (y ∷ ys) xs o p h =
    let in_xs = h y (has_head y y ys refl) in
    let rest = part_sum f ys (others_of y xs) o.1 (once_filter (λ j. true && not (j == y)) xs p)
    (λ z k. other_in y z xs (h z (has_tail z y ys k)) (λ e. clash (ap (has ys) (sym e) ∙ k) o.0)) in
    let whole = sum_others f y xs p in_xs in
    let first = sum_by-cons f y ys in
    omega (arith, rest, whole, first)

-- the length is a sum
length_sum : (xs : List ℕ) → length xs ≡ sum_by (λ j. 1) xs
length_sum xs = ap length (sym (filter_all (λ j. true) xs (λ x h. refl))) ∙ length-filter (λ j. true) xs

-- two lists that name the same numbers
pub same_sum : (f : ℕ → ℕ) (xs ys : List ℕ) → Once xs → Once ys → each (has xs) ys ≡ true → each (has ys) xs ≡ true →
    sum_by f xs ≡ sum_by f ys
same_sum f xs ys o p h k = let a = part_sum f ys xs p o (each_gives (has xs) ys h) in let b =
    part_sum f xs ys o p (each_gives (has ys) xs k) in omega (arith, a, b)

pub same_length : (xs ys : List ℕ) → Once xs → Once ys → each (has xs) ys ≡ true → each (has ys) xs ≡ true → length xs ≡ length ys
same_length xs ys o p h k = length_sum xs ∙ same_sum (λ j. 1) xs ys o p h k ∙ sym (length_sum ys)

-- a list that has no fewer numbers than another, each in that one, has all of them
pub fills : (xs ys : List ℕ) → Once xs → Once ys → each (has xs) ys ≡ true → length xs ≤ length ys → each (has ys) xs ≡ true
unfolding others_of
fills xs ys o p h l = each_from (has ys) xs (λ x k. elim (cases_Bool (has ys x)) [
  | inl t ↦ t
  | inr f ↦ (let a = part_sum (λ j. 1) ys (others_of x xs) p (once_filter (λ j. true && not (j == x)) xs o)
      (λ y m. other_in x y xs (each_gives (has xs) ys h y m) (λ e. clash (ap (has ys) (sym e) ∙ m) f)) in
      let b = sum_others (λ j. 1) x xs o k in let c = length_sum xs in let d = length_sum ys in
      absurd (omega (arith, a, b, c, d, l)))
])

-- of lists of one length it is enough that each number of the one is in the other
pub counted : (xs ys : List ℕ) → Once xs → Once ys → length ys ≡ length xs → each (has xs) ys ≡ (each (has xs) ys && each (has ys) xs)
counted xs ys o p l = elim (cases_Bool (each (has xs) ys)) [
  | inl t ↦ t ∙ sym (and_from (each (has xs) ys) (each (has ys) xs) t (fills xs ys o p t (omega (arith, l))))
  | inr f ↦ f ∙ sym (and_left (each (has xs) ys) (each (has ys) xs) f)
]

pub uncounted : (xs ys : List ℕ) → Once xs → Once ys → length ys ≢ length xs → (each (has xs) ys && each (has ys) xs) ≡ false
uncounted xs ys o p ne = elim (cases_Bool (each (has xs) ys && each (has ys) xs)) [
  | inr f ↦ f
  | inl t ↦ (let q = and_parts (each (has xs) ys) (each (has ys) xs) t in absurd (ne (sym (same_length xs ys o p q.0 q.1))))
]
