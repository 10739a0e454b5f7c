-- What a comparison of two numbers says of the integers that they stand for.
use Rattle.std.proofs.Common.{◌≡◌, ◌∙◌, ℤ, Bool, true, false, Option, Some, Ordering, Less, Equal, Greater, T, ap, cond, refl, sym}
use Rattle.std.specs.Prelude.{◌↔◌, ◌<ℤ◌, IsTrue, int_lt}
use Rattle.std.specs.Ordering.{int_cmp, is_lt, is_some_and, partial_lt}
use Rattle.std.proofs.lemmas.Bool.{false≢true}

holds : (b : Bool) → b ≡ true → T b
holds true is = tt
holds false is = absurd (false≢true is)

is_true : (b : Bool) → T b → b ≡ true
is_true true h = refl
is_true false h = absurd h

-- the test of an answer that is chosen by two tests is the first of these
first_test : (b d : Bool) → is_lt (cond b Less (cond d Greater Equal)) ≡ b
first_test true d = refl
first_test false true = refl
first_test false false = refl

-- two numbers are in the order of their integers
pub below_is : {X : Type 0} (compare : X → X → Option Ordering) (a b : X) (x y : ℤ) (r : Bool) → compare a b ≡ Some (int_cmp x y) →
    r ≡ partial_lt compare a b → IsTrue r ↔ (x <ℤ y)
below_is compare a b x y r order gives =
    let is : r ≡ int_lt x y = gives ∙ ap (is_some_and is_lt) order ∙ first_test (int_lt x y) (int_lt y x) in
    (λ told. record { lt = holds (int_lt x y) (sym is ∙ told) }, λ less. is ∙ is_true (int_lt x y) less.lt)
