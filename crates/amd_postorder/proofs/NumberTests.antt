-- What the tests of a number that is read say: whether there is an element, and whether it has a parent.
use Rattle.std.proofs.Common.{◌≡◌, ◌<◌, ◌^◌, ◌&&◌, ◌∙◌, ℕ, ℤ, Bool, List, length, pos, negsuc, refl, ap, sym, subst, arith, to_z, of_z, w64}
use Rattle.std.specs.Prelude.{Err, Ok, OkIff, Result, Some, int_lt, is_none, unsigned_abs}
use Rattle.std.specs.Result.{result_ok}
use Rattle.std.specs.Int.{FitsUnsignedBits}
use Rattle.std.proofs.lemmas.Bool.{lt-ltb, le-ltb}
use Rattle.std.proofs.lemmas.Int.{to_z-of_z}
use Rattle.amd_model.specs.Input.Columns.{at}
use Rattle.amd_types.specs.Links.{named}
use Rattle.amd_postorder.specs.Trees.{is_tree_element}

-- a number is what its bits give back
given_back : (y z : ℤ) → lib.Signed.mag y < 2 ^ 63 → y ≡ z → to_z w64 (of_z w64 y) ≡ z
given_back y z small is = to_z-of_z w64 y (record { sfits = small }) ∙ is

-- a place holds an element as the test of its number of rows says
pub element_is : (nv : List ℤ) (j n : ℕ) (y : ℤ) (b : Bool) → length nv ≡ n → j < n → lib.Signed.mag y < 2 ^ 63 → y ≡ at nv j →
    int_lt (pos 0) (to_z w64 (of_z w64 y)) ≡ b → is_tree_element (length nv) nv j ≡ b
element_is nv j n y b room within small is test =
    ap (λ t. t && int_lt (pos 0) (at nv j)) (lt-ltb j (length nv) (subst (λ m. j < m) (sym room) within))
    ∙ ap (int_lt (pos 0)) (sym (given_back y (at nv j) small is)) ∙ test

-- a number names no place where it is below 0
below_zero : (z : ℤ) → int_lt z (pos 0) ≡ is_none (named z)
below_zero (pos n) = le-ltb n 0 (omega arith)
below_zero (negsuc n) = refl

pub names_no_place : (parent : List ℤ) (j : ℕ) (y : ℤ) → lib.Signed.mag y < 2 ^ 63 → y ≡ at parent j →
    int_lt (to_z w64 (of_z w64 y)) (pos 0) ≡ is_none (named (at parent j))
names_no_place parent j y small is = ap (λ z. int_lt z (pos 0)) (given_back y (at parent j) small is) ∙ below_zero (at parent j)

-- the count that a number converts to is the place that it names
converted : {E : Type 0} (r : Result ℕ E) (z : ℤ) → lib.Signed.mag z < 2 ^ 63 → OkIff r (FitsUnsignedBits 64 z) (unsigned_abs z) →
    result_ok r ≡ named z
converted (Ok v) (pos n) small is = ap Some is.1
converted (Ok v) (negsuc n) small is = absurd is.0
converted (Err e) (pos n) small never = absurd (never (omega (arith, small)))
converted (Err e) (negsuc n) small never = refl

pub names_parent : {E : Type 0} (r : Result ℕ E) (parent : List ℤ) (j : ℕ) (y : ℤ) → lib.Signed.mag y < 2 ^ 63 → y ≡ at parent j →
    OkIff r (FitsUnsignedBits 64 (to_z w64 (of_z w64 y))) (unsigned_abs (to_z w64 (of_z w64 y))) → result_ok r ≡ named (at parent j)
names_parent r parent j y small is gives = converted r (at parent j) (subst (λ z. lib.Signed.mag z < 2 ^ 63) is small)
    (subst (λ z. OkIff r (FitsUnsignedBits 64 z) (unsigned_abs z)) (given_back y (at parent j) small is) gives)
