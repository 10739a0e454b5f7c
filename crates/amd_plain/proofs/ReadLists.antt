-- A list that is read at its place in a table of lists, and marks that are set and cleared again.
use Rattle.std.proofs.Common.{ℕ, Bool, false, List, Vec, ◌≡◌, ◌<◌, ◌&&◌, ◌||◌, not, sym, ap, subst, ◌∙◌, get_or}
use Rattle.std.proofs.Common.{lt_of_lt_of_le, le_of_eq}
use Rattle.amd_model.specs.Quotient.{has}
use Rattle.amd_model.proofs.Counting.Below.{not_both}
use Rattle.amd_plain.specs.Views.{Below, ListsBelow}
use Rattle.amd_plain.proofs.ListPlaces.{list_deref, list_below}

-- its numbers are below n
pub read_below : {A : Type 0} (n m : ℕ) (lists : List (Vec ℕ A)) (e : ℕ) (v : Vec ℕ A) (xs : List ℕ) → ListsBelow n lists → e < n →
    v ≡ get_or lists e v → xs ≡ v.items → m ≡ n → Below m xs
read_below n m lists e v xs all small read same long = subst (λ q. Below q xs) (sym long)
    (subst (Below n) (sym (list_deref lists e v xs (lt_of_lt_of_le small (le_of_eq (sym all.0))) read same)) (list_below n lists all e))

-- what was marked of a list alone is clear once the marks of that list are cleared
pub cleared_own : (j : ℕ) (old marked new : Bool) (xs ys : List ℕ) → old ≡ false → marked ≡ (old || has xs j) →
    new ≡ (marked && not (has ys j)) → xs ≡ ys → new ≡ false
cleared_own j old marked new xs ys clear is then same =
    then ∙ ap (λ b. b && not (has ys j)) (is ∙ ap (λ b. b || has xs j) clear ∙ ap (λ l. has l j) same) ∙ not_both (has ys j)
