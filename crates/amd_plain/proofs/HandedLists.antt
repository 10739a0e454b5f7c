-- The lists that are handed to the postorder, and the rows that are read from it, one element more.
use Rattle.std.proofs.Common.{ℕ, ℤ, List, [], ◌∷◌, ◌++◌, ◌≡◌, ◌<◌, ◌+◌, ◌∙◌, inl, inr, ap, sym, arith, length, map, get_or, take, pos}
use Rattle.std.proofs.Common.{Option, None, append-nil}
use Rattle.std.specs.Prelude.{flat_map}
use Rattle.std.proofs.lemmas.Bool.{cases_lt}
use Rattle.std.proofs.lemmas.Grind.{flat_map-append}
use Rattle.std.proofs.lemmas.List.{map-append, take_more, get_or_append_left, get_or_push}
use Rattle.amd_model.specs.Input.Columns.{at}
use Rattle.amd_plain.specs.Views.{some_at}
use Rattle.amd_postorder.specs.Trees.{link_of}

-- the link of one element more
pub links_more : (parent : List (Option ℕ)) (e : ℕ) (links : List ℤ) (x : ℤ) → e < length parent →
    links ≡ map link_of (take e parent) → x ≡ link_of (some_at parent e) → links ++ x ∷ [] ≡ map link_of (take (e + 1) parent)
links_more parent e links x l was is = ap (λ ys. ys ++ x ∷ []) was ∙ ap (λ y. map link_of (take e parent) ++ y ∷ []) is
    ∙ sym (ap (map link_of) (take_more parent e None l) ∙ map-append link_of (take e parent) (some_at parent e ∷ []))

-- the number of one element more
pub ats_push : (xs : List ℤ) (x : ℤ) (i : ℕ) (f : ℕ → ℤ) → length xs ≡ i → ((a : ℕ) → a < i → at xs a ≡ f a) → x ≡ f i → (a : ℕ) →
    a < i + 1 → at (xs ++ x ∷ []) a ≡ f a
ats_push xs x i f size was is a h = elim (cases_lt a i) [
  | inl l ↦ get_or_append_left xs (x ∷ []) (pos 0) a (omega (arith, size, l)) ∙ was a l
  | inr l ↦ (let e : a ≡ i = omega (arith, h, l) in ap (at (xs ++ x ∷ [])) e ∙ get_or_push xs x (pos 0) i size ∙ is ∙ ap f (sym e))
]

-- the rows of one element more
pub rows_more : (f : ℕ → List ℕ) (es : List ℕ) (k : ℕ) → k < length es →
    flat_map f (take (k + 1) es) ≡ flat_map f (take k es) ++ f (get_or es k 0)
rows_more f es k l = ap (flat_map f) (take_more es k 0 l) ∙ flat_map-append f (take k es) (get_or es k 0 ∷ [])
    ∙ ap (λ ys. flat_map f (take k es) ++ ys) (append-nil (f (get_or es k 0)))
