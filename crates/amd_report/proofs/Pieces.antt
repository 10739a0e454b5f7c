-- The texts of the elements of a list, written one after another.
use Rattle.std.proofs.Common.{◌≡◌, ◌++◌, ◌+◌, ◌<◌, ◌≤◌, ℕ, List, [], ◌∷◌, append-nil, ◌∙◌, ap, sym, subst, take, take_all}
use Rattle.std.proofs.Common.{get_or, length}
use Rattle.std.proofs.lemmas.List.{take_more}
use Rattle.std.proofs.lemmas.Grind.{flat_map-append}
use Rattle.std.specs.Prelude.{Option, flat_map}
use Rattle.std.specs.Io.KnownBytes.{Appends}
use Rattle.std.proofs.KnownBytes.{Appends-trans}

module _ {X : Type 0} (piece : X → List ℕ) where
  -- the pieces of the first k elements, and of one more
  pieces-more : (xs : List X) (k : ℕ) (x : X) → k < length xs →
      flat_map piece (take (k + 1) xs) ≡ flat_map piece (take k xs) ++ piece (get_or xs k x)
  pieces-more xs k x inside =
      ap (flat_map piece) (take_more xs k x inside) ∙ flat_map-append piece (take k xs) (get_or xs k x ∷ [])
      ∙ ap (λ z. flat_map piece (take k xs) ++ z) (append-nil (piece (get_or xs k x)))

  -- a writer that took the pieces of the first k elements, and then the next one
  pub pieces-next : (xs : List X) (k : ℕ) (x : X) (a b c : Option (List ℕ)) → k < length xs →
      Appends a b (flat_map piece (take k xs)) → Appends b c (piece (get_or xs k x)) →
      Appends a c (flat_map piece (take (k + 1) xs))
  pieces-next xs k x a b c inside first next =
      subst (Appends a c) (sym (pieces-more xs k x inside)) (Appends-trans a b c _ _ first next)

  -- a writer that took the pieces of as many elements as there are
  pub pieces-whole : (xs : List X) (k : ℕ) (a b : Option (List ℕ)) → length xs ≤ k → Appends a b (flat_map piece (take k xs)) →
      Appends a b (flat_map piece xs)
  pieces-whole xs k a b past h = subst (λ z. Appends a b (flat_map piece z)) (take_all k xs past) h
