-- Empty lists, each in a vector of its own: one vector more. A vector stands here for anything with items.
use Rattle.std.proofs.Common.{◌≡◌, ◌+◌, ◌<◌, inl, inr, ℕ, List, [], ◌∷◌, ◌++◌, length, get_or, map, arith, ap, ◌∙◌}
use Rattle.std.proofs.lemmas.Bool.{cases_lt}
use Rattle.std.proofs.lemmas.List.{length-map, map-append, get_or_append_left, get_or_push}

module _ (V : Type 0) (items : V → List ℕ) (xs : List V) (v : V) (n : ℕ) (size : length xs ≡ n) (i : ℕ) (h : i < n + 1) where
  pub empty_more : ((a : ℕ) → a < n → get_or (map items xs) a [] ≡ []) → items v ≡ [] → get_or (map items (xs ++ v ∷ [])) i [] ≡ []
  empty_more each is = ap (λ l. get_or l i []) (map-append items xs (v ∷ [])) ∙ elim (cases_lt i n) [
    | inl x ↦ get_or_append_left (map items xs) (items v ∷ []) [] i (let l = length-map xs items in omega (arith, l, x, size)) ∙ each i x
    | inr x ↦ (let e : i ≡ n = omega arith in rw e (get_or_push (map items xs) (items v) [] n (length-map xs items ∙ size) ∙ is))
  ]
