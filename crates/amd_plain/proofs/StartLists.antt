-- Lists that are filled row by row, from which an elimination starts.
use Rattle.std.proofs.Common.{ℕ, Bool, true, false, ◌≡◌, ◌<◌, ◌+◌, ◌&&◌, inl, inr, refl, sym, ◌∙◌, ap, subst, arith}
use Rattle.std.proofs.Common.{List, [], ◌∷◌, ◌++◌, Vec, map, length, get_or, set, replicate}
use Rattle.std.specs.Prelude.{◌==◌}
use Rattle.std.proofs.lemmas.Bool.{cases_eq, cases_lt, eq-eqb, ne_eqb}
use Rattle.std.proofs.lemmas.List.{length-map, length_push, length-replicate, get_or-replicate, get_or_past, get_or_append_left}
use Rattle.std.proofs.lemmas.List.{get_or_push}
use Rattle.std.proofs.lemmas.List.Elements.{All-push}
use Rattle.amd_model.specs.Below.{list_below}
use Rattle.amd_round_laws.proofs.Lists.Rising.{list_yes, list_no}
use Rattle.amd_plain.specs.Views.{mark_at, num, list_at, Below, ListsBelow, Clear}
use Rattle.amd_types.proofs.EmptyLists.{empty_more}
use Rattle.amd_plain.proofs.ListPlaces.{list_read, list_set_same, list_set_other, lists_set}

-- an empty list more
pub empty_push : {A : Type 0} (lists : List (Vec ℕ A)) (v : Vec ℕ A) → ((i : ℕ) → list_at lists i ≡ []) → v.items ≡ [] → (i : ℕ) →
    list_at (lists ++ v ∷ []) i ≡ []
empty_push {A} lists v empty is i = elim (cases_lt i (length lists + 1)) [
  | inl l ↦ empty_more (Vec ℕ A) (λ w. w.items) lists v (length lists) refl i l (λ k h. empty k) is
  | inr l ↦ get_or_past (map (λ w. w.items) (lists ++ v ∷ [])) i [] (let m = length-map (lists ++ v ∷ []) (λ (w : Vec ℕ A). w.items) in
      let p = length_push lists v in omega (arith, m, p, l))
]

-- a number more
pub numbers_push : (xs : List ℕ) (x i : ℕ) (f : ℕ → ℕ) → length xs ≡ i → ((a : ℕ) → a < i → num xs a ≡ f a) → x ≡ f i → (a : ℕ) →
    a < i + 1 → num (xs ++ x ∷ []) a ≡ f a
numbers_push xs x i f size was is a h = elim (cases_lt a i) [
  | inl l ↦ get_or_append_left xs (x ∷ []) 0 a (omega (arith, size, l)) ∙ was a l
  | inr l ↦ (let e : a ≡ i = omega (arith, h, l) in ap (num (xs ++ x ∷ [])) e ∙ get_or_push xs x 0 i size ∙ is ∙ ap f (sym e))
]

-- a mark more
pub marks_push : (xs : List Bool) (x : Bool) (i : ℕ) (f : ℕ → Bool) → length xs ≡ i → ((a : ℕ) → a < i → mark_at xs a ≡ f a) → x ≡ f i →
    (a : ℕ) → a < i + 1 → mark_at (xs ++ x ∷ []) a ≡ f a
marks_push xs x i f size was is a h = elim (cases_lt a i) [
  | inl l ↦ get_or_append_left xs (x ∷ []) false a (omega (arith, size, l)) ∙ was a l
  | inr l ↦ (let e : a ≡ i = omega (arith, h, l) in ap (mark_at (xs ++ x ∷ [])) e ∙ get_or_push xs x false i size ∙ is ∙ ap f (sym e))
]

-- one value at each of n places
pub same_length : {X : Type 0} (n : ℕ) (x : X) (xs : List X) → xs ≡ replicate n x → length xs ≡ n
same_length n x xs h = ap length h ∙ length-replicate n x

-- no mark at any of n places
pub marks_clear : (n : ℕ) (marks : List Bool) → marks ≡ replicate n false → (length marks ≡ n) × Clear marks
marks_clear n marks h = (
  same_length n false marks h,
  λ j. ap (λ xs. mark_at xs j) h ∙ elim (cases_lt j n) [
    | inl l ↦ get_or-replicate n j false false l
    | inr l ↦ get_or_past (replicate n false) j false (let e = length-replicate n false in omega (arith, e, l))
  ],
)

-- a row more is placed
module _ {A : Type 0} (n : ℕ) (lists : List (Vec ℕ A)) (bound : ℕ → ℕ) (light : ℕ → Bool) (i : ℕ)
    (was : (b : ℕ) → list_at lists b ≡ list_below i (λ j. light j && bound j == b)) where
  -- a row that is no class is passed over
  pub placed_no : light i ≡ false → (b : ℕ) → list_at lists b ≡ list_below (i + 1) (λ j. light j && bound j == b)
  placed_no h b = was b ∙ sym (list_no (λ j. light j && bound j == b) i (ap (λ a. a && bound i == b) h))

  -- a class is placed under its bound
  module _ (v : Vec ℕ A) (here : bound i < length lists) (is : v ≡ get_or lists (bound i) v) (w : Vec ℕ A)
      (pushed : w.items ≡ v.items ++ i ∷ []) where
    old : v.items ≡ list_at lists (bound i)
    old = sym (list_read lists (bound i) v here is)

    pub placed_yes : light i ≡ true → (b : ℕ) → list_at (set lists (bound i) w) b ≡ list_below (i + 1) (λ j. light j && bound j == b)
    placed_yes h b = elim (cases_eq b (bound i)) [
      | inl e ↦ ap (list_at (set lists (bound i) w)) e ∙ list_set_same lists (bound i) w here
          ∙ pushed ∙ ap (λ ys. ys ++ i ∷ []) (old ∙ ap (list_at lists) (sym e) ∙ was b)
          ∙ sym (list_yes (λ j. light j && bound j == b) i (ap (λ a. a && bound i == b) h ∙ eq-eqb (bound i) b (sym e)))
      | inr ne ↦ list_set_other lists (bound i) w b ne ∙ was b ∙
          sym (list_no (λ j. light j && bound j == b) i (ap (λ a. a && bound i == b) h ∙ ne_eqb (bound i) b (λ q. ne (sym q))))
    ]

    pub range_yes : ListsBelow n lists → i < n → ListsBelow n (set lists (bound i) w)
    range_yes r l = lists_set n lists (bound i) w r
        (subst (Below n) (sym pushed) (All-push (λ j. j < n) v.items i (subst (λ u. Below n u.items) (sym is) (r.1 (bound i) v here)) l))
