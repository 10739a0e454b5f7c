-- What stands at the places of lists of lists, and of lists in which one place is written.
use Rattle.std.proofs.Common.{ℕ, ◌≡◌, ◌≢◌, ◌<◌, ◌≤◌, inl, inr, refl, sym, ◌∙◌, ap, subst, arith, List, [], ◌∷◌, Vec, cond, map, length}
use Rattle.std.proofs.Common.{get_or, set, get_or-set_same, get_or-set_other}
use Rattle.std.specs.Prelude.{◌==◌}
use Rattle.std.proofs.lemmas.Bool.{cases_eq, cases_lt, cond-true, cond-false, eq-eqb, ne_eqb}
use Rattle.std.proofs.lemmas.List.{get_or-map, get_or_past, length-map, length-set, map-set}
use Rattle.std.proofs.lemmas.List.Elements.{All-nil, All-set}
use Rattle.amd_plain.specs.Views.{list_at, Below, ListsBelow}

-- a list with one place written
pub put_at : {X : Type 0} (xs : List X) (c : ℕ) (v d : X) → c < length xs → (x : ℕ) →
    get_or (set xs c v) x d ≡ cond (x == c) v (get_or xs x d)
put_at xs c v d l x = elim (cases_eq x c) [
  | inl e ↦ ap (λ m. get_or (set xs c v) m d) e ∙ get_or-set_same xs c v d l ∙ sym (cond-true (x == c) v (get_or xs x d) (eq-eqb x c e))
  | inr ne ↦ get_or-set_other xs c x v d ne ∙ sym (cond-false (x == c) v (get_or xs x d) (ne_eqb x c ne))
]

-- ---- lists of lists

-- the list at a place is the one that was read there
pub list_read : {A : Type 0} (lists : List (Vec ℕ A)) (e : ℕ) (v : Vec ℕ A) → e < length lists → v ≡ get_or lists e v →
    list_at lists e ≡ v.items
list_read lists e v l h = get_or-map (λ w. w.items) lists e v [] l ∙ ap (λ w. w.items) (sym h)

-- and so is what a slice of it reads
pub list_deref : {A : Type 0} (lists : List (Vec ℕ A)) (e : ℕ) (v : Vec ℕ A) (xs : List ℕ) → e < length lists → v ≡ get_or lists e v →
    xs ≡ v.items → xs ≡ list_at lists e
list_deref lists e v xs l h same = same ∙ sym (list_read lists e v l h)

-- past the end there is no list
pub list_past : {A : Type 0} (lists : List (Vec ℕ A)) (b : ℕ) → length lists ≤ b → list_at lists b ≡ []
list_past {A} lists b l = get_or_past (map (λ w. w.items) lists) b [] (let m = length-map lists (λ (w : Vec ℕ A). w.items) in
    omega (arith, m, l))

-- each list of a list of lists is in range
pub list_below : {A : Type 0} (n : ℕ) (lists : List (Vec ℕ A)) → ListsBelow n lists → (e : ℕ) → Below n (list_at lists e)
list_below {A} n [] h e = subst (Below n) (sym (list_past {A = A} [] e (omega arith))) (All-nil (λ j. j < n))
list_below n (v ∷ vs) h e = elim (cases_lt e (length (v ∷ vs))) [
  | inl l ↦ subst (Below n) (sym (get_or-map (λ w. w.items) (v ∷ vs) e v [] l)) (h.1 e v l)
  | inr l ↦ subst (Below n) (sym (list_past (v ∷ vs) e l)) (All-nil (λ j. j < n))
]

-- lists that are all empty are in range
pub empty_below : {A : Type 0} (n : ℕ) (lists : List (Vec ℕ A)) → length lists ≡ n → ((i : ℕ) → list_at lists i ≡ []) → ListsBelow n lists
empty_below n lists size empty =
    (size, λ k d l. subst (Below n) (sym (sym (get_or-map (λ w. w.items) lists k d [] l) ∙ empty k)) (All-nil (λ j. j < n)))

-- the list at each place when one list is written
pub list_written : {A : Type 0} (lists : List (Vec ℕ A)) (c : ℕ) (v : Vec ℕ A) → c < length lists → (e : ℕ) →
    list_at (set lists c v) e ≡ cond (e == c) v.items (list_at lists e)
list_written {A} lists c v l e = ap (λ xs. get_or xs e []) (map-set (λ w. w.items) lists c v)
    ∙ put_at (map (λ w. w.items) lists) c v.items [] (let m = length-map lists (λ (w : Vec ℕ A). w.items) in omega (arith, m, l)) e

-- so the one that is written
pub list_set_same : {A : Type 0} (lists : List (Vec ℕ A)) (e : ℕ) (v : Vec ℕ A) → e < length lists → list_at (set lists e v) e ≡ v.items
list_set_same lists e v l = list_written lists e v l e ∙ cond-true (e == e) v.items (list_at lists e) (eq-eqb e e refl)

-- and another one
pub list_set_other : {A : Type 0} (lists : List (Vec ℕ A)) (e : ℕ) (v : Vec ℕ A) (b : ℕ) → b ≢ e →
    list_at (set lists e v) b ≡ list_at lists b
list_set_other lists e v b n = ap (λ xs. get_or xs b []) (map-set (λ w. w.items) lists e v) ∙
    get_or-set_other (map (λ w. w.items) lists) e b v.items [] n

-- what is written is in range
pub lists_set : {A : Type 0} (n : ℕ) (lists : List (Vec ℕ A)) (e : ℕ) (v : Vec ℕ A) → ListsBelow n lists → Below n v.items →
    ListsBelow n (set lists e v)
lists_set n lists e v h k = (length-set lists e v ∙ h.0, All-set (λ w. Below n w.items) lists e v k h.1)
