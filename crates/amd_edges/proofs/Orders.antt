-- The order in which the walk meets the edges.
use Rattle.std.proofs.Common.{◌≡◌, ◌≢◌, ◌+◌, ◌<◌, ◌≤◌, inl, inr, ℕ, ℤ, zero, suc, Bool, true, false, List, [], ◌∷◌, ◌++◌, get_or, map}
use Rattle.std.proofs.Common.{arith, refl, ap, sym, ◌∙◌, subst, append_assoc, add-one, cond, eqb, ltb, leb, ◌&&◌, not}
use Rattle.std.specs.Prelude.{flat_map, pos}
use Rattle.std.proofs.lemmas.Bool.{and_parts, and_from, cases_Bool, cases_eq, cases_lt, lt-ltb, ltb-true, le-leb, leb-true, not-true}
use Rattle.std.proofs.lemmas.Bool.{not_from_false, eq-eqb, ne_eqb, false_from_ne_true}
use Rattle.std.proofs.lemmas.Grind.{flat_map-append}
use Rattle.std.proofs.lemmas.List.{append-nil, map-append, flat_map_more}
use Rattle.std.proofs.lemmas.List.Concat.{flat_map_single}
use Rattle.amd_model.specs.Below.{list_below}
use Rattle.amd_model.specs.Input.Columns.{IsColumnForm}
use Rattle.amd_model.specs.Input.Pattern.{is_pair}
use Rattle.amd_model.specs.Quotient.{was_read, met_below, met_at, met_edges, other_end, starting_list}
use Rattle.amd_model.proofs.Counting.Below.{any_from, none_any, clash}
use Rattle.amd_types.specs.Naturals.{naturals, is_entry}
use Rattle.amd_edges.specs.Visits.{arcs_of, ends_of}
use Rattle.amd_edges.specs.Walk.{IsScan, edges_before}
use Rattle.amd_edges.proofs.Forms.{IsSortedForm, same_pair}
use Rattle.amd_edges.proofs.Places.{funext2, entry_from, entry_gives}

-- ---- lists of the numbers below a bound

-- numbers that do not pass add nothing
pub list_gap : (p : ℕ → Bool) (m c : ℕ) → m ≤ c → ((a : ℕ) → m ≤ a → a < c → p a ≡ false) → list_below c p ≡ list_below m p
unfolding list_below
list_gap p m zero le none = (let e : zero ≡ m = omega arith in ap (λ x. list_below x p) e)
list_gap p m (suc c) le none = elim (cases_eq m (suc c)) [
  | inl same ↦ ap (λ x. list_below x p) (sym same)
  | inr other ↦ (let shorter = list_gap p m c (omega arith) (λ a x y. none a x (omega arith)) in
      rw (none c (omega arith) (omega arith)) (append-nil (list_below c p) ∙ shorter))
]

-- the next number that passes is added
pub list_next : (p : ℕ → Bool) (m j : ℕ) → m ≤ j → ((a : ℕ) → m ≤ a → a < j → p a ≡ false) → p j ≡ true →
    list_below (j + 1) p ≡ list_below m p ++ j ∷ []
unfolding list_below
list_next p m j le none here = rw (add-one, here) (ap (λ l. l ++ j ∷ []) (list_gap p m j le none))

-- what the next number that passes gives is added behind
pub flat_next : {X : Type 0} (f : ℕ → List X) (before : List X) (p : ℕ → Bool) (m j : ℕ) → m ≤ j → ((a : ℕ) → m ≤ a → a < j → p a ≡ false) →
    p j ≡ true →
    before ++ flat_map f (list_below (j + 1) p) ≡ (before ++ flat_map f (list_below m p)) ++ f j
flat_next f before p m j le none here = ap (λ l. before ++ flat_map f l) (list_next p m j le none here) ∙
    sym (flat_map_more f before (list_below m p) j)

flat_none : {X : Type 0} (f : ℕ → List X) (before : List X) (p : ℕ → Bool) → before ++ flat_map f (list_below 0 p) ≡ before
unfolding list_below
flat_none f before p = append-nil before

-- ---- arcs

pub arcs_append : (edges more : List (ℕ × ℕ)) → arcs_of (edges ++ more) ≡ arcs_of edges ++ arcs_of more
unfolding arcs_of
arcs_append edges more = flat_map-append (λ e. (e.0, e.1) ∷ (e.1, e.0) ∷ []) edges more

pub no_arcs : arcs_of [] ≡ []
unfolding arcs_of
no_arcs = refl

-- the two arcs of one edge more
pub arcs_push : (arcs edges : List (ℕ × ℕ)) (a b : ℕ) → ((arcs ++ arcs_of edges) ++ (a, b) ∷ []) ++ (b, a) ∷ [] ≡ arcs ++ arcs_of
    (edges ++ (a, b) ∷ [])
unfolding arcs_of
arcs_push arcs edges a b = append_assoc (arcs ++ arcs_of edges) ((a, b) ∷ []) ((b, a) ∷ []) ∙
    append_assoc arcs (arcs_of edges) ((a, b) ∷ (b, a) ∷ [])
    ∙ ap (λ l. arcs ++ l) (sym (arcs_append edges ((a, b) ∷ [])))

-- ---- the lower entries of column j that are read where column k is

-- the row i stands below the diagonal of column j, and no column before k has read it
abbrev pub unread : (ℕ → ℕ → Bool) → ℕ → ℕ → ℕ → Bool
unread pair k j i = ltb j i && pair i j && not (was_read pair k j i)

-- the edges of such rows above row b
abbrev pub met_above : (ℕ → ℕ → Bool) → ℕ → ℕ → ℕ → List (ℕ × ℕ)
met_above pair k j b = map (λ i. (i, j)) (list_below b (unread pair k j))

pub above_start : (pair : ℕ → ℕ → Bool) (k j : ℕ) (arcs : List (ℕ × ℕ)) → arcs ≡ arcs ++ arcs_of (met_above pair k j 0)
unfolding list_below arcs_of
above_start pair k j arcs = sym (append-nil arcs)

module _ (n : ℕ) (ap' ai : List ℕ) (form : IsSortedForm n ap' ai) (t : List ℕ) (k j q : ℕ) (scan : IsScan n ap' ai t k j) (before : j < k)
    (k_in : k ≤ n) (from : get_or t j 0 ≤ q) where
  -- a row at or behind the pointer is such a row
  unread_at : (i : ℕ) → i ≡ get_or ai q 0 → q < get_or ap' (j + 1) 0 → unread (is_entry n ap' ai) k j i ≡ true
  unfolding was_read
  unread_at i is to =
      let up = scan.low j q before (omega arith) from to in
      let low = scan.start j before (omega arith) in
      let pair : is_entry n ap' ai i j ≡ true = entry_from ap' ai n i j q (omega arith) (omega arith) to (sym is) in
      let fresh : was_read (is_entry n ap' ai) k j i ≡ false = none_any k _ (λ c h e.
      let parts = and_parts (leb i c) (is_entry n ap' ai j c) e in
      let le = leb-true i c parts.0 in
      let w = scan.passed j c q (omega arith) (omega arith) (inl h) (λ _. parts.1) (omega arith) to (omega arith) in omega arith) in
      and_from _ _ (and_from _ _ (lt-ltb j i (omega arith)) pair) (not_from_false _ fresh)

  module _ (b : ℕ) (read : (r : ℕ) → get_or t j 0 ≤ r → r < q → get_or ai r 0 < b) where
    -- and there is no other one
    unread_none : (x : ℕ) → ((r : ℕ) → q ≤ r → r < get_or ap' (j + 1) 0 → x ≤ get_or ai r 0) → (a : ℕ) → b ≤ a → a < x →
        unread (is_entry n ap' ai) k j a ≡ false
    unfolding was_read
    unread_none x left a low high = false_from_ne_true _ (λ e.
        let p = and_parts _ _ e in
        let m = and_parts _ _ p.0 in
        let above = ltb-true j a m.0 in
        let r = entry_gives ap' ai n a j m.1 in
        let is = r.4 in
        elim (cases_lt r.0 (get_or t j 0)) [
          | inl y ↦ elim (scan.reached j r.0 (omega arith) r.2 y) [
            | inl z ↦ omega arith
            | inr z ↦ elim z.1 [
              | inl w ↦ clash (any_from k _ z.0 w (and_from _ _ (le-leb a z.0 (let v = z.3 in omega arith)) (z.2 (omega arith))))
                  (not-true _ p.1)
              | inr w ↦ (let v = w.1 in omega arith)
            ]
          ]
          | inr y ↦ elim (cases_lt r.0 q) [
            | inl z ↦ (let w = read r.0 y z in omega arith)
            | inr z ↦ (let w = left r.0 z r.3 in omega arith)
          ]
        ])

    -- the edge of the row at the place is added
    above_next : (i : ℕ) → i ≡ get_or ai q 0 → q < get_or ap' (j + 1) 0 → b ≤ i →
        met_above (is_entry n ap' ai) k j (i + 1) ≡ met_above (is_entry n ap' ai) k j b ++ (i, j) ∷ []
    above_next i is to le =
        let low = scan.start j before (omega arith) in
        let left : (r : ℕ) → q ≤ r → r < get_or ap' (j + 1) 0 → i ≤ get_or ai r 0 = λ r x y. elim (cases_eq q r) [
          | inl same ↦ (let w = ap (λ z. get_or ai z 0) same in omega arith)
          | inr other ↦ (let w = form.ascend j q r (omega arith) (omega arith) (omega arith) y in omega arith)
        ] in
        ap (map (λ x. (x, j))) (list_next (unread (is_entry n ap' ai) k j) b i le (unread_none i left) (unread_at i is to)) ∙
        map-append (λ x. (x, j)) (list_below b (unread (is_entry n ap' ai) k j)) (i ∷ [])

    -- and so are the arcs
    pub above_push : (i : ℕ) → i ≡ get_or ai q 0 → q < get_or ap' (j + 1) 0 → b ≤ i → (arcs : List (ℕ × ℕ)) →
        ((arcs ++ arcs_of (met_above (is_entry n ap' ai) k j b)) ++ (i, j) ∷ []) ++ (j, i) ∷ [] ≡ arcs ++ arcs_of
        (met_above (is_entry n ap' ai) k j (i + 1))
    above_push i is to le arcs = arcs_push arcs (met_above (is_entry n ap' ai) k j b) i j ∙
        ap (λ l. arcs ++ arcs_of l) (sym (above_next i is to le))

    pub above_end : b ≤ k → ((r : ℕ) → q ≤ r → r < get_or ap' (j + 1) 0 → k ≤ get_or ai r 0) →
        met_below (is_entry n ap' ai) k j ≡ met_above (is_entry n ap' ai) k j b
    unfolding met_below
    above_end le left = ap (map (λ x. (x, j))) (list_gap (unread (is_entry n ap' ai) k j) b k le (unread_none k left))

-- ---- whole columns

module _ (pair : ℕ → ℕ → Bool) (k : ℕ) where
  -- what the upper entry of row j gives
  abbrev pub met_from : ℕ → List (ℕ × ℕ)
  met_from j = (j, k) ∷ met_below pair k j

  -- the edges before column k, and those of its upper entries above row m
  abbrev pub edges_until : ℕ → List (ℕ × ℕ)
  edges_until m = edges_before pair k ++ flat_map met_from (list_below m (λ j. pair j k))

  pub until_start : edges_until 0 ≡ edges_before pair k
  until_start = flat_none met_from (edges_before pair k) (λ j. pair j k)

  module _ (m : ℕ) where
    -- the arcs of one upper entry more
    pub until_next : (j : ℕ) → m ≤ j → ((a : ℕ) → m ≤ a → a < j → pair a k ≡ false) → pair j k ≡ true →
        ((arcs_of (edges_until m) ++ (j, k) ∷ []) ++ (k, j) ∷ []) ++ arcs_of (met_below pair k j) ≡ arcs_of (edges_until (j + 1))
    until_next j le none here =
        ap (λ l. l ++ arcs_of (met_below pair k j)) (arcs_push [] (edges_until m) j k) ∙
        sym (arcs_append (edges_until m ++ (j, k) ∷ []) (met_below pair k j))
        ∙ ap arcs_of (append_assoc (edges_until m) ((j, k) ∷ []) (met_below pair k j) ∙
        sym (flat_next met_from (edges_before pair k) (λ j. pair j k) m j le none here))

    pub until_end : m ≤ k → ((a : ℕ) → m ≤ a → a < k → pair a k ≡ false) → edges_before pair (k + 1) ≡ edges_until m
    unfolding edges_before met_at
    until_end le none = flat_next (met_at pair) [] (λ c. true) k k (omega arith) (λ a x y. absurd (omega arith)) refl
        ∙ ap (λ l. edges_before pair k ++ flat_map met_from l) (list_gap (λ j. pair j k) m k le none)

  -- the edges of all columns, and those of the lower entries of the columns before j that were never read
  abbrev pub edges_after : ℕ → List (ℕ × ℕ)
  edges_after j = edges_before pair k ++ flat_map (met_below pair k) (list_below j (λ c. true))

  pub after_start : edges_after 0 ≡ edges_before pair k
  after_start = flat_none (met_below pair k) (edges_before pair k) (λ c. true)

  pub after_next : (j : ℕ) → arcs_of (edges_after j) ++ arcs_of (met_below pair k j) ≡ arcs_of (edges_after (j + 1))
  after_next j = sym (arcs_append (edges_after j) (met_below pair k j)) ∙
      ap arcs_of (sym (flat_next (met_below pair k) (edges_before pair k) (λ c. true) j j (omega arith) (λ a x y. absurd (omega arith))
      refl))

  pub after_end : edges_after k ≡ met_edges k pair
  unfolding edges_before met_edges
  after_end = refl

pub start_edges : (pair : ℕ → ℕ → Bool) → arcs_of (edges_before pair 0) ≡ []
unfolding arcs_of edges_before list_below
start_edges pair = refl

-- the edges of the pattern
pub same_edges : (n : ℕ) (ap' ai : List ℤ) → IsColumnForm (pos n) n ap' ai →
    met_edges n (is_pair n ap' ai) ≡ met_edges n (is_entry n (naturals ap') (naturals ai))
same_edges n ap' ai form = ap (met_edges n) (funext2 _ _ (same_pair n ap' ai form))

-- ---- the lists of the rows

pub ends_same : (i j : ℕ) (arcs : List (ℕ × ℕ)) → ends_of i (arcs ++ (i, j) ∷ []) ≡ ends_of i arcs ++ j ∷ []
unfolding ends_of
ends_same i j arcs = flat_map-append (λ a. cond (eqb a.0 i) (a.1 ∷ []) []) arcs ((i, j) ∷ []) ∙ rw (eq-eqb i i refl) refl

pub ends_other : (a i j : ℕ) (arcs : List (ℕ × ℕ)) → a ≢ i → ends_of a (arcs ++ (i, j) ∷ []) ≡ ends_of a arcs
unfolding ends_of
ends_other a i j arcs ne = flat_map-append (λ x. cond (eqb x.0 a) (x.1 ∷ []) []) arcs ((i, j) ∷ []) ∙
    rw (ne_eqb i a (λ e. ne (sym e))) (append-nil (ends_of a arcs))

-- each edge joins two different rows
abbrev Uneven : List (ℕ × ℕ) → Type 0
Uneven [] = Unit {0}
Uneven (e ∷ es) = (e.0 ≢ e.1) × Uneven es

uneven_append : (es fs : List (ℕ × ℕ)) → Uneven es → Uneven fs → Uneven (es ++ fs)
uneven_append [] fs a b = b
uneven_append (e ∷ es) fs a b = (a.0, uneven_append es fs a.1 b)

uneven_flat : (f : ℕ → List (ℕ × ℕ)) (n : ℕ) (p : ℕ → Bool) → ((j : ℕ) → j < n → p j ≡ true → Uneven (f j)) →
    Uneven (flat_map f (list_below n p))
unfolding list_below
uneven_flat f zero p h = tt
uneven_flat f (suc n) p h =
    let shorter = uneven_flat f n p (λ j x e. h j (omega arith) e) in
    subst Uneven (sym (flat_map-append f (list_below n p) (cond (p n) (n ∷ []) []))) (uneven_append _ _ shorter (elim (cases_Bool (p n)) [
      | inl e ↦ rw e (uneven_append (f n) [] (h n (omega arith) e) tt)
      | inr e ↦ rw e tt
    ]))

uneven_below : (pair : ℕ → ℕ → Bool) (k j : ℕ) → Uneven (met_below pair k j)
unfolding met_below
uneven_below pair k j = subst Uneven (flat_map_single (λ i. (i, j)) (list_below k (unread pair k j)))
    (uneven_flat (λ i. (i, j) ∷ []) k (unread pair k j) (λ i x e.
    let l = ltb-true j i (and_parts _ _ (and_parts _ _ e).0).0 in (λ w. omega arith, tt)))

uneven_edges : (n : ℕ) (pair : ℕ → ℕ → Bool) → Uneven (met_edges n pair)
unfolding met_edges met_at
uneven_edges n pair = uneven_append _ _
    (uneven_flat (met_at pair) n (λ k. true) (λ k x e. uneven_flat (met_from pair k) k (λ j. pair j k)
    (λ j y f. (λ w. omega arith, uneven_below pair k j))))
    (uneven_flat (met_below pair n) n (λ j. true) (λ j x e. uneven_below pair n j))

-- one end of an edge is the row, or none
edge_ends : (i a b : ℕ) → a ≢ b → ends_of i ((a, b) ∷ (b, a) ∷ []) ≡ other_end i (a, b)
unfolding ends_of other_end
edge_ends i a b ne = elim (cases_eq a i) [
  | inl e ↦ rw (eq-eqb a i e, ne_eqb b i (λ w. ne (e ∙ sym w))) refl
  | inr e ↦ rw (ne_eqb a i e) (append-nil _)
]

ends_are : (i : ℕ) (es : List (ℕ × ℕ)) → Uneven es → ends_of i (arcs_of es) ≡ flat_map (other_end i) es
unfolding arcs_of ends_of
ends_are i [] u = refl
ends_are i (e ∷ es) u = flat_map-append (λ a. cond (eqb a.0 i) (a.1 ∷ []) []) ((e.0, e.1) ∷ (e.1, e.0) ∷ []) (arcs_of es)
    ∙ ap (λ l. l ++ ends_of i (arcs_of es)) (edge_ends i e.0 e.1 u.0) ∙ ap (λ l. other_end i e ++ l) (ends_are i es u.1)

-- the arcs of a row lead to its starting list
pub ends_starting : (n : ℕ) (pair : ℕ → ℕ → Bool) (i : ℕ) → ends_of i (arcs_of (met_edges n pair)) ≡ starting_list n pair i
unfolding starting_list
ends_starting n pair i = ends_are i (met_edges n pair) (uneven_edges n pair)
