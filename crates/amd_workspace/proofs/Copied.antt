-- The rows of a column, which are appended one after another.
use Rattle.std.proofs.Common.{◌≡◌, ◌≢◌, ◌+◌, ◌-◌, ◌<◌, ◌≤◌, inl, inr, ℕ, ℤ, Bool, false, List, [], ◌∷◌, ◌++◌}
use Rattle.std.proofs.Common.{arith, refl, ap, sym, ◌∙◌, subst, pos, get_or, length}
use Rattle.std.proofs.lemmas.Bool.{and_parts, and_from, cases_eq, cases_lt, false_from_ne_true, eq-eqb, ne_eqb, not_from_false}
use Rattle.std.proofs.lemmas.List.{length_push}
use Rattle.amd_model.specs.Below.{count_below, list_below}
use Rattle.amd_model.specs.Input.Columns.{IsColumnForm}
use Rattle.amd_model.proofs.Counting.Places.{length_below}
use Rattle.amd_model.proofs.Counting.Below.{sum_stretch}
use Rattle.amd_types.specs.Naturals.{naturals, is_entry}
use Rattle.amd_edges.proofs.Forms.{IsSortedForm, same_pair}
use Rattle.amd_edges.proofs.Orders.{list_gap, list_next}
use Rattle.amd_edges.proofs.Places.{funext2, entry_from, entry_gives}
use Rattle.amd_edges.proofs.Reading.{IsReading}
use Rattle.amd_workspace.specs.Copying.{is_other}
use Rattle.amd_workspace.proofs.SymmetricLists.{own}

-- ---- how many there are

pub others_most : (n m : ℕ) (p : ℕ → Bool) → m ≤ n → length (list_below m p) ≤ count_below n p
unfolding count_below
others_most n m p l = let a = length_below m p in let b : count_below m p ≤ count_below n p = stretch in omega (arith, a, b)
  where
    stretch : count_below m p ≤ count_below n p
    stretch = (let e : m + (n - m) ≡ n = omega (arith, l) in subst (λ z. count_below m p ≤ count_below z p) e (sum_stretch (n - m) m _))

-- ---- the rows of a column

pub same_other : (n : ℕ) (ap' ai : List ℤ) → IsColumnForm (pos n) n ap' ai → (i : ℕ) →
    is_other n ap' ai i ≡ own (is_entry n (naturals ap') (naturals ai)) i
unfolding is_other
same_other n ap' ai form i = ap (λ pair. own pair i) (funext2 _ _ (same_pair n ap' ai form))

-- a row is not its own neighbour
pub others_past : (pair : ℕ → ℕ → Bool) (i : ℕ) → list_below (i + 1) (own pair i) ≡ list_below i (own pair i)
others_past pair i = list_gap (own pair i) i (i + 1) (omega arith) (λ x low high. rw (eq-eqb x i (omega (arith, low, high))) refl)

module _ (n : ℕ) (ap' ai : List ℕ) (form : IsSortedForm n ap' ai) (i stop m p : ℕ) (i_in : i < n) (stop_is : stop ≡ get_or ap' (i + 1) 0)
    (so : IsReading ai (get_or ap' i 0) stop n m p) where
  -- from m on up to b there is no row, where those that were not read are at least b
  none_left : (b : ℕ) → ((r : ℕ) → p ≤ r → r < stop → b ≤ get_or ai r 0) → (x : ℕ) → m ≤ x → x < b → own (is_entry n ap' ai) i x ≡ false
  none_left b left x low high = false_from_ne_true _ (λ e.
      let r = entry_gives ap' ai n x i (and_parts _ _ e).1 in let from = r.2 in let to = r.3 in let is = r.4 in
      elim (cases_lt r.0 p) [
        | inl l ↦ (let w = so.read r.0 from l in omega (arith, w, is, low))
        | inr l ↦ (let w = left r.0 l (omega (arith, to, stop_is)) in omega (arith, w, is, high))
      ])

  -- nor a row of column i but i itself
  pub others_gap : (b : ℕ) → m ≤ b → ((r : ℕ) → p ≤ r → r < stop → b ≤ get_or ai r 0) →
      list_below b (own (is_entry n ap' ai) i) ≡ list_below m (own (is_entry n ap' ai) i)
  others_gap b low left = list_gap (own (is_entry n ap' ai) i) m b low (none_left b left)

  pub others_end : stop ≤ p → list_below n (own (is_entry n ap' ai) i) ≡ list_below m (own (is_entry n ap' ai) i)
  others_end past = others_gap n so.low (λ r a b. absurd (omega (arith, a, b, past)))

  module _ (row : ℕ) (is : row ≡ get_or ai p 0) (inside : p < stop) where
    least : m ≤ row
    least = let w = so.left p (omega arith) inside in omega (arith, w, is)

    pub left_of : (r : ℕ) → p ≤ r → r < stop → row ≤ get_or ai r 0
    left_of r a b = elim (cases_eq p r) [
      | inl e ↦ (let w = ap (λ z. get_or ai z 0) e in omega (arith, w, is))
      | inr ne ↦ (let f = so.from in let w = form.ascend i p r i_in f (omega (arith, a, ne)) (omega (arith, b, stop_is)) in omega
          (arith, w, is))
    ]

    pub row_small : row < n
    row_small = let f = so.from in let w = form.rows i p i_in f (omega (arith, inside, stop_is)) in omega (arith, w, is)

    pub others_more : row ≢ i → list_below (row + 1) (own (is_entry n ap' ai) i) ≡ list_below m (own (is_entry n ap' ai) i) ++ row ∷ []
    others_more ne = list_next (own (is_entry n ap' ai) i) m row least (none_left row left_of)
        (and_from _ _ (not_from_false _ (ne_eqb row i ne))
        (entry_from ap' ai n row i p i_in so.from (omega (arith, inside, stop_is)) (sym is)))

    -- there is room for one more
    pub others_room : row ≢ i → length (list_below m (own (is_entry n ap' ai) i)) + 1 ≤ count_below n (own (is_entry n ap' ai) i)
    others_room ne = let more = ap length (others_more ne) in let long = length_push (list_below m (own (is_entry n ap' ai) i)) row in
        let small = row_small in let most = others_most n (row + 1) (own (is_entry n ap' ai) i) (omega (arith, small)) in
        omega (arith, more, long, most)

    pub others_same : row ≡ i → list_below (row + 1) (own (is_entry n ap' ai) i) ≡ list_below m (own (is_entry n ap' ai) i)
    others_same e = list_gap (own (is_entry n ap' ai) i) m (row + 1) (let w = least in omega (arith, w)) (λ x low high. elim (cases_eq
        x i) [
          | inl s ↦ rw (eq-eqb x i s) refl
          | inr ne ↦ none_left row left_of x low (omega (arith, high, ne, e))
        ])

-- the rows before the diagonal, where those from the place on are not
pub others_before : (n : ℕ) (ap' ai : List ℤ) → IsColumnForm (pos n) n ap' ai → IsSortedForm n (naturals ap') (naturals ai) →
    (i m stop p : ℕ) → i < n → stop ≡ get_or (naturals ap') (i + 1) 0 → IsReading (naturals ai) (get_or (naturals ap') i 0) stop n m p
    → m ≤ i →
    ((r : ℕ) → p ≤ r → r < stop → i ≤ get_or (naturals ai) r 0) →
    list_below m (own (is_entry n (naturals ap') (naturals ai)) i) ≡ list_below i (is_other n ap' ai i)
others_before n ap' ai form sorted i m stop p i_in ends so low left =
    sym (ap (list_below i) (same_other n ap' ai form i) ∙ others_gap n (naturals ap') (naturals ai) sorted i stop m p i_in ends so i
    low left)
