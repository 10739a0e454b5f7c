-- The places of the rows, as they are written: each row that was met has its place, and each other one the number n of all rows.
use Rattle.std.proofs.Common.{◌≡◌, ◌≢◌, ◌+◌, ◌<◌, ◌⊎◌, inl, inr, ℕ, ℤ, pos, true, false, List, map, length, get_or, set, get_or-set_same}
use Rattle.std.proofs.Common.{get_or-set_other, arith, refl, ap, sym, ◌∙◌, eqb, not, ◌||◌, below_more, unsigned_abs}
use Rattle.std.proofs.Math.Bool.{or-false, or-true}
use Rattle.std.proofs.lemmas.Bool.{cases_eq, eq-eqb, ne_eqb, true≢false}
use Rattle.std.proofs.lemmas.List.{length-set, length-map, get_or-map, get_or_default, same_lists}
use Rattle.std.proofs.Math.ListN.{get_or-map as read_map}
use Rattle.amd_model.specs.Below.{count_below}
use Rattle.amd_model.specs.Input.Columns.{at}
use Rattle.amd_model.specs.Listing.{ListsEachRow}
use Rattle.amd_model.proofs.Counting.Below.{count_same, count_none}
use Rattle.amd_model.proofs.Counting.Pigeonhole.{count_all, permutation_below, permutation_once}
use Rattle.amd_edges.proofs.Arcs.{count_more}
use Rattle.amd_types.specs.Naturals.{naturals}
use Rattle.amd_factor.specs.Orders.{Permutes}
use Rattle.amd_factor.specs.Places.{ArePlaces}

-- of n rows, those at the first k places of p have their places, and the others have none
pub record PlacesUpTo (n : ℕ) (p : List ℤ) (k : ℕ) (places : List ℕ) : Type 0 where
  pub room : length places ≡ n
  pub numbers : (j : ℕ) → j < k → at p j ≡ pos (get_or (naturals p) j 0)
  pub below : (j : ℕ) → j < k → get_or (naturals p) j 0 < n
  pub each : (j : ℕ) → j < k → get_or places (get_or (naturals p) j 0) 0 ≡ j
  pub from : (r : ℕ) → r < n → (get_or places r 0 ≡ n) ⊎ ((get_or places r 0 < k) × (get_or (naturals p) (get_or places r 0) 0 ≡ r))
  pub met : count_below n (λ r. not (eqb (get_or places r 0) n)) ≡ k

-- the number at a place, where it is a row
count_of : (p : List ℤ) (k row : ℕ) → at p k ≡ pos row → get_or (naturals p) k 0 ≡ row
count_of p k row is = read_map unsigned_abs p k (pos 0) ∙ ap unsigned_abs is

pub places_none : (n : ℕ) (p : List ℤ) (places : List ℕ) → length places ≡ n → ((r : ℕ) → r < n → get_or places r 0 ≡ n) →
    PlacesUpTo n p 0 places
places_none n p places room none = record {
  room = room;
  numbers = λ j h. absurd (omega arith);
  below = λ j h. absurd (omega arith);
  each = λ j h. absurd (omega arith);
  from = λ r h. inl (none r h);
  met = count_same n (λ r. not (eqb (get_or places r 0) n)) (λ r. false) (λ r h. ap not (eq-eqb (get_or places r 0) n (none r h))) ∙
      count_none n;
}

module _ (n : ℕ) (p : List ℤ) (k row : ℕ) (k_in : k < n) (row_in : row < n) (is : at p k ≡ pos row) (places : List ℕ)
    (h : PlacesUpTo n p k places) (fresh : get_or places row 0 ≡ n) where
  within : row < length places
  within = let r = h.room in omega (arith, r, row_in)

  here : get_or (naturals p) k 0 ≡ row
  here = count_of p k row is

  -- the rows at earlier places are other rows
  other : (j : ℕ) → j < k → get_or (naturals p) j 0 ≢ row
  other j l same = let e : get_or places row 0 ≡ j = rw same at (h.each j l) in omega (arith, e, fresh, l, k_in)

  pub places_more : PlacesUpTo n p (k + 1) (set places row k)
  places_more = record {
    room = length-set places row k ∙ h.room;
    numbers = below_more _ _ h.numbers (is ∙ ap (λ x. pos x) (sym here));
    below = below_more _ _ h.below (rw here row_in);
    each = below_more _ _
        (λ j l. get_or-set_other places row (get_or (naturals p) j 0) k 0 (other j l) ∙ h.each j l)
        (rw here (get_or-set_same places row k 0 within));
    from = λ r l. elim (cases_eq r row) [
      | inl same ↦ (let at_row : get_or (set places row k) row 0 ≡ k = get_or-set_same places row k 0 within in
          inr (rw (same, at_row) (omega arith), rw (same, at_row) here))
      | inr ne ↦ (let stays : get_or (set places row k) r 0 ≡ get_or places r 0 = get_or-set_other places row r k 0 ne in
          elim (h.from r l) [
            | inl x ↦ inl (stays ∙ x)
            | inr x ↦ (let x0 = x.0 in inr (omega (arith, x0, stays), rw stays x.1))
          ])
    ];
    met = count_more n (λ r. not (eqb (get_or places r 0) n)) (λ r. not (eqb (get_or (set places row k) r 0) n)) row row_in
        (ap not (eq-eqb (get_or places row 0) n fresh)) one ∙ ap (λ x. x + 1) h.met;
  }
    where
      now_met : not (eqb k n) ≡ true
      now_met = ap not (ne_eqb k n (λ z. omega (arith, z, k_in)))

      one : (r : ℕ) → not (eqb (get_or (set places row k) r 0) n) ≡ (not (eqb (get_or places r 0) n) || eqb r row)
      one r = elim (cases_eq r row) [
        | inl same ↦ rw (same, get_or-set_same places row k 0 within, now_met, eq-eqb row row refl)
            (sym (or-true (not (eqb (get_or places row 0) n))))
        | inr ne ↦ rw (get_or-set_other places row r k 0 ne, ne_eqb r row ne) (sym (or-false (not (eqb (get_or places r 0) n))))
      ]

-- at the end each row was met
module _ (n : ℕ) (p : List ℤ) (size : length p ≡ n) (places : List ℕ) (h : PlacesUpTo n p n places) where
  lists : ListsEachRow n (naturals p)
  lists = record {
    places = length-map p unsigned_abs ∙ size;
    all = λ v l. (
        let seen : not (eqb (get_or places v 0) n) ≡ true = count_all n (λ r. not (eqb (get_or places r 0) n))
        (let m = h.met in omega (arith, m)) v l in
        elim (h.from v l) [
          | inl x ↦ absurd (true≢false (sym seen ∙ ap not (eq-eqb (get_or places v 0) n x)))
          | inr x ↦ (let x0 = x.0 in let w : get_or places v 0 < length (naturals p) =
              (let s = length-map p unsigned_abs in omega (arith, x0, s, size)) in
              (get_or places v 0, w, get_or_default (naturals p) (get_or places v 0) v 0 w ∙ x.1))
        ]);
  }

  pub all_permutes : Permutes n p (naturals p)
  all_permutes = record {
    listed = same_lists p (map pos (naturals p)) (sym (length-map (naturals p) pos ∙ length-map p unsigned_abs)) (λ k d l.
        let small : k < n = omega (arith, l, size) in
        let inside : k < length (naturals p) = (let s = length-map p unsigned_abs in omega (arith, l, s)) in
        get_or_default p k d (pos 0) l ∙ h.numbers k small ∙ sym (get_or-map pos (naturals p) k 0 d inside));
    each = lists;
  }

  pub all_places : ArePlaces n (naturals p) places
  all_places = record { room = h.room; listing = lists; each = h.each }

-- what makes a list no permutation
module _ (n : ℕ) (p : List ℤ) (rows : List ℕ) (h : Permutes n p rows) where
  pub permutes_at : (k : ℕ) → k < n → at p k ≡ pos (get_or rows k 0)
  permutes_at k l = ap (λ xs. at xs k) h.listed ∙ get_or-map pos rows k 0 (pos 0) (let s = h.each.places in omega (arith, l, s))

  pub permutes_below : (k : ℕ) → k < n → get_or rows k 0 < n
  permutes_below k l = permutation_below n rows h.each k l

  -- no number stands at two places
  pub permutes_fresh : (k row : ℕ) → k < n → at p k ≡ pos row → (places : List ℕ) → PlacesUpTo n p k places → row < n →
      get_or places row 0 ≡ n
  permutes_fresh k row k_in is places old row_in = elim (old.from row row_in) [
    | inl x ↦ x
    | inr x ↦ (
        let j : ℕ = get_or places row 0 in
        let before : j < k = x.0 in
        let a : get_or rows j 0 ≡ row = sym (count_of p j (get_or rows j 0) (permutes_at j (omega (arith, before, k_in)))) ∙ x.1 in
        let b : get_or rows k 0 ≡ row = sym (count_of p k (get_or rows k 0) (permutes_at k k_in)) ∙ count_of p k row is in
        absurd (permutation_once n rows h.each j k before k_in (a ∙ sym b)))
  ]
