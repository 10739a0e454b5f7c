-- Columns that stand one behind the other: one more of them, all of them, and one for which there is no room.
use Rattle.std.proofs.Common.{ℕ, zero, suc, ◌≡◌, ◌≢◌, ◌<◌, ◌≤◌, ◌+◌, inl, inr, refl, sym, ◌∙◌, ap, subst, arith, List, [], ◌∷◌}
use Rattle.std.proofs.Common.{length, map, set, take, drop}
use Rattle.std.specs.Prelude.{slice_index, slice_index_or, slice_range, Option, None, Some}
use Rattle.std.specs.List.Sorted.{IsStrictlyIncreasing}
use Rattle.std.proofs.lemmas.Bool.{cases_eq}
use Rattle.std.proofs.lemmas.List.{
  length-set,
  get_or-set_same,
  get_or-set_other,
  get_or_default,
  get_or-map,
  length-map,
  length-take-le,
  length-drop,
  get_or-drop,
  same_lists,
}
use Rattle.std.proofs.lemmas.List.Edits.{length-between}
use Rattle.amd_model.specs.Below.{sum_below}
use Rattle.amd_model.specs.Factor.{IsColumn, IsFactor, needed}
use Rattle.amd_model.specs.Figures.{entries}
use Rattle.amd_model.specs.Graph.{IsGraph}
use Rattle.amd_model.proofs.Counting.Below.{sum_upto}
use Rattle.amd_model.proofs.Counting.Places.{contains_has, has_contains}
use Rattle.amd_model.proofs.Listings.ReachTest.{columns, factor_of}
use Rattle.amd_model.proofs.Listings.Words.{has_head, has_cases}
use Rattle.amd_factor.specs.Columns.{first_of, HoldFactor, PassesRoom}
use Rattle.amd_factor.specs.Orders.{Order}
use Rattle.amd_factor.specs.Trees.{IsParent}
use Rattle.amd_factor.specs.Merging.{merged}
use Rattle.amd_factor.specs.Gathering.{Column, Completes, HoldBefore, StandAt, TellFirst}
use Rattle.amd_factor.proofs.Trees.FactorOnce.{column_once, first_least}
use Rattle.amd_factor.proofs.Factors.Merging.{merged_is}
use Rattle.amd_factor.proofs.Factors.PlaceSums.{sum_places}
use Rattle.amd_factor.proofs.Factors.Tails.{range_first, range_same, range_take}

-- what a column takes over and what is new in it, merged
pub merged_column : (c : Column) (fresh : List ℕ) → IsStrictlyIncreasing c.inherited → Completes c fresh →
    IsColumn c.order.graph c.order.rows c.place (merged c.inherited fresh)
merged_column c fresh up h =
    let m = merged_is c.inherited fresh in record {
      rising = m.rising up h.rising (λ r a b. h.apart r (has_contains c.inherited r a) (has_contains fresh r b));
      members = λ j. (
        (λ x. (h.members j).0 (elim (m.from j (contains_has (merged c.inherited fresh) j x)) [
          | inl a ↦ inl (has_contains c.inherited j a)
          | inr b ↦ inr (has_contains fresh j b)
        ])),
        (λ e. has_contains (merged c.inherited fresh) j (elim ((h.members j).1 e) [
          | inl a ↦ m.left j (contains_has c.inherited j a)
          | inr b ↦ m.right j (contains_has fresh j b)
        ])),
      );
    }

-- the first entry of a column is its parent
pub first_parent : (o : Order) (k q : ℕ) (xs : List ℕ) → IsColumn o.graph o.rows k xs → first_of xs ≡ Some q → IsParent o.graph o.rows k q
first_parent o k q [] c e = absurd (cc)
first_parent o k q (x ∷ xs) c e = subst (IsParent o.graph o.rows k) (ap value e) (record {
  entry = (c.members x).0 (has_contains (x ∷ xs) x (has_head x x xs refl));
  first = λ j d. elim (has_cases j x xs (contains_has (x ∷ xs) j ((c.members j).1 d))) [
    | inl same ↦ omega (arith, same)
    | inr h ↦ (let l = first_least x xs c.rising j h in omega (arith, l))
  ];
})
  where
    value : Option ℕ → ℕ
    value None = x
    value (Some v) = v

-- an empty column has none
pub no_parent : (o : Order) (k : ℕ) (xs : List ℕ) → IsColumn o.graph o.rows k xs → first_of xs ≡ None → (q : ℕ) →
    IsParent o.graph o.rows k q → ⊥
no_parent o k [] c e q p = let x = (c.members q).1 p.entry in let l = x.1 in omega (arith, l)
no_parent o k (x ∷ xs) c e q p = absurd (cc)

-- the first element of a part, and of a part without elements
pub first_at : (xs : List ℕ) (i j : ℕ) → i < j → j ≤ length xs → first_of (slice_range xs i j) ≡ Some (slice_index xs i)
first_at xs i j low most = ap first_of (range_first xs i j low most)

-- columns that stand one behind the other begin and end at their pointers
pub stand_behind : (o : Order) (k : ℕ) (ptr rows : List ℕ) → k < length o.rows → HoldBefore o k ptr rows →
    StandAt o k ptr (drop 1 ptr) rows
stand_behind o k ptr rows most h =
    let next : (m : ℕ) → slice_index (drop 1 ptr) m ≡ slice_index ptr (m + 1) =
    (λ m. get_or-drop 1 ptr m 0 ∙ ap (slice_index ptr) (omega arith)) in record {
      begins = (let p = h.pointers in omega (arith, p));
      stops = (let p = h.pointers in let l = length-drop 1 ptr in omega (arith, p, l));
      range = λ m l. (let e = next m in let a = h.ascending m (m + 1) (omega arith) (omega (arith, l)) in omega (arith, e, a));
      within = λ m l. (let e = next m in let a = h.ascending (m + 1) k (omega (arith, l)) (omega arith) in
          let w = h.within in omega (arith, e, a, w));
      each = λ m l. subst (λ b. IsColumn o.graph o.rows m (slice_range rows (slice_index ptr m) b)) (sym (next m)) (h.each m l);
    }

-- what stands before a place that is written stays
module _ (o : Order) (k : ℕ) (ptr rows rows' : List ℕ) (h : HoldBefore o k ptr rows)
    (same : take (slice_index ptr k) rows' ≡ take (slice_index ptr k) rows) (size : length rows ≤ length rows') where
  part_same : (m : ℕ) → m < k → slice_range rows (slice_index ptr m) (slice_index ptr (m + 1)) ≡
      slice_range rows' (slice_index ptr m) (slice_index ptr (m + 1))
  part_same m l = range_same rows rows' (slice_index ptr k) (slice_index ptr m) (slice_index ptr (m + 1))
      (h.ascending (m + 1) k (omega (arith, l)) (omega arith)) (sym same)

  pub hold_same : HoldBefore o k ptr rows'
  hold_same = record {
    pointers = h.pointers;
    first = h.first;
    ascending = h.ascending;
    within = (let w = h.within in omega (arith, w, size));
    each = λ m l. subst (IsColumn o.graph o.rows m) (part_same m l) (h.each m l);
  }

  pub tell_same : (parent : List (Option ℕ)) → TellFirst o k ptr rows parent → TellFirst o k ptr rows' parent
  tell_same parent t = record { room = t.room; each = λ m l. t.each m l ∙ ap first_of (part_same m l) }

-- one column more
module _ (o : Order) (k : ℕ) (ptr rows : List ℕ) (end : ℕ) (h : HoldBefore o k ptr rows) (low : k < length o.rows)
    (range : slice_index ptr k ≤ end) (within : end ≤ length rows)
    (column : IsColumn o.graph o.rows k (slice_range rows (slice_index ptr k) end)) where
  at_end : slice_index (set ptr (k + 1) end) (k + 1) ≡ end
  at_end = get_or-set_same ptr (k + 1) end 0 (let p = h.pointers in omega (arith, p, low))

  before : (m : ℕ) → m ≢ k + 1 → slice_index (set ptr (k + 1) end) m ≡ slice_index ptr m
  before m ne = get_or-set_other ptr (k + 1) m end 0 ne

  pub hold_next : HoldBefore o (k + 1) (set ptr (k + 1) end) rows
  hold_next = record {
    pointers = length-set ptr (k + 1) end ∙ h.pointers;
    first = before 0 (λ e. omega (arith, e)) ∙ h.first;
    ascending = λ m i l most. elim (cases_eq i (k + 1)) [
      | inl q ↦ elim (cases_eq m (k + 1)) [
        | inl r ↦ (let a = ap (slice_index (set ptr (k + 1) end)) q in let b = ap (slice_index (set ptr (k + 1) end)) r in
            omega (arith, a, b))
        | inr ne ↦ (let a = ap (slice_index (set ptr (k + 1) end)) q in let b = before m ne in let e = at_end in
            let u = h.ascending m k (omega (arith, l, q, ne)) (omega arith) in omega (arith, a, b, e, u, range))
      ]
      | inr ne ↦ (let a = before i ne in let b = before m (λ e. omega (arith, e, l, most, ne)) in
          let u = h.ascending m i l (omega (arith, most, ne)) in omega (arith, a, b, u))
    ];
    within = (let e = at_end in omega (arith, e, within));
    each = λ m l. elim (cases_eq m k) [
      | inl q ↦ subst (λ x. IsColumn o.graph o.rows x (slice_range rows (slice_index (set ptr (k + 1) end) x)
          (slice_index (set ptr (k + 1) end) (x + 1)))) (sym q)
          (subst (λ a. IsColumn o.graph o.rows k (slice_range rows a (slice_index (set ptr (k + 1) end) (k + 1))))
          (sym (before k (λ e. omega (arith, e))))
          (subst (λ b. IsColumn o.graph o.rows k (slice_range rows (slice_index ptr k) b)) (sym at_end) column))
      | inr ne ↦ subst (λ a. IsColumn o.graph o.rows m (slice_range rows a (slice_index (set ptr (k + 1) end) (m + 1))))
          (sym (before m (λ e. omega (arith, e, l))))
          (subst (λ b. IsColumn o.graph o.rows m (slice_range rows (slice_index ptr m) b))
          (sym (before (m + 1) (λ e. omega (arith, e, ne)))) (h.each m (omega (arith, l, ne))))
    ];
  }

  pub tell_first_next : (parent : List (Option ℕ)) (first : Option ℕ) → TellFirst o k ptr rows parent →
      first ≡ first_of (slice_range rows (slice_index ptr k) end) → TellFirst o (k + 1) (set ptr (k + 1) end) rows (set parent k first)
  tell_first_next parent first t is = record {
    room = length-set parent k first ∙ t.room;
    each = λ m l. elim (cases_eq m k) [
      | inl q ↦ subst (λ x. slice_index_or (set parent k first) x None ≡ first_of (slice_range rows (slice_index (set ptr (k + 1) end) x)
          (slice_index (set ptr (k + 1) end) (x + 1)))) (sym q)
          (get_or-set_same parent k first None (let r = t.room in omega (arith, r, low)) ∙ is
          ∙ ap (λ a. first_of (slice_range rows a end)) (sym (before k (λ e. omega (arith, e))))
          ∙ ap (λ b. first_of (slice_range rows (slice_index (set ptr (k + 1) end) k) b)) (sym at_end))
      | inr ne ↦ get_or-set_other parent k m first None ne ∙ t.each m (omega (arith, l, ne))
          ∙ ap (λ a. first_of (slice_range rows a (slice_index ptr (m + 1)))) (sym (before m (λ e. omega (arith, e, l))))
          ∙ ap (λ b. first_of (slice_range rows (slice_index (set ptr (k + 1) end) m) b)) (sym (before (m + 1) (λ e. omega (arith, e, ne))))
    ];
  }

module _ (o : Order) (laws : IsGraph o.graph) where
  cols : List (List ℕ)
  cols = columns o.graph o.rows

  factor : IsFactor o.graph o.rows cols
  unfolding cols
  factor = factor_of o.graph o.rows laws

  module _ (k : ℕ) (ptr rows : List ℕ) (h : HoldBefore o k ptr rows) (most : k ≤ length o.rows) where
    column_is : (m : ℕ) (d : List ℕ) → m < k → slice_range rows (slice_index ptr m) (slice_index ptr (m + 1)) ≡ slice_index_or cols m d
    column_is m d l = column_once o.graph o.rows m _ _ (h.each m l) (factor.each m d (omega (arith, l, most)))

    ends : (m : ℕ) (d : List ℕ) → m < k → slice_index ptr (m + 1) ≡ slice_index ptr m + length (slice_index_or cols m d)
    ends m d l =
        let a = h.ascending m (m + 1) (omega arith) (omega (arith, l)) in
        let b = h.ascending (m + 1) k (omega (arith, l)) (omega arith) in
        let w = h.within in
        let s = length-between rows (slice_index ptr m) (slice_index ptr (m + 1)) (omega (arith, b, w)) in
        let e = ap length (column_is m d l) in
        omega (arith, a, s, e)

    size : ℕ → ℕ
    size m = length (slice_index_or cols m [])

    pointer_is : (m : ℕ) → m ≤ k → slice_index ptr m ≡ sum_below m size
    unfolding sum_below size
    pointer_is zero l = h.first
    pointer_is (suc m) l = let r = pointer_is m (omega (arith, l)) in let e = ends m [] (omega (arith, l)) in
        let n : suc m ≡ m + 1 = omega arith in let q = ap (slice_index ptr) n in omega (arith, r, e, q)

    needed_is : needed entries cols ≡ sum_below (length o.rows) size
    unfolding entries size
    needed_is = let e = sum_places length cols [] in
        e ∙ ap (λ m. sum_below m (λ j. length (slice_index_or cols j []))) factor.places

    -- a column more does not fit
    pub passes_room : (column : List ℕ) (room : ℕ) → k < length o.rows → IsColumn o.graph o.rows k column →
        room < slice_index ptr k + length column → PassesRoom o.graph o.rows room
    unfolding size
    passes_room column room low is more = record {
      columns = cols;
      factor = factor;
      more = (let s = sum_upto k (length o.rows) size low in let p = pointer_is k (omega arith) in let n = needed_is in
          let e = ap length (column_once o.graph o.rows k _ _ is (factor.each k [] low)) in omega (arith, s, p, n, e, more));
    }

  -- all columns
  pub hold_factor : (ptr rows : List ℕ) (parent : List (Option ℕ)) → HoldBefore o (length o.rows) ptr rows →
      TellFirst o (length o.rows) ptr rows parent →
      HoldFactor o.graph o.rows ptr (take (slice_index ptr (length o.rows)) rows) parent
  hold_factor ptr rows parent h t =
      let places = factor.places in record {
        columns = cols;
        factor = factor;
        holds = record {
          pointers = h.pointers ∙ ap (λ m. m + 1) (sym places);
          first = h.first;
          ends = λ k d l. ends (length o.rows) ptr rows h (omega arith) k d (subst (λ m. k < m) places l);
          total = ap (slice_index ptr) places ∙ sym (length-take-le (slice_index ptr (length o.rows)) rows h.within);
          each = λ k d l. (let low : k < length o.rows = subst (λ m. k < m) places l in
              range_take rows (slice_index ptr (length o.rows)) (slice_index ptr k) (slice_index ptr (k + 1))
              (h.ascending (k + 1) (length o.rows) (omega (arith, low)) (omega arith))
              ∙ column_is (length o.rows) ptr rows h (omega arith) k d low);
          parents = same_lists parent (map first_of cols) (t.room ∙ sym places ∙ sym (length-map cols first_of))
              (λ k d l. let low : k < length o.rows = subst (λ m. k < m) t.room l in
              get_or_default parent k d None l
              ∙ t.each k low
              ∙ ap first_of (column_is (length o.rows) ptr rows h (omega arith) k [] low)
              ∙ sym (get_or-map first_of cols k [] d (omega (arith, low, places))));
        };
      }
