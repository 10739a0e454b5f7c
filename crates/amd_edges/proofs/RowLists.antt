-- The lists of the rows, each in a vector of its own: one arc more. A vector stands here for anything with items and room.
use Rattle.std.proofs.Common.{◌≡◌, ◌≢◌, ◌+◌, ◌<◌, ◌≤◌, inl, inr, ℕ, Bool, false, List, [], ◌∷◌, ◌++◌, length, get_or, set, map, arith, ap}
use Rattle.std.proofs.Common.{sym, ◌∙◌, get_or-set_same, get_or-set_other}
use Rattle.std.proofs.lemmas.Bool.{cases_eq, cases_lt}
use Rattle.std.proofs.lemmas.List.{length-map, length-set, length_push, map-set, map-append, get_or-map, get_or_append_left, get_or_push}
use Rattle.amd_model.specs.Graph.{Graph}
use Rattle.amd_model.proofs.Counting.Below.{count_none}
use Rattle.amd_edges.specs.Visits.{IsNew, with_arc, AreCounts, AreRows, ends_of}
use Rattle.amd_edges.proofs.Arcs.{arc_same, arc_counts, arc_room}
use Rattle.amd_edges.proofs.Orders.{ends_same, ends_other}

module _ (V : Type 0) (items : V → List ℕ) (room : V → ℕ) where
  module _ (g : Graph) (seen : ℕ → ℕ → Bool) (arcs : List (ℕ × ℕ)) (i j : ℕ) (new : IsNew g seen i j) (xs : List V)
      (h : AreRows g seen arcs (map items xs) (map room xs)) (v : V) (is : v ≡ get_or xs i v) where
    within : i < length xs
    within = let s = h.size in let l = length-map xs items in let r = new.i_row in omega (arith, s, l, r)

    items_at : get_or (map items xs) i [] ≡ items v
    items_at = get_or-map items xs i v [] within ∙ ap items (sym is)

    room_at : get_or (map room xs) i 0 ≡ room v
    room_at = get_or-map room xs i v 0 within ∙ ap room (sym is)

    -- the vector of the row has room for the arc
    pub row_room : length (items v) < room v
    row_room = let n = h.counts i new.i_row in let r = h.room i new.i_row in let m = arc_room g seen i j new in
        let e = ap length items_at in let f = room_at in omega (arith, n, r, m, e, f)

    module _ (w : V) (pushed : items w ≡ items v ++ j ∷ []) (same : room w ≡ room v) where
      here : get_or (map items (set xs i w)) i [] ≡ get_or (map items xs) i [] ++ j ∷ []
      here = ap (λ l. get_or l i []) (map-set items xs i w) ∙
          get_or-set_same (map items xs) i (items w) [] (let l = length-map xs items in let x = within in omega (arith, l, x))
          ∙ pushed ∙ ap (λ l. l ++ j ∷ []) (sym items_at)

      there : (a : ℕ) → a ≢ i → get_or (map items (set xs i w)) a [] ≡ get_or (map items xs) a []
      there a ne = ap (λ l. get_or l a []) (map-set items xs i w) ∙ get_or-set_other (map items xs) i a (items w) [] ne

      rooms : (a : ℕ) → get_or (map room (set xs i w)) a 0 ≡ get_or (map room xs) a 0
      rooms a = ap (λ l. get_or l a 0) (map-set room xs i w) ∙ elim (cases_eq a i) [
        | inl e ↦ rw e (get_or-set_same (map room xs) i (room w) 0 (let l = length-map xs room in let x = within in omega (arith, l, x)) ∙
            same ∙ sym room_at)
        | inr ne ↦ get_or-set_other (map room xs) i a (room w) 0 ne
      ]

      pub rows_more : AreRows g (with_arc seen i j) (arcs ++ (i, j) ∷ []) (map items (set xs i w)) (map room (set xs i w))
      rows_more = record {
        size = length-map (set xs i w) items ∙ length-set xs i w ∙ sym (length-map xs items) ∙ h.size;
        counts = λ a x. elim (cases_eq a i) [
          | inl e ↦ rw (e, here) (length_push (get_or (map items xs) i []) j ∙ ap (λ y. y + 1) (h.counts i new.i_row) ∙
              sym (arc_counts g seen i j new))
          | inr ne ↦ rw (there a ne, arc_same seen i j a ne) (h.counts a x)
        ];
        room = λ a x. rw (rooms a) (h.room a x);
        order = λ a x. elim (cases_eq a i) [
          | inl e ↦ rw (e, here) (ap (λ l. l ++ j ∷ []) (h.order i new.i_row) ∙ sym (ends_same i j arcs))
          | inr ne ↦ there a ne ∙ h.order a x ∙ sym (ends_other a i j arcs ne)
        ];
      }

  -- empty lists with room for all neighbours
  pub rows_none : (g : Graph) (degrees : List ℕ) (xs : List V) → AreCounts g g.edge degrees → length xs ≡ length degrees →
      ((i : ℕ) → i < length degrees → get_or (map items xs) i [] ≡ []) →
      ((i : ℕ) → i < length degrees → get_or degrees i 0 ≤ get_or (map room xs) i 0) →
      AreRows g (λ a b. false) [] (map items xs) (map room xs)
  unfolding ends_of
  rows_none g degrees xs all size empty enough = record {
    size = length-map xs items ∙ size ∙ all.size;
    counts = λ i h. (let s = all.size in let e = ap length (empty i (omega (arith, s, h))) in let z = count_none g.size in
        omega (arith, e, z));
    room = λ i h. (let s = all.size in let e = all.each i h in let f = enough i (omega (arith, s, h)) in omega (arith, e, f));
    order = λ i h. (let s = all.size in empty i (omega (arith, s, h)));
  }

  -- one vector more
  module _ (xs : List V) (v : V) (n : ℕ) (size : length xs ≡ n) (i : ℕ) (h : i < n + 1) where
    pub rooms_more : (degrees : List ℕ) → ((a : ℕ) → a < n → get_or degrees a 0 ≤ get_or (map room xs) a 0) → get_or degrees n 0 ≤ room v →
        get_or degrees i 0 ≤ get_or (map room (xs ++ v ∷ [])) i 0
    rooms_more degrees each enough = rw (map-append room xs (v ∷ [])) (elim (cases_lt i n) [
      | inl x ↦ (let old = get_or_append_left (map room xs) (room v ∷ []) 0 i (let l = length-map xs room in omega (arith, l, x, size)) in
          let e = each i x in omega (arith, old, e))
      | inr x ↦ (let e : i ≡ n = omega arith in let last = get_or_push (map room xs) (room v) 0 n (length-map xs room ∙ size) in
          rw e (omega (arith, last, enough)))
    ])
