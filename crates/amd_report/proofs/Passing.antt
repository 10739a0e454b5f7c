-- A pass over the entries of a column form: one place more, one column more, and the entries that it met in the end.
use Rattle.std.proofs.Common.{◌≡◌, ◌+◌, ◌<◌, ◌≤◌, inl, inr, ℕ, true, List, map, pos, get_or, refl, sym, subst, ap, ◌∙◌}
use Rattle.std.proofs.Common.{arith}
use Rattle.std.specs.Prelude.{slice_index}
use Rattle.std.proofs.lemmas.Bool.{cases_eq, lt-ltb}
use Rattle.std.proofs.lemmas.Int.{ints}
use Rattle.std.proofs.lemmas.List.{length-map}
use Rattle.amd_model.specs.Input.Columns.{IsColumnForm, IsSorted}
use Rattle.amd_model.specs.Below.{count_below}
use Rattle.amd_model.specs.Input.Pattern.{diagonal_count, graph_of, is_pair}
use Rattle.amd_model.proofs.Counting.Below.{count_same}
use Rattle.amd_types.specs.Naturals.{naturals, count_graph, is_before, is_entry}
use Rattle.amd_edges.proofs.Forms.{IsSortedForm, same_pair, pointer_within, row_in, row_is, same_diagonals, same_graph, sorted_form}
use Rattle.amd_edges.proofs.Places.{entry_from, entry_gives}
use Rattle.amd_count_laws.proofs.CountsBack.{counts_back}
use Rattle.amd_report.specs.Passes.{IsForm, Met}
use Rattle.amd_report.specs.Signs.{IsRisingForm}

module _ (ap' ai : List ℕ) where
  -- what holds of the entries that were met, and of one more
  pub met-next : (P : ℕ → ℕ → Type 0) (j place : ℕ) → ((i c : ℕ) → Met ap' ai j place i c → P i c) →
      P (slice_index ai place) j → (i c : ℕ) → Met ap' ai j (place + 1) i c → P i c
  met-next P j place old new i c m = elim m.before [
    | inl earlier ↦ old i c (record { at = m.at; from = m.from; to = m.to; row = m.row; before = inl earlier })
    | inr here ↦ elim (cases_eq m.at place) [
      | inl same ↦ subst (λ r. P r c) (ap (slice_index ai) (sym same) ∙ m.row) (subst (P (slice_index ai place)) (sym here.0) new)
      | inr ne ↦ old i c (record {
        at = m.at;
        from = m.from;
        to = m.to;
        row = m.row;
        before = inr (here.0, (let h = here.1 in omega (arith, h, ne)));
      })
    ]
  ]

  -- a column begins at its first place
  pub met-begin : (P : ℕ → ℕ → Type 0) (j : ℕ) → ((i c : ℕ) → Met ap' ai j 0 i c → P i c) →
      (i c : ℕ) → Met ap' ai j (slice_index ap' j) i c → P i c
  met-begin P j old i c m = elim m.before [
    | inl earlier ↦ old i c (record { at = m.at; from = m.from; to = m.to; row = m.row; before = inl earlier })
    | inr here ↦ absurd (let from = subst (λ k. slice_index ap' k ≤ m.at) here.0 m.from in let h = here.1 in omega (arith, from, h))
  ]

  -- and ends behind its last one
  pub met-end : (P : ℕ → ℕ → Type 0) (j place : ℕ) → slice_index ap' (j + 1) ≤ place →
      ((i c : ℕ) → Met ap' ai j place i c → P i c) → (i c : ℕ) → Met ap' ai (j + 1) 0 i c → P i c
  met-end P j place past old i c m = elim m.before [
    | inl earlier ↦ elim (cases_eq c j) [
      | inl same ↦ old i c (record {
        at = m.at;
        from = m.from;
        to = m.to;
        row = m.row;
        before = inr (same, (let to = subst (λ k. m.at < slice_index ap' (k + 1)) same m.to in omega (arith, to, past)));
      })
      | inr ne ↦ old i c (record { at = m.at; from = m.from; to = m.to; row = m.row; before = inl (omega (arith, earlier, ne)) })
    ]
    | inr here ↦ absurd (let h = here.1 in omega (arith, h))
  ]

  -- none were met before the first column
  pub met-none : (P : ℕ → ℕ → Type 0) → (i c : ℕ) → Met ap' ai 0 0 i c → P i c
  met-none P i c m = absurd (elim m.before [ inl h ↦ omega (arith, h) | inr h ↦ (let l = h.1 in omega (arith, l)) ])

  -- an entry that was met stays so
  pub met-new : (j place : ℕ) → slice_index ap' j ≤ place → place < slice_index ap' (j + 1) →
      Met ap' ai j (place + 1) (slice_index ai place) j
  met-new j place low high =
      record { at = place; from = low; to = high; row = refl; before = inr (refl, omega arith) }

  pub met-kept : (j place i c : ℕ) → Met ap' ai j place i c → Met ap' ai j (place + 1) i c
  met-kept j place i c m = record {
    at = m.at;
    from = m.from;
    to = m.to;
    row = m.row;
    before = elim m.before [ inl h ↦ inl h | inr h ↦ inr (h.0, (let l = h.1 in omega (arith, l))) ];
  }

  pub met-begun : (j i c : ℕ) → Met ap' ai j 0 i c → Met ap' ai j (slice_index ap' j) i c
  met-begun j i c m = record {
    at = m.at;
    from = m.from;
    to = m.to;
    row = m.row;
    before = elim m.before [ inl h ↦ inl h | inr h ↦ absurd (let l = h.1 in omega (arith, l)) ];
  }

  pub met-ended : (j place i c : ℕ) → Met ap' ai j place i c → Met ap' ai (j + 1) 0 i c
  met-ended j place i c m = record {
    at = m.at;
    from = m.from;
    to = m.to;
    row = m.row;
    before = inl (elim m.before [ inl h ↦ omega (arith, h) | inr h ↦ (let l = h.0 in omega (arith, l)) ]);
  }

module _ (n : ℕ) (ap' ai : List ℕ) (form : IsColumnForm (pos n) n (map pos ap') (map pos ai)) where
  -- the form has counts
  pub form-counts : IsForm n ap' ai
  form-counts = record {
    enough = (let e = form.enough in let long = length-map ap' pos in omega (arith, e, long));
    within = λ j h. (let w = pointer_within n (map pos ap') (map pos ai) form (j + 1) (omega (arith, h)) in
        let long = length-map ai pos in
        let same = ap (λ z. get_or z (j + 1) 0) (counts_back ap') in omega (arith, w, long, same));
    rows = λ j q h low high. (let same = ap (λ z. get_or z (j + 1) 0) (counts_back ap') in
        let inside = row_in n (map pos ap') (map pos ai) form j q h (omega (arith, high, same)) in
        let is = row_is n (map pos ap') (map pos ai) form j q h (omega (arith, high, same)) in
        let row = ap (λ z. get_or z q 0) (counts_back ai) in
        let top = inside.1 in
        omega (arith, ints, top, is, row));
  }

  -- and columns that rise, where they are sorted
  pub form-rising : IsSorted n (map pos ap') (map pos ai) → IsRisingForm n ap' ai
  form-rising sorted =
      let rising : IsSortedForm n ap' ai = subst (λ z. IsSortedForm n z ai) (counts_back ap')
      (subst (λ z. IsSortedForm n (naturals (map pos ap')) z) (counts_back ai) (sorted_form n (map pos ap') (map pos ai) form sorted)) in
      record { form = form-counts; order = rising.rising; rise = rising.ascend }

  -- the graph and the diagonal by counts
  pub graph-same : graph_of n (map pos ap') (map pos ai) ≡ count_graph n ap' ai
  graph-same =
      same_graph n (map pos ap') (map pos ai) form ∙ ap (λ z. count_graph n z (naturals (map pos ai))) (counts_back ap')
      ∙ ap (λ z. count_graph n ap' z) (counts_back ai)

  pub diagonal-same : diagonal_count n (map pos ap') (map pos ai)
      ≡ count_below n (λ v. is_before ap' ai (slice_index ap' (v + 1)) v v)
  unfolding is_entry
  diagonal-same =
      same_diagonals n (map pos ap') (map pos ai) form
      ∙ ap (λ z. count_below n (λ v. is_entry n z (naturals (map pos ai)) v v)) (counts_back ap')
      ∙ ap (λ z. count_below n (λ v. is_entry n ap' z v v)) (counts_back ai)
      ∙ count_same n (λ v. is_entry n ap' ai v v) (λ v. is_before ap' ai (slice_index ap' (v + 1)) v v) (λ v l. rw (lt-ltb v n l) refl)

  entry-of : (i c : ℕ) → is_pair n (map pos ap') (map pos ai) i c ≡ is_entry n ap' ai i c
  entry-of i c =
      same_pair n (map pos ap') (map pos ai) form i c ∙ ap (λ z. is_entry n z (naturals (map pos ai)) i c) (counts_back ap')
      ∙ ap (λ z. is_entry n ap' z i c) (counts_back ai)

  -- a pair was met in the end, and what was met is a pair
  pub pair-met : (i c : ℕ) → is_pair n (map pos ap') (map pos ai) i c ≡ true → Met ap' ai n 0 i c
  pair-met i c e =
      let entry = entry_gives ap' ai n i c (sym (entry-of i c) ∙ e) in
      record { at = entry.0; from = entry.2; to = entry.3; row = entry.4; before = inl entry.1 }

  pub met-pair : (i c : ℕ) → Met ap' ai n 0 i c → is_pair n (map pos ap') (map pos ai) i c ≡ true
  met-pair i c m = entry-of i c ∙ entry_from ap' ai n i c m.at
      (elim m.before [ inl h ↦ h | inr h ↦ absurd (let l = h.1 in omega (arith, l)) ]) m.from m.to m.row
