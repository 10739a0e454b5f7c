-- From counted entries and told parents to the columns of the factor.
use Rattle.std.proofs.Common.{ℕ, ◌≡◌, ◌<◌, ◌≤◌, refl, inl, inr, sym, ◌∙◌, ap, subst, arith, List, [], ◌∷◌, length, map}
use Rattle.std.specs.Prelude.{slice_index, slice_index_or, Option, None, Some}
use Rattle.std.proofs.lemmas.List.{same_lists, get_or_default, get_or-map, length-map}
use Rattle.amd_model.specs.Below.{count_below, list_below}
use Rattle.amd_model.specs.Factor.{IsColumn, IsFactor}
use Rattle.amd_model.specs.Graph.{IsGraph}
use Rattle.amd_model.proofs.Listings.Words.{has_below, below_has, has_head, has_none, has_cases}
use Rattle.amd_model.proofs.Counting.Places.{below_increasing, length_below, contains_has, has_contains}
use Rattle.amd_model.proofs.Listings.ReachTest.{columns, factor_of}
use Rattle.amd_factor.specs.Columns.{first_of}
use Rattle.amd_factor.specs.Orders.{Order}
use Rattle.amd_factor.specs.Walks.{TellsParentSoFar, TellParents, CountEntries}
use Rattle.amd_factor.proofs.Meetings.EntryTests.{test, test_entry, entry_test, counted_is}
use Rattle.amd_factor.proofs.Trees.FactorOnce.{rising_same, first_least}
use Rattle.amd_factor.specs.Sizes.{HoldSizes}

module _ (o : Order) (laws : IsGraph o.graph) where
  cols : List (List ℕ)
  cols = columns o.graph o.rows

  factor : IsFactor o.graph o.rows cols
  unfolding cols
  factor = factor_of o.graph o.rows laws

  -- the column of place k lists the places that pass the test
  column_is : (k : ℕ) (d : List ℕ) → k < length o.rows → slice_index_or cols k d ≡ list_below (length o.rows) (test o k)
  column_is k d l =
      let c = factor.each k d l in
      rising_same (slice_index_or cols k d) (list_below (length o.rows) (test o k)) c.rising (below_increasing (length o.rows) (test o k))
      (λ j h. let x = (c.members j).0 (has_contains (slice_index_or cols k d) j h) in
      below_has (length o.rows) (test o k) j x.1 (entry_test o laws k j x))
      (λ j h. let x = has_below (length o.rows) (test o k) j h in
      contains_has (slice_index_or cols k d) j ((c.members j).1 (test_entry o laws k j x.0 x.1)))

  column_long : (k : ℕ) (d : List ℕ) → k < length o.rows → length (slice_index_or cols k d) ≡ count_below (length o.rows) (test o k)
  column_long k d l = ap length (column_is k d l) ∙ length_below (length o.rows) (test o k)

  -- the parent that all rows tell is the first entry
  parent_is : (k : ℕ) (v : Option ℕ) (c : List ℕ) → IsColumn o.graph o.rows k c → TellsParentSoFar o (length o.rows) k v → v ≡ first_of c
  parent_is k None [] c t = refl
  parent_is k None (x ∷ xs) c t = absurd (let e = (c.members x).0 (has_contains (x ∷ xs) x (has_head x x xs refl)) in t x e.1 e)
  parent_is k (Some q) [] c t = absurd (has_none q (contains_has [] q ((c.members q).1 t.entry)))
  parent_is k (Some q) (x ∷ xs) c t =
      let low : q ≤ x = t.first x ((c.members x).0 (has_contains (x ∷ xs) x (has_head x x xs refl))) in
      let high : x ≤ q = elim (has_cases q x xs (contains_has (x ∷ xs) q ((c.members q).1 t.entry)))
      [ inl e ↦ omega arith | inr h ↦ (let l = first_least x xs c.rising q h in omega arith) ] in
      ap Some (let e : q ≡ x = omega arith in e)

  parents_are : (parent : List (Option ℕ)) → TellParents o (length o.rows) parent → parent ≡ map first_of cols
  parents_are parent t =
      let places = factor.places in
      same_lists parent (map first_of cols) (t.room ∙ sym places ∙ sym (length-map cols first_of))
      (λ k d l. let low : k < length o.rows = subst (λ m. k < m) t.room l in
      get_or_default parent k d None l
      ∙ parent_is k (slice_index_or parent k None) (slice_index_or cols k []) (factor.each k [] low) (t.each k low)
      ∙ sym (get_or-map first_of cols k [] d (omega (arith, low, places))))

  sizes_are : (counts : List ℕ) → CountEntries o (length o.rows) counts → counts ≡ map length cols
  sizes_are counts c =
      let places = factor.places in
      same_lists counts (map length cols) (c.room ∙ sym places ∙ sym (length-map cols length))
      (λ k d l. let low : k < length o.rows = subst (λ m. k < m) c.room l in
      get_or_default counts k d 0 l
      ∙ sym (counted_is o laws (length o.rows) k (slice_index counts k) (omega arith) (c.each k low))
      ∙ sym (column_long k [] low)
      ∙ sym (get_or-map length cols k [] d (omega (arith, low, places))))

  -- the sizes of the columns, and their first entries
  pub hold_sizes : (counts : List ℕ) (parent : List (Option ℕ)) → CountEntries o (length o.rows) counts →
      TellParents o (length o.rows) parent → HoldSizes o.graph o.rows counts parent
  hold_sizes counts parent c t = record {
    columns = cols;
    factor = factor;
    sizes_are = sizes_are counts c;
    parents = parents_are parent t;
  }
