-- A listing of the rows and the places of the rows are inverse permutations.
use Rattle.std.proofs.Common.{◌≡◌, ◌<◌, ℕ, ℤ, List, map, pos, length, arith, sym, ◌∙◌, ap}
use Rattle.std.specs.Prelude.{Contains, slice_index}
use Rattle.std.proofs.lemmas.List.{length-map, get_or_default, get_or-map}
use Rattle.amd_model.specs.Input.Columns.{at}
use Rattle.amd_model.specs.Listing.{ListsEachRow}
use Rattle.amd_model.proofs.Counting.Pigeonhole.{permutation_below}
use Rattle.amd_types.specs.Permutations.{AreInverse}

module _ (n : ℕ) (rows : List ℕ) (listing : ListsEachRow n rows) (p q : List ℤ) (listed : p ≡ map pos rows) (room : length q ≡ n)
    (placed : (k : ℕ) → k < n → at q (slice_index rows k) ≡ pos k) where
  -- p reads as the listing
  listed_at : (k : ℕ) → k < n → at p k ≡ pos (slice_index rows k)
  listed_at k l = let within : k < length rows = (let e = listing.places in omega (arith, l, e)) in
      ap (λ xs. at xs k) listed ∙ get_or-map (λ x. pos x) rows k 0 (pos 0) within

  pub inverse_from : AreInverse n p q
  inverse_from = record {
    p_length = ap length listed ∙ simp length-map listing.places;
    q_length = room;
    there = λ k l. (slice_index rows k, permutation_below n rows listing k l, listed_at k l, placed k l);
    back = λ v l.
        let found : Contains rows v = listing.all v l in
        let within : found.0 < n = (let e = listing.places in let f = found.1 in omega (arith, e, f)) in
        let is : slice_index rows found.0 ≡ v = get_or_default rows found.0 0 v found.1 ∙ found.2 in
        (found.0, within, ap (at q) (sym is) ∙ placed found.0 within, listed_at found.0 within ∙ ap (λ x. pos x) is);
  }
