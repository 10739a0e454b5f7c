-- Rows that are put at their places of a listing, one after another; when all are there, the two lists are inverse permutations.
use Rattle.std.proofs.Common.{ℕ, ℤ, pos, ◌≡◌, ◌≢◌, ◌<◌, inl, inr, sym, ◌∙◌, ap, arith, List, length, map, slice_index}
use Rattle.std.proofs.Math.ListN.{set}
use Rattle.std.proofs.lemmas.List.{length-map, get_or-map, get_or-set_same, get_or-set_other, ext_get_or}
use Rattle.std.proofs.lemmas.Bool.{cases_order}
use Rattle.amd_model.specs.Input.Columns.{at}
use Rattle.amd_model.specs.Listing.{ListsEachRow}
use Rattle.amd_model.proofs.Counting.Pigeonhole.{permutation_below, permutation_once}
use Rattle.amd_types.specs.Permutations.{AreInverse}
use Rattle.amd_types.proofs.Inverses.{inverse_from}
use Rattle.amd_listing.specs.Placing.{IsListedAt}

pub placed_same : (listing : List ℕ) (p q p' q' : List ℤ) (v : ℕ) → p' ≡ p → q' ≡ q → IsListedAt listing p q v → IsListedAt listing p' q' v
placed_same listing p q p' q' v e f h = (h.0, h.1, h.2, ap (λ z. at z h.0) e ∙ h.3, ap (λ z. at z v) f ∙ h.4)

module _ (listing : List ℕ) (p q : List ℤ) (v k : ℕ) (is : slice_index listing k ≡ v) where
  -- the row that is put there
  pub placed_here : k < length listing → k < length p → v < length q → IsListedAt listing (set p k (pos v)) (set q v (pos k)) v
  placed_here l small row = (k, l, is, get_or-set_same p k (pos v) (pos 0) small, get_or-set_same q v (pos k) (pos 0) row)

  -- another row stays
  pub placed_there : (w : ℕ) → w ≢ v → IsListedAt listing p q w → IsListedAt listing (set p k (pos v)) (set q v (pos k)) w
  placed_there w ne h = (
    h.0,
    h.1,
    h.2,
    get_or-set_other p k h.0 (pos v) (pos 0) (λ e. ne (sym h.2 ∙ ap (slice_index listing) e ∙ is)) ∙ h.3,
    get_or-set_other q v w (pos k) (pos 0) ne ∙ h.4,
  )

module _ (n : ℕ) (listing : List ℕ) (each : ListsEachRow n listing) (p q : List ℤ) (p_long : length p ≡ n) (q_long : length q ≡ n)
    (placed : (v : ℕ) → v < n → IsListedAt listing p q v) where
  -- a row stands at one place alone
  one_place : (j k : ℕ) → j < n → k < n → slice_index listing j ≡ slice_index listing k → j ≡ k
  one_place j k l m e = elim (cases_order j k) [
    | inl q ↦ q
    | inr o ↦ elim o [
      | inl less ↦ absurd (permutation_once n listing each j k less m e)
      | inr more ↦ absurd (permutation_once n listing each k j more l (sym e))
    ]
  ]

  its_place : (k : ℕ) (l : k < n) → (placed (slice_index listing k) (permutation_below n listing each k l)).0 ≡ k
  its_place k l = let h = placed (slice_index listing k) (permutation_below n listing each k l) in
      let long = each.places in let within : h.0 < n = (let s = h.1 in omega (arith, s, long)) in one_place h.0 k within l h.2

  pub listed_at : (k : ℕ) → k < n → at p k ≡ pos (slice_index listing k)
  listed_at k l = let h = placed (slice_index listing k) (permutation_below n listing each k l) in ap (at p) (sym (its_place k l)) ∙ h.3

  back_at : (k : ℕ) → k < n → at q (slice_index listing k) ≡ pos k
  back_at k l = let h = placed (slice_index listing k) (permutation_below n listing each k l) in h.4 ∙ ap (λ j. pos j) (its_place k l)

  pub all_listed : p ≡ map pos listing
  all_listed =
      let a = each.places in let b : length (map pos listing) ≡ length listing = simp length-map in
      ext_get_or (pos 0) p (map pos listing) (omega (arith, a, b, p_long)) (λ k l. listed_at k (omega (arith, l, p_long))
      ∙ sym (get_or-map pos listing k 0 (pos 0) (omega (arith, l, a, p_long))))

  pub all_inverse : AreInverse n p q
  all_inverse = inverse_from n listing each p q all_listed q_long back_at
