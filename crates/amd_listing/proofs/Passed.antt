-- A pass over the rows that are no element, rising: how far the next places of the blocks have come, and which rows have been put.
use Rattle.std.proofs.Common.{ℕ, ℤ, pos, ◌≡◌, ◌≢◌, ◌<◌, ◌+◌, ◌-◌, ◌&&◌, ◌⊎◌, not, inl, inr, refl, sym, ◌∙◌, ap}
use Rattle.std.proofs.Common.{subst, arith, List, length, slice_index}
use Rattle.std.specs.Prelude.{◌==◌}
use Rattle.std.proofs.Math.ListN.{set}
use Rattle.std.proofs.lemmas.List.{get_or-set_same, get_or-set_other}
use Rattle.std.proofs.lemmas.Bool.{cases_eq, eq-eqb, ne_eqb, and_from, not_from_false}
use Rattle.amd_model.specs.Below.{count_below, sum_below}
use Rattle.amd_model.specs.Laws.{is_last}
use Rattle.amd_model.specs.State.{Home, Last, Gone, block_at}
use Rattle.amd_model.proofs.Counting.Below.{not_both}
use Rattle.amd_round_laws.proofs.Lists.Rising.{count_yes, count_no}
use Rattle.amd_words.specs.Words.{num, size_of}
use Rattle.amd_listing.specs.Blocks.{listing_of}
use Rattle.amd_listing.specs.Placing.{AreBlocks, IsListedAt, PivotsPlaced}
use Rattle.amd_listing.proofs.Placed.{placed_same, placed_here, placed_there}
use Rattle.amd_listing.proofs.BlockPlaces.{other_of, other_listed, last_listed, listing_long, pivot_at}

-- what the pass writes: the next place of each block, and of what is behind the blocks, and the listing with its inverse
pub record Putting : Type 0 where
  pub place : List ℕ
  pub next : ℕ
  pub p : List ℤ
  pub q : List ℤ

abbrev pub putting : List ℕ → ℕ → List ℤ → List ℤ → Putting
putting place next p q = record { place = place; next = next; p = p; q = q }

-- the pass has come to row v: each block is filled as far as its rows below v, and so is the part behind the blocks;
-- the elements have been put before
pub record Passed (nv : List ℤ) (starts : List ℕ) (end : ℕ) (home : ℕ → Home) (elements : List ℕ) (now : Putting) (v : ℕ) : Type 0 where
  pub places : (e : ℕ) → 0 < size_of nv e → num now.place e ≡ num starts e + count_below v (other_of home e)
  pub next_is : now.next ≡ end + count_below v (λ w. is_last (home w))
  pub placed : (w : ℕ) → w < length nv → (w < v) ⊎ (0 < size_of nv w) → IsListedAt (listing_of (length nv) home elements) now.p now.q w

pub passed_same : (nv : List ℤ) (starts : List ℕ) (end : ℕ) (home : ℕ → Home) (elements place place' : List ℕ) (next next' : ℕ)
    (p p' q q' : List ℤ) (v : ℕ) → place' ≡ place → next' ≡ next → p' ≡ p → q' ≡ q →
    Passed nv starts end home elements (putting place next p q) v → Passed nv starts end home elements (putting place' next' p' q') v
passed_same nv starts end home elements place place' next next' p p' q q' v e f g h passed = record {
  places = λ k some. ap (λ l. num l k) e ∙ passed.places k some;
  next_is = f ∙ passed.next_is;
  placed = λ w l put. placed_same (listing_of (length nv) home elements) p q p' q' w g h (passed.placed w l put);
}

module _ (link nv : List ℤ) (starts : List ℕ) (end : ℕ) (home : ℕ → Home) (elements : List ℕ)
    (b : AreBlocks link nv starts end home elements) where
  pub passed_none : (p q : List ℤ) → PivotsPlaced nv starts p q → Passed nv starts end home elements (putting starts end p q) 0
  unfolding count_below sum_below
  passed_none p q pivots = record {
    places = λ e some. omega arith;
    next_is = omega arith;
    placed = λ w l put. elim put [
      | inl low ↦ absurd (omega (arith, low))
      | inr some ↦ (let k : ℕ = num starts w + size_of nv w - 1 in let is : k + 1 ≡ num starts w + size_of nv w = omega (arith, some) in
          let there = pivot_at link nv starts end home elements b w k some is in let small = there.1 in
          let long = listing_long link nv starts end home elements b in let pair = pivots w k some is in
          (k, omega (arith, small, long), there.0, pair.0, pair.1))
    ];
  }

  module _ (place : List ℕ) (next : ℕ) (p q : List ℤ) (v : ℕ) (passed : Passed nv starts end home elements (putting place next p q) v) where
    -- an element is passed over
    pub passed_element : 0 < size_of nv v → Passed nv starts end home elements (putting place next p q) (v + 1)
    unfolding block_at is_last
    passed_element some = let is = b.led.elements v some in record {
      places = λ e sized. passed.places e sized
          ∙ ap (λ m. num starts e + m) (count_no (other_of home e) v (count_below v (other_of home e)) refl
          (ap (λ h. block_at e h && not (v == e)) is ∙ not_both (v == e)));
      next_is = passed.next_is
          ∙ ap (λ m. end + m) (count_no (λ w. is_last (home w)) v (count_below v (λ w. is_last (home w))) refl (ap is_last is));
      placed = λ w l put. passed.placed w l (elim put [
        | inl low ↦ elim (cases_eq w v) [
          | inl same ↦ inr (subst (λ r. 0 < size_of nv r) (sym same) some)
          | inr ne ↦ inl (omega (arith, low, ne))
        ]
        | inr sized ↦ inr sized
      ]);
    }

    -- the places that are taken next
    pub next_listed : home v ≡ Last → v < length nv →
        (slice_index (listing_of (length nv) home elements) next ≡ v) × (next < length (listing_of (length nv) home elements))
    next_listed is small = subst (λ k. (slice_index (listing_of (length nv) home elements) k ≡ v)
        × (k < length (listing_of (length nv) home elements))) (sym passed.next_is)
        (last_listed link nv starts end home elements b v small is)

    pub next_small : home v ≡ Last → v < length nv → next < length nv
    next_small is small = let a = (next_listed is small).1 in let l = listing_long link nv starts end home elements b in omega (arith, a, l)

    pub place_listed : (e : ℕ) → home v ≡ Gone e → 0 < size_of nv e → v ≢ e → v < length nv →
        (slice_index (listing_of (length nv) home elements) (num place e) ≡ v)
        × (num place e < length (listing_of (length nv) home elements))
    place_listed e is some ne small = subst (λ k. (slice_index (listing_of (length nv) home elements) k ≡ v)
        × (k < length (listing_of (length nv) home elements))) (sym (passed.places e some))
        (other_listed link nv starts end home elements b v e small is some ne)

    pub place_small : (e : ℕ) → home v ≡ Gone e → 0 < size_of nv e → v ≢ e → v < length nv → num place e < length nv
    place_small e is some ne small = let a = (place_listed e is some ne small).1 in
        let l = listing_long link nv starts end home elements b in omega (arith, a, l)

    -- the row is put at a place that the listing has for it
    put_there : (k : ℕ) → slice_index (listing_of (length nv) home elements) k ≡ v → k < length (listing_of (length nv) home elements) →
        v < length nv → length p ≡ length nv → length q ≡ length nv →
        (w : ℕ) → w < length nv → (w < v + 1) ⊎ (0 < size_of nv w) →
        IsListedAt (listing_of (length nv) home elements) (set p k (pos v)) (set q v (pos k)) w
    put_there k is less small p_long q_long w l put = elim (cases_eq w v) [
      | inl same ↦ subst (λ r. IsListedAt (listing_of (length nv) home elements) (set p k (pos v)) (set q v (pos k)) r) (sym same)
          (placed_here (listing_of (length nv) home elements) p q v k is less
          (let a = listing_long link nv starts end home elements b in omega (arith, less, a, p_long)) (omega (arith, small, q_long)))
      | inr ne ↦ placed_there (listing_of (length nv) home elements) p q v k is w ne
          (passed.placed w l (elim put [ inl low ↦ inl (omega (arith, low, ne)) | inr sized ↦ inr sized ]))
    ]

    -- a row held last is put behind the others
    pub passed_last : home v ≡ Last → v < length nv → length p ≡ length nv → length q ≡ length nv →
        Passed nv starts end home elements (putting place (next + 1) (set p next (pos v)) (set q v (pos next))) (v + 1)
    unfolding block_at is_last
    passed_last is small p_long q_long = record {
      places = λ e sized. passed.places e sized
          ∙ ap (λ m. num starts e + m) (count_no (other_of home e) v (count_below v (other_of home e)) refl
          (ap (λ h. block_at e h && not (v == e)) is));
      next_is = let m = passed.next_is in
          let c = count_yes (λ w. is_last (home w)) v (count_below v (λ w. is_last (home w))) refl (ap is_last is) in omega (arith, m, c);
      placed = let at = next_listed is small in put_there next at.0 at.1 small p_long q_long;
    }

    -- another row of a block is put behind the others of the block
    pub passed_other : (e : ℕ) → home v ≡ Gone e → 0 < size_of nv e → v ≢ e → v < length nv → e < length place →
        length p ≡ length nv → length q ≡ length nv →
        Passed nv starts end home elements
        (putting (set place e (num place e + 1)) next (set p (num place e) (pos v)) (set q v (pos (num place e)))) (v + 1)
    unfolding block_at is_last
    passed_other e is some ne small room p_long q_long = record {
      places = λ f sized. elim (cases_eq f e) [
        | inl same ↦ subst (λ r. num (set place e (num place e + 1)) r ≡ num starts r + count_below (v + 1) (other_of home r)) (sym same)
            (get_or-set_same place e (num place e + 1) 0 room ∙ (let m = passed.places e some in
            let c = count_yes (other_of home e) v (count_below v (other_of home e)) refl
            (and_from (block_at e (home v)) (not (v == e)) (ap (block_at e) is ∙ eq-eqb e e refl)
            (not_from_false (v == e) (ne_eqb v e ne))) in
            omega (arith, m, c)))
        | inr other ↦ get_or-set_other place e f (num place e + 1) 0 other ∙ passed.places f sized
            ∙ ap (λ m. num starts f + m) (count_no (other_of home f) v (count_below v (other_of home f)) refl
            (ap (λ h. block_at f h && not (v == f)) is ∙ ap (λ t. t && not (v == f)) (ne_eqb e f (λ q. other (sym q)))))
      ];
      next_is = passed.next_is
          ∙ ap (λ m. end + m) (count_no (λ w. is_last (home w)) v (count_below v (λ w. is_last (home w))) refl (ap is_last is));
      placed = let at = place_listed e is some ne small in put_there (num place e) at.0 at.1 small p_long q_long;
    }
