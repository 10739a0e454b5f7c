-- The elements of a listing, found one after another by their places.
use Rattle.std.proofs.Common.{ℕ, ℤ, Bool, ◌≡◌, ◌≢◌, ◌<◌, ◌≤◌, ◌+◌, ◌&&◌, ◌==◌, not, cond, true, false, inl, inr, refl, sym, ◌∙◌, ap, subst}
use Rattle.std.proofs.Common.{arith, List, length, pos, None, Some}
use Rattle.std.specs.Prelude.{slice_index, nat_lt}
use Rattle.std.proofs.Math.ListN.{set}
use Rattle.std.proofs.lemmas.List.{get_or-set_same, get_or-set_other}
use Rattle.std.proofs.lemmas.Bool.{cases_eq, cases_Bool, lt-ltb, le-ltb, ltb-true, eq-eqb, ne_eqb}
use Rattle.std.specs.Cmp.{both_ways}
use Rattle.amd_model.specs.Below.{count_below}
use Rattle.amd_model.specs.Input.Columns.{at}
use Rattle.amd_model.specs.Listing.{Tree}
use Rattle.amd_model.proofs.Counting.Below.{count_same, count_zero}
use Rattle.amd_model.proofs.Counting.Lists.{both_below}
use Rattle.amd_model.proofs.Counting.Places.{place_of}
use Rattle.amd_model.proofs.Counting.Points.{pigeonhole, count_drop}
use Rattle.amd_types.specs.Links.{named}
use Rattle.amd_words.specs.Words.{num}
use Rattle.amd_postorder.specs.Trees.{IsPostorderOf}
use Rattle.amd_postorder.proofs.Links.{names_some}
use Rattle.amd_listing.specs.Blocks.{BeginWith}

-- the numbers of the listing that lie below e stand at their places, and `count` is how many they are
pub record AreSoFar (e : ℕ) (listing elements : List ℕ) (count : ℕ) : Type 0 where
  pub each : (k : ℕ) → k < length listing → slice_index listing k < e → num elements k ≡ slice_index listing k
  pub counted : count ≡ count_below (length listing) (λ k. nat_lt (slice_index listing k) e)

pub below_same : (x j : ℕ) → x ≢ j → nat_lt x (j + 1) ≡ nat_lt x j
below_same x j ne = both_ways (nat_lt x (j + 1)) (nat_lt x j)
    (λ h. let l = ltb-true x (j + 1) h in lt-ltb x j (omega (arith, l, ne))) (λ h. let l = ltb-true x j h in
    lt-ltb x (j + 1) (omega (arith, l)))

-- where all of n numbers pass, n are counted
all_counted : (n : ℕ) (p : ℕ → Bool) → ((k : ℕ) → k < n → p k ≡ true) → count_below n p ≡ n
all_counted n p all = let both = both_below n p in let none' = count_zero n (λ k. not (p k)) (λ k l. ap not (all k l)) in
    omega (arith, both, none')

pub so_far_start : (listing elements : List ℕ) → AreSoFar 0 listing elements 0
so_far_start listing elements = record {
  each = λ k l low. absurd (omega arith);
  counted = sym (count_zero (length listing) (λ k. nat_lt (slice_index listing k) 0)
      (λ k l. le-ltb (slice_index listing k) 0 (omega arith)));
}

module _ (t : Tree) (order : List ℤ) (o : IsPostorderOf t order)
    (inside : (k : ℕ) → k < length o.listing → slice_index o.listing k < t.size) where
  -- a listing names no number twice
  pub apart : (i k : ℕ) → i < length o.listing → k < length o.listing → slice_index o.listing i ≡ slice_index o.listing k → i ≡ k
  apart i k l m q = (let x : pos i ≡ pos k = sym (o.places i l) ∙ ap (at order) q ∙ o.places k m in cc)

  pub listing_fits : length o.listing ≤ t.size
  listing_fits = pigeonhole t.size (length o.listing) (slice_index o.listing) inside
      (λ j k m l q. let e = apart j k (omega (arith, m, l)) l q in omega (arith, m, e))

  -- the place of a node
  pub found : (j p : ℕ) → j < t.size → named (at order j) ≡ Some p → (p < length o.listing) × (slice_index o.listing p ≡ j)
  found j p small q =
      let is = names_some (at order j) p (sym q) in
      elim (cases_Bool (t.is_node j)) [
        | inl y ↦ (let k = place_of o.listing j (o.each j small y) in
            let x : pos k.0 ≡ pos p = sym (o.places k.0 k.1) ∙ ap (at order) (k.2 0) ∙ is in
            let same : k.0 ≡ p = cc in
            (subst (λ z. z < length o.listing) same k.1, ap (slice_index o.listing) (sym same) ∙ k.2 0))
        | inr y ↦ absurd (let x : Some p ≡ None = sym q ∙ ap named (o.others j small y) in cc)
      ]

  -- where a number has no place, the listing does not name it
  missed : (j : ℕ) → named (at order j) ≡ None → (k : ℕ) → k < length o.listing → slice_index o.listing k ≢ j
  missed j q k l e = let x : Some k ≡ None = sym (ap named (o.places k l)) ∙ ap (λ y. named (at order y)) e ∙ q in absurd (cc)

  pub so_far_skip : (j : ℕ) (elements : List ℕ) (count : ℕ) → AreSoFar j o.listing elements count → named (at order j) ≡ None →
      AreSoFar (j + 1) o.listing elements count
  so_far_skip j elements count a q = record {
    each = λ k l low. a.each k l (let ne = missed j q k l in omega (arith, low, ne));
    counted = a.counted ∙ count_same (length o.listing) (λ k. nat_lt (slice_index o.listing k) j)
        (λ k. nat_lt (slice_index o.listing k) (j + 1))
        (λ k l. sym (below_same (slice_index o.listing k) j (missed j q k l)));
  }

  -- of the numbers up to j, those but the one at p lie below j
  but_one : (j p : ℕ) → p < length o.listing → slice_index o.listing p ≡ j → (k : ℕ) → k < length o.listing →
      (nat_lt (slice_index o.listing k) (j + 1) && not (k == p)) ≡ nat_lt (slice_index o.listing k) j
  but_one j p small is k l = elim (cases_eq k p) [
    | inl same ↦ (let here : slice_index o.listing k ≡ j = ap (slice_index o.listing) same ∙ is in
        ap (λ b. nat_lt (slice_index o.listing k) (j + 1) && not b) (eq-eqb k p same) ∙ never (nat_lt (slice_index o.listing k) (j + 1))
        ∙ sym (le-ltb (slice_index o.listing k) j (omega (arith, here))))
    | inr ne ↦ ap (λ b. nat_lt (slice_index o.listing k) (j + 1) && not b) (ne_eqb k p ne)
        ∙ always (nat_lt (slice_index o.listing k) (j + 1)) ∙ below_same (slice_index o.listing k) j
        (λ e. ne (apart k p l small (e ∙ sym is)))
  ]
    where
      never : (b : Bool) → (b && false) ≡ false
      never true = refl
      never false = refl

      always : (b : Bool) → (b && true) ≡ b
      always true = refl
      always false = refl

  pub so_far_take : (j p : ℕ) (elements : List ℕ) (count : ℕ) → AreSoFar j o.listing elements count → p < length elements → j < t.size →
      named (at order j) ≡ Some p → AreSoFar (j + 1) o.listing (set elements p j) (count + 1)
  so_far_take j p elements count a room small q =
      let f = found j p small q in
      record {
        each = λ k l low. elim (cases_eq k p) [
          | inl same ↦ ap (num (set elements p j)) same ∙ get_or-set_same elements p j 0 room ∙ sym (ap (slice_index o.listing) same ∙ f.1)
          | inr ne ↦ get_or-set_other elements p k j 0 ne ∙
              a.each k l (let other : slice_index o.listing k ≢ j = λ e. ne (apart k p l f.0 (e ∙ sym f.1)) in omega (arith, low, other))
        ];
        counted = (
            let drop = count_drop (length o.listing) (λ k. nat_lt (slice_index o.listing k) (j + 1)) p f.0 in
            let before = count_same (length o.listing) (λ k. nat_lt (slice_index o.listing k) (j + 1) && not (k == p))
            (λ k. nat_lt (slice_index o.listing k) j) (but_one j p f.0 f.1) in
            let is = f.1 in
            let one : cond {A = ℕ} (nat_lt (slice_index o.listing p) (j + 1)) 1 0 ≡ 1 = ap (λ b. cond b 1 0)
            (lt-ltb (slice_index o.listing p) (j + 1) (omega (arith, is))) in
            let counted = a.counted in
            omega (arith, drop, before, one, counted));
      }

  pub so_far_end : (j : ℕ) (elements : List ℕ) (count : ℕ) → j ≡ t.size → AreSoFar j o.listing elements count →
      BeginWith elements count o.listing
  so_far_end j elements count all a =
      let low : (k : ℕ) → k < length o.listing → slice_index o.listing k < j = λ k l. (let s = inside k l in omega (arith, all, s)) in
      let every = all_counted (length o.listing) (λ k. nat_lt (slice_index o.listing k) j)
      (λ k l. lt-ltb (slice_index o.listing k) j (low k l)) in
      let long : length o.listing ≡ count = sym (a.counted ∙ every) in
      record { long = long; each = λ k l. (let m : k < length o.listing = omega (arith, l, long) in a.each k m (low k m)) }
