-- A listing by the places of its numbers, and read back in their order.
use Rattle.std.proofs.Common.{ℕ, ℤ, ◌≡◌, ◌<◌, ◌≤◌, ◌+◌, ◌++◌, ◌∷◌, [], cond, inl, inr, sym, ◌∙◌, ap, arith, List, length, take}
use Rattle.std.proofs.Common.{get_or, replicate, Option, None, Some}
use Rattle.std.specs.Prelude.{slice_index, nat_lt}
use Rattle.std.proofs.Math.ListN.{set}
use Rattle.std.proofs.lemmas.List.{length-set, get_or-set_same, get_or-set_other, take_more, take_all}
use Rattle.std.proofs.lemmas.List.{length-replicate, get_or-replicate, get_or_past}
use Rattle.std.proofs.lemmas.Bool.{cases_eq, cases_lt, le-ltb, lt-ltb}
use Rattle.amd_model.specs.Input.Columns.{at}
use Rattle.amd_model.specs.Listing.{Tree}
use Rattle.amd_plain.specs.Views.{some_at}
use Rattle.amd_types.specs.Links.{named}
use Rattle.amd_postorder.specs.Trees.{IsByPlace, IsPostorderOf}
use Rattle.amd_listing.proofs.ByPlace.{below_same, apart, listing_fits, found}

module _ (n : ℕ) (listing : List ℕ) (places : List (Option ℕ)) (by : IsByPlace n listing places) where
  pub next_taken : (k e : ℕ) → some_at places k ≡ Some e → take (k + 1) listing ≡ take k listing ++ e ∷ []
  next_taken k e q = elim (cases_lt k (length listing)) [
    | inl l ↦ (let x : Some e ≡ Some (get_or listing k 0) = sym q ∙ by.each k l in let y : get_or listing k 0 ≡ e = cc in
        take_more listing k 0 l ∙ ap (λ z. take k listing ++ z ∷ []) y)
    | inr m ↦ absurd (let x : Some e ≡ None = sym q ∙ by.rest k m in cc)
  ]

  all_taken : (k : ℕ) → length listing ≤ k → take k listing ≡ listing
  all_taken k m = take_all k listing m

  pub none_taken : (k : ℕ) → some_at places k ≡ None → take (k + 1) listing ≡ take k listing
  none_taken k q = elim (cases_lt k (length listing)) [
    | inl l ↦ absurd (let x : Some (get_or listing k 0) ≡ None = sym (by.each k l) ∙ q in cc)
    | inr m ↦ all_taken (k + 1) (omega (arith, m)) ∙ sym (all_taken k m)
  ]

  pub end_taken : (k : ℕ) → k ≡ length places → take k listing ≡ listing
  end_taken k q = let a = by.room in let b = by.fits in all_taken k (omega (arith, q, a, b))

-- the numbers of the listing that lie below j are at their places, and nothing else is there
pub record AreSoFar (j n : ℕ) (listing : List ℕ) (places : List (Option ℕ)) : Type 0 where
  pub room : length places ≡ n
  pub each : (k : ℕ) → k < length listing → some_at places k ≡ cond (nat_lt (slice_index listing k) j) (Some (slice_index listing k)) None
  pub rest : (k : ℕ) → length listing ≤ k → some_at places k ≡ None

module _ (t : Tree) (order : List ℤ) (o : IsPostorderOf t order)
    (inside : (k : ℕ) → k < length o.listing → slice_index o.listing k < t.size) where
  -- at first no number is at a place
  pub so_far_start : (n : ℕ) (places : List (Option ℕ)) → n ≡ length order → places ≡ replicate n None →
      AreSoFar 0 t.size o.listing places
  so_far_start n places same none = record {
    room = (let a = ap length none in let b = none_long in let r = o.room in omega (arith, a, b, r, same));
    each = λ k l. clear k ∙
        sym (ap (λ b. cond b (Some (slice_index o.listing k)) None) (le-ltb (slice_index o.listing k) 0 (omega arith)));
    rest = λ k l. clear k;
  }
    where
      absent : Option ℕ
      absent = None

      none_long : length (replicate n absent) ≡ n
      none_long = length-replicate n absent

      clear : (k : ℕ) → some_at places k ≡ None
      clear k = ap (λ xs. some_at xs k) none ∙ elim (cases_lt k n) [
        | inl l ↦ get_or-replicate n k absent absent l
        | inr l ↦ get_or_past (replicate n absent) k absent (let e = none_long in omega (arith, e, l))
      ]

  pub so_far_end : (j : ℕ) (places : List (Option ℕ)) → j ≡ t.size → AreSoFar j t.size o.listing places → IsByPlace t.size o.listing places
  so_far_end j places q a = record {
    room = a.room;
    fits = listing_fits t order o inside;
    each = λ k l. a.each k l ∙ ap (λ b. cond b (Some (slice_index o.listing k)) None)
        (lt-ltb (slice_index o.listing k) j (let s = inside k l in omega (arith, s, q)));
    rest = a.rest;
  }

  -- a place without a number
  pub so_far_skip : (j : ℕ) (places : List (Option ℕ)) → AreSoFar j t.size o.listing places → named (at order j) ≡ None →
      AreSoFar (j + 1) t.size o.listing places
  so_far_skip j places a q = record {
    room = a.room;
    each = λ k l. a.each k l ∙
        sym (ap (λ b. cond b (Some (slice_index o.listing k)) None)
        (below_same (slice_index o.listing k) j (λ e. let x : Some k ≡ None = sym (ap named (o.places k l)) ∙ ap (λ y. named (at order y)) e
        ∙
        q in cc)));
    rest = a.rest;
  }

  pub so_far_take : (j p : ℕ) (places : List (Option ℕ)) → AreSoFar j t.size o.listing places → j < t.size → named (at order j) ≡ Some p →
      AreSoFar (j + 1) t.size o.listing (set places p (Some j))
  so_far_take j p places a small q =
      let f = found t order o inside j p small q in let room = a.room in let fits = listing_fits t order o inside in
      record {
        room = length-set places p (Some j) ∙ a.room;
        each = λ k l. elim (cases_eq k p) [
          | inl same ↦ (
              let is : slice_index o.listing k ≡ j = ap (slice_index o.listing) same ∙ f.1 in
              ap (some_at (set places p (Some j))) same ∙ get_or-set_same places p (Some j) None
              (let x = f.0 in omega (arith, x, room, fits))
              ∙ sym (ap (λ b. cond b (Some (slice_index o.listing k)) None) (lt-ltb (slice_index o.listing k) (j + 1) (omega (arith, is))) ∙
              ap Some is))
          | inr ne ↦ get_or-set_other places p k (Some j) None ne ∙ a.each k l
              ∙ sym (ap (λ b. cond b (Some (slice_index o.listing k)) None)
              (below_same (slice_index o.listing k) j (λ e. ne (apart t order o inside k p l f.0 (e ∙ sym f.1)))))
        ];
        rest = λ k l. get_or-set_other places p k (Some j) None (λ e. let x = f.0 in omega (arith, x, l, e)) ∙ a.rest k l;
      }
