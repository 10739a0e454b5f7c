-- The places of rows in the listing of the blocks of elements: in a block the other rows rising and then the pivot row, and behind all
-- blocks the rows held last, rising. Each row has one place.
use Rattle.std.proofs.Common.{ℕ, zero, suc, ℤ, Bool, true, false, ◌≡◌, ◌≢◌, ◌<◌, ◌+◌, ◌&&◌, ◌||◌, ◌++◌, ◌∷◌, [], not, cond, inl, inr}
use Rattle.std.proofs.Common.{refl, sym, ◌∙◌, ap, subst, arith, List, length, slice_index, take, drop}
use Rattle.std.specs.Prelude.{◌==◌, nat_lt, flat_map, sum_by, Contains}
use Rattle.std.proofs.Math.Seq.{get_or-append_seam}
use Rattle.std.proofs.lemmas.List.{length-append, get_or_append_left, get_or-append-add, get_or_default, take-append-drop}
use Rattle.std.proofs.lemmas.List.Concat.{length-flat_map, get_or-flat_map}
use Rattle.std.proofs.lemmas.List.Folds.{length-flat_map-take}
use Rattle.std.proofs.lemmas.List.Sums.{sum_by-cons}
use Rattle.std.proofs.lemmas.Bool.{cases_eq, cases_Bool, true≢false, lt-ltb, eq-eqb, ne_eqb, and_from, not_from_false}
use Rattle.amd_model.specs.Below.{count_below, sum_below, list_below}
use Rattle.amd_model.specs.Listing.{ListsEachRow}
use Rattle.amd_model.specs.Laws.{is_last}
use Rattle.amd_model.specs.Quotient.{has, Once}
use Rattle.amd_model.specs.State.{Home, Last, Live, Gone, block_at}
use Rattle.amd_model.proofs.Counting.Below.{clash, count_same, count_or, count_none}
use Rattle.amd_model.proofs.Counting.Lists.{both_below}
use Rattle.amd_model.proofs.Counting.Places.{below_skip, below_take, place_of, length_below}
use Rattle.amd_model.proofs.Counting.Points.{count_drop}
use Rattle.amd_model.proofs.Counting.Unions.{count_apart}
use Rattle.amd_model.proofs.Listings.Words.{has_head, has_tail, has_left}
use Rattle.amd_round_laws.proofs.Lists.Named.{sum_named}
use Rattle.amd_round_laws.proofs.Lists.Pivots.{eq_flip}
use Rattle.amd_words.specs.Words.{num, size_of}
use Rattle.amd_listing.specs.Blocks.{others_of, block_of, listing_of}
use Rattle.amd_listing.specs.Placing.{AreBlocks}
use Rattle.amd_listing.proofs.RowLinks.{sized_small, row_home}

-- a row of a block that is not its pivot row
abbrev pub other_of : (ℕ → Home) → ℕ → ℕ → Bool
other_of home e v = block_at e (home v) && not (v == e)

-- ---- lists of the numbers below a bound

count_on : (p : ℕ → Bool) (n : ℕ) → p n ≡ true → count_below (suc n) p ≡ suc (count_below n p)
unfolding count_below sum_below
count_on p n h = let one : cond {A = ℕ} (p n) 1 0 ≡ 1 = ap (λ b. cond b 1 0) h in omega (arith, one)

count_off : (p : ℕ → Bool) (n : ℕ) → p n ≡ false → count_below (suc n) p ≡ count_below n p
unfolding count_below sum_below
count_off p n h = let one : cond {A = ℕ} (p n) 1 0 ≡ 0 = ap (λ b. cond b 1 0) h in omega (arith, one)

-- a number that passes stands behind the lower ones that do
pub below_at : (n : ℕ) (p : ℕ → Bool) (v : ℕ) → v < n → p v ≡ true →
    (slice_index (list_below n p) (count_below v p) ≡ v) × (count_below v p < count_below n p)
below_at zero p v l h = absurd (omega (arith, l))
below_at (suc n) p v l h = elim (cases_eq v n) [
  | inl same ↦ subst (λ w. (slice_index (list_below (suc n) p) (count_below w p) ≡ w) × (count_below w p < count_below (suc n) p))
      (sym same)
      (let on : p n ≡ true = ap p (sym same) ∙ h in let long = length_below n p in
      let more = count_on p n on in (
        ap (λ xs. slice_index xs (count_below n p)) (below_take n p on)
            ∙ ap (slice_index (list_below n p ++ n ∷ [])) (sym long) ∙ get_or-append_seam (list_below n p) n [] 0,
        omega (arith, more),
      ))
  | inr ne ↦ (let before = below_at n p v (omega (arith, l, ne)) h in let less = before.1 in elim (cases_Bool (p n)) [
    | inl on ↦ (let more = count_on p n on in let long = length_below n p in (
      ap (λ xs. slice_index xs (count_below v p)) (below_take n p on)
          ∙ get_or_append_left (list_below n p) (n ∷ []) 0 (count_below v p) (omega (arith, less, long)) ∙ before.0,
      omega (arith, less, more),
    ))
    | inr off ↦ (let same = count_off p n off in
        (ap (λ xs. slice_index xs (count_below v p)) (below_skip n p off) ∙ before.0, omega (arith, less, same)))
  ])
]

-- ---- sums over lists

has_take : (k : ℕ) (xs : List ℕ) (x : ℕ) → has (take k xs) x ≡ true → has xs x ≡ true
has_take k xs x h = subst (λ ys. has ys x ≡ true) (take-append-drop k xs) (has_left x (take k xs) (drop k xs) h)

-- in the block of an element of the list
pub in_blocks : List ℕ → Home → Bool
in_blocks es Last = false
in_blocks es (Live c) = false
in_blocks es (Gone e) = has es e

one_more : (e : ℕ) (es : List ℕ) (h : Home) → in_blocks (e ∷ es) h ≡ (block_at e h || in_blocks es h)
unfolding in_blocks block_at has
one_more e es Last = refl
one_more e es (Live c) = refl
one_more e es (Gone f) = ap (λ b. b || has es f) (eq_flip e f)

apart_from : (e : ℕ) (es : List ℕ) (h : Home) → has es e ≡ false → block_at e h ≡ true → in_blocks es h ≡ false
unfolding in_blocks block_at
apart_from e es Last off on = refl
apart_from e es (Live c) off on = refl
apart_from e es (Gone f) off on = elim (cases_eq f e) [
  | inl q ↦ ap (has es) q ∙ off
  | inr ne ↦ absurd (true≢false (sym on ∙ ne_eqb f e ne))
]

in_none : (h : Home) → in_blocks [] h ≡ false
unfolding in_blocks has
in_none Last = refl
in_none (Live c) = refl
in_none (Gone e) = refl

-- the blocks of different elements have as many rows together as there are rows in them
pub blocks_counted : (n : ℕ) (home : ℕ → Home) (size : ℕ → ℕ) (es : List ℕ) → Once es →
    ((e : ℕ) → has es e ≡ true → size e ≡ count_below n (λ v. block_at e (home v))) →
    sum_by size es ≡ count_below n (λ v. in_blocks es (home v))
blocks_counted n home size [] once sizes =
    sym (count_same n (λ v. in_blocks [] (home v)) (λ v. false) (λ v l. in_none (home v)) ∙ count_none n)
blocks_counted n home size (e ∷ es) once sizes =
    let a = sum_by-cons size e es in let here = sizes e (has_head e e es refl) in
    let on = blocks_counted n home size es once.1 (λ f h. sizes f (has_tail f e es h)) in
    let join = count_same n (λ v. in_blocks (e ∷ es) (home v)) (λ v. block_at e (home v) || in_blocks es (home v))
    (λ v l. one_more e es (home v)) in
    let most = count_or n (λ v. block_at e (home v)) (λ v. in_blocks es (home v)) in
    let least = count_apart n (λ v. block_at e (home v)) (λ v. in_blocks es (home v))
    (λ v l q r. clash r (apart_from e es (home v) once.0 q)) in
    omega (arith, a, here, on, join, most, least)

module _ (link nv : List ℤ) (starts : List ℕ) (end : ℕ) (home : ℕ → Home) (elements : List ℕ)
    (b : AreBlocks link nv starts end home elements) where
  abbrev n : ℕ
  n = length nv

  abbrev listing : List ℕ
  listing = listing_of n home elements

  abbrev blocks : List ℕ
  blocks = flat_map (block_of n home) elements

  abbrev last : ℕ → Bool
  last v = is_last (home v)

  element_listed : (e : ℕ) → 0 < size_of nv e → has elements e ≡ true
  element_listed e some = b.listed.each e ∙
      and_from (nat_lt e n) (nat_lt 0 (size_of nv e)) (lt-ltb e n (sized_small nv e some)) (lt-ltb 0 (size_of nv e) some)

  -- the other rows of a block are one fewer than its rows
  pub others_counted : (e : ℕ) → 0 < size_of nv e → count_below n (other_of home e) + 1 ≡ size_of nv e
  unfolding block_at
  others_counted e some = let drop = count_drop n (λ v. block_at e (home v)) e (sized_small nv e some) in
      let itself : block_at e (home e) ≡ true = ap (block_at e) (b.led.elements e some) ∙ eq-eqb e e refl in
      let one : cond {A = ℕ} (block_at e (home e)) 1 0 ≡ 1 = ap (λ t. cond t 1 0) itself in
      let all = b.listed.sizes e (element_listed e some) in omega (arith, drop, one, all)

  block_long : (e : ℕ) → 0 < size_of nv e → length (block_of n home e) ≡ size_of nv e
  block_long e some = let a = length-append (others_of n home e) (e ∷ []) in let l = length_below n (other_of home e) in
      let o = others_counted e some in omega (arith, a, l, o)

  listed_sized : (e : ℕ) → has elements e ≡ true → 0 < size_of nv e
  listed_sized e h = ltb_from (nat_lt e n) (size_of nv e) (sym (b.listed.each e) ∙ h)
    where
      ltb_from : (a : Bool) (m : ℕ) → (a && nat_lt 0 m) ≡ true → 0 < m
      ltb_from true zero h = absurd (true≢false (sym h))
      ltb_from true (suc m) h = omega arith
      ltb_from false m h = absurd (true≢false (sym h))

  lengths_sum : (xs : List ℕ) → ((x : ℕ) → has xs x ≡ true → has elements x ≡ true) →
      length (flat_map (block_of n home) xs) ≡ sum_by (size_of nv) xs
  lengths_sum xs in_all = length-flat_map (block_of n home) xs
      ∙ sum_named (λ e. length (block_of n home e)) (size_of nv) xs (λ x h. block_long x (listed_sized x (in_all x h)))

  blocks_long : length blocks ≡ end
  blocks_long = lengths_sum elements (λ x h. h) ∙ sym b.begun.end_is

  -- a place of a block
  in_block : (e j : ℕ) → 0 < size_of nv e → j < size_of nv e →
      (slice_index listing (num starts e + j) ≡ slice_index (block_of n home e) j) × (num starts e + j < length listing)
  in_block e j some less =
      let at = place_of elements e (element_listed e some) in
      let k : ℕ = at.0 in
      let is : slice_index elements k ≡ e = at.2 0 in
      let before : length (flat_map (block_of n home) (take k elements)) ≡ num starts e =
      lengths_sum (take k elements) (λ x h. has_take k elements x h) ∙ sym (b.begun.each k at.1) ∙ ap (num starts) is in
      let long : length (block_of n home (slice_index elements k)) ≡ size_of nv e =
      ap (λ f. length (block_of n home f)) is ∙ block_long e some in
      let fits = length-flat_map-take (block_of n home) elements k 0 at.1 in
      let within : num starts e + j < length blocks = omega (arith, before, long, less, fits) in
      let all = length-append blocks (list_below n last) in (
        get_or_append_left blocks (list_below n last) 0 (num starts e + j) within
            ∙ ap (λ s. slice_index blocks (s + j)) (sym before)
            ∙ get_or-flat_map (block_of n home) elements k j 0 0 at.1 (omega (arith, long, less))
            ∙ ap (λ f. slice_index (block_of n home f) j) is,
        omega (arith, within, all),
      )

  -- another row of a block stands behind the lower ones
  pub other_listed : (v e : ℕ) → v < n → home v ≡ Gone e → 0 < size_of nv e → v ≢ e →
      (slice_index listing (num starts e + count_below v (other_of home e)) ≡ v)
      × (num starts e + count_below v (other_of home e) < length listing)
  unfolding block_at
  other_listed v e small is some ne =
      let on : other_of home e v ≡ true = and_from (block_at e (home v)) (not (v == e)) (ap (block_at e) is ∙ eq-eqb e e refl)
      (not_from_false (v == e) (ne_eqb v e ne)) in
      let at = below_at n (other_of home e) v small on in
      let less = at.1 in let count = others_counted e some in let long = length_below n (other_of home e) in
      let r = in_block e (count_below v (other_of home e)) some (omega (arith, less, count)) in
      (r.0 ∙ get_or_append_left (others_of n home e) (e ∷ []) 0 (count_below v (other_of home e)) (omega (arith, less, long)) ∙ at.0, r.1)

  -- the pivot row stands last
  pub pivot_listed : (e : ℕ) → 0 < size_of nv e →
      (slice_index listing (num starts e + count_below n (other_of home e)) ≡ e)
      × (num starts e + count_below n (other_of home e) < length listing)
  pivot_listed e some =
      let count = others_counted e some in let long = length_below n (other_of home e) in
      let r = in_block e (count_below n (other_of home e)) some (omega (arith, count)) in
      (r.0 ∙ ap (slice_index (block_of n home e)) (sym long) ∙ get_or-append_seam (others_of n home e) e [] 0, r.1)

  -- a row held last stands behind the blocks and the lower such rows
  pub last_listed : (v : ℕ) → v < n → home v ≡ Last →
      (slice_index listing (end + count_below v last) ≡ v) × (end + count_below v last < length listing)
  unfolding is_last
  last_listed v small is =
      let at = below_at n last v small (ap is_last is) in let less = at.1 in
      let long = blocks_long in let all = length-append blocks (list_below n last) in let count = length_below n last in (
        ap (λ m. slice_index listing (m + count_below v last)) (sym long)
            ∙ get_or-append-add blocks (list_below n last) (count_below v last) 0 ∙ at.0,
        omega (arith, less, long, all, count),
      )

  last_or_block : (v : ℕ) → is_last (home v) ≡ not (in_blocks elements (home v))
  unfolding is_last in_blocks
  last_or_block v = elim (row_home n link nv home b.led v) [
    | inl l ↦ ap is_last l ∙ sym (ap (λ h. not (in_blocks elements h)) l)
    | inr g ↦ ap is_last g.1 ∙ sym (ap (λ h. not (in_blocks elements h)) g.1 ∙ ap not (element_listed g.0 g.2))
  ]

  pub listing_long : length listing ≡ n
  listing_long =
      let all = length-append blocks (list_below n last) in let count = length_below n last in
      let one = lengths_sum elements (λ x h. h) in
      let sum = blocks_counted n home (size_of nv) elements b.listed.once b.listed.sizes in
      let rest = count_same n last (λ v. not (in_blocks elements (home v))) (λ v l. last_or_block v) in
      let both = both_below n (λ v. in_blocks elements (home v)) in
      omega (arith, all, count, one, sum, rest, both)

  pub pivot_at : (e k : ℕ) → 0 < size_of nv e → k + 1 ≡ num starts e + size_of nv e → (slice_index listing k ≡ e) × (k < n)
  pivot_at e k some is =
      let c = others_counted e some in let r = pivot_listed e some in let less = r.1 in let long = listing_long in
      let same : k ≡ num starts e + count_below n (other_of home e) = omega (arith, c, is) in
      (ap (slice_index listing) same ∙ r.0, omega (arith, same, less, long))

  found : (v k : ℕ) → (slice_index listing k ≡ v) × (k < length listing) → Contains listing v
  found v k h = (k, h.1, get_or_default listing k v 0 h.1 ∙ h.0)

  pub lists_each : ListsEachRow n listing
  lists_each = record {
    places = listing_long;
    all = λ v small. elim (row_home n link nv home b.led v) [
      | inl l ↦ found v (end + count_below v last) (last_listed v small l)
      | inr g ↦ elim (cases_eq v g.0) [
        | inl q ↦ found v (num starts g.0 + count_below n (other_of home g.0)) (subst (λ w.
            (slice_index listing (num starts g.0 + count_below n (other_of home g.0)) ≡ w)
            × (num starts g.0 + count_below n (other_of home g.0) < length listing)) (sym q) (pivot_listed g.0 g.2))
        | inr ne ↦ found v (num starts g.0 + count_below v (other_of home g.0)) (other_listed v g.0 small g.1 g.2 ne)
      ]
    ];
  }
