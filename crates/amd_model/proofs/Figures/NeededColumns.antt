-- What the columns under a listing need is no more than the figures of the run.
-- The column of a row lies in the later rows of its block, on its border and in the dense rows, and the rows of a block have
-- each number of later ones once.
use Rattle.std.proofs.Common.{ℕ, suc, Bool, true, false, ◌≡◌, ◌<◌, ◌≤◌, ◌+◌, ◌-◌, ◌*◌, ◌||◌, max, cond, inl, inr, refl, sym, ◌∙◌, ap, subst}
use Rattle.std.proofs.Common.{arith, List, [], ◌∷◌, ◌++◌, length, slice_index, slice_index_or, count_by, get_or-append-add, append_assoc}
use Rattle.std.proofs.Common.{length-append, mul-le-mul, lt-ltb}
use Rattle.std.specs.Prelude.{nat_lt}
use Rattle.std.proofs.Math.Seq.{get_or-append_seam}
use Rattle.std.proofs.lemmas.Bool.{cases_Bool, cases_eq, false≢true, and_from, or_left, or_right, cond-true, cond-false}
use Rattle.std.proofs.lemmas.List.Sums.{sum_by-cons}
use Rattle.std.proofs.lemmas.List.Elements.{Contains-get_or}
use Rattle.amd_model.specs.Below.{sum_below, count_below, list_below}
use Rattle.amd_model.specs.Graph.{Graph, degree}
use Rattle.amd_model.specs.State.{State, Home, Last, Live, Gone, in_block, is_element}
use Rattle.amd_model.specs.Run.{last_state}
use Rattle.amd_model.specs.Reach.{Reach}
use Rattle.amd_model.specs.Listing.{IsPostorder, ListsEachRow}
use Rattle.amd_model.specs.Factor.{before, IsColumn, IsFactor, needed, needed_front}
use Rattle.amd_model.specs.Figures.{front_sum, is_made, figure, entries, ldl_steps, lu_steps, greatest_front}
use Rattle.amd_model.specs.Laws.{is_last, ColumnsInside, EmptyColumns, Covers, OfEachListing}
use Rattle.amd_model.proofs.Counting.Below.{count_mono, sum_mono, clash}
use Rattle.amd_model.proofs.States.Words.{live_from, block_from}
use Rattle.amd_model.proofs.Listings.Words.{has_tail, has_right, has_mid, split_append, has_below, roots_level, listed_from}
use Rattle.amd_model.proofs.Counting.Places.{has_place}
use Rattle.amd_model.proofs.States.EndState.{IsEnd, at_the_end}
use Rattle.amd_model.proofs.States.EmptyRows.{IsBusy, busy_at_the_end}
use Rattle.amd_model.proofs.Listings.ListedOnce.{listings_are_permutations}
use Rattle.amd_model.proofs.Listings.ColumnsInside.{columns_inside, empty_columns}
use Rattle.amd_model.proofs.Listings.ReachTest.{columns, factor_of}
use Rattle.amd_model.proofs.Figures.FrontSums.{sum_more, front_grows, front_more, max_term, max_base}
use Rattle.amd_model.proofs.Counting.Lists.{count_here, count_later, count_right, count_either, count_permuted, rising_bound, rising_pairs}
use Rattle.amd_model.specs.Quotient.{has}

-- each column is no longer than the bound at its row and the rows after it
pub data EachWithin (most : ℕ → List ℕ → ℕ) : List (List ℕ) → List ℕ → Type 0 where
  none : EachWithin most [] []
  more : {column : List ℕ} {columns : List (List ℕ)} {v : ℕ} {rest : List ℕ} → length column ≤ most v rest → EachWithin most columns rest →
      EachWithin most (column ∷ columns) (v ∷ rest)

last_gives : (h : Home) → is_last h ≡ true → h ≡ Last
unfolding is_last
last_gives Last e = refl
last_gives (Live c) e = absurd (false≢true e)
last_gives (Gone c) e = absurd (false≢true e)

last_from : (h : Home) → h ≡ Last → is_last h ≡ true
unfolding is_last
last_from h e = rw e refl

-- a later place is one of the rest
later_row : (ps rest : List ℕ) (v j : ℕ) → length ps < j → j < length (ps ++ v ∷ rest) → (i : ℕ) × (j ≡ suc (length ps) + i)
    × (i < length rest) × (slice_index (ps ++ v ∷ rest) j ≡ slice_index rest i)
later_row ps rest v j l w =
    let i : ℕ = j - suc (length ps) in
    let is : j ≡ suc (length ps) + i = omega arith in
    let at : j ≡ length ps + suc i = omega arith in
    let long = length-append ps (v ∷ rest) in
    (i, is, omega (arith, long, w, is), ap (slice_index (ps ++ v ∷ rest)) at ∙ get_or-append-add ps (v ∷ rest) (suc i) 0)

module _ (g : Graph) (dense : ℕ → Bool) (s : State) (end : IsEnd g dense s) (busy : IsBusy g s) (p : List ℕ)
    (post : IsPostorder g dense s p)
    (inside : ColumnsInside g s p) (empty : EmptyColumns g p) (permutes : ListsEachRow g.size p) where
  dense_count : ℕ
  dense_count = count_below g.size dense

  held : ℕ → Bool
  held v = is_last (s.home v)

  held_from : (w : ℕ) → s.home w ≡ Last → held w ≡ true
  unfolding held
  held_from w h = last_from (s.home w) h

  -- the most entries that the column of a row can have, with the rows after it
  most_at : Home → List ℕ → ℕ
  most_at Last rest = count_by held rest
  most_at (Live c) rest = 0
  most_at (Gone e) rest = cond (is_made g s e) (count_by (in_block s e) rest + (count_below g.size (s.border e) + dense_count)) 0

  most : ℕ → List ℕ → ℕ
  most v rest = most_at (s.home v) rest

  most_is : (v : ℕ) (rest : List ℕ) (h : Home) → s.home v ≡ h → most v rest ≡ most_at h rest
  unfolding most
  most_is v rest h q = ap (λ k. most_at k rest) q

  most_last : (rest : List ℕ) → most_at Last rest ≡ count_by held rest
  unfolding most_at
  most_last rest = refl

  most_made : (e : ℕ) (rest : List ℕ) → is_made g s e ≡ true →
      most_at (Gone e) rest ≡ count_by (in_block s e) rest + (count_below g.size (s.border e) + dense_count)
  unfolding most_at
  most_made e rest h = cond-true (is_made g s e) _ 0 h

  most_unmade : (e : ℕ) (rest : List ℕ) → is_made g s e ≡ false → most_at (Gone e) rest ≡ 0
  unfolding most_at
  most_unmade e rest h = cond-false (is_made g s e) _ 0 h

  held_few : count_below g.size held ≤ dense_count
  unfolding held dense_count
  held_few = count_mono g.size held dense (λ v l h. end.made.last_dense v l (last_gives (s.home v) h))

  -- an element that was not made is an empty row
  unmade_empty : (v e : ℕ) → s.home v ≡ Gone e → is_made g s e ≡ false → degree g v ≡ 0
  unfolding is_made
  unmade_empty v e h n = elim (cases_eq (degree g e) 0) [
    | inl z ↦ busy.empty v e h z
    | inr some ↦ clash (and_from (is_element s e) (nat_lt 0 (degree g e)) (block_from e (s.home e) (end.made.tree.named v e h))
        (lt-ltb 0 (degree g e) (omega arith))) n
  ]

  -- the rows after a dense one are dense
  rest_held : (ps rest : List ℕ) (v : ℕ) → p ≡ ps ++ v ∷ rest → s.home v ≡ Last → (i : ℕ) → i < length rest →
      held (slice_index rest i) ≡ true
  unfolding held
  rest_held ps rest v q h i l = elim (split_append post.blocks (list_below g.size dense) ps rest v (sym post.is ∙ q)) [
    | inl r ↦ absurd (let k = listed_from g s end.made.tree end.made.sound.rows (roots_level g s end.made.tree end.made.sound.rows)
        post.lists v (has_mid v post.blocks ps r.0 r.1) in
        let gone = k.3 in cc)
    | inr r ↦ (let u : ℕ = slice_index rest i in
        let k = has_below g.size dense u
        (subst (λ xs. has xs u ≡ true) (sym r.2) (has_right u r.0 (v ∷ rest) (has_tail u v rest (has_place rest i l)))) in
        last_from (s.home u) (end.made.dense_last u k.0 k.1))
  ]

  rest_few : (t : ℕ → Bool) (ps rest : List ℕ) (v : ℕ) → p ≡ ps ++ v ∷ rest → count_by t (v ∷ rest) ≤ count_below g.size t
  rest_few t ps rest v q = let a = count_right t ps (v ∷ rest) in let b = count_permuted g.size t p permutes in let e = ap (count_by t) q in
      omega (arith, a, b, e)

  module _ (ps rest : List ℕ) (v : ℕ) (q : p ≡ ps ++ v ∷ rest) (column : List ℕ) (is : IsColumn g p (length ps) column) where
    here : slice_index p (length ps) ≡ v
    here = ap (λ xs. slice_index xs (length ps)) q ∙ get_or-append_seam ps v rest 0

    -- a column whose rows all pass a test is no longer than the number of later rows that pass
    passing : (t : ℕ → Bool) → ((j i : ℕ) → length ps < j → j < length p → i < length rest → slice_index p j ≡ slice_index rest i →
        Reach g (before p (length ps)) (slice_index p (length ps)) (slice_index p j) → t (slice_index rest i) ≡ true) →
        length column ≤ count_by t rest
    passing t f = rising_bound t rest (suc (length ps)) column (rising_pairs column is.rising) (λ m l.
        let j : ℕ = slice_index column m in
        let c = (is.members j).0 (Contains-get_or column m 0 l) in
        let r = later_row ps rest v j c.0 (subst (λ xs. j < length xs) q c.1) in
        record { place = r.0; is = r.1; within = r.2; passes = f j r.0 c.0 c.1 r.2 (ap (λ xs. slice_index xs j) q ∙ r.3) c.2 })

    column_most : length column ≤ most v rest
    column_most = go (s.home v) refl
      where
        of_block : (e : ℕ) → s.home v ≡ Gone e → is_made g s e ≡ true → length column ≤ most v rest
        of_block e h y =
            let t : ℕ → Bool = λ w. in_block s e w || (s.border e w || held w) in
            let all = passing t (λ j i k l w same r. subst (λ u. t u ≡ true) same
            (elim (inside (length ps) j e k l (ap s.home here ∙ h) r) [
              | inl b ↦ or_left (in_block s e (slice_index p j)) _ (block_from e (s.home (slice_index p j)) b)
              | inr o ↦ or_right (in_block s e (slice_index p j)) _ (elim o [
                | inl b ↦ or_left (s.border e (slice_index p j)) _ b
                | inr b ↦ or_right (s.border e (slice_index p j)) _ (held_from (slice_index p j) b)
              ])
            ])) in
            let a = count_either (in_block s e) (λ w. s.border e w || held w) rest in
            let b = count_either (s.border e) held rest in
            let c = count_later (s.border e) v rest in let d = rest_few (s.border e) ps rest v q in
            let x = count_later held v rest in let z = rest_few held ps rest v q in let few = held_few in
            let is = most_is v rest (Gone e) h in let m = most_made e rest y in
            omega (arith, all, a, b, c, d, x, z, few, is, m)

        go : (h : Home) → s.home v ≡ h → length column ≤ most v rest
        go Last h = let all = passing held (λ j i k l w same r. rest_held ps rest v q h i w) in let is = most_is v rest Last h in
            let m = most_last rest in omega (arith, all, is, m)
        go (Live c) h = clash (live_from c (s.home v) h) (end.over v)
        go (Gone e) h = elim (cases_Bool (is_made g s e)) [
          | inl y ↦ of_block e h y
          | inr n ↦ (let all = passing (λ w. false) (λ j i k l w same r.
              absurd (empty (length ps) (slice_index p j) (ap (degree g) here ∙ unmade_empty v e h n) r)) in
              let none = no_pass rest in omega (arith, all, none))
        ]
          where
            no_pass : (xs : List ℕ) → count_by (λ w. false) xs ≤ 0
            no_pass [] = omega arith
            no_pass (x ∷ xs) = no_pass xs

  all_within : (bs : List ℕ) (cs : List (List ℕ)) (ps : List ℕ) → p ≡ ps ++ bs → length cs ≡ length bs →
      ((i : ℕ) (d : List ℕ) → i < length bs → IsColumn g p (length ps + i) (slice_index_or cs i d)) → EachWithin most cs bs
  all_within [] [] ps q n h = none
  all_within [] (c ∷ cs) ps q n h = absurd (omega arith)
  all_within (v ∷ bs) [] ps q n h = absurd (omega arith)
  all_within (v ∷ bs) (c ∷ cs) ps q n h =
      let one : length ps + 0 ≡ length ps = omega arith in
      let long = length-append ps (v ∷ []) in
      more (column_most ps bs v q c (subst (λ k. IsColumn g p k c) one (h 0 c (omega arith))))
      (all_within bs cs (ps ++ v ∷ []) (q ∙ sym (append_assoc ps (v ∷ []) bs)) (omega arith) (λ i d l.
      let at : length ps + suc i ≡ length (ps ++ v ∷ []) + i = omega (arith, long) in
      subst (λ k. IsColumn g p k (slice_index_or cs i d)) at (h (suc i) d (omega arith))))

  -- the sum over the fronts, with the rows of a part of the listing alone
  part_share : (ℕ → ℕ) → List ℕ → ℕ → ℕ
  part_share share bs e =
      cond (is_made g s e) (front_sum share (count_by (in_block s e) bs) (count_below g.size (s.border e) + dense_count)) 0

  part_sum : (ℕ → ℕ) → List ℕ → ℕ
  part_sum share bs = sum_below g.size (part_share share bs) + front_sum share (count_by held bs) 0

  made_share : (share : ℕ → ℕ) (bs : List ℕ) (e : ℕ) → is_made g s e ≡ true →
      part_share share bs e ≡ front_sum share (count_by (in_block s e) bs) (count_below g.size (s.border e) + dense_count)
  unfolding part_share
  made_share share bs e y = cond-true (is_made g s e) _ 0 y

  unmade_share : (share : ℕ → ℕ) (bs : List ℕ) (e : ℕ) → is_made g s e ≡ false → part_share share bs e ≡ 0
  unfolding part_share
  unmade_share share bs e n = cond-false (is_made g s e) _ 0 n

  share_grows : (share : ℕ → ℕ) (v : ℕ) (rest : List ℕ) (e : ℕ) → part_share share rest e ≤ part_share share (v ∷ rest) e
  share_grows share v rest e = elim (cases_Bool (is_made g s e)) [
    | inl y ↦ (let a = made_share share rest e y in let b = made_share share (v ∷ rest) e y in
        let c = front_grows share (count_by (in_block s e) rest) (count_by (in_block s e) (v ∷ rest))
        (count_below g.size (s.border e) + dense_count) (count_later (in_block s e) v rest) in omega (arith, a, b, c))
    | inr n ↦ (let a = unmade_share share rest e n in omega (arith, a))
  ]

  -- one row more
  row_share : (share : ℕ → ℕ) → share 0 ≡ 0 → (v : ℕ) (rest : List ℕ) →
      share (most v rest) + part_sum share rest ≤ part_sum share (v ∷ rest)
  unfolding part_sum
  row_share share zero_share v rest = go (s.home v) refl
    where
      sums : sum_below g.size (part_share share rest) ≤ sum_below g.size (part_share share (v ∷ rest))
      sums = sum_mono g.size (part_share share rest) (part_share share (v ∷ rest)) (λ e l. share_grows share v rest e)

      dense_sums : front_sum share (count_by held rest) 0 ≤ front_sum share (count_by held (v ∷ rest)) 0
      dense_sums = front_grows share (count_by held rest) (count_by held (v ∷ rest)) 0 (count_later held v rest)

      go : (h : Home) → s.home v ≡ h → share (most v rest) + part_sum share rest ≤ part_sum share (v ∷ rest)
      go Last h =
          let is : share (most v rest) ≡ share (0 + count_by held rest) =
          ap share (let a = most_is v rest Last h in let b = most_last rest in omega (arith, a, b)) in
          let c = ap (λ k. front_sum share k 0) (count_here held v rest (held_from v h)) in
          let d = front_more share (count_by held rest) 0 in
          let a = sums in omega (arith, is, c, d, a)
      go (Live c) h = clash (live_from c (s.home v) h) (end.over v)
      go (Gone e) h = elim (cases_Bool (is_made g s e)) [
        | inl y ↦ (let r : ℕ = count_below g.size (s.border e) + dense_count in let f : ℕ = count_by (in_block s e) rest in
            let is : share (most v rest) ≡ share (r + f) = ap share (let a = most_is v rest (Gone e) h in let b = most_made e rest y in
            omega (arith, a, b)) in
            let c : front_sum share (count_by (in_block s e) (v ∷ rest)) r ≡ front_sum share (suc f) r =
            ap (λ k. front_sum share k r) (count_here (in_block s e) v rest (block_from e (s.home v) h)) in
            let d : front_sum share (suc f) r ≡ share (r + f) + front_sum share f r = front_more share f r in
            let a = made_share share rest e y in let b = made_share share (v ∷ rest) e y in
            let grown = sum_more g.size (part_share share rest) (part_share share (v ∷ rest)) e (share (most v rest))
            (end.small e e (end.made.tree.named v e h)) (λ k l. share_grows share v rest k) (omega (arith, is, c, d, a, b)) in
            let z = dense_sums in omega (arith, grown, z))
        | inr n ↦ (let is : share (most v rest) ≡ 0 = ap share (let a = most_is v rest (Gone e) h in let b = most_unmade e rest n in
            omega (arith, a, b)) ∙ zero_share in
            let a = sums in let b = dense_sums in omega (arith, is, a, b))
      ]

  needed_within : (share : ℕ → ℕ) → share 0 ≡ 0 → ((a b : ℕ) → a ≤ b → share a ≤ share b) → {cs : List (List ℕ)} {bs : List ℕ} →
      EachWithin most cs bs → needed share cs ≤ part_sum share bs
  needed_within share zero_share rises none = omega arith
  needed_within share zero_share rises (more {column} {columns = cs} {v} {rest} l r) =
      let a = sum_by-cons (λ c. share (length c)) column cs in
      let b = rises (length column) (most v rest) l in
      let c = row_share share zero_share v rest in
      let d = needed_within share zero_share rises r in omega (arith, a, b, c, d)

  -- the whole listing has no more rows of a block than there are
  part_figure : (share : ℕ → ℕ) → part_sum share p ≤ figure share g dense s
  unfolding part_sum figure part_share dense_count
  part_figure share =
      let a = sum_mono g.size (part_share share p)
      (λ e. cond (is_made g s e) (front_sum share (count_below g.size (in_block s e)) (count_below g.size (s.border e) + dense_count)) 0)
      (λ e l. each e (is_made g s e)) in
      let b = front_grows share (count_by held p) dense_count 0 (let x = count_permuted g.size held p permutes in let z = held_few in
      omega (arith, x, z)) in omega (arith, a, b)
    where
      each : (e : ℕ) (m : Bool) → cond m (front_sum share (count_by (in_block s e) p) (count_below g.size (s.border e) + dense_count)) 0 ≤
          cond m (front_sum share (count_below g.size (in_block s e)) (count_below g.size (s.border e) + dense_count)) 0
      each e true = front_grows share (count_by (in_block s e) p) (count_below g.size (in_block s e))
          (count_below g.size (s.border e) + dense_count) (count_permuted g.size (in_block s e) p permutes)
      each e false = omega arith

  row_front : (ps rest : List ℕ) (v : ℕ) → p ≡ ps ++ v ∷ rest → most v rest + 1 ≤ greatest_front g dense s
  unfolding greatest_front dense_count
  row_front ps rest v q = go (s.home v) refl
    where
      rows : ℕ → ℕ
      rows e = count_below g.size (in_block s e) + (count_below g.size (s.border e) + dense_count)

      base : max 1 dense_count ≤ greatest_front g dense s
      base = max_base g.size (is_made g s)
          (λ e. count_below g.size (in_block s e) + (count_below g.size (s.border e) + count_below g.size dense)) (max 1 dense_count)

      go : (h : Home) → s.home v ≡ h → most v rest + 1 ≤ greatest_front g dense s
      go Last h = let a = most_is v rest Last h in let b = most_last rest in let c = count_here held v rest (held_from v h) in
          let d = rest_few held ps rest v q in let e = held_few in
          let f = base in omega (arith, a, b, c, d, e, f)
      go (Live c) h = clash (live_from c (s.home v) h) (end.over v)
      go (Gone e) h = elim (cases_Bool (is_made g s e)) [
        | inl y ↦ (let a = most_is v rest (Gone e) h in let b = most_made e rest y in
            let c = count_here (in_block s e) v rest (block_from e (s.home v) h) in let d = rest_few (in_block s e) ps rest v q in
            let t = max_term g.size (is_made g s)
            (λ e. count_below g.size (in_block s e) + (count_below g.size (s.border e) + count_below g.size dense)) (max 1 dense_count) e
            (end.small e e (end.made.tree.named v e h)) y in
            omega (arith, a, b, c, d, t))
        | inr n ↦ (let a = most_is v rest (Gone e) h in let b = most_unmade e rest n in let f = base in omega (arith, a, b, f))
      ]

  front_within : (ps : List ℕ) {cs : List (List ℕ)} {bs : List ℕ} → p ≡ ps ++ bs → EachWithin most cs bs →
      needed_front cs ≤ greatest_front g dense s
  unfolding needed_front
  front_within ps q none = omega arith
  front_within ps q (more {column} {columns = cs} {v} {rest} l r) =
      let a = row_front ps rest v q in
      let b = front_within (ps ++ v ∷ []) (q ∙ sym (append_assoc ps (v ∷ []) rest)) r in omega (arith, l, a, b)

  -- any columns of the factor need no more than the figures
  factor_within : (cs : List (List ℕ)) → IsFactor g p cs → EachWithin most cs p
  factor_within cs is = all_within p cs [] refl is.places (λ i d l. let e : i ≡ length {A = ℕ} [] + i = omega arith in
      subst (λ k. IsColumn g p k (slice_index_or cs i d)) e (is.each i d l))

  needed_figure : (share : ℕ → ℕ) → share 0 ≡ 0 → ((a b : ℕ) → a ≤ b → share a ≤ share b) → (cs : List (List ℕ)) → IsFactor g p cs →
      needed share cs ≤ figure share g dense s
  needed_figure share zero_share rises cs is = let a = needed_within share zero_share rises (factor_within cs is) in
      let b = part_figure share in omega (arith, a, b)

  needed_greatest : (cs : List (List ℕ)) → IsFactor g p cs → needed_front cs ≤ greatest_front g dense s
  needed_greatest cs is = front_within [] refl (factor_within cs is)

entries_rise : (a b : ℕ) → a ≤ b → entries a ≤ entries b
unfolding entries
entries_rise a b l = l

lu_rise : (a b : ℕ) → a ≤ b → lu_steps a ≤ lu_steps b
unfolding lu_steps
lu_rise a b l = mul-le-mul l l

ldl_rise : (a b : ℕ) → a ≤ b → ldl_steps a ≤ ldl_steps b
unfolding ldl_steps
ldl_rise a b l = let m : a + 1 ≤ b + 1 = omega arith in let p : a * (a + 1) ≤ b * (b + 1) = mul-le-mul l m in omega (arith, p)

entries_zero : entries 0 ≡ 0
unfolding entries
entries_zero = refl

ldl_zero : ldl_steps 0 ≡ 0
unfolding ldl_steps
ldl_zero = refl

lu_zero : lu_steps 0 ≡ 0
unfolding lu_steps
lu_zero = refl

pub figures_cover : OfEachListing Covers
figures_cover g dense aggressive first states laws run p post =
    let s : State = last_state first states in
    let end : IsEnd g dense s = at_the_end g dense aggressive first states laws run in
    let busy : IsBusy g s = busy_at_the_end g laws dense aggressive first states run.start run.steps in
    let inside : ColumnsInside g s p = columns_inside g dense aggressive first states laws run p post in
    let empty : EmptyColumns g p = empty_columns g dense aggressive first states laws run p post in
    let permutes : ListsEachRow g.size p = listings_are_permutations g dense aggressive first states laws run p post in
    let factor : IsFactor g p (columns g p) = factor_of g p laws in
    record {
      columns = columns g p;
      factor = factor;
      entries_need = needed_figure g dense s end busy p post inside empty permutes entries entries_zero entries_rise (columns g p) factor;
      ldl_need = needed_figure g dense s end busy p post inside empty permutes ldl_steps ldl_zero ldl_rise (columns g p) factor;
      lu_need = needed_figure g dense s end busy p post inside empty permutes lu_steps lu_zero lu_rise (columns g p) factor;
      front_need = needed_greatest g dense s end busy p post inside empty permutes (columns g p) factor;
    }
