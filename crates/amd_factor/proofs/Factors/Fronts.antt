-- Columns in the first numbers of a list: one more of them, all of them, and one for which there is no room.
use Rattle.std.proofs.Common.{ℕ, ℤ, zero, suc, ◌≡◌, ◌<◌, ◌≤◌, ◌+◌, ◌-◌, inl, refl, sym, ◌∙◌, ap, subst, arith, List, map, length, take}
use Rattle.std.proofs.Common.{◌++◌, pos, take_all, drop}
use Rattle.std.specs.Prelude.{slice_index, slice_range, Option}
use Rattle.std.specs.List.Sorted.{IsStrictlyIncreasing}
use Rattle.std.proofs.lemmas.List.{length-take-le, drop-drop, drop-map, map-append, take-append-drop}
use Rattle.std.proofs.lemmas.List.Elements.{Contains-get_or}
use Rattle.std.proofs.lemmas.List.Edits.{length-between}
use Rattle.amd_model.specs.Graph.{IsGraph}
use Rattle.amd_types.specs.Naturals.{naturals}
use Rattle.amd_factor.specs.Columns.{HoldFactor, PassesRoom}
use Rattle.amd_factor.specs.Gathering.{HoldBefore, TellFirst}
use Rattle.amd_factor.specs.Merging.{merged}
use Rattle.amd_factor.specs.Numbers.{FillsFront, Plans}
use Rattle.amd_factor.specs.Orders.{Order}
use Rattle.amd_factor.specs.declared.column.Marked.{Marked}
use Rattle.amd_factor.specs.declared.column.ColumnLists.{ColumnLists}
use Rattle.amd_factor.proofs.Factors.Merging.{merged_is}
use Rattle.amd_factor.proofs.Factors.PlaceNumbers.{counts_long}
use Rattle.amd_factor.proofs.Factors.Standing.{hold_factor, merged_column, passes_room}

-- a planned column does not fit
pub passes : (o : Order) → IsGraph o.graph → (k : ℕ) (ptr rows fresh : List ℕ) (from to room : ℕ) → k < length o.rows →
    HoldBefore o k ptr rows → Plans o k rows from to fresh → room < slice_index ptr k + (to - from + length fresh) →
    PassesRoom o.graph o.rows room
passes o laws k ptr rows fresh from to room low columns plans more =
    let part = slice_range rows from to in
    let range = plans.range in let long = length-between rows from to plans.within in
    let size = (merged_is part fresh).long in
    passes_room o laws k ptr rows columns (omega (arith, low)) (merged part fresh) room low
    (merged_column (record { order = o; place = k; inherited = part }) fresh plans.rising plans.completes)
    (omega (arith, more, long, size, range))

module _ {N : Type 0} (value : N → ℤ) (o : Order) where
  -- all columns
  pub front_all : IsGraph o.graph → (k : ℕ) (l : ColumnLists) (rows : List N) (marked : Marked) (mark : List ℕ) →
      FillsFront value o k l rows marked mark →
      k ≡ length o.rows → HoldFactor o.graph o.rows l.ptr.now (naturals (map value (take (slice_index l.ptr.now k) rows))) l.parent.now
  front_all laws k l rows marked mark f all =
      let ptr : List ℕ = l.ptr.now in let parent : List (Option ℕ) = l.parent.now in
      let xs : List ℕ = naturals (map value (take (slice_index ptr k) rows)) in
      let long : length xs ≡ slice_index ptr k = counts_long value (take (slice_index ptr k) rows) ∙
      length-take-le (slice_index ptr k) rows f.within in
      let whole : take (slice_index ptr (length o.rows)) xs ≡ xs =
      take_all (slice_index ptr (length o.rows)) xs (let same = ap (slice_index ptr) all in omega (arith, long, same)) in
      subst (λ ys. HoldFactor o.graph o.rows ptr ys parent) whole
      (hold_factor o laws ptr xs parent (subst (λ n. HoldBefore o n ptr xs) all f.filled.columns)
      (subst (λ n. TellFirst o n ptr xs parent) all f.filled.parents))

  module _ (laws : IsGraph o.graph) (k m : ℕ) (l : ColumnLists) (rows : List N) (marked : Marked) (mark : List ℕ)
      (f : FillsFront value o k l rows marked mark) (all : k ≡ length o.rows) (places : k ≡ m) where
    abbrev ptr : List ℕ
    ptr = l.ptr.now

    entries : List ℕ
    entries = naturals (map value (take (slice_index ptr k) rows))

    -- all of a list is written
    pub list_written : slice_index ptr k ≡ length rows → (slice_index ptr m ≡ length rows) × (xs : List ℕ) ×
        (map value rows ≡ map pos xs) × HoldFactor o.graph o.rows ptr xs l.parent.now
    unfolding entries
    list_written full =
        let whole : take (slice_index ptr k) rows ≡ rows = take_all (slice_index ptr k) rows (omega (arith, full)) in (
          ap (slice_index ptr) (sym places) ∙ full,
          entries,
          ap (map value) (sym whole) ∙ sym f.numbers,
          front_all laws k l rows marked mark f all,
        )

    -- the first numbers are written, and those behind them stayed
    pub front_written : (old : List N) → drop (slice_index ptr k) rows ≡ drop (slice_index ptr k) old → (xs : List ℕ) ×
        (slice_index ptr m ≡ length xs) × (map value rows ≡ map pos xs ++ drop (slice_index ptr m) (map value old)) ×
        HoldFactor o.graph o.rows ptr xs l.parent.now
    unfolding entries
    front_written old rest =
        let e : ℕ = slice_index ptr k in
        let long = counts_long value (take e rows) ∙ length-take-le e rows f.within in (
          entries,
          ap (slice_index ptr) (sym places) ∙ sym long,
          ap (map value) (sym (take-append-drop e rows)) ∙ map-append value (take e rows) (drop e rows)
              ∙ ap (λ zs. zs ++ map value (drop e rows)) (sym f.numbers)
              ∙ ap (λ zs. map pos entries ++ map value zs) rest
              ∙ ap (λ zs. map pos entries ++ zs) (sym (drop-map value e old))
              ∙ ap (λ n. map pos entries ++ drop (slice_index ptr n) (map value old)) places,
          front_all laws k l rows marked mark f all,
        )

-- a rising list of numbers below n has at most n
rising_short : (xs : List ℕ) (n : ℕ) → IsStrictlyIncreasing xs → ((i : ℕ) → i < length xs → slice_index xs i < n) → length xs ≤ n
rising_short xs n up low = go (length xs) refl
  where
    least : (i : ℕ) → i < length xs → i ≤ slice_index xs i
    least zero l = omega arith
    least (suc i) l = (let e : suc i ≡ i + 1 = omega arith in let a = least i (omega (arith, l)) in let b = up i (omega (arith, l)) in
        let same = ap (slice_index xs) e in omega (arith, a, b, same))

    go : (m : ℕ) → length xs ≡ m → length xs ≤ n
    go zero e = omega (arith, e)
    go (suc m) e = (let a = least m (omega (arith, e)) in let b = low m (omega (arith, e)) in omega (arith, a, b, e))

-- a column takes over at most as many rows as there are
pub taken_short : (o : Order) (k : ℕ) (rows fresh : List ℕ) (from to : ℕ) → Plans o k rows from to fresh → to - from ≤ length o.rows
taken_short o k rows fresh from to plans =
    let part = slice_range rows from to in
    let long = length-between rows from to plans.within in
    let most = rising_short part (length o.rows) plans.rising
    (λ i l. ((plans.completes.members (slice_index part i)).0 (inl (Contains-get_or part i 0 l))).1) in
    omega (arith, long, most)

-- what is alike from a place on is alike from each later one
pub drop_further : {N : Type 0} (a b : ℕ) (xs ys : List N) → a ≤ b → drop a xs ≡ drop a ys → drop b xs ≡ drop b ys
drop_further a b xs ys l same =
    let e : a + (b - a) ≡ b = omega (arith, l) in
    ap (λ n. drop n xs) (sym e) ∙ sym (drop-drop (b - a) a xs) ∙ ap (drop (b - a)) same ∙ drop-drop (b - a) a ys ∙ ap (λ n. drop n ys) e

-- a count that has come to its end
pub at_end : (k m n : ℕ) → m ≤ k → k ≤ m → m ≡ n → k ≡ n
at_end k m n low most is = omega (arith, low, most, is)
