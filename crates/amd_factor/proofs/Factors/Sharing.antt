-- Columns that share entries: one with nothing new, one that is written behind all others, and one more of them.
use Rattle.std.proofs.Common.{ℕ, ℤ, ◌≡◌, ◌≢◌, ◌<◌, ◌≤◌, ◌+◌, ◌-◌, ◌++◌, inl, inr, refl, sym, ◌∙◌, ap, subst, arith, List, map, length}
use Rattle.std.proofs.Common.{pos, set, take, take_all, drop, [], ◌∷◌, zero, suc, append-nil, get_or-take}
use Rattle.std.specs.Prelude.{slice_index, slice_index_or, slice_range, Option, None, Some}
use Rattle.std.specs.List.Sorted.{IsStrictlyIncreasing}
use Rattle.std.proofs.lemmas.Bool.{cases_eq}
use Rattle.std.proofs.lemmas.List.{
  append_assoc,
  drop-append-le,
  get_or-drop,
  get_or-map,
  get_or-set_other,
  get_or-set_same,
  get_or_default,
  length-append,
  length-map,
  length-set,
  length-take,
  same_lists,
  take-append-le,
  take-take,
  take_at,
}
use Rattle.std.proofs.lemmas.List.Edits.{length-between}
use Rattle.std.proofs.lemmas.List.Elements.{Contains-get_or}
use Rattle.std.proofs.lemmas.Slice.{between_is}
use Rattle.amd_model.specs.Factor.{IsColumn, IsFactor}
use Rattle.amd_model.specs.Graph.{IsGraph}
use Rattle.amd_model.proofs.Listings.ReachTest.{columns, factor_of}
use Rattle.amd_types.specs.Naturals.{naturals}
use Rattle.amd_factor.specs.Columns.{first_of}
use Rattle.amd_factor.specs.Gathering.{LinkChildren, StandAt}
use Rattle.amd_factor.specs.Merging.{merged}
use Rattle.amd_factor.specs.Numbers.{AreNonNegative, Plans}
use Rattle.amd_factor.specs.Orders.{Order}
use Rattle.amd_factor.specs.Sharing.{Follows, HasColumnPlaces, KeepsColumns, Share, StandsFrom, TellFirsts}
use Rattle.amd_factor.specs.Sizes.{HoldSizes}
use Rattle.amd_factor.specs.Trees.{IsParent}
use Rattle.amd_factor.specs.declared.sharing.SharedLists.{SharedLists}
use Rattle.amd_factor.proofs.Trees.Descent.{last_later}
use Rattle.amd_factor.proofs.Trees.FactorOnce.{column_once}
use Rattle.amd_factor.proofs.Factors.Merging.{merged_append, merged_is, merged_none}
use Rattle.amd_factor.proofs.Factors.PlaceNumbers.{are_append, counts_append, counts_long, counts_take}
use Rattle.amd_factor.proofs.Factors.Standing.{merged_column}
use Rattle.amd_factor.proofs.Factors.Tails.{range_last, range_same}

-- the first numbers of a list that was made longer
pub same_front : {N : Type 0} (used : ℕ) (rows longer done : List N) → used ≤ length rows → take (length rows) longer ≡ rows →
    done ≡ take used longer → done ≡ take used rows
same_front used rows longer done low kept is = is ∙ sym (take-take used (length rows) longer low) ∙ ap (take used) kept

-- two lists, in front of all that follows them
pub written_front : {N : Type 0} (n most : ℕ) (xs ys rest behind : List N) → n ≡ length xs + length ys → n ≤ most →
    take n (take most (xs ++ (ys ++ rest) ++ behind)) ≡ xs ++ ys
written_front n most xs ys rest behind e low =
    let both : n ≡ length (xs ++ ys) = (let l = length-append xs ys in omega (arith, l, e)) in
    take-take n most (xs ++ (ys ++ rest) ++ behind) low ∙ ap (λ zs. take n (zs ++ behind)) (sym (append_assoc xs ys rest))
    ∙ take-append-le n (xs ++ ys ++ rest) behind (let l = length-append (xs ++ ys) rest in omega (arith, l, both))
    ∙ take_at (xs ++ ys) rest n (sym both)

module _ {N : Type 0} (value : N → ℤ) (o : Order) (k : ℕ) (rows : List N) (from to : ℕ) (fresh : List ℕ)
    (plans : Plans o k (naturals (map value rows)) from to fresh) where
  -- a column with nothing new stands where that stands which it takes over
  pub stands_shared : length fresh ≡ 0 → StandsFrom value o k from to rows
  stands_shared none = record {
    range = plans.range;
    within = (let w = plans.within in let n = counts_long value rows in omega (arith, w, n));
    column = record {
      rising = plans.rising;
      members = λ j. (
        (λ x. (plans.completes.members j).0 (inl x)),
        (λ e. elim ((plans.completes.members j).1 e) [
          | inl x ↦ x
          | inr x ↦ absurd (let l = x.1 in omega (arith, l, none))
        ]),
      );
    };
  }

  -- how many entries a planned column has
  pub planned_long : length (merged (slice_range (naturals (map value rows)) from to) fresh) ≡ to - from + length fresh
  planned_long =
      let part = length-between (naturals (map value rows)) from to plans.within in
      let m = (merged_is (slice_range (naturals (map value rows)) from to) fresh).long in omega (arith, part, m)

  module _ (out : List N) (written : map value out ≡ map pos (merged (slice_range (naturals (map value rows)) from to) fresh)) where
    -- another one stands behind all rows, where it is written
    pub stands_behind : StandsFrom value o k (length rows) (length rows + (to - from + length fresh)) (rows ++ out)
    stands_behind =
        let old : List ℕ = naturals (map value rows) in let column : List ℕ = merged (slice_range old from to) fresh in
        let new : List ℕ = naturals (map value (rows ++ out)) in
        let is : new ≡ old ++ column = counts_append value rows out column written in
        let all = ap length is in let sum = length-append old column in let long = planned_long in
        let n = counts_long value rows in let m = counts_long value (rows ++ out) in record {
          range = omega arith;
          within = omega (arith, all, sum, long, n, m);
          column = subst (IsColumn o.graph o.rows k)
              (sym (range_last old column new (length rows) _ is (sym n) (omega (arith, all, sum, long, n))))
              (merged_column (record { order = o; place = k; inherited = slice_range old from to }) fresh plans.rising plans.completes);
        }

    pub numbers_behind : AreNonNegative (map value rows) → AreNonNegative (map value (rows ++ out))
    numbers_behind numbers = are_append value rows out (merged (slice_range (naturals (map value rows)) from to) fresh) numbers written

-- what is in a part of a list
module _ (rows : List ℕ) (from to : ℕ) (within : to ≤ length rows) where
  part_at : (k : ℕ) → from + k < to → slice_index (slice_range rows from to) k ≡ slice_index rows (from + k)
  part_at k l = ap (λ xs. slice_index xs k) (between_is rows from to) ∙ get_or-drop from (take to rows) k 0 ∙
      get_or-take to rows (from + k) 0 l

  -- a part that rises, rises up to its last number
  up_to : IsStrictlyIncreasing (slice_range rows from to) → (n k : ℕ) → from + k + n + 1 ≡ to →
      slice_index (slice_range rows from to) k ≤ slice_index rows (to - 1)
  up_to rising zero k e =
      let is = part_at k (omega (arith, e)) in let last : from + k ≡ to - 1 = omega (arith, e) in
      let same = ap (slice_index rows) last in omega (arith, is, same)
  up_to rising (suc n) k e =
      let next = up_to rising n (k + 1) (omega (arith, e)) in let long = length-between rows from to within in
      let up = rising k (omega (arith, e, long)) in omega (arith, next, up)

-- the last row that a column takes over is one of the order
pub last_row : (o : Order) (k : ℕ) (rows : List ℕ) (from to : ℕ) (fresh : List ℕ) → Plans o k rows from to fresh → from < to →
    slice_index rows (to - 1) < length o.rows
last_row o k rows from to fresh plans some =
    let part = slice_range rows from to in let at = to - 1 - from in
    let long = length-between rows from to plans.within in
    let entry = (plans.completes.members (slice_index part at)).0 (inl (Contains-get_or part at 0 (omega (arith, long, some)))) in
    let is = part_at rows from to plans.within at (omega (arith, some)) in
    let place : from + at ≡ to - 1 = omega (arith, some) in let same = ap (slice_index rows) place in
    let low = entry.1 in omega (arith, is, same, low)

-- a part without places is empty
pub no_part : (xs : List ℕ) (i j : ℕ) → i ≡ j → slice_range xs i j ≡ []
no_part xs i j e = let none : j - i ≡ 0 = omega (arith, e) in ap (λ n. take n (drop i xs)) none

-- a rising part, whose last number is less than the first of other ones, merged with these
part_merged : (rows : List ℕ) (from to : ℕ) (fresh : List ℕ) → to ≤ length rows → IsStrictlyIncreasing (slice_range rows from to) →
    (from < to → slice_index rows (to - 1) < slice_index fresh 0) →
    merged (slice_range rows from to) fresh ≡ slice_range rows from to ++ fresh
part_merged rows from to fresh within rising less = go fresh refl
  where
    part : List ℕ
    part = slice_range rows from to

    go : (ys : List ℕ) → fresh ≡ ys → merged part ys ≡ part ++ ys
    go [] e = merged_none part ∙ sym (append-nil part)
    go (y ∷ ys) e =
        let long = length-between rows from to within in let is = ap (λ xs. slice_index xs 0) e in merged_append part y ys
        (λ k l. let last = up_to rows from to within rising (to - from - k - 1) k (omega (arith, l, long)) in
        let low = less (omega (arith, l, long)) in omega (arith, last, low, is))

-- the end of a list, and what is appended to it
range_append : (rows fresh : List ℕ) (begin : ℕ) → begin ≤ length rows →
    slice_range (rows ++ fresh) begin (length rows + length fresh) ≡ slice_range rows begin (length rows) ++ fresh
range_append rows fresh begin range =
    let sum = length-append rows fresh in
    between_is (rows ++ fresh) begin (length rows + length fresh)
    ∙ ap (drop begin) (take_all (length rows + length fresh) (rows ++ fresh) (omega (arith, sum)))
    ∙ drop-append-le begin rows fresh range
    ∙ ap (λ xs. xs ++ fresh) (sym (between_is rows begin (length rows) ∙ ap (drop begin) (take_all (length rows) rows (omega arith))))

-- what is new in a planned column, appended to what it takes over, or alone behind all rows
module _ {N : Type 0} (value : N → ℤ) (o : Order) (k : ℕ) (rows : List N) (from to : ℕ) (fresh : List ℕ)
    (plans : Plans o k (naturals (map value rows)) from to fresh) (follows : Follows (naturals (map value rows)) from to fresh)
    (out : List N) (written : map value out ≡ map pos fresh) where
  old : List ℕ
  old = naturals (map value rows)

  -- what it takes over stands from a place on up to the end
  stands_so : (begin : ℕ) → begin ≤ length rows → slice_range old begin (length old) ≡ slice_range old from to →
      StandsFrom value o k begin (length rows + length fresh) (rows ++ out)
  unfolding old
  stands_so begin range taken =
      let is : naturals (map value (rows ++ out)) ≡ old ++ fresh = counts_append value rows out fresh written in
      let all = ap length is in let sum = length-append old fresh in
      let n = counts_long value rows in let m = counts_long value (rows ++ out) in record {
        range = omega (arith, range);
        within = omega (arith, all, sum, n, m);
        column = subst (IsColumn o.graph o.rows k)
            (sym (ap (λ xs. slice_range xs begin (length rows + length fresh)) is
            ∙ ap (λ b. slice_range (old ++ fresh) begin (b + length fresh)) (sym n)
            ∙ range_append old fresh begin (omega (arith, range, n))
            ∙ ap (λ xs. xs ++ fresh) taken
            ∙ sym (part_merged old from to fresh plans.within plans.rising follows.less)))
            (merged_column (record { order = o; place = k; inherited = slice_range old from to }) fresh plans.rising plans.completes);
      }

  pub stands_alone : from ≡ to → StandsFrom value o k (length rows) (length rows + length fresh) (rows ++ out)
  unfolding old
  stands_alone none =
      let n = counts_long value rows in
      stands_so (length rows) (omega arith) (no_part old (length rows) (length old) (sym n) ∙ sym (no_part old from to none))

  pub stands_appended : from ≢ to → StandsFrom value o k from (length rows + length fresh) (rows ++ out)
  unfolding old
  stands_appended some =
      let range = plans.range in let n = counts_long value rows in let last = follows.last (omega (arith, some, range)) in
      stands_so from (omega (arith, n, last, range)) (ap (slice_range old from) (sym last))

-- a place that has no parent is no child
pub links_later : (o : Order) (k : ℕ) (link : List (Option ℕ)) → ((q : ℕ) → IsParent o.graph o.rows k q → ⊥) →
    LinkChildren o k link → LinkChildren o (k + 1) link
links_later o k link never h = record {
  room = h.room;
  last = λ q low most. last_later o q k (slice_index_or link q None) (never q) (h.last q (omega (arith, low)) most);
  previous = λ m q low p. elim (cases_eq m k) [
    | inl e ↦ absurd (never q (subst (λ x. IsParent o.graph o.rows x q) e p))
    | inr ne ↦ h.previous m q (omega (arith, low, ne)) p
  ];
}

-- columns stand in a longer list as in its first part
module _ {A N : Type 0} (value : N → ℤ) (o : Order) (k : ℕ) (l : SharedLists A) (rows rows' : List N) (h : Share value o k l rows)
    (same : take (length rows) rows' ≡ rows) where
  begins_so : take (length rows) (naturals (map value rows')) ≡ naturals (map value rows)
  begins_so = sym (counts_take value (length rows) rows') ∙ ap (λ xs. naturals (map value xs)) same

  part_same : (m : ℕ) → m < k → slice_range (naturals (map value rows)) (slice_index l.starts.items m) (slice_index l.ends.items m) ≡
      slice_range (naturals (map value rows')) (slice_index l.starts.items m) (slice_index l.ends.items m)
  part_same m low =
      let starts = l.starts.items in let ends = l.ends.items in let w = h.stand.within m low in let n = counts_long value rows in
      range_same (naturals (map value rows)) (naturals (map value rows')) (length rows) (slice_index starts m) (slice_index ends m)
      (omega (arith, w, n)) (take_all (length rows) (naturals (map value rows)) (omega (arith, n)) ∙ sym begins_so)

  pub share_longer : AreNonNegative (map value rows') → Share value o k l rows'
  share_longer numbers = record {
    numbers = numbers;
    stand = record {
      begins = h.stand.begins;
      stops = h.stand.stops;
      range = h.stand.range;
      within = λ m low. (let w = h.stand.within m low in let n = counts_long value rows in let n' = counts_long value rows' in
          let e = ap length same in let t = length-take (length rows) rows' in omega (arith, w, n, n', e, t));
      each = λ m low. subst (IsColumn o.graph o.rows m) (part_same m low) (h.stand.each m low);
    };
    links = h.links;
  }

  pub firsts_longer : (firsts : List ℕ) → TellFirsts o k l.starts.items l.ends.items (naturals (map value rows)) firsts →
      TellFirsts o k l.starts.items l.ends.items (naturals (map value rows')) firsts
  firsts_longer firsts tell = record {
    room = tell.room;
    each = λ m low some. ap first_of (sym (part_same m low)) ∙ tell.each m low some;
  }

-- one column more stands
module _ (o : Order) (k begin end : ℕ) (starts ends rows : List ℕ) (h : StandAt o k starts ends rows)
    (low : k < length o.rows) (range : begin ≤ end) (within : end ≤ length rows)
    (column : IsColumn o.graph o.rows k (slice_range rows begin end)) where
  start_is : slice_index (set starts k begin) k ≡ begin
  start_is = get_or-set_same starts k begin 0 (let b = h.begins in omega (arith, b, low))

  end_is : slice_index (set ends k end) k ≡ end
  end_is = get_or-set_same ends k end 0 (let b = h.stops in omega (arith, b, low))

  start_same : (m : ℕ) → m ≢ k → slice_index (set starts k begin) m ≡ slice_index starts m
  start_same m ne = get_or-set_other starts k m begin 0 ne

  end_same : (m : ℕ) → m ≢ k → slice_index (set ends k end) m ≡ slice_index ends m
  end_same m ne = get_or-set_other ends k m end 0 ne

  -- the entries of that column, and those of another one
  part_is : slice_range rows begin end ≡ slice_range rows (slice_index (set starts k begin) k) (slice_index (set ends k end) k)
  part_is = rw (start_is, end_is) refl

  part_kept : (m : ℕ) → m ≢ k → slice_range rows (slice_index starts m) (slice_index ends m) ≡
      slice_range rows (slice_index (set starts k begin) m) (slice_index (set ends k end) m)
  part_kept m ne = rw (start_same m ne, end_same m ne) refl

  pub stand_next : StandAt o (k + 1) (set starts k begin) (set ends k end) rows
  stand_next = record {
    begins = (let b = h.begins in let l = length-set starts k begin in omega (arith, b, l));
    stops = (let b = h.stops in let l = length-set ends k end in omega (arith, b, l));
    range = λ m l. elim (cases_eq m k) [
      | inl q ↦ rw q (let s = start_is in let e = end_is in omega (arith, s, e, range))
      | inr ne ↦ (let s = start_same m ne in let e = end_same m ne in let r = h.range m (omega (arith, l, ne)) in omega (arith, s, e, r))
    ];
    within = λ m l. elim (cases_eq m k) [
      | inl q ↦ rw q (let e = end_is in omega (arith, e, within))
      | inr ne ↦ (let e = end_same m ne in let w = h.within m (omega (arith, l, ne)) in omega (arith, e, w))
    ];
    each = λ m l. elim (cases_eq m k) [
      | inl q ↦ rw q (subst (IsColumn o.graph o.rows k) part_is column)
      | inr ne ↦ subst (IsColumn o.graph o.rows m) (part_kept m ne) (h.each m (omega (arith, l, ne)))
    ];
  }

  -- and its first entry is told
  pub firsts_next : (firsts firsts' : List ℕ) → TellFirsts o k starts ends rows firsts → length firsts' ≡ length firsts →
      ((m : ℕ) → m < k → slice_index firsts' m ≡ slice_index firsts m) →
      (begin < end → first_of (slice_range rows begin end) ≡ Some (slice_index firsts' k)) →
      TellFirsts o (k + 1) (set starts k begin) (set ends k end) rows firsts'
  firsts_next firsts firsts' tell long kept is = record {
    room = (let r = tell.room in omega (arith, r, long));
    each = λ m l some. elim (cases_eq m k) [
      | inl q ↦ rw q (ap first_of (sym part_is)
          ∙ is (let s = start_is in let e = end_is in let b = (rw q at some) in omega (arith, s, e, b)))
      | inr ne ↦ (let s = start_same m ne in let e = end_same m ne in let low : m < k = omega (arith, l, ne) in
          ap first_of (sym (part_kept m ne)) ∙ tell.each m low (omega (arith, s, e, some)) ∙ ap Some (sym (kept m low)))
    ];
  }

-- they stand also where marks and new rows are others
pub share_kept : {A N : Type 0} (value : N → ℤ) (o : Order) (k : ℕ) (l l' : SharedLists A) (rows : List N) → KeepsColumns l l' →
    Share value o k l rows → Share value o k l' rows
share_kept value o k l l' rows (starts, ends, links) h = record {
  numbers = h.numbers;
  stand = rw (starts, ends) h.stand;
  links = rw links h.links;
}

pub places_kept : {A : Type 0} (o : Order) (l l' : SharedLists A) → KeepsColumns l l' → HasColumnPlaces o l →
    length l'.mark.items ≡ length o.rows → length l'.fresh.items ≡ length o.rows → HasColumnPlaces o l'
places_kept o l l' (starts, ends, links) h marks fresh = record {
  starts = ap length starts ∙ h.starts;
  ends = ap length ends ∙ h.ends;
  links = ap length links ∙ h.links;
  marks = marks;
  fresh = fresh;
}

-- all columns stand: how many entries each has, and the parents
module _ {A N : Type 0} (value : N → ℤ) (o : Order) (laws : IsGraph o.graph) (l : SharedLists A) (rows : List N)
    (h : Share value o (length o.rows) l rows) (firsts : List ℕ)
    (tell : TellFirsts o (length o.rows) l.starts.items l.ends.items (naturals (map value rows)) firsts) where
  cols : List (List ℕ)
  cols = columns o.graph o.rows

  factor : IsFactor o.graph o.rows cols
  unfolding cols
  factor = factor_of o.graph o.rows laws

  column_is : (k : ℕ) (d : List ℕ) → k < length o.rows →
      slice_range (naturals (map value rows)) (slice_index l.starts.items k) (slice_index l.ends.items k) ≡ slice_index_or cols k d
  column_is k d low = column_once o.graph o.rows k _ _ (h.stand.each k low) (factor.each k d low)

  size_is : (k : ℕ) → k < length o.rows → slice_index l.ends.items k - slice_index l.starts.items k ≡ length (slice_index_or cols k [])
  size_is k low =
      let w = h.stand.within k low in
      let part = length-between (naturals (map value rows)) (slice_index l.starts.items k) (slice_index l.ends.items k) w in
      let same = ap length (column_is k [] low) in omega (arith, part, same)

  -- the parent of a column without entries is none, that of another one its first
  parent_is : (parent : List (Option ℕ)) →
      ((k : ℕ) → k < length o.rows → slice_index l.starts.items k ≡ slice_index l.ends.items k → slice_index_or parent k None ≡ None) →
      ((k : ℕ) → k < length o.rows → slice_index l.starts.items k < slice_index l.ends.items k →
      slice_index_or parent k None ≡ Some (slice_index firsts k)) → (k : ℕ) → k < length o.rows →
      slice_index_or parent k None ≡
      first_of (slice_range (naturals (map value rows)) (slice_index l.starts.items k) (slice_index l.ends.items k))
  parent_is parent none some k low =
      let begin = slice_index l.starts.items k in let end = slice_index l.ends.items k in elim (cases_eq begin end) [
        | inl e ↦ none k low e ∙ sym (ap first_of (no_part (naturals (map value rows)) begin end e))
        | inr ne ↦ (let r = h.stand.range k low in let has : begin < end = omega (arith, ne, r) in
            some k low has ∙ sym (tell.each k low has))
      ]

  pub shared_sizes : (sizes : List ℕ) → length sizes ≡ length o.rows →
      ((k : ℕ) → k < length o.rows → slice_index sizes k ≡ slice_index l.ends.items k - slice_index l.starts.items k) →
      (parent : List (Option ℕ)) → length parent ≡ length o.rows →
      ((k : ℕ) → k < length o.rows → slice_index l.starts.items k ≡ slice_index l.ends.items k → slice_index_or parent k None ≡ None) →
      ((k : ℕ) → k < length o.rows → slice_index l.starts.items k < slice_index l.ends.items k →
      slice_index_or parent k None ≡ Some (slice_index firsts k)) →
      HoldSizes o.graph o.rows sizes parent
  shared_sizes sizes long each parent room none some =
      let places = factor.places in record {
        columns = cols;
        factor = factor;
        sizes_are = same_lists sizes (map length cols) (long ∙ sym places ∙ sym (length-map cols length))
            (λ k d low. let row : k < length o.rows = omega (arith, low, long) in
            get_or_default sizes k d 0 low ∙ each k row ∙ size_is k row
            ∙ sym (get_or-map length cols k [] d (omega (arith, row, places))));
        parents = same_lists parent (map first_of cols) (room ∙ sym places ∙ sym (length-map cols first_of))
            (λ k d low. let row : k < length o.rows = omega (arith, low, room) in
            get_or_default parent k d None low ∙ parent_is parent none some k row ∙ ap first_of (column_is k [] row)
            ∙ sym (get_or-map first_of cols k [] d (omega (arith, row, places))));
      }
