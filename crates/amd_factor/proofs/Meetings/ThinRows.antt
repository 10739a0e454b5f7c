-- Lists from which parents of other places are left out: they still cover what they covered.
use Rattle.std.proofs.Common.{ℕ, zero, suc, true, ◌≡◌, ◌≢◌, ◌<◌, ◌≤◌, ◌+◌, ◌-◌, ◌⊎◌, inl, inr, refl, sym, ◌∙◌, ap, subst, arith}
use Rattle.std.proofs.Common.{List, length, set}
use Rattle.std.specs.Prelude.{slice_index, slice_index_or, slice_range, Contains, Option, None, Some}
use Rattle.std.proofs.lemmas.Bool.{cases_eq}
use Rattle.std.proofs.lemmas.List.{length-set, get_or-set_same, get_or-set_other}
use Rattle.std.proofs.lemmas.List.Edits.{length-between, get_or-between}
use Rattle.std.proofs.lemmas.List.Elements.{Contains-get_or}
use Rattle.std.proofs.lemmas.List.FromFn.{get_or-range_with_len, length-range_with_len}
use Rattle.amd_model.specs.Graph.{IsGraph}
use Rattle.amd_model.specs.Quotient.{has}
use Rattle.amd_model.proofs.Counting.Places.{contains_has, has_contains}
use Rattle.amd_factor.specs.Neighbours.{HasEarlier}
use Rattle.amd_factor.specs.Orders.{Order}
use Rattle.amd_factor.specs.Thinning.{AreThinned, HasThinned, IsThinned, Joined, Keeps, Thins, order_of_lists}
use Rattle.amd_factor.specs.Trees.{IsParent, Over, itself, up}
use Rattle.amd_factor.specs.Walks.{TellParents, TellsParentSoFar}
use Rattle.amd_factor.proofs.Trees.Ancestry.{over-trans}
use Rattle.amd_factor.proofs.Factors.NewRows.{place_in}
use Rattle.amd_factor.proofs.Trees.TreePaths.{over_most}

-- one place more is moved, or left out, since it has the mark
module _ (begin first stamp : ℕ) (mark old now : List ℕ) (place next : ℕ) (low : first ≤ begin) (from : begin ≤ place)
    (inside : place < length old) (h : Keeps begin place first next stamp mark old now) where
  abbrev then-list : List ℕ
  then-list = set now next (slice_index now place)

  same : slice_index now place ≡ slice_index old place
  same = h.behind place (omega arith)

  here : slice_index then-list next ≡ slice_index now place
  here = get_or-set_same now next (slice_index now place) 0 (let l = h.long in let r = h.range.1 in omega (arith, l, r, inside))

  other : (x : ℕ) → x ≢ next → slice_index then-list x ≡ slice_index now x
  other x ne = get_or-set_other now next x (slice_index now place) 0 ne

  pub keeps-next : (last : ℕ) → next ≤ last → last ≤ next + 1 →
      (slice_index mark (slice_index now place) ≡ stamp) ⊎ (next < last) →
      Keeps begin (place + 1) first last stamp mark old then-list
  keeps-next last more most d =
      let r0 = h.range.0 in let r1 = h.range.1 in record {
        long = length-set now next (slice_index now place) ∙ h.long;
        range = (omega (arith, r0, more), omega (arith, r1, most));
        before = λ x l. other x (λ e. omega (arith, l, e, r0)) ∙ h.before x l;
        behind = λ x l. other x (λ e. omega (arith, l, e, r1)) ∙ h.behind x (omega (arith, l));
        from = λ x l m. elim (cases_eq x next) [
          | inl e ↦ (place, from, omega arith, sym same ∙ sym here ∙ ap (slice_index then-list) (sym e))
          | inr ne ↦ (let f = h.from x l (omega (arith, m, most, ne)) in
              (f.0, f.1, (let b = f.2 in omega (arith, b)), f.3 ∙ sym (other x ne)))
        ];
        kept = λ y l m. elim (cases_eq y place) [
          | inl e ↦ elim d [
            | inl marked ↦ inl (ap (slice_index mark) (ap (slice_index old) e ∙ sym same) ∙ marked)
            | inr room ↦ inr (next, r0, room, here ∙ same ∙ ap (slice_index old) (sym e))
          ]
          | inr ne ↦ elim (h.kept y l (omega (arith, m, ne))) [
            | inl marked ↦ inl marked
            | inr k ↦ inr (
              k.0,
              k.1,
              (let b = k.2 in omega (arith, b, more)),
              other k.0 (let b = k.2 in λ e. omega (arith, b, e)) ∙ k.3,
            )
          ]
        ];
      }

-- what a part of a list has stands at a place in it
range-has : (xs : List ℕ) (a b v : ℕ) → b ≤ length xs → Contains (slice_range xs a b) v →
    (x : ℕ) × (a ≤ x) × (x < b) × (slice_index xs x ≡ v)
range-has xs a b v inside c =
    let p = place_in (slice_range xs a b) v c in let long = length-between xs a b inside in
    let l = p.1 in (a + p.0, omega arith, omega (arith, l, long), sym (get_or-between xs a b p.0 0 (omega (arith, l, long))) ∙ p.2)

has-range : (xs : List ℕ) (a b x : ℕ) → b ≤ length xs → a ≤ x → x < b → Contains (slice_range xs a b) (slice_index xs x)
has-range xs a b x inside l m =
    let long = length-between xs a b inside in
    let e : a + (x - a) ≡ x = omega (arith, l) in
    subst (Contains (slice_range xs a b)) (get_or-between xs a b (x - a) 0 (omega (arith, l, m)) ∙ ap (slice_index xs) e)
    (Contains-get_or (slice_range xs a b) (x - a) 0 (omega (arith, l, m, long)))

-- a row that keeps all its places where they stand
pub all-kept : (begin end first : ℕ) (parent : List (Option ℕ)) (lists : List ℕ) → first ≡ begin → begin ≤ end →
    IsThinned begin end first end parent lists lists
all-kept begin end first parent lists same rise = record {
  long = refl;
  range = (omega (arith, same, rise), omega arith);
  before = λ x l. refl;
  behind = λ x l. refl;
  from = λ x l m. (x, omega (arith, l, same), m, refl);
  kept = λ y l m. inl (y, omega (arith, l, same), m, refl);
}

-- what has the mark is the parent of a place of the row
pub thinned-by : (begin end first last stamp : ℕ) (parent : List (Option ℕ)) (mark mark' old new : List ℕ) → end ≤ length old →
    ((q : ℕ) → slice_index mark q < stamp) →
    ((q : ℕ) → (slice_index mark' q ≡ slice_index mark q) ⊎ ((slice_index mark' q ≡ stamp) × (x : ℕ) ×
    (x < length (slice_range old begin end)) ×
    (slice_index_or parent (slice_index (slice_range old begin end) x) None ≡ Some q))) →
    Keeps begin end first last stamp mark' old new → IsThinned begin end first last parent old new
thinned-by begin end first last stamp parent mark mark' old new inside low marks h = record {
  long = h.long;
  range = h.range;
  before = h.before;
  behind = h.behind;
  from = h.from;
  kept = λ y l m. elim (h.kept y l m) [
    | inr k ↦ inl k
    | inl marked ↦ elim (marks (slice_index old y)) [
      | inl same ↦ absurd (let a = low (slice_index old y) in omega (arith, a, same, marked))
      | inr r ↦ (let long = length-between old begin end inside in let a = r.2 in
          inr (
            begin + r.1,
            omega arith,
            omega (arith, a, long),
            ap (λ v. slice_index_or parent v None) (sym (get_or-between old begin end r.1 0 (omega (arith, a, long)))) ∙ r.3,
          ))
    ]
  ];
}

-- the places of a row from place from on, before to: some of its neighbours, and below or at each of these one of them
pub record IsThinRow (o : Order) (lists : List ℕ) (k from to : ℕ) : Type 0 where
  pub among : (x : ℕ) → from ≤ x → x < to → (slice_index lists x < k) × Joined o (slice_index lists x) k
  pub covered : (j : ℕ) → j < k → Joined o j k → (x : ℕ) × (from ≤ x) × (x < to) ×
      Over o.graph o.rows (slice_index lists x) j

-- the lists of the rows before place i are thinned, and the others are as they were
pub record Thinning (o : Order) (starts0 lists0 starts lists mark : List ℕ) (i begin first : ℕ) : Type 0 where
  pub starts_long : length starts ≡ length starts0
  pub lists_long : length lists ≡ length lists0
  pub marks_long : length mark ≡ length o.rows
  pub begins : begin ≡ slice_index starts0 i
  pub place : first ≡ slice_index starts i
  pub low : first ≤ begin
  pub unmarked : (q : ℕ) → slice_index mark q ≤ i
  pub later : (k : ℕ) → i < k → slice_index starts k ≡ slice_index starts0 k
  pub rest : (x : ℕ) → begin ≤ x → slice_index lists x ≡ slice_index lists0 x
  pub ascending : (k : ℕ) → k < i → slice_index starts k ≤ slice_index starts (k + 1)
  pub below : (k : ℕ) → k ≤ i → slice_index starts k ≤ first
  pub rows : (k : ℕ) → k < i → IsThinRow o lists k (slice_index starts k) (slice_index starts (k + 1))

module _ (o : Order) (starts0 lists0 : List ℕ) (parent : List (Option ℕ)) (earlier : HasEarlier o starts0 lists0)
    (tells : TellParents o (length o.rows) parent) where
  module _ (starts lists mark : List ℕ) (i begin first : ℕ) (t : Thinning o starts0 lists0 starts lists mark i begin first)
      (n : i < length o.rows) where
    pub end-is : slice_index starts (i + 1) ≡ slice_index starts0 (i + 1)
    end-is = t.later (i + 1) (omega arith)

    pub ends-inside : slice_index starts0 (i + 1) ≤ length lists
    ends-inside = let a = earlier.within i n in let e = t.lists_long in omega (arith, a, e)

    pub range : begin ≤ slice_index starts0 (i + 1)
    range = let a = earlier.ascending i n in let e = t.begins in omega (arith, a, e)

    -- what a row names is an earlier neighbour, and each is named
    named : (y : ℕ) → begin ≤ y → y < slice_index starts0 (i + 1) → (slice_index lists y < i) × Joined o (slice_index lists y) i
    named y l m =
        let e = t.begins in
        let c = has-range lists0 (slice_index starts0 i) (slice_index starts0 (i + 1)) y (earlier.within i n) (omega (arith, l, e)) m in
        subst (λ v. (v < i) × Joined o v i) (sym (t.rest y l)) ((earlier.each i n (slice_index lists0 y)).0 c)

    pub small : (y : ℕ) → begin ≤ y → y < slice_index starts0 (i + 1) → slice_index lists y < length o.rows
    small y l m = let s = (named y l m).0 in omega (arith, s, n)

    found : (j : ℕ) → j < i → Joined o j i → (y : ℕ) × (begin ≤ y) × (y < slice_index starts0 (i + 1)) × (slice_index lists y ≡ j)
    found j l h =
        let in-list = (earlier.each i n j).1 (l, h) in
        let r = range-has lists0 (slice_index starts0 i) (slice_index starts0 (i + 1)) j (earlier.within i n) in-list in
        let e = t.begins in let a = r.1 in
        let b : begin ≤ r.0 = omega (arith, a, e) in (r.0, b, r.2, t.rest r.0 b ∙ r.3)

    module _ (last : ℕ) (lists' mark' : List ℕ)
        (s : IsThinned begin (slice_index starts0 (i + 1)) first last parent lists lists') (marked : (q : ℕ) → slice_index mark' q ≤ i + 1)
        (marks : length mark' ≡ length mark) where
      is-parent : (c j : ℕ) → c < length o.rows → slice_index_or parent c None ≡ Some j → IsParent o.graph o.rows c j
      is-parent c j l e = subst (TellsParentSoFar o (length o.rows) c) e (tells.each c l)

      covers-at : (fuel j : ℕ) → j ≤ fuel → (y : ℕ) → begin ≤ y → y < slice_index starts0 (i + 1) → slice_index lists y ≡ j →
          (x : ℕ) × (first ≤ x) × (x < last) × Over o.graph o.rows (slice_index lists' x) j
      covers-at zero j f y a b e = elim (s.kept y a b) [
        | inl k ↦ (k.0, k.1, k.2, subst (λ v. Over o.graph o.rows v j) (sym (k.3 ∙ e)) itself)
        | inr z ↦ absurd (let p = is-parent (slice_index lists z.0) j (small z.0 z.1 z.2) (z.3 ∙ ap Some e) in
            let c = p.entry.0 in omega (arith, c, f))
      ]
      covers-at (suc fuel) j f y a b e = elim (s.kept y a b) [
        | inl k ↦ (k.0, k.1, k.2, subst (λ v. Over o.graph o.rows v j) (sym (k.3 ∙ e)) itself)
        | inr z ↦ (let p = is-parent (slice_index lists z.0) j (small z.0 z.1 z.2) (z.3 ∙ ap Some e) in
            let c = p.entry.0 in
            let r = covers-at fuel (slice_index lists z.0) (omega (arith, c, f)) z.0 z.1 z.2 refl in
            (r.0, r.1, r.2, over-trans o.graph o.rows r.3 (up p itself)))
      ]

      row : IsThinRow o lists' i first last
      row = record {
        among = λ x l m. (let f = s.from x l m in subst (λ v. (v < i) × Joined o v i) f.3 (named f.0 f.1 f.2));
        covered = λ j l h. (let r = found j l h in covers-at j j (omega arith) r.0 r.1 r.2 r.3);
      }

      abbrev starts' : List ℕ
      starts' = set starts (i + 1) last

      start-next : slice_index starts' (i + 1) ≡ last
      start-next = get_or-set_same starts (i + 1) last 0 (let a = t.starts_long in let b = earlier.room in omega (arith, a, b, n))

      start-other : (k : ℕ) → k ≢ i + 1 → slice_index starts' k ≡ slice_index starts k
      start-other k ne = get_or-set_other starts (i + 1) k last 0 ne

      row-same : (k : ℕ) → k < i → IsThinRow o lists' k (slice_index starts k) (slice_index starts (k + 1))
      row-same k l =
          let r = t.rows k l in let b = t.below (k + 1) (omega (arith, l)) in record {
            among = λ x a c. subst (λ v. (v < k) × Joined o v k) (sym (s.before x (omega (arith, c, b)))) (r.among x a c);
            covered = λ j m h. (let f = r.covered j m h in let c = f.2 in
                (f.0, f.1, c, subst (λ v. Over o.graph o.rows v j) (sym (s.before f.0 (omega (arith, c, b)))) f.3));
          }

      row-at : (k : ℕ) → k < i + 1 → IsThinRow o lists' k (slice_index starts' k) (slice_index starts' (k + 1))
      row-at k l = elim (cases_eq k i) [
        | inl e ↦ (let at : slice_index starts' k ≡ first = start-other k (omega (arith, e)) ∙ ap (slice_index starts) e ∙ sym t.place in
            let then : slice_index starts' (k + 1) ≡ last = ap (λ m. slice_index starts' (m + 1)) e ∙ start-next in
            rw (at, then, e) row)
        | inr ne ↦ rw (start-other k (omega (arith, l)), start-other (k + 1) (omega (arith, l, ne))) (row-same k (omega (arith, l, ne)))
      ]

      pub thinning-next : Thinning o starts0 lists0 starts' lists' mark' (i + 1) (slice_index starts0 (i + 1)) last
      thinning-next =
          let r0 = s.range.0 in let r1 = s.range.1 in let p = t.place in record {
            starts_long = length-set starts (i + 1) last ∙ t.starts_long;
            lists_long = s.long ∙ t.lists_long;
            marks_long = marks ∙ t.marks_long;
            begins = refl;
            place = sym start-next;
            low = r1;
            unmarked = marked;
            later = λ k l. start-other k (omega (arith, l)) ∙ t.later k (omega (arith, l));
            rest = λ x l. s.behind x l ∙ t.rest x (let a = range in omega (arith, l, a));
            ascending = λ k l. elim (cases_eq k i) [
              | inl e ↦ (let at = start-other k (omega (arith, e)) in let then : slice_index starts' (k + 1) ≡ last =
                  ap (λ m. slice_index starts' (m + 1)) e ∙ start-next in
                  let is : slice_index starts k ≡ first = ap (slice_index starts) e ∙ sym p in omega (arith, at, then, is, r0))
              | inr ne ↦ (let at = start-other k (omega (arith, l)) in let then = start-other (k + 1) (omega (arith, l, ne)) in
                  let a = t.ascending k (omega (arith, l, ne)) in omega (arith, at, then, a))
            ];
            below = λ k l. elim (cases_eq k (i + 1)) [
              | inl e ↦ (let then = start-next in
                  let at : slice_index starts' k ≡ slice_index starts' (i + 1) = ap (slice_index starts') e in
                  omega (arith, then, at))
              | inr ne ↦ (let at = start-other k ne in let b = t.below k (omega (arith, l, ne)) in omega (arith, at, b, r0))
            ];
            rows = row-at;
          }

    pub thinning-step : (last : ℕ) (lists' mark' : List ℕ) →
        IsThinned begin (slice_index starts (i + 1)) first last parent lists lists' → ((q : ℕ) → slice_index mark' q ≤ i + 1) →
        length mark' ≡ length mark →
        Thinning o starts0 lists0 (set starts (i + 1) last) lists' mark' (i + 1) (slice_index starts (i + 1)) last
    thinning-step last lists' mark' s marked long =
        subst (λ b. Thinning o starts0 lists0 (set starts (i + 1) last) lists' mark' (i + 1) b last) (sym end-is)
        (thinning-next last lists' mark' (subst (λ b. IsThinned begin b first last parent lists lists') end-is s) marked long)

  -- when all rows are thinned
  module _ (starts lists mark : List ℕ) (begin first : ℕ)
      (t : Thinning o starts0 lists0 starts lists mark (length o.rows) begin first) where
    abbrev n : ℕ
    n = length o.rows

    abbrev thin : Order
    thin = order_of_lists n starts lists

    inside : (k : ℕ) → k < n → slice_index starts (k + 1) ≤ length lists
    inside k l =
        let b = t.below (k + 1) (omega (arith, l)) in let low = t.low in let e = t.begins in let long = t.lists_long in
        let w = earlier.within (n - 1) (omega (arith, l)) in
        let same : n - 1 + 1 ≡ n = omega (arith, l) in
        let last : slice_index starts0 (n - 1 + 1) ≡ slice_index starts0 n = ap (slice_index starts0) same in
        omega (arith, b, low, e, long, w, last)

    own : (k : ℕ) → k < n → slice_index thin.rows k ≡ k
    own k l = get_or-range_with_len 0 n k 0 l ∙ omega arith

    long : length thin.rows ≡ n
    long = length-range_with_len 0 n

    abbrev list : ℕ → List ℕ
    list k = slice_range lists (slice_index starts k) (slice_index starts (k + 1))

    joined-has : (j i : ℕ) → j < n → i < n → Joined thin j i → has (list i) j ≡ true
    joined-has j i l m h = subst (λ v. thin.graph.edge v i ≡ true) (own j l)
        (subst (λ v. thin.graph.edge (slice_index thin.rows j) v ≡ true) (own i m) h)

    has-joined : (j i : ℕ) → j < n → i < n → has (list i) j ≡ true → Joined thin j i
    has-joined j i l m h = subst (λ v. thin.graph.edge (slice_index thin.rows j) v ≡ true) (sym (own i m))
        (subst (λ v. thin.graph.edge v i ≡ true) (sym (own j l)) h)

    member : (i v : ℕ) → i < n → Contains (list i) v → (v < i) × Joined o v i
    member i v m c =
        let r = range-has lists (slice_index starts i) (slice_index starts (i + 1)) v (inside i m) c in
        subst (λ w. (w < i) × Joined o w i) r.3 ((t.rows i m).among r.0 r.1 r.2)

    pub has-earlier : HasEarlier thin starts lists
    has-earlier = record {
      room = t.starts_long ∙ earlier.room ∙ ap (λ m. m + 1) (sym long);
      ascending = λ k l. t.ascending k (let e = long in omega (arith, l, e));
      within = λ k l. inside k (let e = long in omega (arith, l, e));
      each = λ i l v. (
          let m : i < n = (let e = long in omega (arith, l, e)) in (
            (λ c. let r = member i v m c in let low = r.0 in
                (low, has-joined v i (omega (arith, low, m)) m (contains_has (list i) v c))),
            (λ h. let low = h.0 in has_contains (list i) v (joined-has v i (omega (arith, low, m)) m h.1)),
          ));
    }

    pub thins : Thins o thin
    thins = record {
      places = long;
      among = λ j i l m h. (member i j m (has_contains (list i) j (joined-has j i (omega (arith, l, m)) m h))).1;
      covered = λ j i l m h. (
          let r = (t.rows i m).covered j l h in
          let a = (t.rows i m).among r.0 r.1 r.2 in let low = a.0 in
          let c = has-range lists (slice_index starts i) (slice_index starts (i + 1)) r.0 (inside i m) r.1 r.2 in (
            slice_index lists r.0,
            r.3,
            has-joined (slice_index lists r.0) i (omega (arith, low, m)) m
                (contains_has (list i) (slice_index lists r.0) c),
          )
          );
    }

-- a place in a thinned list is an earlier neighbour
pub thin-neighbour : (o : Order) (j : ℕ) (earlier : List ℕ) (s : ℕ) → AreThinned o j earlier → s < length earlier →
    (slice_index earlier s < j) × Joined o (slice_index earlier s) j
thin-neighbour o j earlier s are l = are.among (slice_index earlier s) (Contains-get_or earlier s 0 l)

-- the lists of an order that has fewer arcs are thinned lists of the other
pub has-thinned : (o t : Order) → IsGraph o.graph → Thins o t → (starts earlier : List ℕ) → HasEarlier t starts earlier →
    HasThinned o starts earlier
has-thinned o t laws thins starts earlier h = record {
  room = h.room ∙ ap (λ m. m + 1) thins.places;
  ascending = λ j l. h.ascending j (inside j l);
  within = λ j l. h.within j (inside j l);
  each = λ j l. record {
    among = λ i c. (let r = (h.each j (inside j l) i).0 c in (r.0, thins.among i j r.0 l r.1));
    covered = λ i m e. (let b = thins.covered i j m l e in let most = over_most o.graph o.rows laws b.1 in
        (b.0, (h.each j (inside j l) b.0).1 (omega (arith, most, m), b.2), b.1));
  };
}
  where
    inside : (j : ℕ) → j < length o.rows → j < length t.rows
    inside j l = let e = thins.places in omega (arith, l, e)
