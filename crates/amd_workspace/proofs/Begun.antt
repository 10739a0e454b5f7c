-- What the workspace says once each row has begun: its view is that of the start, and it is laid out for a round.
use Rattle.std.proofs.Common.{ℕ, ℤ, pos, negsuc, Bool, true, false, Option, None, List, [], ◌≡◌, ◌<◌, ◌≤◌, ◌+◌, ◌-◌, ◌&&◌, ◌⊎◌, ◌∙◌}
use Rattle.std.proofs.Common.{not, cond, max, ap, sym, refl, inl, inr, arith, length}
use Rattle.std.specs.Prelude.{nat_lt, nat_eq}
use Rattle.std.proofs.Math.Bool.{and-false}
use Rattle.std.proofs.lemmas.Bool.{cases_Bool, cases_lt, cases_eq, eq-eqb, ne_eqb, lt-ltb, le-ltb, ltb-true, and_parts, true≢false}
use Rattle.std.proofs.lemmas.List.{get_or_past}
use Rattle.amd_model.specs.Below.{count_below}
use Rattle.amd_model.specs.Figures.{front_sum, entries, ldl_steps, lu_steps, cut}
use Rattle.amd_model.specs.Quotient.{has}
use Rattle.amd_model.proofs.Counting.Below.{sum_mono, count_same, count_most}
use Rattle.amd_model.proofs.Listings.Words.{has_none}
use Rattle.amd_round_laws.specs.Starts.{class_of, starting_block, IsBegun}
use Rattle.amd_words.specs.Words.{num, word, place, is_place, start, size_of, is_negative, rows_in, rows, flip_of}
use Rattle.amd_lists.specs.Layout.{has_list, end_of, elements_in, variables_in, list_in, Layout, live_words}
use Rattle.amd_lists.specs.Sizes.{bucket_count}
use Rattle.amd_lists.specs.Workspaces.{Workspace}
use Rattle.amd_rounds.specs.Views.{owner_of, is_flip, is_over, flipped, view_of}
use Rattle.amd_lists.specs.Sizes.{IsSized}
use Rattle.amd_rounds.specs.Laid.{IsLaid}
use Rattle.amd_rounds.proofs.Standing.{flip_is, over_is, place_is}
use Rattle.amd_workspace.specs.Starting.{Rows, BeginsRows, begins_class}

-- what a workspace says of the rows
abbrev pub rows_of : Workspace → Rows
rows_of v = record {
  pe = v.pe;
  e_len = v.e_len;
  nv = v.nv;
  len = v.len;
  degree = v.degree;
  w = v.w;
}

-- a row as it has begun, a class or none
pub record HasBegun (is : Bool) (held : ℕ → Bool) (p : Rows) (v : Workspace) (i : ℕ) : Type 0 where
  pub class : begins_class held p.len i ≡ is
  pub starts : word v.pe i ≡ cond is (word p.pe i) (negsuc 0)
  pub counts : word v.e_len i ≡ cond is (pos 0) (cond (held i) (negsuc 0) (flip_of 1))
  pub size : word v.nv i ≡ pos (cond is 1 0)
  pub length_is : num v.len i ≡ cond is (num p.len i) 0
  pub bound : num v.degree i ≡ cond is (num p.len i) 0
  pub counter : num v.w i ≡ cond is 1 0

abbrev pub IsClass : (ℕ → Bool) → Rows → Workspace → ℕ → Type 0
IsClass held p v i = HasBegun true held p v i

abbrev pub IsAside : (ℕ → Bool) → Rows → Workspace → ℕ → Type 0
IsAside held p v i = HasBegun false held p v i

-- a row past the last one
record IsPast (v : Workspace) (i : ℕ) : Type 0 where
  pub starts : word v.pe i ≡ pos 0
  pub counts : word v.e_len i ≡ pos 0
  pub size : word v.nv i ≡ pos 0
  pub length_is : num v.len i ≡ 0
  pub bound : num v.degree i ≡ 0
  pub counter : num v.w i ≡ 0

module _ (n : ℕ) (held : ℕ → Bool) (p : Rows) (v : Workspace) (begins : BeginsRows n n held p (rows_of v)) where
  begun_row : (is : Bool) (i : ℕ) → i < n → begins_class held p.len i ≡ is → HasBegun is held p v i
  begun_row is i l y =
      let row = begins.rows i l in record {
        class = y;
        starts = row.starts ∙ ap (λ b. cond b (word p.pe i) (negsuc 0)) y;
        counts = row.counts ∙ ap (λ b. cond b (pos 0) (cond (held i) (negsuc 0) (flip_of 1))) y;
        size = row.sizes ∙ ap (λ b. pos (cond b 1 0)) y;
        length_is = row.lengths ∙ ap (λ b. cond b (num p.len i) 0) y;
        bound = row.bounds ∙ ap (λ b. cond b (num p.len i) 0) y;
        counter = row.counters ∙ ap (λ b. cond b 1 0) y;
      }

  past_row : (i : ℕ) → n ≤ i → IsPast v i
  past_row i l = let a = begins.long in record {
    starts = get_or_past v.pe i (pos 0) (let e = a.pe in omega (arith, e, l));
    counts = get_or_past v.e_len i (pos 0) (let e = a.e_len in omega (arith, e, l));
    size = get_or_past v.nv i (pos 0) (let e = a.nv in omega (arith, e, l));
    length_is = get_or_past v.len i 0 (let e = a.len in omega (arith, e, l));
    bound = get_or_past v.degree i 0 (let e = a.degree in omega (arith, e, l));
    counter = get_or_past v.w i 0 (let e = a.w in omega (arith, e, l));
  }

  -- each row is one of the three
  kind : (i : ℕ) → (IsClass held p v i × (i < n)) ⊎ (IsAside held p v i × (i < n)) ⊎ IsPast v i
  kind i = elim (cases_lt i n) [
    | inr l ↦ inr (inr (past_row i l))
    | inl l ↦ elim (cases_Bool (begins_class held p.len i)) [
      | inl y ↦ inl (begun_row true i l y, l)
      | inr y ↦ inr (inl (begun_row false i l y, l))
    ]
  ]

  size_one : (z : ℤ) (k : ℕ) → z ≡ pos k → rows_in z ≡ k
  unfolding rows_in
  size_one z k e = ap rows_in e

  not_inside : (z : ℤ) (k : ℕ) → z ≡ pos k → is_negative z ≡ false
  unfolding is_negative
  not_inside z k e = ap is_negative e

  pub place_zero : (place (pos 0) ≡ 0) × (is_place (pos 0) ≡ true) × (is_place (negsuc 0) ≡ false) × (owner_of (negsuc 0) ≡ None)
  unfolding place is_place owner_of
  place_zero = (refl, refl, refl, refl)

  -- what has a size is a class
  sized_row : (i : ℕ) → 0 < size_of v.nv i → IsClass held p v i × (i < n)
  sized_row i h = elim (kind i) [
    | inl k ↦ k
    | inr (inl k) ↦ absurd (let e = size_one (word v.nv i) 0 k.0.size in omega (arith, e, h))
    | inr (inr k) ↦ absurd (let e = size_one (word v.nv i) 0 k.size in omega (arith, e, h))
  ]

  counts_zero : (i : ℕ) → word v.e_len i ≡ pos 0 → place (word v.e_len i) ≡ 0
  counts_zero i e = ap place e ∙ place_zero.0

  no_elements : (i : ℕ) → word v.e_len i ≡ pos 0 → elements_in v.iw v.pe v.e_len i ≡ []
  unfolding rows
  no_elements i e = ap (rows v.iw (start v.pe i)) (counts_zero i e)

  all_variables : (i : ℕ) → IsClass held p v i → variables_in v.iw v.pe v.e_len v.len i ≡ list_in v.iw p.pe p.len i
  all_variables i k =
      let z = counts_zero i k.counts in
      let from : start v.pe i + place (word v.e_len i) ≡ start p.pe i =
      let s : start v.pe i ≡ start p.pe i = ap place k.starts in omega (arith, s, z) in
      let count : num v.len i - place (word v.e_len i) ≡ num p.len i = let s = k.length_is in omega (arith, s, z) in
      ap (λ m. rows v.iw m (num v.len i - place (word v.e_len i))) from ∙ ap (rows v.iw (start p.pe i)) count

  -- nothing is linked
  abbrev link_at : ℕ → Option ℕ
  link_at x = cond (is_over (word v.e_len x)) (owner_of (word v.pe x)) None

  abbrev parent_at : ℕ → Option ℕ
  parent_at x = cond (is_flip (word v.e_len x)) (owner_of (word v.pe x)) None

  none_of : (b : Bool) (o : Option ℕ) → o ≡ None → cond b o None ≡ None
  none_of true o e = e
  none_of false o e = refl

  plain : (z : ℤ) → z ≡ pos 0 → (is_over z ≡ false) × (is_flip z ≡ false)
  plain z e = let k = place_is (pos 0) place_zero.1 in (ap is_over e ∙ k.2, ap is_flip e ∙ k.1)

  no_link : (x : ℕ) → (link_at x ≡ None) × (parent_at x ≡ None)
  no_link x = elim (kind x) [
    | inl k ↦ (let z = plain (word v.e_len x) k.0.counts in
        (ap (λ b. cond b (owner_of (word v.pe x)) None) z.0, ap (λ b. cond b (owner_of (word v.pe x)) None) z.1))
    | inr (inl k) ↦ (let o : owner_of (word v.pe x) ≡ None = ap owner_of k.0.starts ∙ place_zero.3 in
        (none_of (is_over (word v.e_len x)) (owner_of (word v.pe x)) o, none_of (is_flip (word v.e_len x)) (owner_of (word v.pe x)) o))
    | inr (inr k) ↦ (let z = plain (word v.e_len x) k.counts in
        (ap (λ b. cond b (owner_of (word v.pe x)) None) z.0, ap (λ b. cond b (owner_of (word v.pe x)) None) z.1))
  ]

  -- the blocks
  abbrev block_at : ℕ → ℕ
  block_at e = cond (is_flip (word v.e_len e)) (flipped (word v.e_len e) - num v.degree e) 0

  no_block : (e : ℕ) → is_flip (word v.e_len e) ≡ false → block_at e ≡ 0
  no_block e h = ap (λ b. cond b (flipped (word v.e_len e) - num v.degree e) 0) h

  -- of what is aside and not held the word is the mark of one row
  mark_one : (e : ℕ) → IsAside held p v e → held e ≡ false → (flipped (word v.e_len e) ≡ 1) × (block_at e ≡ 1)
  mark_one e k h =
      let is : word v.e_len e ≡ flip_of 1 = k.counts ∙ ap (λ b. cond b (negsuc 0) (flip_of 1)) h in
      let m = flip_is 1 in
      let one : flipped (word v.e_len e) ≡ 1 = ap flipped is ∙ m.2 in
      let none = k.bound in
      let rows_one : flipped (word v.e_len e) - num v.degree e ≡ 1 = omega (arith, one, none) in
      (one, ap (λ b. cond b (flipped (word v.e_len e) - num v.degree e) 0) (ap is_flip is ∙ m.0) ∙ rows_one)

  mark_none : (e : ℕ) → IsAside held p v e → held e ≡ true → block_at e ≡ 0
  mark_none e k h =
      let is : word v.e_len e ≡ negsuc 0 = k.counts ∙ ap (λ b. cond b (negsuc 0) (flip_of 1)) h in
      no_block e (over_is (word v.e_len e) is).0

  -- a row that is no class and not held has no neighbour
  empty_row : (e : ℕ) → begins_class held p.len e ≡ false → held e ≡ false → num p.len e ≡ 0
  empty_row e h f = elim (cases_eq (num p.len e) 0) [
    | inl z ↦ z
    | inr z ↦ absurd (true≢false (sym (ap (λ b. b && not (held e)) (lt-ltb 0 (num p.len e) (omega (arith, z))) ∙ ap not f) ∙ h))
  ]

  block_is : (e : ℕ) → e < n → block_at e ≡ starting_block (held e) (num p.len e)
  block_is e l = elim (cases_Bool (begins_class held p.len e)) [
    | inl y ↦ (let k = begun_row true e l y in
        let some = ltb-true 0 (num p.len e) (and_parts (nat_lt 0 (num p.len e)) (not (held e)) y).0 in
        no_block e (plain (word v.e_len e) k.counts).1
        ∙ sym (ap (λ b. cond (b && not (held e)) 1 0) (ne_eqb (num p.len e) 0 (λ z. omega (arith, z, some)))))
    | inr y ↦ (let k = begun_row false e l y in elim (cases_Bool (held e)) [
      | inl h ↦ mark_none e k h ∙ sym (ap (λ b. starting_block b (num p.len e)) h
          ∙ ap (λ b. cond b 1 0) (and-false (nat_eq (num p.len e) 0)))
      | inr f ↦ (mark_one e k f).1 ∙ sym (ap (λ b. starting_block b (num p.len e)) f
          ∙ ap (λ b. cond (b && true) 1 0) (eq-eqb (num p.len e) 0 (empty_row e y f)))
    ])
  ]

  front_is : (e : ℕ) → 0 < block_at e → flipped (word v.e_len e) ≡ 1
  front_is e h = elim (kind e) [
    | inl k ↦ absurd (let z = no_block e (plain (word v.e_len e) k.0.counts).1 in omega (arith, z, h))
    | inr (inl k) ↦ elim (cases_Bool (held e)) [
      | inl y ↦ absurd (let z = mark_none e k.0 y in omega (arith, z, h))
      | inr f ↦ (mark_one e k.0 f).0
    ]
    | inr (inr k) ↦ absurd (let z = no_block e (plain (word v.e_len e) k.counts).1 in omega (arith, z, h))
  ]

  size_is : (i : ℕ) → i < n → size_of v.nv i ≡ class_of (held i) (num p.len i)
  size_is i l = size_one (word v.nv i) (cond (begins_class held p.len i) 1 0) (begins.rows i l).sizes

  light : (b : Bool) → nat_lt 0 (cond b 1 0) ≡ b
  light true = lt-ltb 0 1 (omega arith)
  light false = le-ltb 0 0 (omega arith)

  -- the view is that of the start
  pub begun_view : v.least ≡ 0 → v.live ≡ count_below n (begins_class held p.len) → v.n_dense ≡ count_below n held →
      v.figures.lnz ≡ cut (0 + front_sum entries v.n_dense 0) → v.figures.n_mult_subs_ldl ≡ cut (0 + front_sum ldl_steps v.n_dense 0) →
      v.figures.n_mult_subs_lu ≡ cut (0 + front_sum lu_steps v.n_dense 0) → v.figures.d_max ≡ max 1 (v.n_dense + 0) →
      IsBegun n (list_in v.iw p.pe p.len) (num p.len) held (view_of v)
  begun_view least live dense lnz ldl lu greatest = record {
    rows_are = begins.long.nv;
    size = size_is;
    no_row = λ i l. let k = past_row i l in
        (size_one (word v.nv i) 0 k.size, no_block i (plain (word v.e_len i) k.counts).1);
    variables = λ i h. all_variables i (sized_row i h).0;
    elements = λ i h. no_elements i (sized_row i h).0.counts;
    bound = λ i h. (sized_row i h).0.bound;
    least = least;
    live = live ∙ sym (count_same n (λ i. nat_lt 0 (size_of v.nv i)) (begins_class held p.len) (λ i l. ap (nat_lt 0) (size_is i l)
        ∙ light (begins_class held p.len i)));
    link = λ i. (no_link i).0;
    parent = λ e. (no_link e).1;
    block = block_is;
    front = front_is;
    n_dense = dense;
    lnz = lnz;
    ldl = ldl;
    lu = lu;
    greatest = greatest;
  }

  -- ---- the workspace is laid out

  list_parts : (i : ℕ) → has_list v.pe v.len i ≡ true → (is_place (word v.pe i) ≡ true) × (0 < num v.len i)
  unfolding has_list
  list_parts i h = let k = and_parts (is_place (word v.pe i)) (nat_lt 0 (num v.len i)) h in (k.0, ltb-true 0 (num v.len i) k.1)

  -- what has a list is a class
  pub listed_row : (i : ℕ) → has_list v.pe v.len i ≡ true → IsClass held p v i × (i < n)
  listed_row i h = let some = (list_parts i h).1 in elim (kind i) [
    | inl k ↦ k
    | inr (inl k) ↦ absurd (let e = k.0.length_is in omega (arith, e, some))
    | inr (inr k) ↦ absurd (let e = k.length_is in omega (arith, e, some))
  ]

  -- and has the list that was laid
  laid_row : (i : ℕ) → has_list v.pe v.len i ≡ true → has_list p.pe p.len i ≡ true
  unfolding has_list
  laid_row i h = let k = (listed_row i h).0 in
      sym (ap (λ z. is_place z && nat_lt 0 (num v.len i)) k.starts ∙ ap (λ m. is_place (word p.pe i) && nat_lt 0 m) k.length_is) ∙ h

  start_same : (i : ℕ) → has_list v.pe v.len i ≡ true → (start v.pe i ≡ start p.pe i) × (end_of v.pe v.len i ≡ end_of p.pe p.len i)
  start_same i h = let k = (listed_row i h).0 in let s : start v.pe i ≡ start p.pe i = ap place k.starts in let m = k.length_is in
      (s, omega (arith, s, m))

  class_list : (i : ℕ) → is_place (word p.pe i) ≡ true → IsClass held p v i → has_list v.pe v.len i ≡ true
  unfolding has_list
  class_list i starts k =
      let some : nat_lt 0 (num p.len i) ≡ true = (and_parts (nat_lt 0 (num p.len i)) (not (held i)) k.class).0 in
      ap (λ z. is_place z && nat_lt 0 (num v.len i)) k.starts ∙ ap (λ b. b && nat_lt 0 (num v.len i)) starts
      ∙ ap (nat_lt 0) k.length_is ∙ some

  module _ (zeros : List ℤ) (laid : Layout n v.iw p.pe zeros p.len v.free) where
    begun_layout : Layout n v.iw v.pe v.e_len v.len v.free
    begun_layout = record {
      within = λ j h. let e = (start_same j h).1 in let l = laid.within j (laid_row j h) in omega (arith, e, l);
      apart = λ i j h k ne. let a = start_same i h in let b = start_same j k in
          let a0 = a.0 in let a1 = a.1 in let b0 = b.0 in let b1 = b.1 in
          elim (laid.apart i j (laid_row i h) (laid_row j k) ne) [
            | inl l ↦ inl (omega (arith, a1, b0, l))
            | inr l ↦ inr (omega (arith, b1, a0, l))
          ];
      parts = λ j h. let z = counts_zero j (listed_row j h).0.counts in omega (arith, z);
      words = laid.words;
    }

    one_list : (j : ℕ) → cond (has_list v.pe v.len j) (num v.len j) 0 ≤ cond (has_list p.pe p.len j) (num p.len j) 0
    one_list j = elim (cases_Bool (has_list v.pe v.len j)) [
      | inr f ↦ (let z : cond (has_list v.pe v.len j) (num v.len j) 0 ≡ 0 = ap (λ b. cond b (num v.len j) 0) f in omega (arith, z))
      | inl y ↦ (let a : cond (has_list v.pe v.len j) (num v.len j) 0 ≡ num v.len j = ap (λ b. cond b (num v.len j) 0) y in
          let b : cond (has_list p.pe p.len j) (num p.len j) 0 ≡ num p.len j = ap (λ b. cond b (num p.len j) 0) (laid_row j y) in
          let m = (listed_row j y).0.length_is in omega (arith, a, b, m))
    ]

    -- the workspace is laid out for a round
    pub begun_laid : (nzaat : ℕ) → IsSized n v → nzaat + n ≤ length v.iw → v.free ≤ length v.iw → live_words n p.pe p.len ≤ nzaat →
        ((i : ℕ) → i < n → is_place (word p.pe i) ≡ true) → ((i : ℕ) → i < n → num p.len i < n) → v.most ≡ 0 → 2 ≤ v.flag →
        ((b : ℕ) → b < bucket_count n → n ≤ num v.hash b) → v.n_cmp_a ≡ 0 → v.live ≡ count_below n (begins_class held p.len) →
        IsLaid n nzaat v
    begun_laid nzaat sized room end few starts small most two empty packs live = record {
      sized = sized;
      room = room;
      end = end;
      laid = begun_layout;
      words = (let l = sum_mono n (λ j. cond (has_list v.pe v.len j) (num v.len j) 0) (λ j. cond (has_list p.pe p.len j) (num p.len j) 0)
          (λ j k. one_list j) in omega (arith, l, few));
      clear = λ j. elim (kind j) [
        | inl k ↦ not_inside (word v.nv j) 1 k.0.size
        | inr (inl k) ↦ not_inside (word v.nv j) 0 k.0.size
        | inr (inr k) ↦ not_inside (word v.nv j) 0 k.size
      ];
      classes = λ i h. let k = sized_row i h in (class_list i (starts i k.1) k.0, ap is_place k.0.counts ∙ place_zero.1);
      elements = λ i e h k. absurd (has_none e (sym (ap (λ xs. has xs e) (no_elements i (sized_row i h).0.counts)) ∙ k));
      degrees = λ j. elim (kind j) [
        | inl k ↦ (let e = k.0.bound in let l = small j k.1 in omega (arith, e, l))
        | inr (inl k) ↦ (let e = k.0.bound in omega (arith, e))
        | inr (inr k) ↦ (let e = k.bound in omega (arith, e))
      ];
      borders = λ e h k. absurd (true≢false (sym (ap is_place (listed_row e k).0.counts ∙ place_zero.1) ∙ h));
      most = omega (arith, most);
      two = two;
      under = λ j. elim (kind j) [
        | inl k ↦ (let e = k.0.counter in omega (arith, e, two))
        | inr (inl k) ↦ (let e = k.0.counter in omega (arith, e, two))
        | inr (inr k) ↦ (let e = k.counter in omega (arith, e, two))
      ];
      standing = λ j h. let e = (listed_row j h).0.counter in omega (arith, e);
      empty = empty;
      packs = (let m = count_most n (begins_class held p.len) in omega (arith, packs, live, m));
    }
