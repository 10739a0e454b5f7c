-- The goals of starting::begin_rows.
use Rattle.std.proofs.Common.{ℕ, Bool, true, false, List, ◌≡◌, ◌<◌, ◌≤◌, ◌+◌, ◌||◌, ◌∙◌, ap, sym, subst, refl, inl, inr, cond}
use Rattle.std.proofs.Common.{negsuc, arith, length, reverse, set}
use Rattle.std.specs.Prelude.{nat_lt, ◌==◌, not}
use Rattle.std.specs.Option.{option_copied}
use Rattle.std.proofs.lemmas.Bool.{cases_Bool, true≢false}
use Rattle.amd_words.specs.Sides.{nexts, lasts}
use Rattle.amd_model.specs.Below.{count_below, sum_below}
use Rattle.amd_model.specs.Input.Held.{is_marked}
use Rattle.amd_model.proofs.Counting.Below.{count_most}
use Rattle.amd_round_laws.proofs.Lists.Rising.{count_yes, count_no}
use Rattle.amd_round_laws.proofs.Starting.{class_test}
use Rattle.amd_words.specs.Words.{num, flip_of}
use Rattle.amd_lists.specs.Chains.{DegreeLists}
use Rattle.amd_workspace.specs.Starting.{KeepsRows, Rows, BeginsRows, held_in, rows_in, begins_class, classes_of}
use Rattle.amd_workspace.proofs.Starts.{aside, placed, AreEqual, equal_rows, equal_rest, none_begin, aside_rows, placed_rows, count_next}
use Rattle.amd_workspace.proofs.Starts.{linked_none, linked_skip, linked_take}
use Rattle.amd_workspace.proofs.starting.begin_rows.Goals as goal
use Rattle.amd_workspace.proofs.starting.begin_rows.Goals.{then-held, else-held, then-aside, else-aside}

abbrev one_if : Bool → ℕ
one_if b = cond b 1 0

one_most : (b : Bool) → one_if b ≤ 1
one_most true = omega arith
one_most false = omega arith

pub rows-init : goal.rows-init
unfolding count_below sum_below
rows-init g c =
    let n : ℕ = length c.args.lists.now.len.now in
    let held : ℕ → Bool = held_in (option_copied c.args.hold) c.args.threshold c.args.lists.now.len.now in
    let a = c.requires.words in let b = c.requires.cells in
    record {
      begins = none_begin n held (rows_in c.args.lists.now) (record { pe = a.0; e_len = a.1; nv = a.2; len = refl; degree = b.0; w = b.1 });
      rest = λ j l. record { pe = refl; e_len = refl; nv = refl; len = refl; degree = refl; w = refl };
      links = c.requires.links;
      linked = linked_none n c.args.lists.now.head.now (nexts c.args.lists.now.sides.now) (lasts c.args.lists.now.sides.now)
          c.args.lists.now.degree.now held
          c.args.lists.now.len.now c.requires.heads;
      live = refl;
      dense = refl;
      buckets = refl;
      loans = (refl, refl, refl, refl, refl, refl, refl, refl, refl);
    }

pub place_row-requires-clause-row : goal.place_row-requires-clause-row
place_row-requires-clause-row g c =
    let i : ℕ = c.rows.i in let here = c.rows-test.true in let links = c.rows.invariant.links in
    let count = c.cell_lent-count.ensures.is ∙ (c.rows.invariant.rest i (omega arith)).len in
    let small = c.requires.degrees i here in
    let long : length (nexts c.rows.lists.sides.now) ≡ length c.args.lists.now.len.now = links.1 in
    (omega (arith, here, long), omega (arith, count, small, long))

pub overflow_add-n_dense : goal.overflow_add-n_dense
overflow_add-n_dense g c =
    let here = c.rows-test.true in let is = c.rows.invariant.dense in let narrow = c.requires.narrow.1 in
    let top = g.met.U.Unsigned.narrow in
    let most = count_most c.rows.i (held_in (option_copied c.args.hold) c.args.threshold c.args.lists.now.len.now) in
    let held : Bool = c.is_held_last-held.result in
    let one : c.number_of-n_dense.result ≡ one_if held = c.number_of-n_dense.ensures in
    let few = one_most held in
    omega (arith, here, is, narrow, top, most, one, few)

pub overflow_add-live : goal.overflow_add-live
overflow_add-live g c =
    let here = c.rows-test.true in let is = c.rows.invariant.live in let narrow = c.requires.narrow.1 in
    let top = g.met.U.Unsigned.narrow in
    let held : ℕ → Bool = held_in (option_copied c.args.hold) c.args.threshold c.args.lists.now.len.now in
    let most = count_most c.rows.i (begins_class held c.args.lists.now.len.now) in omega (arith, here, is, narrow, top, most)

-- lists by bound under other names
renamed : {n : ℕ} {head next last degree head' next' last' degree' : List ℕ} {lists : ℕ → List ℕ} → head' ≡ head → next' ≡ next →
    last' ≡ last → degree' ≡ degree → DegreeLists n head next last degree lists → DegreeLists n head' next' last' degree' lists
renamed a b d e was = rw (a, b, d, e) was

pub rows-preserved : goal.rows-preserved
rows-preserved g c =
    let len : List ℕ = c.args.lists.now.len.now in let n : ℕ = length len in let i : ℕ = c.rows.i in
    let held : ℕ → Bool = held_in (option_copied c.args.hold) c.args.threshold len in
    let p : Rows = rows_in c.args.lists.now in
    let q : Rows = rows_in c.rows.lists in
    let r : Rows = rows_in c.if-aside.lists in
    let was = c.rows.invariant in let at = c.rows.lists in
    let here : i < n = c.rows-test.true in
    let here_is : c.cell_lent-count.result ≡ num at.len.now i = c.cell_lent-count.ensures.is in
    let count : c.cell_lent-count.result ≡ num len i = here_is ∙ (was.rest i (omega arith)).len in
    let marked : c.is_held_last-held.result ≡ held i = c.is_held_last-held.ensures
    ∙ ap (λ d. is_marked (option_copied c.args.hold) i || nat_lt c.args.threshold d) count in
    let either : c.if-held.aside ≡ (c.is_held_last-held.result || c.cell_lent-count.result == 0) = elim c.if-held.branch [
      | then-held v ↦ v.aside-is ∙ v.if-held.true ∙ sym (ap (λ b. b || c.cell_lent-count.result == 0) v.if-held.true)
      | else-held v ↦ v.aside-is ∙ sym (ap (λ b. b || c.cell_lent-count.result == 0) v.if-held.false)
    ] in
    let value : c.if-held.aside ≡ (held i || num len i == 0) = either
    ∙ ap (λ b. b || c.cell_lent-count.result == 0) marked ∙ ap (λ d. held i || d == 0) count in
    elim c.if-aside.branch [
      | then-aside w ↦ (
          let none : begins_class held len i ≡ false = class_test (held i) (num len i) ∙ ap not (sym value ∙ w.if-aside.true) in
          let rows = aside_rows i n held p q was.begins was.rest here none in
          let wrote = w.put_aside.ensures in
          let equal : AreEqual (aside (held i) i q) r = record {
            pe = ap (λ r. r.pe.now) w.lists-is ∙ wrote.starts;
            e_len = ap (λ r. r.e_len.now) w.lists-is ∙ wrote.counts ∙ ap (λ b. set at.e_len.now i (cond b (negsuc 0) (flip_of 1))) marked;
            nv = ap (λ r. r.nv.now) w.lists-is ∙ wrote.sizes;
            len = ap (λ r. r.len.now) w.lists-is ∙ wrote.lengths ∙ ap (λ xs. set xs i 0) c.cell_lent-count.ensures.kept;
            degree = ap (λ r. r.degree.now) w.lists-is ∙ wrote.bounds;
            w = ap (λ r. r.w.now) w.lists-is ∙ wrote.counters;
          } in
          let added : w.number_of-n_dense.result ≡ one_if (held i) = w.number_of-n_dense.ensures ∙ ap one_if marked in
          record {
            begins = equal_rows (i + 1) n held p (aside (held i) i q) r equal rows.0;
            rest = equal_rest (i + 1) p (aside (held i) i q) r equal rows.1;
            links = (
              ap (λ r. length r.head.now) w.lists-is ∙ was.links.0,
              ap (λ r. length (nexts r.sides.now)) w.lists-is ∙ was.links.1,
              ap (λ r. length (lasts r.sides.now)) w.lists-is ∙ was.links.2,
            );
            linked = renamed (ap (λ r. r.head.now) w.lists-is) (ap (λ r. nexts r.sides.now) w.lists-is)
                (ap (λ r. lasts r.sides.now) w.lists-is) (ap (λ r. r.degree.now) w.lists-is ∙ wrote.bounds)
                (linked_skip n i held len at.head.now (nexts at.sides.now) (lasts at.sides.now) at.degree.now was.linked none);
            buckets = ap (λ r. r.hash.now) w.lists-is ∙ was.buckets;
            loans = subst (KeepsRows c.args.lists.now) (sym w.lists-is) was.loans;
            live = w.live-is ∙ count_no (begins_class held len) i c.rows.live was.live none;
            dense = w.n_dense-is ∙ ap (λ m. c.rows.n_dense + m) added ∙ count_next held i c.rows.n_dense was.dense;
          })
      | else-aside w ↦ (
          let one : begins_class held len i ≡ true = class_test (held i) (num len i) ∙ ap not (sym value ∙ w.if-aside.false) in
          let rows = placed_rows i n held p q was.begins was.rest here one in
          let wrote = w.place_row.ensures in
          let equal : AreEqual (placed i q) r = record {
            pe = ap (λ r. r.pe.now) w.lists-is;
            e_len = ap (λ r. r.e_len.now) w.lists-is ∙ wrote.counts;
            nv = ap (λ r. r.nv.now) w.lists-is ∙ wrote.sizes;
            len = ap (λ r. r.len.now) w.lists-is ∙ c.cell_lent-count.ensures.kept;
            degree = ap (λ r. r.degree.now) w.lists-is ∙ wrote.bounds ∙ ap (set at.degree.now i) here_is;
            w = ap (λ r. r.w.now) w.lists-is ∙ wrote.counters;
          } in
          let free : held i ≡ false = elim (cases_Bool (held i)) [
            | inr f ↦ f
            | inl y ↦ absurd (true≢false (sym (ap (λ b. b || num len i == 0) y) ∙ sym value ∙ w.if-aside.false))
          ] in
          let long : length (nexts at.sides.now) ≡ n = was.links.1 in
          let new = w.place_row.new in
          record {
            begins = equal_rows (i + 1) n held p (placed i q) r equal rows.0;
            rest = equal_rest (i + 1) p (placed i q) r equal rows.1;
            links = (
              ap (λ r. length r.head.now) w.lists-is ∙ wrote.lengths.0 ∙ long,
              ap (λ r. length (nexts r.sides.now)) w.lists-is ∙ wrote.lengths.1 ∙ long,
              ap (λ r. length (lasts r.sides.now)) w.lists-is ∙ wrote.lengths.2 ∙ long,
            );
            linked = renamed (ap (λ r. r.head.now) w.lists-is) (ap (λ r. nexts r.sides.now) w.lists-is)
                (ap (λ r. lasts r.sides.now) w.lists-is) (ap (λ r. r.degree.now) w.lists-is)
                (subst (λ m. DegreeLists m new.head (nexts new.sides) (lasts new.sides) new.degree
                (λ b. reverse (classes_of held len (i + 1) b))) long
                (linked_take (length (nexts at.sides.now)) i held len at.head.now (nexts at.sides.now) (lasts at.sides.now)
                at.degree.now (subst (λ m. DegreeLists m at.head.now (nexts at.sides.now) (lasts at.sides.now) at.degree.now
                (λ b. reverse (classes_of held len i b)))
                (sym long) was.linked) new.head (nexts new.sides) (lasts new.sides) new.degree c.cell_lent-count.result count one
                wrote.linked));
            buckets = ap (λ r. r.hash.now) w.lists-is ∙ was.buckets;
            loans = subst (KeepsRows c.args.lists.now) (sym w.lists-is) was.loans;
            live = w.live-is ∙ count_yes (begins_class held len) i c.rows.live was.live one;
            dense = w.n_dense-is ∙ count_no held i c.rows.n_dense was.dense free;
          })
    ]

-- every row was begun
begun_all : {i n : ℕ} {held : ℕ → Bool} {p q : Rows} → i ≡ n → BeginsRows i n held p q → BeginsRows n n held p q
begun_all {i} {n} {held} {p} {q} end begun = subst (λ k. BeginsRows k n held p q) end begun

pub returns-clause-begins : goal.returns-clause-begins
returns-clause-begins g c =
    let end : c.rows.i ≡ length c.args.lists.now.len.now =
    (let a = c.rows-test.false in let b = c.rows.auto.i-end in omega (arith, a, b)) in
    begun_all end c.rows.invariant.begins

pub returns-clause-lengths : goal.returns-clause-lengths
returns-clause-lengths g c = c.rows.invariant.links

pub returns-clause-linked : goal.returns-clause-linked
returns-clause-linked g c =
    let len : List ℕ = c.args.lists.now.len.now in
    let end : c.rows.i ≡ length len = (let a = c.rows-test.false in let b = c.rows.auto.i-end in omega (arith, a, b)) in
    let at = c.rows.lists in
    subst (λ k. DegreeLists (length len) at.head.now (nexts at.sides.now) (lasts at.sides.now) at.degree.now
    (λ b. reverse (classes_of (held_in (option_copied c.args.hold) c.args.threshold len) len k b))) end c.rows.invariant.linked

pub returns-clause-live : goal.returns-clause-live
returns-clause-live g c =
    let len : List ℕ = c.args.lists.now.len.now in
    let end : c.rows.i ≡ length len = (let a = c.rows-test.false in let b = c.rows.auto.i-end in omega (arith, a, b)) in
    c.rows.invariant.live
    ∙ ap (λ k. count_below k (begins_class (held_in (option_copied c.args.hold) c.args.threshold len) len)) end

pub returns-clause-dense : goal.returns-clause-dense
returns-clause-dense g c =
    let len : List ℕ = c.args.lists.now.len.now in
    let end : c.rows.i ≡ length len = (let a = c.rows-test.false in let b = c.rows.auto.i-end in omega (arith, a, b)) in
    c.rows.invariant.dense ∙ ap (λ k. count_below k (held_in (option_copied c.args.hold) c.args.threshold len)) end

-- all lists are as long
pub put_aside-requires-clause-words : goal.put_aside-requires-clause-words
put_aside-requires-clause-words g c =
    let t = c.rows-test.true in let a = c.rows.invariant.begins.long.pe in let b = c.rows.invariant.begins.long.e_len in
    let d = c.rows.invariant.begins.long.nv in (omega (arith, t, a), omega (arith, t, b), omega (arith, t, d))

pub put_aside-requires-clause-cells : goal.put_aside-requires-clause-cells
put_aside-requires-clause-cells g c =
    let t = c.rows-test.true in let a = c.rows.invariant.begins.long.len in let b = c.rows.invariant.begins.long.degree in
    let d = c.rows.invariant.begins.long.w in (omega (arith, t, a), omega (arith, t, b), omega (arith, t, d))

pub place_row-requires-clause-words : goal.place_row-requires-clause-words
place_row-requires-clause-words g c =
    let t = c.rows-test.true in let a = c.rows.invariant.begins.long.e_len in let b = c.rows.invariant.begins.long.nv in
    let d = c.rows.invariant.begins.long.w in (omega (arith, t, a), omega (arith, t, b), omega (arith, t, d))

pub place_row-requires-clause-lengths : goal.place_row-requires-clause-lengths
place_row-requires-clause-lengths g c = let links = c.rows.invariant.links in
    (links.0 ∙ sym links.1, c.rows.invariant.begins.long.degree ∙ sym links.1)

pub place_row-requires-clause-narrow : goal.place_row-requires-clause-narrow
place_row-requires-clause-narrow g c =
    let narrow = c.requires.narrow in let a = narrow.0 in let b = narrow.1 in let d = c.rows.invariant.links.1 in
    (omega (arith, a), omega (arith, b, d))

pub is_held_last-held-requires : goal.is_held_last-held-requires
is_held_last-held-requires g c = record { within = (length c.args.lists.now.len.now, c.rows-test.true, c.requires.marks) }
