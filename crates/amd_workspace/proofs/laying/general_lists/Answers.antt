-- the goals of laying::general_lists.
use Rattle.std.proofs.Common.{◌≡◌, ◌+◌, ◌<◌, ◌≤◌, ◌-◌, ◌++◌, ℕ, ℤ, List, map, length, arith, ap, ◌∙◌, pos}
use Rattle.std.specs.Prelude.{replicate}
use Rattle.std.specs.Vec.{vec_capacity}
use Rattle.amd_model.specs.Input.Pattern.{graph_of, is_pair}
use Rattle.amd_model.specs.Quotient.{met_edges}
use Rattle.amd_edges.specs.Visits.{arcs_of}
use Rattle.amd_edges.proofs.Listing.{start_later}
use Rattle.amd_edges.proofs.Orders.{ends_starting}
use Rattle.amd_words.specs.Words.{num, rows}
use Rattle.amd_workspace.specs.Copying.{HoldRows}
use Rattle.amd_workspace.specs.Lower.{own_start}
use Rattle.amd_workspace.specs.declared.lists.Words.{Words}
use Rattle.amd_workspace.proofs.CopiedColumns.{filled_words, filled_long, filled_same, rows_empty}
use Rattle.amd_workspace.proofs.Layings.{kept_room, lays_none, walked_list}
use Rattle.amd_workspace.proofs.laying.general_lists.Goals as goal

-- what was copied, and behind it the last row in more words
record AreFilled (n count : ℕ) (xs ys : List ℤ) : Type 0 where
  long : length ys ≡ length xs + count
  words : HoldRows n ys
  same : (from many : ℕ) → from + many ≤ length xs → rows ys from many ≡ rows xs from many

-- words that were copied into none, and more behind them
are_filled : (n count : ℕ) (none xs ys : List ℤ) → 0 < n → length none ≡ 0 → (HoldRows n none → HoldRows n xs) →
    ys ≡ xs ++ replicate count (pos (n - 1)) → AreFilled n count xs ys
are_filled n count none xs ys some empty words filled =
    let last : n - 1 < n = omega (arith, some) in let held = words (rows_empty n none some empty) in record {
      long = filled_long n count (n - 1) xs ys last held filled;
      words = filled_words n count (n - 1) xs ys last held filled;
      same = filled_same n count (n - 1) xs ys last held filled;
    }

-- what was copied, where there is room for as many words more as there are rows
module _ (start size room len : ℕ) (xs ys : List ℤ) (most : length xs ≤ start) (enough : start + size ≤ room) (is : len ≡ length xs)
    (long : length ys ≡ length xs + (room - len)) where
  filled_up : length ys ≡ room
  filled_up = omega (arith, most, enough, is, long)

-- what was taken out of its place is as empty as it was there
taken_none : {S U A : Type 0} {old taken : Words S U A} → taken ≡ old → length old.iw.items ≡ 0 → length taken.iw.items ≡ 0
taken_none is empty = ap (λ w. length w.iw.items) is ∙ empty

pub copy_symmetric-copied-requires-clause-form : goal.copy_symmetric-copied-requires-clause-form
copy_symmetric-copied-requires-clause-form g c = c.requires.form

pub copy_symmetric-copied-requires-clause-sorted : goal.copy_symmetric-copied-requires-clause-sorted
copy_symmetric-copied-requires-clause-sorted g c = c.requires.sorted

pub copy_symmetric-copied-requires-clause-degrees : goal.copy_symmetric-copied-requires-clause-degrees
copy_symmetric-copied-requires-clause-degrees g c = c.requires.degrees

pub copy_symmetric-copied-requires-clause-empty : goal.copy_symmetric-copied-requires-clause-empty
copy_symmetric-copied-requires-clause-empty g c = taken_none c.replace-own.ensures.value c.requires.empty.0

pub copy_symmetric-copied-requires-clause-room : goal.copy_symmetric-copied-requires-clause-room
copy_symmetric-copied-requires-clause-room g c =
    let room = c.requires.room in let wide = c.requires.capacity in
    let is = ap (λ w. vec_capacity w.iw) c.replace-own.ensures.value in omega (arith, room, wide, is)

pub copy_symmetric-copied-requires-clause-fits : goal.copy_symmetric-copied-requires-clause-fits
copy_symmetric-copied-requires-clause-fits g c = c.requires.fits.0

pub overflow_sub-size : goal.overflow_sub-size
overflow_sub-size g c = let some = c.requires.some in omega (arith, some)

pub push_rows-requires-clause-room : goal.push_rows-requires-clause-room
push_rows-requires-clause-room g c =
    let room = c.requires.room in let wide = c.requires.capacity in
    let is = ap (λ w. vec_capacity w.iw) c.replace-own.ensures.value in
    let most = c.copy_symmetric-copied.ensures.long in let kept = c.copy_symmetric-copied.ensures.capacity in
    omega (arith, room, wide, is, most, kept)

pub push_rows-requires-clause-small : goal.push_rows-requires-clause-small
push_rows-requires-clause-small g c = let rows = c.requires.fits.0 in omega (arith, rows)

pub overflow_sub-rest : goal.overflow_sub-rest
overflow_sub-rest g c =
    let long = c.len.ensures ∙ c.copy_symmetric-copied.new.iw.ok.0 in let most = c.copy_symmetric-copied.ensures.long in
    let room = c.requires.room in omega (arith, long, most, room)

pub overflow_sub-size-2 : goal.overflow_sub-size-2
overflow_sub-size-2 g c = let some = c.requires.some in omega (arith, some)

pub push_rows-requires-2-clause-room : goal.push_rows-requires-2-clause-room
push_rows-requires-2-clause-room g c =
    let room = c.requires.room in let wide = c.requires.capacity in
    let is = ap (λ w. vec_capacity w.iw) c.replace-own.ensures.value in
    let long = c.len.ensures ∙ c.copy_symmetric-copied.new.iw.ok.0 in
    let most = c.copy_symmetric-copied.ensures.long in let kept = c.copy_symmetric-copied.ensures.capacity in
    omega (arith, room, wide, is, long, most, kept)

pub push_rows-requires-2-clause-small : goal.push_rows-requires-2-clause-small
push_rows-requires-2-clause-small g c = let rows = c.requires.fits.0 in omega (arith, rows)

pub walk-requires-clause-form : goal.walk-requires-clause-form
walk-requires-clause-form g c = c.requires.form

pub walk-requires-clause-sorted : goal.walk-requires-clause-sorted
walk-requires-clause-sorted g c = c.requires.sorted

pub walk-requires-clause-fits : goal.walk-requires-clause-fits
walk-requires-clause-fits g c = c.requires.fits.2

pub walk-requires-clause-empty : goal.walk-requires-clause-empty
walk-requires-clause-empty g c = c.requires.empty.1

pub walk-requires-clause-room : goal.walk-requires-clause-room
walk-requires-clause-room g c = c.requires.wide

pub returns-clause-pointers : goal.returns-clause-pointers
returns-clause-pointers g c = let kept = c.walk.ensures.room in omega (arith, kept)

pub returns-then-copied-clause-long : goal.returns-then-copied-clause-long
returns-then-copied-clause-long g c = let r = c.requires in let e = c.copy_symmetric-copied.ensures in
    let long = (are_filled c.args.size c.args.size c.replace-own.result.iw.items _ _ r.some (taken_none c.replace-own.ensures.value
    r.empty.0) e.words c.push_rows.ensures.items).long in
    let all = e.all c.if-copied.true in let most = e.long in let room = r.room in
    (omega (arith, long, all), omega (arith, long, most, room))

pub returns-then-copied-clause-capacity : goal.returns-then-copied-clause-capacity
returns-then-copied-clause-capacity g c = let is = c.replace-own.ensures.value in record {
  next = (let x = ap (λ w. vec_capacity w.next) is in omega (arith, x));
  iw = (let x = ap (λ w. vec_capacity w.iw) is in let a = c.copy_symmetric-copied.ensures.capacity in
      let b = c.push_rows.ensures.capacity in omega (arith, x, a, b));
}

pub returns-then-copied-clause-lists : goal.returns-then-copied-clause-lists
unfolding graph_of
returns-then-copied-clause-lists g c =
    let ap' = map g.I.Index.value c.args.a_p.now in let ai = map g.I.Index.value c.args.a_i.now in let n = c.args.size in
    let r = c.requires in let e = c.copy_symmetric-copied.ensures in let all = e.all c.if-copied.true in
    let filled = are_filled n n c.replace-own.result.iw.items _ _ r.some (taken_none c.replace-own.ensures.value r.empty.0) e.words
    c.push_rows.ensures.items in (
      filled.words,
      λ i l. (let later = start_later (graph_of n ap' ai) i n l in let own = r.degrees.each i l in
          filled.same (own_start n ap' ai i) (num c.args.degrees.now i) (omega (arith, all, later, own)) ∙ e.lists c.if-copied.true i l),
    )

pub walk-requires-clause-held : goal.walk-requires-clause-held
unfolding graph_of
walk-requires-clause-held g c = let r = c.requires in let e = c.copy_symmetric-copied.ensures in
    let ap' = map g.I.Index.value c.args.a_p.now in let ai = map g.I.Index.value c.args.a_i.now in
    let filled = are_filled c.args.size (c.args.room - c.len.result) c.replace-own.result.iw.items _ _ r.some (taken_none
    c.replace-own.ensures.value r.empty.0) e.words
    c.push_rows-2.ensures.items in
    let long = filled_up _ c.args.size c.args.room c.len.result _ _ e.long r.room
    (c.len.ensures ∙ c.copy_symmetric-copied.new.iw.ok.0) filled.long in
    let room = r.room in let fits = r.fits.1 in
    rw c.replace-own.ensures.value (lays_none (graph_of c.args.size ap' ai) c.args.words.now.next.items r.long r.starts g.S.Signed.MOST
    g.U.Unsigned.MOST
    c.push_rows-2.new.iw.items filled.words (omega (arith, room, long)) r.fits.0 (omega (arith, fits, long)))

-- the words that a walk goes on with
module _ (start size room : ℕ) (enough : start + size ≤ room) (old new : List ℤ) (kept : length new ≡ length old)
    (long : length old ≡ room) where
  walked_long : (start + size ≤ length new) × (length new ≤ room)
  walked_long = (omega (arith, enough, kept, long), omega (arith, kept, long))

pub returns-clause-long : goal.returns-clause-long
returns-clause-long g c = let r = c.requires in let e = c.copy_symmetric-copied.ensures in
    let filled = are_filled c.args.size (c.args.room - c.len.result) c.replace-own.result.iw.items _ _ r.some (taken_none
    c.replace-own.ensures.value r.empty.0) e.words
    c.push_rows-2.ensures.items in
    walked_long _ c.args.size c.args.room r.room _ _ (kept_room c.walk.ensures.kept).0 (filled_up _ c.args.size c.args.room c.len.result _ _
    e.long r.room (c.len.ensures ∙ c.copy_symmetric-copied.new.iw.ok.0) filled.long)

pub returns-clause-capacity : goal.returns-clause-capacity
returns-clause-capacity g c =
    let kept = kept_room c.walk.ensures.kept in let x = kept.1 in let y = kept.2 in
    let is = c.replace-own.ensures.value in
    let a = c.copy_symmetric-copied.ensures.capacity in let b = c.push_rows-2.ensures.capacity in record {
      next = (let old = ap (λ w. vec_capacity w.next) is in omega (arith, x, old));
      iw = (let old = ap (λ w. vec_capacity w.iw) is in omega (arith, y, a, b, old));
    }

pub returns-clause-lists : goal.returns-clause-lists
unfolding graph_of
returns-clause-lists g c =
    let ap' = map g.I.Index.value c.args.a_p.now in let ai = map g.I.Index.value c.args.a_i.now in
    let graph = graph_of c.args.size ap' ai in (
      c.walk.ensures.held.words,
      λ i l. walked_list graph c.args.degrees.now c.requires.degrees (arcs_of (met_edges c.args.size (is_pair c.args.size ap' ai)))
          g.S.Signed.MOST g.U.Unsigned.MOST c.walk.new.visitor.next.items c.walk.new.visitor.iw.items c.walk.ensures.held i l
          ∙ ends_starting c.args.size (is_pair c.args.size ap' ai) i,
    )
