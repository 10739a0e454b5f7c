-- the goals of lower::lay_rows.
use Rattle.std.proofs.Common.{◌≡◌, ◌<◌, ◌≤◌, ◌+◌, ◌-◌, ℕ, ℤ, List, true, arith, map, refl, sym, subst, ap, length, pos}
use Rattle.std.specs.Prelude.{replicate}
use Rattle.std.proofs.lemmas.List.{length-append, length-replicate}
use Rattle.amd_model.specs.Below.{sum_below}
use Rattle.amd_model.specs.Input.Pattern.{graph_of, is_pair}
use Rattle.amd_edges.specs.Visits.{AreCounts, start_of}
use Rattle.amd_words.specs.Words.{num}
use Rattle.amd_workspace.specs.Lower.{IsLower, IsReadyForColumn, LaysRows, SpreadsColumns, earlier_below, own_start}
use Rattle.amd_workspace.proofs.LowerWords.{later_start, list_room, next_end, spread_lists_are}
use Rattle.amd_workspace.proofs.LaidRows.{lays_column, lays_end, lays_none}
use Rattle.amd_workspace.proofs.lower.lay_rows.Goals as goal

-- the next column is ready, once the lists of its rows are laid
module _ (n : ℕ) (ap' ai : List ℤ) (lower : IsLower n ap' ai) (degrees : List ℕ)
    (counts : AreCounts (graph_of n ap' ai) ((graph_of n ap' ai).edge) degrees) (j past end : ℕ) (j_in : j < n)
    (end_is : end ≡ own_start n ap' ai j) (after : j < past) (within : (i : ℕ) → is_pair n ap' ai i j ≡ true → i < past)
    (a b : ℕ) (next : List ℕ) (iw : List ℤ) (h : LaysRows n ap' ai past (earlier_below n ap' ai j) next iw)
    (small : n ≤ a) (fits : own_start n ap' ai n + n ≤ b) where
  ready : IsReadyForColumn (record { n = n; ap = ap'; ai = ai }) past j (end + num degrees j) a b next iw
  ready = let long = h.long in let whole = later_start n ap' ai lower past n h.few (omega arith) in record {
    lower = lower;
    few = h.few;
    row = after;
    within = within;
    end = next_end n ap' ai lower degrees counts j end j_in end_is;
    room = omega (arith, long);
    rows = small;
    places = omega (arith, long, whole, fits);
    before = h.spreads;
  }

pub columns-init : goal.columns-init
unfolding start_of sum_below
columns-init g c = record {
  reach = omega arith;
  end = refl;
  capacity = omega arith;
  laid = lays_none c.args.size (map g.I.Index.value c.args.a_p.now) (map g.I.Index.value c.args.a_i.now) c.requires.input.lower
      c.args.next.now
      c.args.iw.now.items c.requires.some c.requires.empty c.requires.next c.requires.starts;
}

pub past_column-requires-clause-input : goal.past_column-requires-clause-input
past_column-requires-clause-input g c = c.requires.input

pub past_column-requires-clause-row : goal.past_column-requires-clause-row
past_column-requires-clause-row g c = c.columns-test.true

pub push_until-requires-clause-input : goal.push_until-requires-clause-input
push_until-requires-clause-input g c = c.requires.input

pub push_until-requires-clause-degrees : goal.push_until-requires-clause-degrees
push_until-requires-clause-degrees g c = c.requires.degrees

pub push_until-requires-clause-rows : goal.push_until-requires-clause-rows
push_until-requires-clause-rows g c =
    let few = c.past_column.ensures.few in let most = c.max-past.ensures in let laid = c.columns.invariant.laid.few in
    (omega (arith, most), omega (arith, few, most, laid))

pub push_until-requires-clause-laid : goal.push_until-requires-clause-laid
push_until-requires-clause-laid g c =
    let ap' = map g.I.Index.value c.args.a_p.now in let ai = map g.I.Index.value c.args.a_i.now in
    (earlier_below c.args.size ap' ai c.columns.j, c.columns.next, c.columns.invariant.laid)

pub push_until-requires-clause-room : goal.push_until-requires-clause-room
push_until-requires-clause-room g c =
    let room = c.requires.room in let wide = c.columns.invariant.capacity in omega (arith, room, wide)

pub push_until-requires-clause-fits : goal.push_until-requires-clause-fits
push_until-requires-clause-fits g c = c.requires.fits.0

pub overflow_sub-size : goal.overflow_sub-size
overflow_sub-size g c = let some = c.requires.some in omega (arith, some)

pub push_rows-requires-clause-small : goal.push_rows-requires-clause-small
push_rows-requires-clause-small g c = let rows = c.requires.fits.0 in omega (arith, rows)

pub returns-clause-capacity : goal.returns-clause-capacity
returns-clause-capacity g c =
    let a = c.columns.invariant.capacity in let b = c.push_rows.ensures.capacity in omega (arith, a, b)

pub cell_at-end-requires : goal.cell_at-end-requires
unfolding graph_of
cell_at-end-requires g c = let a = c.requires.degrees.size in let b = c.columns-test.true in omega (arith, a, b)

pub overflow_add-end : goal.overflow_add-end
overflow_add-end g c =
    let room = c.requires.room in let small = c.args.iw.now.small in
    let d = list_room c.args.size (map g.I.Index.value c.args.a_p.now) (map g.I.Index.value c.args.a_i.now) c.requires.input.lower
    c.args.degrees.now c.requires.degrees c.columns.j c.columns.end c.columns-test.true c.columns.invariant.end in
    let is = c.cell_at-end.ensures.is in omega (arith, d, room, small, is)

pub spread_in-requires : goal.spread_in-requires
spread_in-requires g c =
    let ap' = map g.I.Index.value c.args.a_p.now in let ai = map g.I.Index.value c.args.a_i.now in let i = c.columns.invariant in
    let past = c.past_column.ensures.past in let most = c.max-past.ensures in record {
      ready = rw c.cell_at-end.ensures.is (
        record { n = c.args.size; ap = ap'; ai = ai },
        c.max-past.result,
        ready c.args.size ap' ai c.requires.input.lower c.args.degrees.now c.requires.degrees c.columns.j c.max-past.result c.columns.end
            c.columns-test.true i.end (omega (arith, past, most))
            (λ k e. let all = c.past_column.ensures.all k e in omega (arith, all, most)) _ _ c.columns.next
            c.push_until.new.iw.items (c.push_until.ensures.laid _ _ i.laid) c.requires.fits.0 c.requires.fits.1,
      );
    }

pub columns-preserved : goal.columns-preserved
columns-preserved g c =
    let ap' = map g.I.Index.value c.args.a_p.now in let ai = map g.I.Index.value c.args.a_i.now in let i = c.columns.invariant in
    let past = c.past_column.ensures.past in let most = c.max-past.ensures in let n = c.args.size in
    let within : (k : ℕ) → is_pair n ap' ai k c.columns.j ≡ true → k < c.max-past.result =
    λ k e. let all = c.past_column.ensures.all k e in omega (arith, all, most) in
    let laid = c.push_until.ensures.laid _ _ i.laid in record {
      reach = omega (arith, past, most);
      end = rw c.cell_at-end.ensures.is (next_end n ap' ai c.requires.input.lower c.args.degrees.now c.requires.degrees c.columns.j
          c.columns.end c.columns-test.true
          i.end);
      capacity = (let x = i.capacity in let y = c.push_until.ensures.capacity in let z = c.spread_in.ensures.capacity in
          omega (arith, x, y, z));
      laid = lays_column n ap' ai c.requires.input.lower c.max-past.result c.columns.j c.columns.next c.spread_in.new.next
          c.push_until.new.iw.items c.spread_in.new.iw.items c.columns-test.true within c.spread_in.ensures.long laid
          ((rw c.cell_at-end.ensures.is at c.spread_in.ensures.after) (record { n = n; ap = ap'; ai = ai }) c.max-past.result
          (ready n ap' ai c.requires.input.lower c.args.degrees.now c.requires.degrees c.columns.j c.max-past.result c.columns.end
          c.columns-test.true i.end (omega (arith, past, most)) within _ _ c.columns.next c.push_until.new.iw.items laid
          c.requires.fits.0 c.requires.fits.1));
    }

-- behind the last column all lists are laid
module _ (n : ℕ) (ap' ai : List ℤ) (j laid : ℕ) (next : List ℕ) (iw : List ℤ) (reach : j ≤ laid) (last : j ≡ n)
    (h : LaysRows n ap' ai laid (earlier_below n ap' ai j) next iw) where
  all_laid : LaysRows n ap' ai n (earlier_below n ap' ai n) next iw
  all_laid = let few = h.few in let all : laid ≡ n = omega (arith, reach, last, few) in
      subst (λ k. LaysRows n ap' ai n (earlier_below n ap' ai k) next iw) last
      (subst (λ m. LaysRows n ap' ai m (earlier_below n ap' ai j) next iw) all h)

pub push_rows-requires-clause-room : goal.push_rows-requires-clause-room
push_rows-requires-clause-room g c =
    let ap' = map g.I.Index.value c.args.a_p.now in let ai = map g.I.Index.value c.args.a_i.now in let n = c.args.size in
    let a = c.columns.auto.j-end in let b = c.columns-test.false in let i = c.columns.invariant in
    let long = (all_laid n ap' ai c.columns.j c.columns.laid c.columns.next c.columns.iw.items i.reach (omega (arith, a, b)) i.laid).long in
    let room = c.requires.room in let wide = i.capacity in omega (arith, long, room, wide)

pub returns-clause-long : goal.returns-clause-long
returns-clause-long g c =
    let ap' = map g.I.Index.value c.args.a_p.now in let ai = map g.I.Index.value c.args.a_i.now in let n = c.args.size in
    let a = c.columns.auto.j-end in let b = c.columns-test.false in let i = c.columns.invariant in
    let long = (all_laid n ap' ai c.columns.j c.columns.laid c.columns.next c.columns.iw.items i.reach (omega (arith, a, b)) i.laid).long in
    let whole = ap length c.push_rows.ensures.items in
    let size = length-append c.columns.iw.items (replicate n (pos (n - 1))) in
    let d = length-replicate n (pos (n - 1)) in omega (arith, long, whole, size, d)

pub returns-clause-lists : goal.returns-clause-lists
returns-clause-lists g c =
    let ap' = map g.I.Index.value c.args.a_p.now in let ai = map g.I.Index.value c.args.a_i.now in let n = c.args.size in
    let a = c.columns.auto.j-end in let b = c.columns-test.false in let i = c.columns.invariant in let some = c.requires.some in
    let so = subst (SpreadsColumns n ap' ai (earlier_below n ap' ai n) c.columns.next) (sym c.push_rows.ensures.items)
    (lays_end n ap' ai c.requires.input.lower (earlier_below n ap' ai n) c.columns.next c.columns.iw.items (n - 1) n
    (omega (arith, some))
    (all_laid n ap' ai c.columns.j c.columns.laid c.columns.next c.columns.iw.items i.reach (omega (arith, a, b)) i.laid)) in (
      so.held.words,
      spread_lists_are n ap' ai c.requires.input.lower c.args.degrees.now c.columns.next c.push_rows.new.iw.items
          c.requires.degrees so,
    )
