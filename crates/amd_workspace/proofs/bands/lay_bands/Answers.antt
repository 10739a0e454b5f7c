-- the goals of bands::lay_bands.
use Rattle.std.proofs.Common.{◌≡◌, ◌<◌, ◌≤◌, ◌++◌, ◌+◌, ◌-◌, ℕ, ℤ, List, pos, arith, refl, sym, subst, ap, ◌∙◌, length, map, take, drop}
use Rattle.std.proofs.lemmas.List.{length-append, length-replicate}
use Rattle.std.specs.Prelude.{replicate}
use Rattle.amd_words.specs.Words.{num, rows}
use Rattle.amd_workspace.specs.Copying.{HoldRows}
use Rattle.amd_workspace.specs.Lower.{AreNeighbourCounts, IsLower, HasColumns, LaysRows, SpreadsColumns, earlier_below, own_start}
use Rattle.amd_workspace.specs.Bands.{HasHeads}
use Rattle.amd_workspace.proofs.Layings.{written}
use Rattle.amd_workspace.proofs.LaidRows.{lays_end, lays_none}
use Rattle.amd_workspace.proofs.bands.lay_bands.Goals as goal

-- the words after the first pass, lent as a slice
module _ (n : ℕ) (ap' ai : List ℤ) (lower : IsLower n ap' ai) (degrees : List ℕ) (a b : ℕ) (next : List ℕ) (xs filled lent : List ℤ)
    (counts : AreNeighbourCounts n ap' ai degrees) (some : 0 < n) (small : n ≤ a) (fits : own_start n ap' ai n + n ≤ b)
    (laid : LaysRows n ap' ai n (earlier_below n ap' ai 0) next xs) (is : filled ≡ xs ++ replicate n (pos (n - 1)))
    (value : lent ≡ filled) where
  long : length filled ≡ own_start n ap' ai n + n
  long = let e = ap length is in let l = length-append xs (replicate n (pos (n - 1))) in
      let r = length-replicate n (pos (n - 1)) in let k = laid.long in omega (arith, e, l, r, k)

  columns : HasColumns (record { n = n; ap = ap'; ai = ai }) degrees a b next lent
  columns = subst (HasColumns (record { n = n; ap = ap'; ai = ai }) degrees a b next) (sym value) (record {
    lower = lower;
    counts = counts;
    room = omega (arith, long);
    rows = small;
    places = omega (arith, long, fits);
    before = subst (SpreadsColumns n ap' ai (earlier_below n ap' ai 0) next) (sym is)
        (lays_end n ap' ai lower (earlier_below n ap' ai 0) next xs (n - 1) n (omega (arith, some)) laid);
  })

-- and after the second one, taken back
module _ (new : List ℤ) {items lent : List ℤ} {count : ℕ} (value : lent ≡ items) (counted : count ≡ length items)
    (kept : length new ≡ length lent) where
  back : take count (new ++ drop (length new) items) ≡ new
  back = written new new (drop (length new) items) count refl (kept ∙ ap length value ∙ sym counted)

pub push_until-requires-clause-input : goal.push_until-requires-clause-input
push_until-requires-clause-input g c = c.requires.input

pub push_until-requires-clause-degrees : goal.push_until-requires-clause-degrees
push_until-requires-clause-degrees g c = c.requires.degrees

pub push_until-requires-clause-room : goal.push_until-requires-clause-room
push_until-requires-clause-room g c = let room = c.requires.room in omega (arith, room)

pub push_until-requires-clause-fits : goal.push_until-requires-clause-fits
push_until-requires-clause-fits g c = c.requires.fits.0

pub overflow_sub-size : goal.overflow_sub-size
overflow_sub-size g c = let some = c.requires.some in omega (arith, some)

pub push_rows-requires-clause-small : goal.push_rows-requires-clause-small
push_rows-requires-clause-small g c = let rows = c.requires.fits.0 in omega (arith, rows)

pub push_heads-requires-clause-input : goal.push_heads-requires-clause-input
push_heads-requires-clause-input g c = c.requires.input

pub push_heads-requires-clause-degrees : goal.push_heads-requires-clause-degrees
push_heads-requires-clause-degrees g c = c.requires.degrees

pub push_heads-requires-clause-total : goal.push_heads-requires-clause-total
push_heads-requires-clause-total g c = let cells = c.requires.fits.1 in omega (arith, cells)

pub push_heads-requires-clause-empty : goal.push_heads-requires-clause-empty
push_heads-requires-clause-empty g c = c.requires.empty.1

pub push_heads-requires-clause-room : goal.push_heads-requires-clause-room
push_heads-requires-clause-room g c = c.requires.wide

pub returns-clause-capacity : goal.returns-clause-capacity
returns-clause-capacity g c =
    let a = c.push_until.ensures.capacity in let b = c.push_rows.ensures.capacity in omega (arith, a, b)

pub returns-clause-heads : goal.returns-clause-heads
returns-clause-heads g c = let kept = c.push_heads.ensures.capacity in omega (arith, kept)

pub push_until-requires-clause-laid : goal.push_until-requires-clause-laid
push_until-requires-clause-laid g c = let r = c.requires in
    let ap' = map g.I.Index.value c.args.a_p.now in let ai = map g.I.Index.value c.args.a_i.now in (
      earlier_below c.args.size ap' ai 0,
      c.args.next.now,
      lays_none c.args.size ap' ai r.input.lower c.args.next.now c.args.iw.now.items r.some r.empty.0 r.next r.starts,
    )

pub push_rows-requires-clause-room : goal.push_rows-requires-clause-room
push_rows-requires-clause-room g c = let r = c.requires in
    let ap' = map g.I.Index.value c.args.a_p.now in let ai = map g.I.Index.value c.args.a_i.now in
    let laid = (c.push_until.ensures.laid _ _ (lays_none c.args.size ap' ai r.input.lower c.args.next.now c.args.iw.now.items r.some
    r.empty.0 r.next r.starts)).long in let room = r.room in let wide = c.push_until.ensures.capacity in omega (arith, laid, room, wide)

pub spread_bands-requires : goal.spread_bands-requires
spread_bands-requires g c = let r = c.requires in
    let ap' = map g.I.Index.value c.args.a_p.now in let ai = map g.I.Index.value c.args.a_i.now in record {
      laid = (
        record { n = c.args.size; ap = ap'; ai = ai },
        columns c.args.size ap' ai r.input.lower c.args.degrees.now _ _ c.args.next.now c.push_until.new.iw.items
            c.push_rows.new.iw.items c.deref_mut.result.now r.degrees r.some r.fits.0 r.fits.1 (c.push_until.ensures.laid _ _
            (lays_none c.args.size ap' ai r.input.lower c.args.next.now c.args.iw.now.items r.some r.empty.0 r.next r.starts))
            c.push_rows.ensures.items c.deref_mut.ensures.value,
        subst (HasHeads (record { n = c.args.size; ap = ap'; ai = ai }) (λ j. 0)) (sym c.deref_mut-2.ensures.value)
            c.push_heads.ensures.heads,
      );
    }

pub returns-clause-long : goal.returns-clause-long
returns-clause-long g c = let r = c.requires in
    let ap' = map g.I.Index.value c.args.a_p.now in let ai = map g.I.Index.value c.args.a_i.now in
    let same = back c.spread_bands.new.iw c.deref_mut.ensures.value c.push_rows.new.iw.ok.0 c.spread_bands.ensures.long in
    ap length same ∙ c.spread_bands.ensures.long ∙ ap length c.deref_mut.ensures.value
    ∙ long c.args.size ap' ai r.input.lower c.args.degrees.now _ _ c.args.next.now c.push_until.new.iw.items
    c.push_rows.new.iw.items c.deref_mut.result.now r.degrees r.some r.fits.0 r.fits.1 (c.push_until.ensures.laid _ _
    (lays_none c.args.size ap' ai r.input.lower c.args.next.now c.args.iw.now.items r.some r.empty.0 r.next r.starts))
    c.push_rows.ensures.items c.deref_mut.ensures.value

pub returns-clause-lists : goal.returns-clause-lists
returns-clause-lists g c = let r = c.requires in
    let ap' = map g.I.Index.value c.args.a_p.now in let ai = map g.I.Index.value c.args.a_i.now in
    let same = back c.spread_bands.new.iw c.deref_mut.ensures.value c.push_rows.new.iw.ok.0 c.spread_bands.ensures.long in
    let lists = c.spread_bands.ensures.lists (record { n = c.args.size; ap = ap'; ai = ai }) (columns c.args.size ap' ai r.input.lower
    c.args.degrees.now _ _ c.args.next.now c.push_until.new.iw.items c.push_rows.new.iw.items c.deref_mut.result.now
    r.degrees r.some r.fits.0 r.fits.1 (c.push_until.ensures.laid _ _
    (lays_none c.args.size ap' ai r.input.lower c.args.next.now c.args.iw.now.items r.some r.empty.0 r.next r.starts))
    c.push_rows.ensures.items c.deref_mut.ensures.value)
    (subst (HasHeads (record { n = c.args.size; ap = ap'; ai = ai }) (λ j. 0)) (sym c.deref_mut-2.ensures.value)
    c.push_heads.ensures.heads) in (
      subst (HoldRows c.args.size) (sym same) lists.0,
      λ i l. ap (λ xs. rows xs (own_start c.args.size ap' ai i) (num c.args.degrees.now i)) same ∙ lists.1 i l,
    )
