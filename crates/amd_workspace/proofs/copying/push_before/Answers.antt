-- The rows before the diagonal, one after another.
use Rattle.std.proofs.Common.{◌+◌, ◌<◌, ◌^◌, ◌++◌, ◌∷◌, [], arith, rules, map, get_or, pos, ap, sym, ◌∙◌, refl}
use Rattle.std.proofs.Common.{le_refl, length, append_assoc, w64, le_of_lt}
use Rattle.std.proofs.lemmas.Int.{to_z_pos}
use Rattle.std.proofs.lemmas.List.{length-map, length-append, append-nil}
use Rattle.amd_model.specs.Below.{count_below, list_below}
use Rattle.amd_types.specs.Naturals.{naturals, is_entry}
use Rattle.amd_edges.proofs.Forms.{sorted_form, pointer_read, row_read}
use Rattle.amd_edges.proofs.Reading.{reading_start, reading_next, row_below}
use Rattle.amd_workspace.proofs.SymmetricLists.{own}
use Rattle.amd_workspace.proofs.Copied.{left_of, others_before, others_more, others_room, row_small, same_other}
use Rattle.amd_workspace.proofs.Layings.{words_next}
use Rattle.amd_workspace.proofs.copying.push_before.Goals as goal

pub count_at-stop-requires : goal.count_at-stop-requires
count_at-stop-requires g c = let p = pointer_read g.I.Index.value c.args.a_p.now c.args.a_i.now c.args.size c.requires.form (c.args.i + 1)
    (let l = c.requires.row in omega (arith, l)) (omega (arith, c.well_formed)) in record { within = p.0; fits = p.1 }

pub count_at-place-requires : goal.count_at-place-requires
count_at-place-requires g c = let p = pointer_read g.I.Index.value c.args.a_p.now c.args.a_i.now c.args.size c.requires.form c.args.i
    (le_of_lt c.requires.row) (omega (arith, c.well_formed)) in record { within = p.0; fits = p.1 }

pub rows-init : goal.rows-init
unfolding list_below
rows-init g c =
    let ap' = map g.I.Index.value c.args.a_p.now in let ai = map g.I.Index.value c.args.a_i.now in let i = c.args.i in
    let form = sorted_form c.args.size ap' ai c.requires.form c.requires.sorted in
    let a = c.count_at-place.ensures.count in let b = c.count_at-stop.ensures.count in let rising = form.rising i c.requires.row in (
      0,
      record {
        place = reading_start (naturals ai) (get_or (naturals ap') i 0) c.count_at-stop.result c.args.size c.count_at-place.result a
            (omega (arith, b, rising));
        low = omega arith;
        capacity = omega arith;
        items = sym (append-nil c.args.iw.now.items);
      },
    )

pub count_at-requires : goal.count_at-requires
count_at-requires g c = let p = row_read g.I.Index.value c.args.a_p.now c.args.a_i.now c.args.size c.requires.form c.args.i c.rows.place
    c.count_at-stop.result c.requires.row c.count_at-stop.ensures.count c.rows-test.true c.ranges.size.fits in
    record { within = p.0; fits = p.1 }

pub count_at-requires-in-rows : goal.count_at-requires-in-rows
count_at-requires-in-rows g c =
    let p = row_read g.I.Index.value c.args.a_p.now c.args.a_i.now c.args.size c.requires.form
    c.args.i c.rows.place c.count_at-stop.result c.requires.row c.count_at-stop.ensures.count c.rows-test.true c.ranges.size.fits in
    record { within = p.0; fits = p.1 }

-- the row that is read, which is before the diagonal
pub overflow_cast-count_at : goal.overflow_cast-count_at
overflow_cast-count_at g c =
    let below = row_below c.count_at.ensures.count c.count_at-in-rows.ensures.count c.if-count_at-i.true in
    let r = c.requires.row in let fits = c.requires.fits in let n = g.met.S.Signed.narrow in
    let low : c.count_at-in-rows.result < 2 ^ 63 = omega (arith, below, r, fits, n) in search rules

pub word_of-requires : goal.word_of-requires
word_of-requires g c =
    let below = row_below c.count_at.ensures.count c.count_at-in-rows.ensures.count c.if-count_at-i.true in
    let r = c.requires.row in let fits = c.requires.fits in let n = g.met.S.Signed.narrow in
    let low : c.count_at-in-rows.result < 2 ^ 63 = omega (arith, below, r, fits, n) in
    let is = ap lib.IntN.nat_abs (to_z_pos w64 c.count_at-in-rows.result low) in omega (arith, is, below, r, fits)

pub push_reserved-requires : goal.push_reserved-requires
push_reserved-requires g c =
    let ap' = map g.I.Index.value c.args.a_p.now in let ai = map g.I.Index.value c.args.a_i.now in
    let form = sorted_form c.args.size ap' ai c.requires.form c.requires.sorted in
    let n = c.args.size in let i = c.args.i in let m = c.rows.invariant.0 in let v = c.rows.invariant.1 in
    let is = c.count_at-in-rows.ensures.count in let below = row_below c.count_at.ensures.count is c.if-count_at-i.true in
    let part = list_below m (own (is_entry n (naturals ap') (naturals ai)) i) in
    let more = others_room n (naturals ap') (naturals ai) form i c.count_at-stop.result m c.rows.place c.requires.row
    c.count_at-stop.ensures.count v.place c.count_at-in-rows.result is c.rows-test.true (λ e. omega (arith, e, below)) in
    let same = ap (count_below n) (same_other n ap' ai c.requires.form i) in let room = c.requires.room in
    let whole = ap length v.items in let both = length-append c.args.iw.now.items (map pos part) in let long = length-map part pos in
    let len = c.rows.iw.ok.0 in let wide = v.capacity in omega (arith, more, same, room, whole, both, long, len, wide)

pub overflow_add-place : goal.overflow_add-place
overflow_add-place g c = let t = c.rows-test.true in let fits = c.count_at-stop.type_inv in omega (arith, t, fits)

pub rows-preserved : goal.rows-preserved
rows-preserved g c =
    let ap' = map g.I.Index.value c.args.a_p.now in let ai = map g.I.Index.value c.args.a_i.now in
    let form = sorted_form c.args.size ap' ai c.requires.form c.requires.sorted in
    let n = c.args.size in let i = c.args.i in let m = c.rows.invariant.0 in let v = c.rows.invariant.1 in
    let row = c.count_at-in-rows.result in let is = c.count_at-in-rows.ensures.count in let stop = c.count_at-stop.ensures.count in
    let below = row_below c.count_at.ensures.count is c.if-count_at-i.true in
    let small = row_small n (naturals ap') (naturals ai) form i c.count_at-stop.result m c.rows.place c.requires.row stop v.place row is
    c.rows-test.true in
    let r = c.requires.row in let fits = c.requires.fits in let narrow = g.met.S.Signed.narrow in
    let low : row < 2 ^ 63 = omega (arith, below, r, fits, narrow) in
    let part = list_below m (own (is_entry n (naturals ap') (naturals ai)) i) in
    let e = c.push_reserved.ensures in let old = c.args.iw.now.items in (
      row + 1,
      record {
        place = reading_next n (naturals ap') (naturals ai) form i (get_or (naturals ap') i 0) c.count_at-stop.result n m c.rows.place row
            c.requires.row (le_refl (get_or (naturals ap') i 0)) stop v.place is c.rows-test.true small;
        low = omega (arith, below);
        capacity = (let x = v.capacity in let y = e.capacity in omega (arith, x, y));
        items = e.items ∙ ap (λ x. c.rows.iw.items ++ x ∷ []) (c.word_of.ensures ∙ to_z_pos w64 row low)
            ∙ ap (λ xs. xs ++ pos row ∷ []) v.items ∙ append_assoc old (map pos part) (pos row ∷ [])
            ∙ ap (λ xs. old ++ xs) (words_next (map pos part) part row refl)
            ∙ ap (λ xs. old ++ map pos xs) (sym (others_more n (naturals ap') (naturals ai) form i c.count_at-stop.result m c.rows.place
            c.requires.row stop v.place row is c.rows-test.true (λ s. omega (arith, s, below))));
      },
    )

pub returns-else-count_at-i-clause-behind : goal.returns-else-count_at-i-clause-behind
returns-else-count_at-i-clause-behind g c =
    let ap' = map g.I.Index.value c.args.a_p.now in let ai = map g.I.Index.value c.args.a_i.now in
    let form = sorted_form c.args.size ap' ai c.requires.form c.requires.sorted in
    let ends = c.count_at-stop.ensures.count in let past = c.if-count_at-i.false in λ r a b. (
    let least = left_of c.args.size (naturals ap') (naturals ai) form c.args.i c.count_at-stop.result c.rows.invariant.0 c.rows.place
    c.requires.row ends c.rows.invariant.1.place c.count_at.result c.count_at.ensures.count c.rows-test.true r a
    (omega (arith, b, ends)) in omega (arith, least, past))

pub returns-else-count_at-i-clause-items : goal.returns-else-count_at-i-clause-items
returns-else-count_at-i-clause-items g c =
    let ap' = map g.I.Index.value c.args.a_p.now in let ai = map g.I.Index.value c.args.a_i.now in
    let form = sorted_form c.args.size ap' ai c.requires.form c.requires.sorted in
    let v = c.rows.invariant.1 in let ends = c.count_at-stop.ensures.count in let past = c.if-count_at-i.false in
    v.items ∙ ap (λ xs. c.args.iw.now.items ++ map pos xs)
    (others_before c.args.size ap' ai c.requires.form form c.args.i c.rows.invariant.0 c.count_at-stop.result c.rows.place
    c.requires.row ends v.place v.low (λ r a b.
    let least = left_of c.args.size (naturals ap') (naturals ai) form c.args.i c.count_at-stop.result c.rows.invariant.0 c.rows.place
    c.requires.row ends v.place c.count_at.result c.count_at.ensures.count c.rows-test.true r a b in omega (arith, least, past)))

pub returns-after-rows-clause-items : goal.returns-after-rows-clause-items
returns-after-rows-clause-items g c =
    let ap' = map g.I.Index.value c.args.a_p.now in let ai = map g.I.Index.value c.args.a_i.now in
    let form = sorted_form c.args.size ap' ai c.requires.form c.requires.sorted in
    let v = c.rows.invariant.1 in let past = c.rows-test.false in
    v.items ∙ ap (λ xs. c.args.iw.now.items ++ map pos xs)
    (others_before c.args.size ap' ai c.requires.form form c.args.i c.rows.invariant.0 c.count_at-stop.result c.rows.place
    c.requires.row c.count_at-stop.ensures.count v.place v.low (λ r a b. absurd (omega (arith, past, a, b))))

-- what was read is before the diagonal
pub returns-else-count_at-i-clause-from : goal.returns-else-count_at-i-clause-from
returns-else-count_at-i-clause-from g c = c.rows.invariant.1.place.from

pub returns-else-count_at-i-clause-to : goal.returns-else-count_at-i-clause-to
returns-else-count_at-i-clause-to g c =
    let to = c.rows.invariant.1.place.to in let ends = c.count_at-stop.ensures.count in omega (arith, to, ends)

pub returns-else-count_at-i-clause-before : goal.returns-else-count_at-i-clause-before
returns-else-count_at-i-clause-before g c = λ r a b.
    let low = c.rows.invariant.1.low in let read = c.rows.invariant.1.place.read r a b in omega (arith, low, read)

pub returns-else-count_at-i-clause-capacity : goal.returns-else-count_at-i-clause-capacity
returns-else-count_at-i-clause-capacity g c = c.rows.invariant.1.capacity

pub returns-after-rows-clause-from : goal.returns-after-rows-clause-from
returns-after-rows-clause-from g c = c.rows.invariant.1.place.from

pub returns-after-rows-clause-to : goal.returns-after-rows-clause-to
returns-after-rows-clause-to g c =
    let to = c.rows.invariant.1.place.to in let ends = c.count_at-stop.ensures.count in omega (arith, to, ends)

pub returns-after-rows-clause-before : goal.returns-after-rows-clause-before
returns-after-rows-clause-before g c = λ r a b.
    let low = c.rows.invariant.1.low in let read = c.rows.invariant.1.place.read r a b in omega (arith, low, read)

pub returns-after-rows-clause-behind : goal.returns-after-rows-clause-behind
returns-after-rows-clause-behind g c = λ r a b.
    let past = c.rows-test.false in let ends = c.count_at-stop.ensures.count in omega (arith, past, a, b, ends)

pub returns-after-rows-clause-capacity : goal.returns-after-rows-clause-capacity
returns-after-rows-clause-capacity g c = c.rows.invariant.1.capacity
