-- the goals of mirrors::uppers.
use Rattle.std.proofs.Common.{◌≡◌, ◌+◌, ◌<◌, ◌≤◌, ◌^◌, ℕ, List, length, arith, map, get_or, set, refl, sym, ◌∙◌, subst}
use Rattle.std.proofs.Common.{le_refl, le_of_lt, lt_irrefl, lt_of_lt_of_le}
use Rattle.std.proofs.lemmas.List.{length-map}
use borrow.Author.Count.{falls}
use Rattle.amd_types.specs.Naturals.{naturals}
use Rattle.amd_edges.proofs.Forms.{pointer_fits, pointer_read, row_fits, place_in, place_up, sorted_form}
use Rattle.amd_edges.proofs.Places.{entry_from}
use Rattle.amd_edges.proofs.Reading.{IsReading, row_below, row_from, before_end, reading_start, reading_next}
use Rattle.amd_input.specs.Mirrors.{EndsUpper, HaveMirrors}
use Rattle.amd_input.proofs.MirroredRows.{mirrors_next, mirrors_over, unread_from, upper_lacks}
use Rattle.amd_input.proofs.mirrors.uppers.Goals as goal
use Rattle.amd_input.proofs.mirrors.uppers.Goals.{then-mirror-count_at-via-then-mirror-count_at}
use Rattle.amd_input.proofs.mirrors.uppers.Goals.{then-mirror-count_at-via-else-mirror-count_at+then-count_at-k-2}

pub count_at-end-requires-clause-fits : goal.count_at-end-requires-clause-fits
count_at-end-requires-clause-fits g c = pointer_fits c.args.size (map g.I.Index.value c.args.a_p.now)
    (map g.I.Index.value c.args.a_i.now) c.requires.input.form (c.args.k + 1) (let l = c.requires.k_in in omega (arith, l))
    (subst (λ x. x < 2 ^ 64) (sym (length-map c.args.a_i.now g.I.Index.value)) (omega (arith, c.well_formed)))

pub count_at-place-requires-clause-fits : goal.count_at-place-requires-clause-fits
count_at-place-requires-clause-fits g c = pointer_fits c.args.size (map g.I.Index.value c.args.a_p.now)
    (map g.I.Index.value c.args.a_i.now) c.requires.input.form c.args.k (let l = c.requires.k_in in omega (arith, l))
    (subst (λ x. x < 2 ^ 64) (sym (length-map c.args.a_i.now g.I.Index.value)) (omega (arith, c.well_formed)))

pub count_at-requires-clause-within : goal.count_at-requires-clause-within
count_at-requires-clause-within g c = place_in g.I.Index.value c.args.a_i.now c.args.size (map g.I.Index.value c.args.a_p.now)
    c.requires.input.form c.args.k c.uppers.place c.count_at-end.result c.requires.k_in c.count_at-end.ensures.count c.uppers-test.true

pub count_at-requires-clause-fits : goal.count_at-requires-clause-fits
count_at-requires-clause-fits g c = row_fits c.args.size (map g.I.Index.value c.args.a_p.now) (map g.I.Index.value c.args.a_i.now)
    c.requires.input.form c.args.k c.uppers.place c.requires.k_in (before_end c.count_at-end.ensures.count c.uppers-test.true)
    c.ranges.size.fits

pub count_at-j-requires-clause-within : goal.count_at-j-requires-clause-within
count_at-j-requires-clause-within g c = place_in g.I.Index.value c.args.a_i.now c.args.size (map g.I.Index.value c.args.a_p.now)
    c.requires.input.form c.args.k c.uppers.place c.count_at-end.result c.requires.k_in c.count_at-end.ensures.count c.uppers-test.true

pub count_at-requires-in-uppers-clause-fits : goal.count_at-requires-in-uppers-clause-fits
count_at-requires-in-uppers-clause-fits g c = pointer_fits c.args.size (map g.I.Index.value c.args.a_p.now)
    (map g.I.Index.value c.args.a_i.now) c.requires.input.form (c.count_at-j.result + 1)
    (let l = row_below c.count_at.ensures.count c.count_at-j.ensures.count c.if-count_at-k.true in let m = c.requires.k_in in
    omega (arith, l, m))
    (subst (λ x. x < 2 ^ 64) (sym (length-map c.args.a_i.now g.I.Index.value)) (omega (arith, c.well_formed)))

pub count_at-requires-else-mirror-count_at-clause-within : goal.count_at-requires-else-mirror-count_at-clause-within
count_at-requires-else-mirror-count_at-clause-within g c =
    let l = row_below c.count_at.ensures.count c.count_at-j.ensures.count c.if-count_at-k.true in let m = c.requires.k_in in
    place_in g.I.Index.value c.args.a_i.now c.args.size (map g.I.Index.value c.args.a_p.now) c.requires.input.form c.count_at-j.result
    c.number_of-mirror.result c.count_at-in-uppers.result (omega (arith, l, m)) c.count_at-in-uppers.ensures.count
    (let t = c.if-mirror-count_at.false in omega (arith, t))

pub count_at-requires-else-mirror-count_at-clause-fits : goal.count_at-requires-else-mirror-count_at-clause-fits
count_at-requires-else-mirror-count_at-clause-fits g c =
    let l = row_below c.count_at.ensures.count c.count_at-j.ensures.count c.if-count_at-k.true in let m = c.requires.k_in in
    row_fits c.args.size (map g.I.Index.value c.args.a_p.now) (map g.I.Index.value c.args.a_i.now) c.requires.input.form c.count_at-j.result
    c.number_of-mirror.result (omega (arith, l, m))
    (let t = c.if-mirror-count_at.false in let e = c.count_at-in-uppers.ensures.count in omega (arith, t, e)) c.ranges.size.fits

pub cell_of-requires : goal.cell_of-requires
cell_of-requires g c =
    let l = row_below c.count_at.ensures.count c.count_at-j.ensures.count c.if-count_at-k.true in let m = c.requires.k_in in
    place_up c.args.size (map g.I.Index.value c.args.a_p.now) (map g.I.Index.value c.args.a_i.now) c.requires.input.form
    (omega (arith, l, m)) c.count_at-in-uppers.ensures.count (let t = c.if-mirror-count_at.false in omega (arith, t)) c.requires.fits

pub uppers-init : goal.uppers-init
uppers-init g c =
    let r = c.requires in let n = c.args.size in let k = c.args.k in
    let az = map g.I.Index.value c.args.a_p.now in let bz = map g.I.Index.value c.args.a_i.now in
    let form = sorted_form n az bz r.input.form r.input.sorted in (
      0,
      record {
        place = reading_start (naturals bz) (get_or (naturals az) k 0) c.count_at-end.result k c.count_at-place.result
            c.count_at-place.ensures.count (row_from (sym c.count_at-end.ensures.count) (form.rising k r.k_in));
        room = refl;
        read = r.read;
      },
    )

pub uppers-preserved : goal.uppers-preserved
uppers-preserved g c =
    let n = c.args.size in let k = c.args.k in let t = c.uppers.next.items in let j = c.count_at-j.result in let p = c.uppers.place in
    let ap' = naturals (map g.I.Index.value c.args.a_p.now) in let ai = naturals (map g.I.Index.value c.args.a_i.now) in
    let r = c.requires in let m = c.uppers.invariant.0 in let v = c.uppers.invariant.1 in
    let form = sorted_form n (map g.I.Index.value c.args.a_p.now) (map g.I.Index.value c.args.a_i.now) r.input.form r.input.sorted in
    let ends = c.count_at-end.ensures.count in let row = c.count_at-j.ensures.count in
    let up = row_below c.count_at.ensures.count row c.if-count_at-k.true in
    let low = v.place.left p (le_refl p) c.uppers-test.true in
    let entry = entry_from ap' ai n j k p r.k_in v.place.from (before_end ends c.uppers-test.true) (sym row) in
    let reads : c.number_of-mirror.result ≡ get_or t j c.number_of-mirror.result =
    subst (λ x. x ≡ get_or t j x) (sym c.number_of-mirror.ensures.is) c.index.ensures in (
      j + 1,
      record {
        place = reading_next n ap' ai form k (get_or ap' k 0) c.count_at-end.result k m p j r.k_in (le_refl (get_or ap' k 0)) ends v.place
            row c.uppers-test.true up;
        room = v.room;
        read = subst (λ x. HaveMirrors n ap' ai (set t j x) k (j + 1)) (sym c.cell_of.ensures) (mirrors_next n ap' ai t k m v.read j
            c.number_of-mirror.result up (omega (arith, low, row)) entry
            (λ a x e. let w = (unread_from n ap' ai form k m p c.count_at-end.result a r.k_in ends v.place x e).1 in
            omega (arith, w, row))
            reads (let e = c.count_at-else-mirror-count_at.ensures.count in let s = c.if-count_at-k-2.false in
            omega (arith, e, s))
            (let e = c.count_at-in-uppers.ensures.count in let s = c.if-mirror-count_at.false in omega (arith, e, s)));
      },
    )

pub returns-else-count_at-k-clause-read : goal.returns-else-count_at-k-clause-read
returns-else-count_at-k-clause-read g c =
    let n = c.args.size in let k = c.args.k in let t = c.uppers.next.items in let p = c.uppers.place in
    let ap' = naturals (map g.I.Index.value c.args.a_p.now) in let ai = naturals (map g.I.Index.value c.args.a_i.now) in
    let r = c.requires in let m = c.uppers.invariant.0 in let v = c.uppers.invariant.1 in
    let form = sorted_form n (map g.I.Index.value c.args.a_p.now) (map g.I.Index.value c.args.a_i.now) r.input.form r.input.sorted in
    mirrors_over n ap' ai t k m v.read v.place.low (λ a x y e.
    let w = (unread_from n ap' ai form k m p c.count_at-end.result a r.k_in c.count_at-end.ensures.count v.place x e).1 in
    let s = c.count_at.ensures.count in let f = c.if-count_at-k.false in omega (arith, w, s, f, y))

pub returns-after-uppers-clause-read : goal.returns-after-uppers-clause-read
returns-after-uppers-clause-read g c =
    let n = c.args.size in let k = c.args.k in let t = c.uppers.next.items in let p = c.uppers.place in
    let ap' = naturals (map g.I.Index.value c.args.a_p.now) in let ai = naturals (map g.I.Index.value c.args.a_i.now) in
    let r = c.requires in let m = c.uppers.invariant.0 in let v = c.uppers.invariant.1 in
    let form = sorted_form n (map g.I.Index.value c.args.a_p.now) (map g.I.Index.value c.args.a_i.now) r.input.form r.input.sorted in
    mirrors_over n ap' ai t k m v.read v.place.low (λ a x y e.
    let w = (unread_from n ap' ai form k m p c.count_at-end.result a r.k_in c.count_at-end.ensures.count v.place x e).0 in
    let f = c.uppers-test.false in omega (arith, w, f))

pub returns-then-mirror-count_at-clause-lacks : goal.returns-then-mirror-count_at-clause-lacks
returns-then-mirror-count_at-clause-lacks g c =
    let n = c.args.size in let k = c.args.k in let t = c.uppers.next.items in let j = c.count_at-j.result in let p = c.uppers.place in
    let ap' = naturals (map g.I.Index.value c.args.a_p.now) in let ai = naturals (map g.I.Index.value c.args.a_i.now) in
    let r = c.requires in let m = c.uppers.invariant.0 in let v = c.uppers.invariant.1 in let q = c.number_of-mirror.result in
    let form = sorted_form n (map g.I.Index.value c.args.a_p.now) (map g.I.Index.value c.args.a_i.now) r.input.form r.input.sorted in
    let row = c.count_at-j.ensures.count in let low = v.place.left p (le_refl p) c.uppers-test.true in
    let up = row_below c.count_at.ensures.count row c.if-count_at-k.true in
    let entry = entry_from ap' ai n j k p r.k_in v.place.from (before_end c.count_at-end.ensures.count c.uppers-test.true) (sym row) in
    let reads : q ≡ get_or t j q = subst (λ x. x ≡ get_or t j x) (sym c.number_of-mirror.ensures.is) c.index.ensures in
    upper_lacks n ap' ai form t k m (le_of_lt r.k_in) v.read j q r.k_in up (omega (arith, low, row)) entry reads
    (elim c.then-mirror-count_at.branch [
      | then-mirror-count_at-via-then-mirror-count_at w ↦ λ inside. absurd (let past = w.if-mirror-count_at.true in
          let e = c.count_at-in-uppers.ensures.count in omega (arith, past, e, inside))
      | then-mirror-count_at-via-else-mirror-count_at+then-count_at-k-2 w ↦ λ inside same.
          w.if-count_at-k-2.true (w.count_at-else-mirror-count_at.ensures.count ∙ same)
    ])

pub count_at-end-requires-clause-within : goal.count_at-end-requires-clause-within
count_at-end-requires-clause-within g c = (pointer_read g.I.Index.value c.args.a_p.now c.args.a_i.now c.args.size
    c.requires.input.form (c.args.k + 1) (let l = c.requires.k_in in omega (arith, l)) (omega (arith, c.well_formed))).0

pub count_at-place-requires-clause-within : goal.count_at-place-requires-clause-within
count_at-place-requires-clause-within g c = (pointer_read g.I.Index.value c.args.a_p.now c.args.a_i.now c.args.size
    c.requires.input.form c.args.k (le_of_lt c.requires.k_in) (omega (arith, c.well_formed))).0

pub count_at-j-requires-clause-fits : goal.count_at-j-requires-clause-fits
count_at-j-requires-clause-fits g c = row_fits c.args.size (map g.I.Index.value c.args.a_p.now) (map g.I.Index.value c.args.a_i.now)
    c.requires.input.form c.args.k c.uppers.place c.requires.k_in (before_end c.count_at-end.ensures.count c.uppers-test.true)
    c.ranges.size.fits

pub count_at-requires-in-uppers-clause-within : goal.count_at-requires-in-uppers-clause-within
count_at-requires-in-uppers-clause-within g c =
    let l = row_below c.count_at.ensures.count c.count_at-j.ensures.count c.if-count_at-k.true in let m = c.requires.k_in in
    (pointer_read g.I.Index.value c.args.a_p.now c.args.a_i.now c.args.size
    c.requires.input.form (c.count_at-j.result + 1) (omega (arith, l, m)) (omega (arith, c.well_formed))).0

-- a row below k is a place of the list, which has k items
row_inside : {j k len : ℕ} (items : List ℕ) → j < k → length items ≡ k → len ≡ length items → j < len
row_inside items below size long = omega (arith, below, size, long)

pub index-requires : goal.index-requires
index-requires g c = row_inside c.uppers.next.items (row_below c.count_at.ensures.count c.count_at-j.ensures.count c.if-count_at-k.true)
    c.uppers.invariant.1.read.size c.uppers.next.ok.0

pub index_mut-requires : goal.index_mut-requires
index_mut-requires g c = row_inside c.uppers.next.items (row_below c.count_at.ensures.count c.count_at-j.ensures.count c.if-count_at-k.true)
    c.uppers.invariant.1.read.size c.uppers.next.ok.0

pub returns-then-mirror-count_at-clause-room : goal.returns-then-mirror-count_at-clause-room
returns-then-mirror-count_at-clause-room g c = c.uppers.invariant.1.room

pub returns-else-count_at-k-clause-room : goal.returns-else-count_at-k-clause-room
returns-else-count_at-k-clause-room g c = c.uppers.invariant.1.room

pub returns-after-uppers-clause-room : goal.returns-after-uppers-clause-room
returns-after-uppers-clause-room g c = c.uppers.invariant.1.room

-- the upper rows end where no row of the column follows, or one from k on
reading_ends : (ap' ai : List ℕ) (k end m p : ℕ) → end ≡ get_or ap' (k + 1) 0 → IsReading ai (get_or ap' k 0) end k m p →
    (p < end → k ≤ get_or ai p 0) → EndsUpper ap' ai k p
reading_ends ap' ai k end m p ends so stop = record {
  from = so.from;
  to = (let to = so.to in omega (arith, to, ends));
  before = λ r x y. lt_of_lt_of_le (so.read r x y) so.low;
  behind = λ x. stop (omega (arith, x, ends));
}

pub returns-else-count_at-k-clause-ends : goal.returns-else-count_at-k-clause-ends
returns-else-count_at-k-clause-ends g c =
    let ap' = naturals (map g.I.Index.value c.args.a_p.now) in let ai = naturals (map g.I.Index.value c.args.a_i.now) in
    let v = c.uppers.invariant in
    reading_ends ap' ai c.args.k c.count_at-end.result v.0 c.uppers.place c.count_at-end.ensures.count v.1.place
    (λ h. subst (λ z. c.args.k ≤ z) c.count_at.ensures.count c.if-count_at-k.false)

pub returns-after-uppers-clause-ends : goal.returns-after-uppers-clause-ends
returns-after-uppers-clause-ends g c =
    let ap' = naturals (map g.I.Index.value c.args.a_p.now) in let ai = naturals (map g.I.Index.value c.args.a_i.now) in
    let v = c.uppers.invariant in
    reading_ends ap' ai c.args.k c.count_at-end.result v.0 c.uppers.place c.count_at-end.ensures.count v.1.place
    (λ h. absurd (lt_irrefl c.uppers.place (lt_of_lt_of_le h c.uppers-test.false)))

pub uppers-smaller : goal.uppers-smaller
uppers-smaller g c = falls c.count_at-end.result c.uppers.place c.uppers-test.true
