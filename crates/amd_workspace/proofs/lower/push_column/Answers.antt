-- the goals of lower::push_column.
use Rattle.std.proofs.Common.{◌≡◌, ◌+◌, ◌-◌, ◌<◌, ◌^◌, ◌++◌, ◌∷◌, [], arith, rules, map, take, drop, pos, ap, sym, ◌∙◌}
use Rattle.std.proofs.Common.{append_assoc, length, w64, ◌≤◌, ℕ, ℤ, List, get_or}
use Rattle.std.proofs.lemmas.Int.{to_z_pos}
use Rattle.std.proofs.lemmas.List.{length-map, length-append, length-take, append-nil}
use Rattle.amd_model.specs.Input.Columns.{IsColumnForm, IsSorted}
use Rattle.amd_types.specs.Naturals.{naturals}
use Rattle.amd_edges.proofs.Forms.{sorted_form, pointer_read, row_read}
use Rattle.amd_workspace.proofs.LowerColumns.{column_row, stretch_push}
use Rattle.amd_workspace.proofs.lower.push_column.Goals as goal

pub count_at-stop-requires : goal.count_at-stop-requires
count_at-stop-requires g c = let p = pointer_read g.I.Index.value c.args.a_p.now c.args.a_i.now c.args.size c.requires.form (c.args.j + 1)
    (let l = c.requires.row in omega (arith, l)) (omega (arith, c.well_formed)) in record { within = p.0; fits = p.1 }

pub places-init : goal.places-init
places-init g c =
    let first = c.args.first in let items = c.args.iw.now.items in let none : first - first ≡ 0 = omega arith in record {
      from = omega arith;
      to = (let a = c.requires.to in let b = c.count_at-stop.ensures.count in omega (arith, a, b));
      capacity = omega arith;
      items = sym (append-nil items)
          ∙ ap (λ k. items ++ map pos (take k (drop first (naturals (map g.I.Index.value c.args.a_i.now))))) (sym none);
    }

pub count_at-requires : goal.count_at-requires
count_at-requires g c = let p = row_read g.I.Index.value c.args.a_p.now c.args.a_i.now c.args.size c.requires.form c.args.j c.places.place
    c.count_at-stop.result c.requires.row c.count_at-stop.ensures.count c.places-test.true c.ranges.size.fits in
    record { within = p.0; fits = p.1 }

-- the row at the place is one of the matrix
small_row : {n j first stop p row : ℕ} {ap' ai : List ℤ} → IsColumnForm (pos n) n ap' ai → IsSorted n ap' ai → j < n →
    get_or (naturals ap') j 0 ≤ first → first ≤ p → p < stop → stop ≡ get_or (naturals ap') (j + 1) 0 → row ≡ get_or (naturals ai) p 0
    → row < n
small_row {n} {j} {first} {stop} {p} {row} {ap'} {ai} form sorted j_in from low inside stop_is is =
    column_row n (naturals ap') (naturals ai) (sorted_form n ap' ai form sorted) j first stop p row j_in from low inside stop_is is

pub overflow_cast-count_at : goal.overflow_cast-count_at
overflow_cast-count_at g c =
    let r = c.requires in let fits = r.fits in let n = g.met.S.Signed.narrow in
    let small = small_row r.form r.sorted r.row r.from c.places.invariant.from c.places-test.true c.count_at-stop.ensures.count
    c.count_at.ensures.count in
    let low : c.count_at.result < 2 ^ 63 = omega (arith, small, fits, n) in search rules

pub word_of-requires : goal.word_of-requires
word_of-requires g c =
    let r = c.requires in let fits = r.fits in let n = g.met.S.Signed.narrow in
    let small = small_row r.form r.sorted r.row r.from c.places.invariant.from c.places-test.true c.count_at-stop.ensures.count
    c.count_at.ensures.count in
    let low : c.count_at.result < 2 ^ 63 = omega (arith, small, fits, n) in
    let is = ap lib.IntN.nat_abs (to_z_pos w64 c.count_at.result low) in omega (arith, is, small, fits)

pub places-preserved : goal.places-preserved
places-preserved g c =
    let ap' = map g.I.Index.value c.args.a_p.now in let ai = map g.I.Index.value c.args.a_i.now in
    let form = sorted_form c.args.size ap' ai c.requires.form c.requires.sorted in
    let r = c.requires in let fits = r.fits in let n = g.met.S.Signed.narrow in
    let small = small_row r.form r.sorted r.row r.from c.places.invariant.from c.places-test.true c.count_at-stop.ensures.count
    c.count_at.ensures.count in
    let low : c.count_at.result < 2 ^ 63 = omega (arith, small, fits, n) in
    let i = c.places.invariant in let e = c.push_reserved.ensures in let old = c.args.iw.now.items in
    let row = c.count_at.result in let t = c.places-test.true in
    let part = map pos (take (c.places.place - c.args.first) (drop c.args.first (naturals ai))) in
    let pushed = stretch_push c.args.size (naturals ap') (naturals ai) form c.args.j c.args.first c.count_at-stop.result c.places.place
    row c.requires.row c.requires.from i.from t c.count_at-stop.ensures.count c.count_at.ensures.count in record {
      from = (let a = i.from in omega (arith, a));
      to = omega (arith, t);
      capacity = (let x = i.capacity in let y = e.capacity in omega (arith, x, y));
      items = e.items ∙ ap (λ x. c.places.iw.items ++ x ∷ []) (c.word_of.ensures ∙ to_z_pos w64 row low)
          ∙ ap (λ xs. xs ++ pos row ∷ []) i.items ∙ append_assoc old part (pos row ∷ []) ∙ ap (λ xs. old ++ xs) pushed;
    }

pub push_reserved-requires : goal.push_reserved-requires
push_reserved-requires g c =
    let i = c.places.invariant in let rest = drop c.args.first (naturals (map g.I.Index.value c.args.a_i.now)) in
    let some = c.places.place - c.args.first in let part = take some rest in
    let whole = ap length i.items in let both = length-append c.args.iw.now.items (map pos part) in let long = length-map part pos in
    let few = length-take some rest in let from = i.from in let t = c.places-test.true in let e = c.count_at-stop.ensures.count in
    let room = c.requires.room in let wide = i.capacity in let len = c.places.iw.ok.0 in
    omega (arith, whole, both, long, few, from, t, e, room, wide, len)

pub returns-clause-items : goal.returns-clause-items
returns-clause-items g c =
    let i = c.places.invariant in
    let end : c.places.place ≡ c.count_at-stop.result = (let to = i.to in let t = c.places-test.false in omega (arith, to, t)) in
    i.items ∙ ap (λ k. c.args.iw.now.items ++ map pos (take (k - c.args.first)
    (drop c.args.first (naturals (map g.I.Index.value c.args.a_i.now))))) (end ∙ c.count_at-stop.ensures.count)

pub returns-clause-capacity : goal.returns-clause-capacity
returns-clause-capacity g c = c.places.invariant.capacity
