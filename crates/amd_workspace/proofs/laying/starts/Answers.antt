use Rattle.std.proofs.Common.{◌≡◌, ◌<◌, ◌≤◌, ◌+◌, ◌++◌, ◌∷◌, [], ◌^◌, ℕ, arith, rules, refl, sym, ap, ◌∙◌}
use Rattle.std.proofs.Common.{length, get_or, w64, pos, map}
use Rattle.std.proofs.lemmas.Int.{to_z_pos}
use Rattle.std.proofs.lemmas.List.{length_push, length-map, nil_from_length}
use Rattle.std.specs.Vec.{vec_capacity}
use Rattle.amd_model.specs.Below.{sum_below}
use Rattle.amd_model.proofs.Counting.Below.{sum_upto}
use Rattle.amd_words.specs.Words.{num}
use Rattle.amd_edges.proofs.Listing.{starts_more}
use Rattle.amd_workspace.proofs.Layings.{sum_next, words_next}
use Rattle.amd_workspace.proofs.laying.starts.Goals as goal

pub rows-init : goal.rows-init
unfolding sum_below
rows-init g c =
    let r = c.requires in let pe_is = c.replace-places.ensures.value in let next_is = c.replace-ends.ensures.value in record {
      pe_room = ap vec_capacity pe_is;
      next_room = ap vec_capacity next_is;
      size = ap (λ v. length v.items) next_is ∙ r.empty.1;
      each = λ a h. absurd (omega (arith, h));
      words = ap (λ v. v.items) pe_is ∙ nil_from_length c.args.pe.now.items r.empty.0
          ∙ ap (map pos) (sym (nil_from_length c.args.next.now.items r.empty.1) ∙ sym (ap (λ v. v.items) next_is));
      total = refl;
    }

-- the sum so far is within both widths
small : (n idx total : ℕ) (f : ℕ → ℕ) (m : ℕ) → total ≡ sum_below idx f → idx < n → sum_below n f ≤ m → f idx + total ≤ m
small n idx total f m e l fits = let up = sum_upto idx n f l in omega (arith, up, e, fits)

pub word_of-requires : goal.word_of-requires
word_of-requires g c =
    let i = c.rows.invariant in
    let s = small (length c.args.degrees.now) c.rows.row c.rows.total (num c.args.degrees.now) _ i.total c.rows-test.true
    c.requires.fits.0 in
    let n = g.met.P.Signed.narrow in
    let low : c.rows.total < 2 ^ 63 = omega (arith, s, n) in
    let is = ap lib.IntN.nat_abs (to_z_pos w64 c.rows.total low) in
    omega (arith, is, s)

pub cell_of-requires : goal.cell_of-requires
cell_of-requires g c =
    let i = c.rows.invariant in
    let s = small (length c.args.degrees.now) c.rows.row c.rows.total (num c.args.degrees.now) _ i.total c.rows-test.true
    c.requires.fits.1 in
    omega (arith, s)

pub push_reserved-requires : goal.push_reserved-requires
push_reserved-requires g c =
    let i = c.rows.invariant in let size = i.size in let t = c.rows-test.true in let room = c.requires.room.0 in
    let kept = i.pe_room in let len = c.rows.places.ok.0 in let is = ap length i.words in let long = length-map c.rows.ends.items pos in
    omega (arith, size, t, room, kept, len, is, long)

pub push_reserved-requires-in-rows : goal.push_reserved-requires-in-rows
push_reserved-requires-in-rows g c =
    let i = c.rows.invariant in let size = i.size in let t = c.rows-test.true in let room = c.requires.room.1 in
    let kept = i.next_room in let len = c.rows.ends.ok.0 in omega (arith, size, t, room, kept, len)

pub overflow_cast-total : goal.overflow_cast-total
overflow_cast-total g c =
    let i = c.rows.invariant in
    let s = small (length c.args.degrees.now) c.rows.row c.rows.total (num c.args.degrees.now) _ i.total c.rows-test.true
    c.requires.fits.0 in
    let n = g.met.P.Signed.narrow in
    let low : c.rows.total < 2 ^ 63 = omega (arith, s, n) in
    search rules

pub overflow_add-total : goal.overflow_add-total
overflow_add-total g c =
    let i = c.rows.invariant in
    let s = small (length c.args.degrees.now) c.rows.row c.rows.total (num c.args.degrees.now) _ i.total c.rows-test.true
    c.requires.fits.1 in
    let n = g.met.U.Unsigned.narrow in
    let is = c.cell_at-total.ensures.is in omega (arith, s, n, is)

pub rows-preserved : goal.rows-preserved
rows-preserved g c =
    let i = c.rows.invariant in let n = c.rows.row in let degrees = c.args.degrees.now in
    let a = c.push_reserved.ensures in let b = c.push_reserved-in-rows.ensures in
    let s = small (length degrees) n c.rows.total (num degrees) _ i.total c.rows-test.true c.requires.fits.0 in
    let low : c.rows.total < 2 ^ 63 = (let w = g.met.P.Signed.narrow in omega (arith, s, w)) in
    let next_is = b.items ∙ ap (λ x. c.rows.ends.items ++ x ∷ []) c.cell_of.ensures in
    let pe_is = a.items ∙ ap (λ x. c.rows.places.items ++ x ∷ []) (c.word_of.ensures ∙ to_z_pos w64 c.rows.total low) in
    record {
      pe_room = a.capacity ∙ i.pe_room;
      next_room = b.capacity ∙ i.next_room;
      size = ap length next_is ∙ length_push c.rows.ends.items c.rows.total ∙ ap (λ x. x + 1) i.size;
      each = λ k h. ap (λ xs. get_or xs k 0) next_is ∙ starts_more c.rows.ends.items degrees n c.rows.total i.size i.each i.total k h;
      words = pe_is ∙ words_next c.rows.places.items c.rows.ends.items c.rows.total i.words ∙ ap (map pos) (sym next_is);
      total = (let t = i.total in let e = sum_next n (num degrees) in
          let is = c.cell_at-total.ensures.is in
          omega (arith, t, e, is));
    }

pub returns : goal.returns
returns g c =
    let i = c.rows.invariant in
    let end : c.rows.row ≡ length c.args.degrees.now =
    (let x = c.rows-test.false in let y = c.rows.auto.row-end in omega (arith, x, y)) in
    record {
      total = i.total ∙ ap (λ k. sum_below k (num c.args.degrees.now)) end;
      starts = record {
        long = i.size ∙ end;
        each = λ k h. i.each k (omega (arith, h, end));
        words = i.words;
      };
      capacity = (i.pe_room, i.next_room);
    }
