-- the goals of copying::copy_symmetric.
use Rattle.std.proofs.Common.{◌≡◌, ◌+◌, arith, map, sym, refl, ◌∙◌, length, subst, ap}
use Rattle.std.proofs.lemmas.Bool.{false≢true}
use Rattle.amd_model.specs.Below.{sum_below}
use Rattle.amd_model.specs.Input.Pattern.{graph_of}
use Rattle.amd_edges.specs.Visits.{start_of}
use Rattle.amd_workspace.proofs.CopiedColumns.{AreCopied, columns_more, long_is, long_most, words_more}
use Rattle.amd_workspace.proofs.SymmetricCounts.{symmetric_count, counts_symmetric, others_room, symmetric_starting}
use Rattle.amd_workspace.proofs.copying.copy_symmetric.Goals as goal

pub columns-init : goal.columns-init
unfolding start_of sum_below
columns-init g c = let empty = c.requires.empty in record {
  copied = record {
    place = refl;
    long = empty;
    counts = λ j l. absurd (omega (arith, l));
    lists = λ j l. absurd (omega (arith, l));
  };
  words = λ h. h;
  capacity = omega arith;
}

pub push_others-requires-clause-room : goal.push_others-requires-clause-room
push_others-requires-clause-room g c =
    let room = others_room c.args.size (map g.I.Index.value c.args.a_p.now) (map g.I.Index.value c.args.a_i.now) c.columns.i
    c.columns.free c.columns-test.true c.columns.invariant.copied.place in
    let long = c.columns.invariant.copied.long in let wide = c.columns.invariant.capacity in let all = c.requires.room in
    omega (arith, room, long, wide, all)

pub cell_at-requires : goal.cell_at-requires
unfolding graph_of
cell_at-requires g c = let a = c.requires.degrees.size in let b = c.columns-test.true in omega (arith, a, b)

pub overflow_sub-end : goal.overflow_sub-end
unfolding graph_of
overflow_sub-end g c =
    let az = map g.I.Index.value c.args.a_p.now in let bz = map g.I.Index.value c.args.a_i.now in let new = c.push_others.new.iw in
    let long = long_is c.args.size az bz c.args.degrees.now c.requires.degrees c.columns.i c.columns.free c.columns-test.true
    c.columns.iw.items new.items c.push_others.ensures.items c.columns.invariant.copied in
    let len = new.ok.0 in let end = c.len-end.ensures in omega (arith, long, len, end)

pub returns-then-end-free-clause-long : goal.returns-then-end-free-clause-long
returns-then-end-free-clause-long g c =
    let az = map g.I.Index.value c.args.a_p.now in let bz = map g.I.Index.value c.args.a_i.now in let n = c.args.size in
    let i = c.columns.i in let v = c.columns.invariant.copied in let new = c.push_others.new.iw.items in
    long_most n az bz c.args.degrees.now c.requires.degrees i c.columns.free c.columns-test.true c.columns.iw.items new
    c.push_others.ensures.items v

pub returns-then-end-free-clause-words : goal.returns-then-end-free-clause-words
returns-then-end-free-clause-words g c =
    let az = map g.I.Index.value c.args.a_p.now in let bz = map g.I.Index.value c.args.a_i.now in let n = c.args.size in
    let i = c.columns.i in let v = c.columns.invariant.copied in let new = c.push_others.new.iw.items in
    λ h. words_more n az bz c.args.degrees.now c.requires.degrees i c.columns.free c.columns-test.true c.columns.iw.items new
    c.push_others.ensures.items v (c.columns.invariant.words h)

pub returns-then-end-free-clause-symmetric : goal.returns-then-end-free-clause-symmetric
unfolding graph_of
returns-then-end-free-clause-symmetric g c =
    let az = map g.I.Index.value c.args.a_p.now in let bz = map g.I.Index.value c.args.a_i.now in let n = c.args.size in
    let i = c.columns.i in let v = c.columns.invariant.copied in let new = c.push_others.new.iw.items in
    let end : c.len-end.result ≡ length new = (let len = c.push_others.new.iw.ok.0 in let e = c.len-end.ensures in omega (arith, len, e)) in
    let long = long_is n az bz c.args.degrees.now c.requires.degrees i c.columns.free c.columns-test.true c.columns.iw.items new
    c.push_others.ensures.items v in (
      λ e. absurd (false≢true e),
      λ mirror. (let same = symmetric_count n az bz mirror i in let each = c.requires.degrees.each i c.columns-test.true in
          let value = c.cell_at.ensures.is in absurd (c.if-end-free.true (omega (arith, same, each, long, end, value)))),
    )

pub columns-preserved : goal.columns-preserved
columns-preserved g c =
    let az = map g.I.Index.value c.args.a_p.now in let bz = map g.I.Index.value c.args.a_i.now in let n = c.args.size in
    let i = c.columns.i in let v = c.columns.invariant.copied in let new = c.push_others.new.iw.items in
    let end : c.len-end.result ≡ length new = (let len = c.push_others.new.iw.ok.0 in let e = c.len-end.ensures in omega (arith, len, e)) in
    let is = c.if-end-free.false in let value = c.cell_at.ensures.is in record {
      copied = subst (λ e. AreCopied n az bz c.args.degrees.now new (i + 1) e) (sym end)
          (columns_more n az bz c.args.degrees.now c.requires.degrees i c.columns.free c.columns-test.true c.columns.iw.items new
          c.push_others.ensures.items v (omega (arith, is, end, value)));
      words = λ h. words_more n az bz c.args.degrees.now c.requires.degrees i c.columns.free c.columns-test.true c.columns.iw.items new
          c.push_others.ensures.items v (c.columns.invariant.words h);
      capacity = (let x = c.columns.invariant.capacity in let y = c.push_others.ensures.capacity in omega (arith, x, y));
    }

pub returns-clause-symmetric : goal.returns-clause-symmetric
unfolding graph_of
returns-clause-symmetric g c =
    let az = map g.I.Index.value c.args.a_p.now in let bz = map g.I.Index.value c.args.a_i.now in let t = c.columns-test.false in (
      λ e. counts_symmetric c.args.size az bz (λ i l. sym (c.requires.degrees.each i l)
          ∙ c.columns.invariant.copied.counts i (omega (arith, l, t))),
      λ mirror. refl,
    )

pub returns-clause-lists : goal.returns-clause-lists
unfolding graph_of
returns-clause-lists g c = λ e i l.
    let az = map g.I.Index.value c.args.a_p.now in let bz = map g.I.Index.value c.args.a_i.now in let t = c.columns-test.false in
    let mirror = counts_symmetric c.args.size az bz (λ j m. sym (c.requires.degrees.each j m)
    ∙ c.columns.invariant.copied.counts j (omega (arith, m, t))) in
    c.columns.invariant.copied.lists i (omega (arith, l, t)) ∙ sym (symmetric_starting c.args.size az bz mirror i l)

-- the lists of all rows fill what was appended
pub returns-clause-long : goal.returns-clause-long
returns-clause-long g c =
    let v = c.columns.invariant.copied in let long = v.long in
    let end : c.columns.i ≡ c.args.size = (let a = c.columns-test.false in let b = c.columns.auto.i-end in omega (arith, a, b)) in
    let az = map g.I.Index.value c.args.a_p.now in let bz = map g.I.Index.value c.args.a_i.now in
    let place = v.place ∙ ap (start_of (graph_of c.args.size az bz)) end in
    omega (arith, long, place)

pub returns-clause-all : goal.returns-clause-all
returns-clause-all g c = λ e.
    let v = c.columns.invariant.copied in let long = v.long in
    let end : c.columns.i ≡ c.args.size = (let a = c.columns-test.false in let b = c.columns.auto.i-end in omega (arith, a, b)) in
    let az = map g.I.Index.value c.args.a_p.now in let bz = map g.I.Index.value c.args.a_i.now in
    let place = v.place ∙ ap (start_of (graph_of c.args.size az bz)) end in
    omega (arith, long, place)

pub returns-clause-words : goal.returns-clause-words
returns-clause-words g c = c.columns.invariant.words

pub returns-clause-capacity : goal.returns-clause-capacity
returns-clause-capacity g c = c.columns.invariant.capacity

pub returns-then-end-free-clause-capacity : goal.returns-then-end-free-clause-capacity
returns-then-end-free-clause-capacity g c =
    let x = c.columns.invariant.capacity in let y = c.push_others.ensures.capacity in omega (arith, x, y)

pub returns-then-end-free-clause-all : goal.returns-then-end-free-clause-all
returns-then-end-free-clause-all g c = λ e. absurd (false≢true e)

pub returns-then-end-free-clause-lists : goal.returns-then-end-free-clause-lists
returns-then-end-free-clause-lists g c = λ e i l. absurd (false≢true e)
