use Rattle.std.proofs.Common.{◌≡◌, ◌<◌, subst, arith, length}
use Rattle.amd_factor.proofs.Meetings.ThinRows.{Thinning, end-is, has-earlier, small, thinning-step, thins}
use Rattle.amd_factor.proofs.thinning.thin_lists.Goals as goal

pub thin_row-first-requires-clause-places : goal.thin_row-first-requires-clause-places
thin_row-first-requires-clause-places g c y from to =
    let t = c.rows.invariant.thinning in let test = c.rows-test.true in let long = t.marks_long in
    let n : c.rows.i < length g.o.rows = omega (arith, test, long) in
    let earlier = c.requires.earlier_are in let tells = c.requires.parents in
    let end = end-is g.o c.args.starts.now c.args.lists.now c.args.parent.now earlier tells c.rows.starts c.rows.lists c.rows.mark
    c.rows.i c.rows.begin c.rows.first t n in
    let low = small g.o c.args.starts.now c.args.lists.now c.args.parent.now earlier tells c.rows.starts c.rows.lists c.rows.mark
    c.rows.i c.rows.begin c.rows.first t n y from (omega (arith, to, end)) in
    omega (arith, low, long)

pub rows-preserved : goal.rows-preserved
rows-preserved g c =
    let t = c.rows.invariant.thinning in let test = c.rows-test.true in let long = t.marks_long in
    let n : c.rows.i < length g.o.rows = omega (arith, test, long) in record {
      thinning = thinning-step g.o c.args.starts.now c.args.lists.now c.args.parent.now c.requires.earlier_are
          c.requires.parents c.rows.starts c.rows.lists c.rows.mark c.rows.i c.rows.begin c.rows.first t n c.thin_row-first.result
          c.thin_row-first.new.lists c.thin_row-first.new.mark c.thin_row-first.ensures.thinned
          c.thin_row-first.ensures.marks c.thin_row-first.auto.mark;
    }

pub returns-clause-thins : goal.returns-clause-thins
returns-clause-thins g c =
    let t = c.rows.invariant.thinning in let test = c.rows-test.false in let long = t.marks_long in let end = c.rows.auto.i-end in
    let all : c.rows.i ≡ length g.o.rows = omega (arith, test, long, end, c.requires.marks, c.fill.auto.self) in
    thins g.o c.args.starts.now c.args.lists.now c.args.parent.now c.requires.earlier_are c.requires.parents c.rows.starts
    c.rows.lists c.rows.mark c.rows.begin c.rows.first
    (subst (λ i. Thinning g.o c.args.starts.now c.args.lists.now c.rows.starts c.rows.lists c.rows.mark i c.rows.begin c.rows.first) all t)

pub returns-clause-earlier : goal.returns-clause-earlier
returns-clause-earlier g c =
    let t = c.rows.invariant.thinning in let test = c.rows-test.false in let long = t.marks_long in let end = c.rows.auto.i-end in
    let all : c.rows.i ≡ length g.o.rows = omega (arith, test, long, end, c.requires.marks, c.fill.auto.self) in
    has-earlier g.o c.args.starts.now c.args.lists.now c.args.parent.now c.requires.earlier_are c.requires.parents c.rows.starts
    c.rows.lists c.rows.mark c.rows.begin c.rows.first
    (subst (λ i. Thinning g.o c.args.starts.now c.args.lists.now c.rows.starts c.rows.lists c.rows.mark i c.rows.begin c.rows.first) all t)
