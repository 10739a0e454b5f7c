-- the goals of lower::own_rows.
use Rattle.std.proofs.Common.{◌+◌, arith, ap, get_or, le_of_lt, map, sym, ◌∙◌}
use Rattle.amd_types.specs.Naturals.{naturals}
use Rattle.amd_edges.proofs.Forms.{place_in, pointer_read, row_fits, sorted_form}
use Rattle.amd_edges.proofs.Places.{entry_from}
use Rattle.amd_input.proofs.LowerRows.{own_with, own_without}
use Rattle.amd_input.proofs.lower.own_rows.Goals as goal

pub count_at-start-requires : goal.count_at-start-requires
count_at-start-requires g c = let p = pointer_read g.I.Index.value c.args.a_p.now c.args.a_i.now c.args.size c.requires.input.form c.args.k
    (le_of_lt c.requires.k_in) (omega (arith, c.well_formed)) in record { within = p.0; fits = p.1 }

pub count_at-requires : goal.count_at-requires
count_at-requires g c = let p = pointer_read g.I.Index.value c.args.a_p.now c.args.a_i.now c.args.size c.requires.input.form
    (c.args.k + 1) (let l = c.requires.k_in in omega (arith, l)) (omega (arith, c.well_formed)) in record { within = p.0; fits = p.1 }

pub returns-then-rows-eq0-clause-own : goal.returns-then-rows-eq0-clause-own
returns-then-rows-eq0-clause-own g c =
    let n = c.args.size in let az = map g.I.Index.value c.args.a_p.now in let bz = map g.I.Index.value c.args.a_i.now in
    let form = sorted_form n az bz c.requires.input.form c.requires.input.sorted in
    let start = c.count_at-start.ensures.count in let end = c.count_at.ensures.count in let none = c.if-rows-eq0.true in
    own_without n (naturals az) (naturals bz) form c.args.k 0 c.requires.k_in (λ some. omega (arith, start, end, none, some))
    (omega (arith, start, end, none))

pub count_at-first-requires-clause-within : goal.count_at-first-requires-clause-within
count_at-first-requires-clause-within g c = place_in g.I.Index.value c.args.a_i.now c.args.size (map g.I.Index.value c.args.a_p.now)
    c.requires.input.form c.args.k c.count_at-start.result c.count_at.result c.requires.k_in c.count_at.ensures.count
    (let some = c.if-rows-eq0.false in omega (arith, some))

pub count_at-first-requires-clause-fits : goal.count_at-first-requires-clause-fits
count_at-first-requires-clause-fits g c = row_fits c.args.size (map g.I.Index.value c.args.a_p.now) (map g.I.Index.value c.args.a_i.now)
    c.requires.input.form c.args.k c.count_at-start.result c.requires.k_in
    (let some = c.if-rows-eq0.false in let end = c.count_at.ensures.count in omega (arith, some, end)) c.ranges.size.fits

pub returns-then-first-k-clause-above : goal.returns-then-first-k-clause-above
returns-then-first-k-clause-above g c =
    let n = c.args.size in let az = map g.I.Index.value c.args.a_p.now in let bz = map g.I.Index.value c.args.a_i.now in
    let start = c.count_at-start.ensures.count in let end = c.count_at.ensures.count in let some = c.if-rows-eq0.false in
    let first = ap (λ x. get_or (naturals bz) x 0) (sym start) ∙ sym c.count_at-first.ensures.count in record {
      row = c.count_at-first.result;
      column = c.args.k;
      above = c.if-first-k.true;
      stands = entry_from (naturals az) (naturals bz) n c.count_at-first.result c.args.k (get_or (naturals az) c.args.k 0) c.requires.k_in
          (omega arith) (omega (arith, start, end, some)) first;
    }

pub returns-then-first-k-2-clause-own : goal.returns-then-first-k-2-clause-own
returns-then-first-k-2-clause-own g c =
    let n = c.args.size in let az = map g.I.Index.value c.args.a_p.now in let bz = map g.I.Index.value c.args.a_i.now in
    let form = sorted_form n az bz c.requires.input.form c.requires.input.sorted in
    let start = c.count_at-start.ensures.count in let end = c.count_at.ensures.count in let some = c.if-rows-eq0.false in
    own_with n (naturals az) (naturals bz) form c.args.k _ c.requires.k_in (omega (arith, start, end, some))
    (ap (λ x. get_or (naturals bz) x 0) (sym start) ∙ sym c.count_at-first.ensures.count ∙ c.if-first-k-2.true)
    (omega (arith, start, end))

pub returns-clause-own : goal.returns-clause-own
returns-clause-own g c =
    let n = c.args.size in let az = map g.I.Index.value c.args.a_p.now in let bz = map g.I.Index.value c.args.a_i.now in
    let form = sorted_form n az bz c.requires.input.form c.requires.input.sorted in
    let start = c.count_at-start.ensures.count in let end = c.count_at.ensures.count in
    let first = ap (λ x. get_or (naturals bz) x 0) (sym start) ∙ sym c.count_at-first.ensures.count in
    let low = c.if-first-k.false in let other = c.if-first-k-2.false in
    own_without n (naturals az) (naturals bz) form c.args.k _ c.requires.k_in (λ some. omega (arith, first, low, other))
    (omega (arith, start, end))
