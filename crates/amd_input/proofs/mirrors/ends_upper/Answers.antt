-- the goals of mirrors::ends_upper.
use Rattle.std.proofs.Common.{◌≡◌, ◌<◌, ◌+◌, ◌-◌, ◌^◌, arith, ap, map, get_or, sym, ◌∙◌, subst}
use Rattle.std.proofs.lemmas.Bool.{ltb-true, ltb-false, true≢false}
use Rattle.std.proofs.lemmas.List.{length-map}
use Rattle.amd_types.specs.Naturals.{naturals}
use Rattle.amd_edges.proofs.Forms.{place_in, pointer_fits, pointer_read, row_fits, sorted_form}
use Rattle.amd_input.proofs.MirroredRows.{last_high, last_low}
use Rattle.amd_input.proofs.mirrors.ends_upper.Goals as goal

pub count_at-first-requires-clause-fits : goal.count_at-first-requires-clause-fits
count_at-first-requires-clause-fits g c = pointer_fits c.args.size (map g.I.Index.value c.args.a_p.now)
    (map g.I.Index.value c.args.a_i.now) c.requires.input.form (c.args.size - 1) (omega arith)
    (subst (λ x. x < 2 ^ 64) (sym (length-map c.args.a_i.now g.I.Index.value)) (omega (arith, c.well_formed)))

pub returns-then-first-count_at-clause-high : goal.returns-then-first-count_at-clause-high
returns-then-first-count_at-clause-high g c test =
    let n = c.args.size in let az = map g.I.Index.value c.args.a_p.now in let bz = map g.I.Index.value c.args.a_i.now in
    let form = sorted_form n az bz c.requires.input.form c.requires.input.sorted in let start = c.count_at-first.ensures.count in
    let some = c.if-size-eq0.false in let last : n - 1 + 1 ≡ n = omega (arith, some) in
    let end = c.count_at.ensures.count ∙ ap (λ x. get_or (naturals az) x 0) (sym last) in let inside = c.if-first-count_at.true in
    let row = c.count_at-then-first-count_at.ensures.count ∙ ap (λ x. get_or (naturals bz) x 0) start in
    let above = ltb-true c.count_at-then-first-count_at.result (n - 1) test in
    last_high n (naturals az) (naturals bz) form (n - 1) last (omega (arith, start, end, inside)) (omega (arith, row, above))

pub returns-then-first-count_at-clause-low : goal.returns-then-first-count_at-clause-low
returns-then-first-count_at-clause-low g c test =
    let n = c.args.size in let az = map g.I.Index.value c.args.a_p.now in let bz = map g.I.Index.value c.args.a_i.now in
    let form = sorted_form n az bz c.requires.input.form c.requires.input.sorted in let start = c.count_at-first.ensures.count in
    let some = c.if-size-eq0.false in let last : n - 1 + 1 ≡ n = omega (arith, some) in
    let row = c.count_at-then-first-count_at.ensures.count ∙ ap (λ x. get_or (naturals bz) x 0) start in
    let below = ltb-false c.count_at-then-first-count_at.result (n - 1) test in
    last_low n (naturals az) (naturals bz) form (n - 1) last (λ inside. omega (arith, row, below))

pub returns-else-first-count_at-clause-low : goal.returns-else-first-count_at-clause-low
returns-else-first-count_at-clause-low g c test =
    let n = c.args.size in let az = map g.I.Index.value c.args.a_p.now in let bz = map g.I.Index.value c.args.a_i.now in
    let form = sorted_form n az bz c.requires.input.form c.requires.input.sorted in let start = c.count_at-first.ensures.count in
    let some = c.if-size-eq0.false in let last : n - 1 + 1 ≡ n = omega (arith, some) in
    let end = c.count_at.ensures.count ∙ ap (λ x. get_or (naturals az) x 0) (sym last) in let none = c.if-first-count_at.false in
    last_low n (naturals az) (naturals bz) form (n - 1) last (λ inside. absurd (omega (arith, start, end, none, inside)))

pub returns-then-size-eq0-clause-high : goal.returns-then-size-eq0-clause-high
returns-then-size-eq0-clause-high g c = λ e. absurd (true≢false (sym e))

pub returns-then-size-eq0-clause-low : goal.returns-then-size-eq0-clause-low
returns-then-size-eq0-clause-low g c = λ e i l. absurd (let none = c.if-size-eq0.true in omega (arith, none, l))

pub overflow_sub-size : goal.overflow_sub-size
overflow_sub-size g c = let some = c.if-size-eq0.false in omega (arith, some)

pub count_at-first-requires-clause-within : goal.count_at-first-requires-clause-within
count_at-first-requires-clause-within g c = (pointer_read g.I.Index.value c.args.a_p.now c.args.a_i.now c.args.size
    c.requires.input.form (c.args.size - 1) (omega arith) (omega (arith, c.well_formed))).0

pub count_at-requires : goal.count_at-requires
count_at-requires g c = let p = pointer_read g.I.Index.value c.args.a_p.now c.args.a_i.now c.args.size c.requires.input.form
    c.args.size (omega arith) (omega (arith, c.well_formed)) in record { within = p.0; fits = p.1 }

pub count_at-requires-then-first-count_at-clause-within : goal.count_at-requires-then-first-count_at-clause-within
count_at-requires-then-first-count_at-clause-within g c =
    let some = c.if-size-eq0.false in let last : c.args.size - 1 + 1 ≡ c.args.size = omega (arith, some) in
    place_in g.I.Index.value c.args.a_i.now c.args.size (map g.I.Index.value c.args.a_p.now) c.requires.input.form (c.args.size - 1)
    c.count_at-first.result c.count_at.result (omega (arith, last))
    (c.count_at.ensures.count ∙ ap (λ k. get_or (naturals (map g.I.Index.value c.args.a_p.now)) k 0) (sym last)) c.if-first-count_at.true

pub count_at-requires-then-first-count_at-clause-fits : goal.count_at-requires-then-first-count_at-clause-fits
count_at-requires-then-first-count_at-clause-fits g c =
    let some = c.if-size-eq0.false in let last : c.args.size - 1 + 1 ≡ c.args.size = omega (arith, some) in
    let end = c.count_at.ensures.count ∙ ap (λ k. get_or (naturals (map g.I.Index.value c.args.a_p.now)) k 0) (sym last) in
    let inside = c.if-first-count_at.true in
    row_fits c.args.size (map g.I.Index.value c.args.a_p.now) (map g.I.Index.value c.args.a_i.now) c.requires.input.form
    (c.args.size - 1) c.count_at-first.result (omega (arith, last)) (omega (arith, end, inside)) c.ranges.size.fits

pub overflow_sub-result : goal.overflow_sub-result
overflow_sub-result g c = let some = c.if-size-eq0.false in omega (arith, some)

pub returns-else-first-count_at-clause-high : goal.returns-else-first-count_at-clause-high
returns-else-first-count_at-clause-high g c = λ e. absurd
    (let inside = ltb-true c.count_at-first.result c.count_at.result e in let none = c.if-first-count_at.false in
    omega (arith, inside, none))
