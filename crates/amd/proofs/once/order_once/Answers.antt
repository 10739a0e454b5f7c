-- The widths hold the words of the entries that were counted, and where nothing is ordered the lists stay.
use Rattle.std.proofs.Common.{ℕ, ◌≡◌, ◌<◌, ◌+◌, ◌*◌, ◌/◌, ◌^◌, ◌∙◌, ap, arith, length, subst, Fits, w64}
use Rattle.std.proofs.lemmas.Result.{IfOk-from_err}
use Rattle.amd_edges.proofs.Forms.{pointer_read}
use Rattle.amd.proofs.KeptLists.{refused_stay, stay}
use Rattle.amd.proofs.once.order_once.Goals as goal

words_are : (n entries count most : ℕ) → count ≡ entries → most ≡ 2 * count + 2 * count / 5 + n → most ≡ 2 * entries + 2 * entries / 5 + n
words_are n entries count most is words = words ∙ ap (λ e. 2 * e + 2 * e / 5 + n) is

few_words : (n entries count : ℕ) → count ≡ entries → 2 * count + 2 * count / 5 + n < 2 ^ 63 → 2 * entries + 2 * entries / 5 + n < 2 ^ 63
few_words n entries count is few = subst (λ e. 2 * e + 2 * e / 5 + n < 2 ^ 63) is few

few_rows : (n count : ℕ) → 2 * count + 2 * count / 5 + n < 2 ^ 63 → n < 2 ^ 63
few_rows n count few = omega arith

fifth_fits : (n count : ℕ) → 2 * count + 2 * count / 5 + n < 2 ^ 63 → Fits w64 (count + count / 5)
fifth_fits n count few = omega arith

room_fits : (n count : ℕ) → 2 * count + 2 * count / 5 + n < 2 ^ 63 → Fits w64 (count + count / 5 + n)
room_fits n count few = omega arith

pub count_at-entries-requires-clause-within : goal.count_at-entries-requires-clause-within
count_at-entries-requires-clause-within g c = let m = c.args.matrix.now in
    (pointer_read g.I.Index.value m.a_p.now m.a_i.now (length c.args.p.now) c.requires.given.form (length c.args.p.now) (omega arith)
    (omega (arith, c.well_formed))).0

pub count_at-entries-requires-clause-fits : goal.count_at-entries-requires-clause-fits
count_at-entries-requires-clause-fits g c = let m = c.args.matrix.now in
    (pointer_read g.I.Index.value m.a_p.now m.a_i.now (length c.args.p.now) c.requires.given.form (length c.args.p.now) (omega arith)
    (omega (arith, c.well_formed))).1

pub order_in-requires-clause-given : goal.order_in-requires-clause-given
order_in-requires-clause-given g c = c.requires.given

pub order_in-requires-clause-fits : goal.order_in-requires-clause-fits
order_in-requires-clause-fits g c = c.requires.fits

pub returns-then-holds-clause-orders : goal.returns-then-holds-clause-orders
returns-then-holds-clause-orders g c = c.order_in.ensures.orders

pub returns-then-holds-clause-kept : goal.returns-then-holds-clause-kept
returns-then-holds-clause-kept g c = c.order_in.ensures.kept

pub order_in-requires-then-holds-2-clause-given : goal.order_in-requires-then-holds-2-clause-given
order_in-requires-then-holds-2-clause-given g c = c.requires.given

pub order_in-requires-then-holds-2-clause-fits : goal.order_in-requires-then-holds-2-clause-fits
order_in-requires-then-holds-2-clause-fits g c = c.requires.fits

pub returns-then-holds-2-clause-orders : goal.returns-then-holds-2-clause-orders
returns-then-holds-2-clause-orders g c = c.order_in-then-holds-2.ensures.orders

pub returns-then-holds-2-clause-kept : goal.returns-then-holds-2-clause-kept
returns-then-holds-2-clause-kept g c = c.order_in-then-holds-2.ensures.kept

pub order_in-requires-then-holds-3-clause-given : goal.order_in-requires-then-holds-3-clause-given
order_in-requires-then-holds-3-clause-given g c = c.requires.given

pub order_in-requires-then-holds-3-clause-fits : goal.order_in-requires-then-holds-3-clause-fits
order_in-requires-then-holds-3-clause-fits g c = c.requires.fits

pub returns-then-holds-3-clause-orders : goal.returns-then-holds-3-clause-orders
returns-then-holds-3-clause-orders g c = c.order_in-then-holds-3.ensures.orders

pub returns-then-holds-3-clause-kept : goal.returns-then-holds-3-clause-kept
returns-then-holds-3-clause-kept g c = c.order_in-then-holds-3.ensures.kept

pub order_in-requires-then-holds-4-clause-given : goal.order_in-requires-then-holds-4-clause-given
order_in-requires-then-holds-4-clause-given g c = c.requires.given

pub order_in-requires-then-holds-4-clause-fits : goal.order_in-requires-then-holds-4-clause-fits
order_in-requires-then-holds-4-clause-fits g c = c.requires.fits

pub returns-then-holds-4-clause-orders : goal.returns-then-holds-4-clause-orders
returns-then-holds-4-clause-orders g c = c.order_in-then-holds-4.ensures.orders

pub returns-then-holds-4-clause-kept : goal.returns-then-holds-4-clause-kept
returns-then-holds-4-clause-kept g c = c.order_in-then-holds-4.ensures.kept

pub returns-in_default-clause-orders : goal.returns-in_default-clause-orders
returns-in_default-clause-orders g c = tt

pub returns-in_default-clause-kept : goal.returns-in_default-clause-kept
returns-in_default-clause-kept g c = stay c.args.p.now c.args.p_inv.now

pub overflow_add-entries : goal.overflow_add-entries
overflow_add-entries g c = fifth_fits (length c.args.p.now) c.count_at-entries.result c.in-Some.ensures.0

pub overflow_add-entries-2 : goal.overflow_add-entries-2
overflow_add-entries-2 g c = room_fits (length c.args.p.now) c.count_at-entries.result c.in-Some.ensures.0

pub returns-in_err-ask_for_most-clause-orders : goal.returns-in_err-ask_for_most-clause-orders
returns-in_err-ask_for_most-clause-orders g c = IfOk-from_err c.from_residual.result _ c.from_residual.ensures.0

pub returns-in_err-ask_for_most-clause-kept : goal.returns-in_err-ask_for_most-clause-kept
returns-in_err-ask_for_most-clause-kept g c = refused_stay c.from_residual.result c.args.p.now c.args.p_inv.now c.from_residual.ensures.0

pub holds-requires : goal.holds-requires
holds-requires g c = few_rows (length c.args.p.now) c.count_at-entries.result c.in-Some.ensures.0

pub order_in-requires-clause-narrow : goal.order_in-requires-clause-narrow
order_in-requires-clause-narrow g c =
    let words = words_are (length c.args.p.now) _ c.count_at-entries.result c.in-Some.most c.count_at-entries.ensures.count
    c.in-Some.ensures.1 in rw (← words) (c.holds.ensures.0 c.if-holds.true).0

pub order_in-requires-clause-few : goal.order_in-requires-clause-few
order_in-requires-clause-few g c =
    few_words (length c.args.p.now) _ c.count_at-entries.result c.count_at-entries.ensures.count c.in-Some.ensures.0

pub holds-requires-2 : goal.holds-requires-2
holds-requires-2 g c = few_rows (length c.args.p.now) c.count_at-entries.result c.in-Some.ensures.0

pub order_in-requires-then-holds-2-clause-narrow : goal.order_in-requires-then-holds-2-clause-narrow
order_in-requires-then-holds-2-clause-narrow g c =
    let words = words_are (length c.args.p.now) _ c.count_at-entries.result c.in-Some.most c.count_at-entries.ensures.count
    c.in-Some.ensures.1 in rw (← words) (c.holds-2.ensures.0 c.if-holds-2.true).0

pub order_in-requires-then-holds-2-clause-few : goal.order_in-requires-then-holds-2-clause-few
order_in-requires-then-holds-2-clause-few g c =
    few_words (length c.args.p.now) _ c.count_at-entries.result c.count_at-entries.ensures.count c.in-Some.ensures.0

pub holds-requires-3 : goal.holds-requires-3
holds-requires-3 g c = few_rows (length c.args.p.now) c.count_at-entries.result c.in-Some.ensures.0

pub order_in-requires-then-holds-3-clause-narrow : goal.order_in-requires-then-holds-3-clause-narrow
order_in-requires-then-holds-3-clause-narrow g c =
    let words = words_are (length c.args.p.now) _ c.count_at-entries.result c.in-Some.most c.count_at-entries.ensures.count
    c.in-Some.ensures.1 in rw (← words) (c.holds-3.ensures.0 c.if-holds-3.true).0

pub order_in-requires-then-holds-3-clause-few : goal.order_in-requires-then-holds-3-clause-few
order_in-requires-then-holds-3-clause-few g c =
    few_words (length c.args.p.now) _ c.count_at-entries.result c.count_at-entries.ensures.count c.in-Some.ensures.0

pub holds-requires-4 : goal.holds-requires-4
holds-requires-4 g c = few_rows (length c.args.p.now) c.count_at-entries.result c.in-Some.ensures.0

pub order_in-requires-then-holds-4-clause-narrow : goal.order_in-requires-then-holds-4-clause-narrow
order_in-requires-then-holds-4-clause-narrow g c =
    let words = words_are (length c.args.p.now) _ c.count_at-entries.result c.in-Some.most c.count_at-entries.ensures.count
    c.in-Some.ensures.1 in rw (← words) (c.holds-4.ensures.0 c.if-holds-4.true).0

pub order_in-requires-then-holds-4-clause-few : goal.order_in-requires-then-holds-4-clause-few
order_in-requires-then-holds-4-clause-few g c =
    few_words (length c.args.p.now) _ c.count_at-entries.result c.count_at-entries.ensures.count c.in-Some.ensures.0

pub returns-clause-orders : goal.returns-clause-orders
returns-clause-orders g c = tt

pub returns-clause-kept : goal.returns-clause-kept
returns-clause-kept g c = stay c.args.p.now c.args.p_inv.now
