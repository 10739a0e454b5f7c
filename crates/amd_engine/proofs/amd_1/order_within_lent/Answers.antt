use Rattle.std.proofs.Common.{◌≡◌, ◌<◌, ◌^◌, ◌∙◌, arith, rules, ap, length, sym}
use Rattle.amd_types.specs.declared.amd.Info.{Info}
use Rattle.amd_engine.proofs.amd_1.order_within_lent.Given.{Over}
use Rattle.amd_engine.proofs.amd_1.order_within_lent.Goals.{After-lend_narrow-2}
use Rattle.amd_engine.proofs.amd_1.order_within_lent.Goals as goal

-- there is a number of rows for each row, and one of elements
size : (g : Over) (c : After-lend_narrow-2 g) → length c.lend_narrow.result.now ≡ length c.args.p.now
size g c = ap length c.lend_narrow.ensures.value ∙ c.clear.auto.numbers

counts : (g : Over) (c : After-lend_narrow-2 g) → length c.lend_narrow-2.result.now ≡ length c.args.p.now
counts g c = ap length c.lend_narrow-2.ensures.value ∙ c.clear-2.auto.numbers ∙ c.requires.places

pub lend_narrow-requires : goal.lend_narrow-requires
lend_narrow-requires g c = record { fits = c.clear.ensures.fits }

pub lend_narrow-requires-2 : goal.lend_narrow-requires-2
lend_narrow-requires-2 g c = record { fits = c.clear-2.ensures.fits }

pub eliminate_within-run-requires-clause-counts : goal.eliminate_within-run-requires-clause-counts
eliminate_within-run-requires-clause-counts g c =
    let at = (goal.at.eliminate_within-run-requires-clause-counts g c).After-lend_narrow-2 in counts g at ∙ sym (size g at)

pub eliminate_within-run-requires-clause-some : goal.eliminate_within-run-requires-clause-some
eliminate_within-run-requires-clause-some g c =
    rw (size g (goal.at.eliminate_within-run-requires-clause-some g c).After-lend_narrow-2) c.requires.some

pub eliminate_within-run-requires-clause-form : goal.eliminate_within-run-requires-clause-form
eliminate_within-run-requires-clause-form g c =
    rw (size g (goal.at.eliminate_within-run-requires-clause-form g c).After-lend_narrow-2) c.requires.form

pub eliminate_within-run-requires-clause-sorted : goal.eliminate_within-run-requires-clause-sorted
eliminate_within-run-requires-clause-sorted g c =
    rw (size g (goal.at.eliminate_within-run-requires-clause-sorted g c).After-lend_narrow-2) c.requires.sorted

pub eliminate_within-run-requires-clause-degrees : goal.eliminate_within-run-requires-clause-degrees
eliminate_within-run-requires-clause-degrees g c =
    rw (size g (goal.at.eliminate_within-run-requires-clause-degrees g c).After-lend_narrow-2) c.requires.degrees

pub eliminate_within-run-requires-clause-words : goal.eliminate_within-run-requires-clause-words
eliminate_within-run-requires-clause-words g c =
    rw (size g (goal.at.eliminate_within-run-requires-clause-words g c).After-lend_narrow-2) c.requires.words

pub eliminate_within-run-requires-clause-room : goal.eliminate_within-run-requires-clause-room
eliminate_within-run-requires-clause-room g c =
    rw (size g (goal.at.eliminate_within-run-requires-clause-room g c).After-lend_narrow-2) c.requires.room

pub eliminate_within-run-requires-clause-narrow : goal.eliminate_within-run-requires-clause-narrow
eliminate_within-run-requires-clause-narrow g c =
    rw (size g (goal.at.eliminate_within-run-requires-clause-narrow g c).After-lend_narrow-2) c.requires.narrow

pub eliminate_within-run-requires-clause-pointers : goal.eliminate_within-run-requires-clause-pointers
eliminate_within-run-requires-clause-pointers g c =
    rw (size g (goal.at.eliminate_within-run-requires-clause-pointers g c).After-lend_narrow-2) c.requires.pointers

pub eliminate_within-run-requires-clause-marks : goal.eliminate_within-run-requires-clause-marks
eliminate_within-run-requires-clause-marks g c =
    rw (size g (goal.at.eliminate_within-run-requires-clause-marks g c).After-lend_narrow-2) c.requires.marks

pub finish-requires-clause-fits : goal.finish-requires-clause-fits
finish-requires-clause-fits g c = λ k l.
    let all = size g (goal.at.finish-requires-clause-fits g c).After-lend_narrow-2 in let wide = c.requires.narrow.2 in
    let rows = ap length c.deref.ensures.value ∙ c.eliminate_within-run.ensures.long ∙ all in
    let small : k < 2 ^ 31 = omega (arith, l, rows, wide) in search rules

pub finish-requires-clause-inverse : goal.finish-requires-clause-inverse
finish-requires-clause-inverse g c = let told = c.eliminate_within-run.ensures in
    rw (c.deref.ensures.value, c.deref-2.ensures.value, told.long) (told.orders c.args.info.now).inverse

pub returns-clause-orders : goal.returns-clause-orders
returns-clause-orders g c =
    let all = size g (goal.at.returns-clause-orders g c).After-lend_narrow-2 in let order = c.finish.ensures.order in
    rw (order.0, order.1, c.finish.ensures.tells, c.deref.ensures.value, c.deref-2.ensures.value)
    (rw all at (c.eliminate_within-run.ensures.orders c.args.info.now))

pub returns-clause-compactions : goal.returns-clause-compactions
returns-clause-compactions g c =
    let all = size g (goal.at.returns-clause-compactions g c).After-lend_narrow-2 in let packs = c.eliminate_within-run.ensures.packs in
    let tells = ap (λ (info : Info). info.n_cmp_a) c.finish.ensures.tells in omega (arith, tells, packs, all)

pub returns-clause-room : goal.returns-clause-room
returns-clause-room g c = c.eliminate_within-run.ensures.room

pub returns-clause-aside : goal.returns-clause-aside
returns-clause-aside g c = c.eliminate_within-run.ensures.aside
