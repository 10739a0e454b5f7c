-- The words that were passed are those of the line.
use Rattle.std.proofs.Common.{subst, refl}
use Rattle.amd_market.specs.Entries.{BeginsValues}
use Rattle.amd_market.proofs.EntryLemmas.{entry_ends}
use Rattle.amd_market.proofs.entries.plain_entry.Goals as goal

pub returns-clause-ends : goal.returns-clause-ends
returns-clause-ends c =
    let front = c.in_ok-row.ensures in
    let values = subst (λ z. BeginsValues z c.in_ok-row.behind.now c.in_ok-rest.rest.now) c.words.ensures c.in_ok-rest.ensures.values in
    (entry_ends c.args.field c.args.n c.in_ok-row.row c.in_ok-row.column c.args.text.now c.in_ok-row.behind.now c.in_ok-rest.rest.now
    c.in_ok-place.place _ front.entry front.line values c.in_ok-rest.ensures.line
    c.in_ok-place.ensures.end c.in_ok-place.ensures.words refl).0

pub returns-clause-entry : goal.returns-clause-entry
returns-clause-entry c =
    let front = c.in_ok-row.ensures in
    let values = subst (λ z. BeginsValues z c.in_ok-row.behind.now c.in_ok-rest.rest.now) c.words.ensures c.in_ok-rest.ensures.values in
    (entry_ends c.args.field c.args.n c.in_ok-row.row c.in_ok-row.column c.args.text.now c.in_ok-row.behind.now c.in_ok-rest.rest.now
    c.in_ok-place.place _ front.entry front.line values c.in_ok-rest.ensures.line
    c.in_ok-place.ensures.end c.in_ok-place.ensures.words refl).1
