use Rattle.std.proofs.Common.{ℕ, ◌≡◌, ◌≤◌, [], sym, ap, ◌∙◌, arith, length}
use Rattle.amd_model.specs.Quotient.{has}
use Rattle.amd_model.proofs.Listings.Words.{has_none}
use Rattle.amd_words.specs.Sides.{nexts}
use Rattle.amd_merging.specs.Merging.{bucket}
use Rattle.amd_merging.proofs.BucketWalk.{links_is}
use Rattle.amd_merging.proofs.merging.is_compared.Goals as goal

pub last_at-key-requires : goal.last_at-key-requires
last_at-key-requires g c = c.requires.class.0

pub cell_at-count-requires : goal.cell_at-count-requires
cell_at-count-requires g c = let a = c.requires.class.0 in let n = c.requires.bucket.lengths.1 in omega (arith, a, n)

pub named-few-requires-clause-inside : goal.named-few-requires-clause-inside
named-few-requires-clause-inside g c = let a = c.requires.class.0 in let n = c.requires.bucket.lengths.0 in omega (arith, a, n)

pub named-few-requires-clause-is_one : goal.named-few-requires-clause-is_one
named-few-requires-clause-is_one g c = c.requires.class.1

pub any_as_long-requires : goal.any_as_long-requires
any_as_long-requires g c = c.requires.bucket

-- a bucket without a head has no members
pub returns-then-head-row_count-clause-none : goal.returns-then-head-row_count-clause-none
returns-then-head-row_count-clause-none g c off x h =
    let next = nexts c.args.sides.now in let head : ℕ = c.args.head in
    let end : length next ≤ head = let b = c.if-head-row_count.true in let r = c.row_count.ensures in omega (arith, b, r) in
    let none : bucket next head ≡ [] = links_is _ next _ head [] end (omega arith) in
    absurd (has_none x (sym (ap (λ xs. has xs x) none) ∙ h))

pub returns-clause-some : goal.returns-clause-some
returns-clause-some g c =
    rw (c.last_at-key.ensures.is, c.cell_at-count.ensures.is, c.named-few.ensures) at c.any_as_long.ensures.some

pub returns-clause-none : goal.returns-clause-none
returns-clause-none g c =
    rw (c.last_at-key.ensures.is, c.cell_at-count.ensures.is, c.named-few.ensures) at c.any_as_long.ensures.none
