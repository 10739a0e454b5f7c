-- The search looks at what stands behind the first bytes.
use Rattle.amd_lines.proofs.LineLemmas.{feed-none, feed-found}
use Rattle.amd_lines.proofs.lines.feed_behind.Goals as goal

pub returns-in_err-place : goal.returns-in_err-place
returns-in_err-place c = rw c.from_residual.ensures
    (feed-none c.args.bytes.now c.args.seen c.requires.within c.requires.none
    (rw (c.in_err-place.was, c.split_at.ensures.back) at c.memchr.ensures))

pub returns : goal.returns
returns c =
    let found = rw (c.in_ok-place.was, c.split_at.ensures.back) at c.memchr.ensures in
    feed-found c.args.bytes.now c.args.seen c.in_ok-place.place c.requires.within c.requires.none found.0 found.1
