use Rattle.std.proofs.Common.{◌<◌, ◌≤◌, sym, subst, ◌∙◌}
use Rattle.amd_merging.proofs.BucketWalk.{walk_none, walk_at, walk_less, walk_more, walk_found, walk_end, links_short}
use Rattle.amd_merging.proofs.merging.walk.Goals as goal

pub members-init : goal.members-init
members-init g c = walk_none _ _ _ _ _ c.requires.chain (links_short _ _ _ _)

pub is_like-requires-clause-renewed : goal.is_like-requires-clause-renewed
is_like-requires-clause-renewed g c =
    let inside = subst (λ n. c.members.j < n) c.row_count-n.ensures c.members-test.true in
    c.requires.members c.members.j (walk_at _ _ _ _ _ c.members.invariant inside)

pub returns-then-is_like : goal.returns-then-is_like
returns-then-is_like g c =
    let inside = subst (λ n. c.members.j < n) c.row_count-n.ensures c.members-test.true in
    walk_found _ _ _ _ _ c.members.invariant inside (sym c.is_like.ensures ∙ c.if-is_like.true)

pub members-preserved : goal.members-preserved
members-preserved g c =
    let inside = subst (λ n. c.members.j < n) c.row_count-n.ensures c.members-test.true in
    rw c.next_at-j.ensures.is (walk_more _ _ _ _ _ c.members.invariant inside (sym c.is_like.ensures ∙ c.if-is_like.false))

pub members-smaller : goal.members-smaller
members-smaller g c =
    let inside = subst (λ n. c.members.j < n) c.row_count-n.ensures c.members-test.true in
    rw c.next_at-j.ensures.is (walk_less _ _ _ _ _ c.members.invariant inside)

pub returns : goal.returns
returns g c =
    let outside = subst (λ n. n ≤ c.members.j) c.row_count-n.ensures c.members-test.false in
    rw c.row_count-n.ensures (walk_end _ _ _ _ _ c.members.invariant outside)
