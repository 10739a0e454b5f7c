use Rattle.std.proofs.Common.{ℕ, Bool, false, ◌≡◌, ◌<◌, ◌≤◌, ◌&&◌, sym, subst, ◌∙◌, inl, inr, lt_irrefl}
use Rattle.std.specs.Prelude.{◌==◌}
use Rattle.std.proofs.lemmas.Bool.{and_from, and_left, and_right, eq-eqb, ne_eqb}
use Rattle.amd_words.specs.Sides.{lasts}
use Rattle.amd_words.specs.Words.{num}
use Rattle.amd_merging.specs.Merging.{as_long}
use Rattle.amd_merging.proofs.merging.any_as_long.Goals.{else-last_at-key-via-then-last_at-key+else-is_as_long}
use Rattle.amd_merging.proofs.merging.any_as_long.Goals.{else-last_at-key-via-else-last_at-key}
use Rattle.amd_merging.proofs.BucketWalk.{walk_none, walk_at, walk_less, walk_more, walk_end, links_short}
use Rattle.amd_merging.proofs.merging.any_as_long.Goals as goal

pub members-init : goal.members-init
members-init g c = walk_none _ _ _ _ _ c.requires.chain (links_short _ _ _ _)

pub is_as_long-requires-clause-counts : goal.is_as_long-requires-clause-counts
is_as_long-requires-clause-counts g c =
    let inside = subst (λ n. c.members.j < n) c.row_count-n.ensures c.members-test.true in
    c.requires.members c.members.j (walk_at _ _ _ _ _ c.members.invariant inside)

pub members-preserved : goal.members-preserved
members-preserved g c =
    let inside = subst (λ n. c.members.j < n) c.row_count-n.ensures c.members-test.true in
    let j : ℕ = c.members.j in let key : Bool = num (lasts c.args.sides.now) j == c.args.key in
    let long : Bool = as_long c.args.e_len.now c.args.len.now c.args.count c.args.few j in
    let off : (key && long) ≡ false = elim c.else-last_at-key.branch [
      | else-last_at-key-via-then-last_at-key+else-is_as_long w ↦ and_right key long (sym w.is_as_long.ensures ∙ w.if-is_as_long.false)
      | else-last_at-key-via-else-last_at-key w ↦ and_left key long (ne_eqb (num (lasts c.args.sides.now) j) c.args.key (λ e.
          w.if-last_at-key.false (c.last_at.ensures.is ∙ e)))
    ] in
    rw c.next_at-j.ensures.is (walk_more _ _ _ _ _ c.members.invariant inside off)

pub members-smaller : goal.members-smaller
members-smaller g c =
    let inside = subst (λ n. c.members.j < n) c.row_count-n.ensures c.members-test.true in
    rw c.next_at-j.ensures.is (walk_less _ _ _ _ _ c.members.invariant inside)

pub returns-then-is_as_long-clause-some : goal.returns-then-is_as_long-clause-some
returns-then-is_as_long-clause-some g c on =
    let inside = subst (λ n. c.members.j < n) c.row_count-n.ensures c.members-test.true in let j : ℕ = c.members.j in (
      j,
      walk_at _ _ _ _ _ c.members.invariant inside,
      and_from (num (lasts c.args.sides.now) j == c.args.key) (as_long c.args.e_len.now c.args.len.now c.args.count c.args.few j)
          (eq-eqb (num (lasts c.args.sides.now) j) c.args.key (sym c.last_at.ensures.is ∙ c.if-last_at-key.true))
          (sym c.is_as_long.ensures ∙ c.if-is_as_long.true),
    )

pub returns-clause-none : goal.returns-clause-none
returns-clause-none g c none j h =
    let outside = subst (λ n. n ≤ c.members.j) c.row_count-n.ensures c.members-test.false in
    elim (walk_end _ _ _ _ _ c.members.invariant outside) [
      | inl f ↦ absurd (lt_irrefl _ f.0)
      | inr f ↦ f.1 j h
    ]
