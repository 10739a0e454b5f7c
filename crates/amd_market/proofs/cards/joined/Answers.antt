-- the goals of cards::joined.
use Rattle.std.proofs.Common.{◌+◌, ◌++◌, ◌∷◌, [], ◌∙◌, append-nil, ap, arith, drop, get_or, length, sym}
use Rattle.std.proofs.lemmas.List.{at_drop_all}
use borrow.Author.Count.{falls}
use Rattle.amd_market.specs.Boeing.{joined}
use Rattle.amd_market.proofs.JoinedLemmas.{depth-least, joined-more}
use Rattle.amd_market.proofs.UnreadLemmas.{no-value}
use Rattle.amd_market.proofs.cards.joined.Goals as goal
use Rattle.amd_market.proofs.cards.joined.Goals.{then-is_kept+in_ok-push, else-is_kept}

pub bytes-init : goal.bytes-init
bytes-init g c = (ap (λ z. z ++ joined 0 c.args.line.now) c.new-text.ensures.items, omega arith)

pub returns-in_err-push : goal.returns-in_err-push
returns-in_err-push g c = no-value _ _ c.from_residual.result c.from_residual.ensures.1

pub depth_behind-depth-requires : goal.depth_behind-depth-requires
depth_behind-depth-requires g c =
    let least = c.bytes.invariant.1 in let more = c.bytes-test.true in omega (arith, least, more, c.well_formed)

pub bytes-smaller : goal.bytes-smaller
bytes-smaller g c = falls (length c.args.line.now) c.bytes.byte-index c.bytes-test.true

pub bytes-preserved : goal.bytes-preserved
bytes-preserved g c =
    let line = c.args.line.now in
    let i = c.bytes.byte-index in
    let old = c.bytes.text.items in
    let depth = c.bytes.depth in
    let rest = drop (i + 1) line in
    let deep = c.depth_behind-depth.ensures in
    let inv = c.bytes.invariant in (
      elim c.if-is_kept.branch [
        | then-is_kept+in_ok-push w ↦ ap (λ v. v.items ++ joined c.depth_behind-depth.result rest) w.text-is
            ∙ ap (λ z. z ++ joined c.depth_behind-depth.result rest) w.in_ok-push.ensures.items
            ∙ ap (λ d. (old ++ get_or line i 0 ∷ []) ++ joined d rest) deep
            ∙ joined-more line old (get_or line i 0 ∷ []) depth i c.bytes-test.true inv.0 w.if-is_kept.ensures
        | else-is_kept w ↦ ap (λ v. v.items ++ joined c.depth_behind-depth.result rest) w.text-is
            ∙ ap (λ z. z ++ joined c.depth_behind-depth.result rest) (sym (append-nil old))
            ∙ ap (λ d. (old ++ []) ++ joined d rest) deep
            ∙ joined-more line old [] depth i c.bytes-test.true inv.0 w.if-is_kept.ensures
      ],
      (let least = depth-least depth (get_or line i 0) in let before = inv.1 in omega (arith, deep, least, before)),
    )

pub returns : goal.returns
returns g c =
    let text = c.bytes.text.items in
    sym (append-nil text)
    ∙ ap (λ z. text ++ z) (sym (at_drop_all (joined c.bytes.depth) c.args.line.now c.bytes.byte-index c.bytes-test.false))
    ∙ c.bytes.invariant.0
