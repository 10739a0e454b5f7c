-- A pointer is at most the next one, and that at most the number of rows.
use Rattle.std.proofs.Common.{◌+◌, inl, inr, arith}
use Rattle.amd_market.proofs.BoeingLemmas.{pointer-within}
use Rattle.amd_market.proofs.boeing.own_rows.Goals as goal

pub unreachable-requires : goal.unreachable-requires
unreachable-requires c =
    let h = c.requires.pointers in
    let up = h.2.rising c.args.column h.1 in
    let within = pointer-within h.0 _ c.args.pointers.now (c.args.column + 1) h.2 (omega (arith, h.1)) in
    elim c.in_default.ensures.lookup.0 [ inl x ↦ omega (arith, x, up) | inr x ↦ omega (arith, x, within) ]
