use Rattle.std.proofs.Common.{◌≡◌, ◌<◌, ◌+◌, ◌-◌, ◌++◌, ap, sym, ◌∙◌, subst, arith, length, take_all}
use Rattle.std.specs.Prelude.{slice_index}
use Rattle.std.specs.List.{range_with_len}
use Rattle.amd_factor.specs.Columns.{HoldColumns}
use Rattle.amd_factor.proofs.Partitions.SupernodeFigures.{ends-in, ptr-most}
use Rattle.amd_factor.proofs.expanding.expanded.Goals as goal

pub rows_of-block-requires-clause-inside : goal.rows_of-block-requires-clause-inside
rows_of-block-requires-clause-inside g c =
    let h = c.requires.blocks.1.holds in let p = h.pointers in let q = h.parents in let t = c.supernodes-test.true in omega (arith, p, q, t)

pub rows_of-block-requires-clause-ascending : goal.rows_of-block-requires-clause-ascending
rows_of-block-requires-clause-ascending g c =
    let h = c.requires.blocks.1.holds in let q = h.parents in let t = c.supernodes-test.true in
    h.ascending c.supernodes.s (omega (arith, q, t))

pub rows_of-block-requires-clause-within : goal.rows_of-block-requires-clause-within
rows_of-block-requires-clause-within g c =
    let q = c.requires.blocks.1.holds.parents in let t = c.supernodes-test.true in
    ptr-most c.requires.blocks.0 _ _ _ _ c.requires.blocks.1.runs c.requires.blocks.1.holds (c.supernodes.s + 1) (omega (arith, q, t))

pub push_block-requires : goal.push_block-requires
push_block-requires g c =
    let q = c.requires.blocks.1.holds.parents in let t = c.supernodes-test.true in
    let up = c.requires.blocks.1.runs.rises c.supernodes.s (omega (arith, q, t)) in omega (arith, up)

pub supernodes-preserved : goal.supernodes-preserved
supernodes-preserved g c = λ columns b.
    let s = c.supernodes.s in let h = b.holds in let q = h.parents in let t = c.supernodes-test.true in
    let l : s + 1 < length c.args.first.now = omega (arith, q, t) in
    c.in_ok-push_block.ensures columns (ends-in columns _ _ _ _ b.runs h s l)
    (λ k lo hi. h.each s k l lo hi
    ∙ ap (λ xs. range_with_len (k + 1) (slice_index c.args.first.now (s + 1) - (k + 1)) ++ xs) (sym c.rows_of-block.ensures))
    (c.supernodes.invariant columns b)

pub returns : goal.returns
returns g c = λ columns b.
    let q = b.holds.parents in let t = c.supernodes-test.false in let e = c.supernodes.auto.s-end in
    let last : c.supernodes.s ≡ length c.args.first.now - 1 = omega (arith, q, t, e) in
    let all : slice_index c.args.first.now c.supernodes.s ≡ length columns = ap (slice_index c.args.first.now) last ∙ b.runs.end in
    subst (λ cs. HoldColumns cs c.supernodes.pointers.items c.supernodes.rows.items c.supernodes.parent.items)
    (take_all (slice_index c.args.first.now c.supernodes.s) columns (omega (arith, all))) (c.supernodes.invariant columns b)
