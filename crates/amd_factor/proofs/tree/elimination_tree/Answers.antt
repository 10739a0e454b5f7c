use Rattle.std.proofs.Common.{◌≡◌, ◌<◌, subst, arith, length}
use Rattle.amd_model.proofs.Counting.Below.{only_none}
use Rattle.amd_factor.specs.Walks.{TellParents}
use Rattle.amd_factor.proofs.Trees.Clearing.{no_parents}
use Rattle.amd_factor.proofs.Trees.Ancestry.{begin-row, end-row, none-at, ready-none}
use Rattle.amd_factor.proofs.tree.elimination_tree.Goals as goal

pub rows-init : goal.rows-init
rows-init g c =
    let none = c.fill.ensures.after (only_none _ (λ q e. e)) in
    ready-none g.o _ _ (no_parents g.o _ c.requires.parents _ none) c.requires.ancestors (none-at _ _ none)

pub link_row-requires : goal.link_row-requires
link_row-requires g c =
    let r = c.requires.ancestors in let t = c.rows-test.true in
    let low : c.rows.i < length g.o.rows = omega (arith, r, t) in
    record {
      laws = c.requires.laws;
      place = low;
      earlier_are = c.requires.earlier_are.each c.rows.i low;
      climbing = begin-row g.o c.requires.laws c.rows.i low _ _ c.rows.invariant;
    }

pub rows-preserved : goal.rows-preserved
rows-preserved g c =
    let r = c.requires.ancestors in let t = c.rows-test.true in
    let low : c.rows.i < length g.o.rows = omega (arith, r, t) in
    end-row g.o c.requires.laws c.rows.i low _ _ c.link_row.ensures.parents c.link_row.ensures.climbing

pub returns : goal.returns
returns g c =
    let r = c.requires.ancestors in let t = c.rows-test.false in let b = c.rows.auto.i-end in
    let all : c.rows.i ≡ length g.o.rows = omega (arith, r, t, b) in subst (λ m. TellParents g.o m c.rows.parent) all c.rows.invariant.tells
