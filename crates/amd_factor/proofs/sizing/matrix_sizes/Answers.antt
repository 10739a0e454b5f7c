use Rattle.std.proofs.Common.{ℤ, List, map, sym, subst, rules}
use Rattle.std.specs.Prelude.{unsigned_abs}
use Rattle.amd_model.specs.Graph.{IsGraph}
use Rattle.amd_model.proofs.Patterns.DegreeSums.{pattern_graph}
use Rattle.amd_factor.proofs.Partitions.SupernodeRoom.{held-under, sizes-of}
use Rattle.amd_factor.proofs.sizing.matrix_sizes.Goals as goal

pub cut_sizes-requires : goal.cut_sizes-requires
cut_sizes-requires g c =
    let order = c.requires.1.1 in
    let z : ℤ = g.I.Index.value c.args.n in
    let a_p : List ℤ = map g.I.Index.value c.args.a_p.now in
    let a_i : List ℤ = map g.I.Index.value c.args.a_i.now in
    let p : List ℤ = map g.I.Index.value c.args.p.now in (
      subst IsGraph (sym order.graph) (pattern_graph (unsigned_abs z) a_p a_i),
      (
        rw (c.deref.ensures.value, c.deref-2.ensures.value)
            (held-under z a_p a_i p g.o order.graph order.rows _ _ _ c.in_ok-counted.ensures.counts),
        search rules,
      ),
    )

pub returns-in-Some-clause-sizes : goal.returns-in-Some-clause-sizes
returns-in-Some-clause-sizes g c =
    let order = c.requires.1.1 in
    sizes-of (g.I.Index.value c.args.n) _ _ _ g.o order.graph order.rows _ _ _ c.in_ok-counted.ensures.counts _ _
    c.in-Some.ensures
