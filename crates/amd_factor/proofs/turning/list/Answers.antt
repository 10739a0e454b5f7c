use Rattle.std.proofs.Common.{◌≡◌, ◌++◌, sym, subst, arith, length, add-one}
use Rattle.amd_factor.specs.Arcs.{arcs_to}
use Rattle.amd_factor.proofs.Lists.TurnedArcs.{to_is_next, to_next, to_none}
use Rattle.amd_factor.proofs.turning.list.Goals as goal

pub earlier-init : goal.earlier-init
earlier-init g c = λ n all arcs more held.
    subst (λ xs. g.V.ArcVisitor.holds n all (xs ++ arcs) c.args.visitor.now c.args.starts.now c.args.neighbours.now)
    (sym (to_none c.args.j c.args.earlier.now)) held

pub arc-requires : goal.arc-requires
arc-requires g c =
    let n = c.requires.0 in let all = c.requires.1 in let arcs = c.requires.2 in let h = c.requires.3 in let held = c.requires.4 in (
      n,
      all,
      _,
      c.earlier.invariant n all arcs h held,
      to_is_next c.args.j c.args.earlier.now n all arcs h.place h.below (h.rest, h.is) c.earlier.i-index
          c.earlier-test.true,
    )

pub earlier-preserved : goal.earlier-preserved
earlier-preserved g c = λ n all arcs more held.
    rw add-one (subst (λ xs. g.V.ArcVisitor.holds n all (xs ++ arcs) c.args.visitor.now c.arc.new.starts c.arc.new.neighbours)
    (sym (to_next c.args.j c.args.earlier.now c.earlier.i-index))
    (c.arc.ensures _ _ _ (c.earlier.invariant n all arcs more held)
    (to_is_next c.args.j c.args.earlier.now n all arcs more.place more.below (more.rest, more.is) c.earlier.i-index c.earlier-test.true)))

pub returns : goal.returns
returns g c = λ n all arcs more held.
    let end : c.earlier.i-index ≡ length c.args.earlier.now = (let t = c.earlier-test.false in let e = c.earlier.auto.i-index-end in
    omega (arith, t, e)) in
    subst (λ m. g.V.ArcVisitor.holds n all (arcs_to c.args.j c.args.earlier.now m ++ arcs) c.args.visitor.now c.earlier.starts
    c.earlier.neighbours) end (c.earlier.invariant n all arcs more held)
