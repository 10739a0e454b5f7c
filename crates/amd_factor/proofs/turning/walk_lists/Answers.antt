use Rattle.std.proofs.Common.{sym, subst, length, add-one, arith, ◌≡◌}
use Rattle.amd_factor.specs.Arcs.{list_arcs}
use Rattle.amd_factor.proofs.Lists.TurnedArcs.{before_last, handed, lists_next, lists_none}
use Rattle.amd_factor.proofs.turning.walk_lists.Goals as goal

pub places-init : goal.places-init
places-init g c = λ o has held. rw (lists_none c.args.starts.now c.args.earlier.now) held

pub list-requires : goal.list-requires
list-requires g c =
    let o = c.requires.0 in
    let has = c.requires.1 in
    let low = before_last o c.args.starts.now c.args.earlier.now has c.places.j c.places-test.true in
    (_, _, _, handed o c.args.starts.now c.args.earlier.now has c.places.j low, c.places.invariant o has c.requires.2)

pub places-preserved : goal.places-preserved
places-preserved g c = λ o has held.
    let low = before_last o c.args.starts.now c.args.earlier.now has c.places.j c.places-test.true in
    rw add-one (subst (λ xs. g.V.ArcVisitor.holds (length o.rows) (list_arcs c.args.starts.now c.args.earlier.now (length o.rows)) xs
    c.args.visitor.now c.list.new.starts c.list.new.neighbours) (sym (lists_next c.args.starts.now c.args.earlier.now c.places.j))
    (c.list.ensures _ _ _ (handed o c.args.starts.now c.args.earlier.now has c.places.j low) (c.places.invariant o has held)))

pub returns : goal.returns
returns g c = λ o has held.
    let all : c.places.j ≡ length o.rows = (let room = has.room in let t = c.places-test.false in let e = c.places.auto.j-end in
    omega (arith, room, t, e)) in
    subst (λ m. g.V.ArcVisitor.holds (length o.rows) (list_arcs c.args.starts.now c.args.earlier.now (length o.rows))
    (list_arcs c.args.starts.now c.args.earlier.now m) c.args.visitor.now c.places.ends c.places.neighbours) all
    (c.places.invariant o has held)
