-- The supernodes tell the columns of the factor, and the lists its edges.
use Rattle.std.proofs.Common.{subst, sym}
use Rattle.amd_report.specs.Fills.{AreCuts}
use Rattle.amd_command.proofs.Drawing.{cuts-of, draws}
use Rattle.amd_command.proofs.drawn.marked_fill.Goals as goal

pub fill_grid-requires : goal.fill_grid-requires
fill_grid-requires g c =
    let lists = c.in_ok-later.later in
    let made = c.in_ok-factor.factor in
    subst (λ z. AreCuts z c.args.n) (sym c.deref.ensures.value)
    (cuts-of c.args.n c.args.a_p.now c.args.a_i.now c.args.p.now c.args.places.now made.first.items made.ptr.items made.rows.items
    lists.starts.items lists.neighbours.items made.parent.items c.requires.places c.in_ok-later.ensures c.in_ok-factor.ensures.supernodes)

pub returns : goal.returns
returns g c =
    let lists = c.in_ok-later.later in
    let made = c.in_ok-factor.factor in
    draws c.args.n c.args.a_p.now c.args.a_i.now c.args.p.now c.args.places.now made.first.items made.ptr.items made.rows.items
    lists.starts.items lists.neighbours.items made.parent.items c.requires.places c.in_ok-later.ensures c.in_ok-factor.ensures.supernodes
    c.in_ok-grid.grid c.in_ok-grid.ensures.square
    (rw (c.deref.ensures.value, c.deref-2.ensures.value, c.deref-3.ensures.value, c.deref-4.ensures.value, c.deref-5.ensures.value)
    at c.in_ok-grid.ensures.shows)
