use Rattle.std.proofs.Common.{arith, length, pos, sym, ◌≡◌, ◌∙◌}
use Rattle.std.proofs.lemmas.List.{length-map}
use Rattle.amd_bench.proofs.stages.list_order.Given.{Over}
use Rattle.amd_bench.proofs.stages.list_order.Goals.{After-list_rows}
use Rattle.amd_bench.proofs.stages.list_order.Goals as goal

-- the order has a place for each row
long : (g : Over) (c : After-list_rows g) → length c.list_rows.new.rows.head.now ≡ length c.args.rows.now.pe.now
long g c = sym (length-map c.list_rows.new.rows.head.now pos) ∙ c.list_rows.ensures.listed.inverse.p_length

pub finish-requires-clause-room : goal.finish-requires-clause-room
finish-requires-clause-room g c =
    let rows = long g (goal.at.finish-requires-clause-room g c).After-list_rows in let room = c.requires.room in
    (room.0 ∙ sym rows, room.1 ∙ sym rows)

pub finish-requires-clause-inverse : goal.finish-requires-clause-inverse
finish-requires-clause-inverse g c =
    rw (long g (goal.at.finish-requires-clause-inverse g c).After-list_rows) c.list_rows.ensures.listed.inverse

pub finish-requires-clause-fits : goal.finish-requires-clause-fits
finish-requires-clause-fits g c = λ k l.
    let rows = long g (goal.at.finish-requires-clause-fits g c).After-list_rows in c.requires.fits k (omega (arith, l, rows))
