use Rattle.amd_rounds.proofs.Rooms.{can_make, begun_behind}
use Rattle.amd_rounds.proofs.pivot.begin_behind.Goals as goal

pub begin_built-begun-requires : goal.begin_built-begun-requires
begin_built-begun-requires g c = can_make c.requires.laid.1 c.requires.pivot c.make_room.ensures.rooms g.S.Signed.MOST g.P.Signed.MOST
    g.U.Unsigned.MOST c.requires.wide

pub returns-clause-begins : goal.returns-clause-begins
returns-clause-begins g c = begun_behind c.requires.laid.1 c.requires.pivot c.make_room.ensures.rooms c.requires.count
    c.begin_built-begun.ensures.begins
