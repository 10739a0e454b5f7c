use Rattle.std.proofs.Common.{◌≡◌, sym, ap, subst, ◌∙◌}
use Rattle.amd_elements.specs.Compaction.{Compacts}
use Rattle.amd_lists.specs.Workspaces.{Workspace, workspace_of}
use Rattle.amd_rounds.proofs.Rooms.{room_packed}
use Rattle.amd_rounds.proofs.pivot.make_room.Goals as goal

pub returns-clause-rooms : goal.returns-clause-rooms
returns-clause-rooms g c =
    let p : Workspace = workspace_of c.args.work.now in let v : Workspace = workspace_of c.compact.new.work in
    let here : workspace_of c.has_room.new.work ≡ p = c.has_room.ensures.same in
    let moved : Compacts p.iw p.pe p.len p.free v.iw v.pe v.free
    = subst (λ (q : Workspace). Compacts q.iw q.pe q.len q.free v.iw v.pe v.free) here c.compact.ensures.moves in
    let same : v ≡ record p { iw = v.iw; pe = v.pe; free = v.free }
    = c.compact.ensures.same ∙ ap (λ (q : Workspace). record q { iw = v.iw; pe = v.pe; free = v.free }) here in
    room_packed c.requires.laid.1 c.requires.pivot v moved same (sym c.has_room.ensures.fits ∙ c.if-has_room.false)
