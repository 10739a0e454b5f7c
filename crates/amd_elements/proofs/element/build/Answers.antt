use Rattle.std.proofs.Common.{refl, sym, le_of_eq, lt_of_lt_of_le}
use Rattle.amd_elements.proofs.Building.{builds_none, builds_visited}
use Rattle.amd_elements.proofs.ListsAround.{around_wide}
use Rattle.amd_elements.proofs.element.build.Goals as goal

pub visit_around-requires-clause-lists : goal.visit_around-requires-clause-lists
visit_around-requires-clause-lists g c = around_wide c.enter.new.nv c.enter.ensures.long c.requires.around.lists

pub visit_around-requires-clause-held : goal.visit_around-requires-clause-held
visit_around-requires-clause-held g c = builds_none c.args.iw.now c.args.nv.now c.enter.new.nv c.args.pe.now c.args.len.now c.args.pivot
    c.args.n_elements c.args.free c.enter.ensures.sizes c.enter.ensures.front c.requires.around.clear c.requires.fits c.requires.few

pub returns-clause-builds : goal.returns-clause-builds
returns-clause-builds g c =
    builds_visited c.args.iw.now c.args.nv.now c.enter.new.nv c.args.pe.now c.args.len.now c.args.pivot c.args.n_elements
    c.args.free
    c.enter.ensures.sizes c.enter.ensures.front c.requires.around.clear c.enter.ensures.long c.visit_around.ensures.held

pub visit_around-requires-clause-pivot : goal.visit_around-requires-clause-pivot
visit_around-requires-clause-pivot g c = lt_of_lt_of_le c.requires.around.pivot.0 (le_of_eq (sym c.enter.ensures.long))

pub visit_around-requires-clause-end : goal.visit_around-requires-clause-end
visit_around-requires-clause-end g c = c.requires.end

pub returns-clause-same : goal.returns-clause-same
returns-clause-same g c = (refl, refl)

pub enter-requires : goal.enter-requires
enter-requires g c = let a = c.requires.around in record { inside = a.pivot.0; class = a.pivot.1; fresh = a.clear c.args.pivot }
