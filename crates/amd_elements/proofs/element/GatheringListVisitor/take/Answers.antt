use Rattle.amd_elements.proofs.Building.{can_gather, gathers_list}
use Rattle.amd_elements.proofs.element.GatheringListVisitor.take.Goals as goal

pub gather-requires : goal.gather-requires
gather-requires g c = let r = c.requires.held in
    can_gather r.held c.args.from c.args.count r.rest r.split c.requires.span c.requires.before

pub returns-clause-held : goal.returns-clause-held
returns-clause-held g c = λ at. gathers_list at.held c.args.from c.args.count c.gather.ensures
