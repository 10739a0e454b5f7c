use Rattle.amd_edges.proofs.lists.RowListsVisitor.edge.Goals as goal

pub arc-requires-2 : goal.arc-requires-2
arc-requires-2 g c = let r = c.requires in (_, _, _, c.arc.ensures.held _ _ _ r.3 r.4.there, r.4.back)

pub returns-clause-held : goal.returns-clause-held
returns-clause-held g c = λ gr seen arcs h new. c.arc-2.ensures.held _ _ _ (c.arc.ensures.held _ _ _ h new.there) new.back
