-- The classes of two entries of each column are classes of the graph, and the marked rows link to one row.
use Rattle.std.proofs.Common.{subst, sym}
use Rattle.amd_model.specs.Graph.{Graph}
use Rattle.amd_report.specs.Passes.{AreClasses, AreMarkedClasses, Connects}
use Rattle.amd_report.proofs.Connecting.{classes-kept, classes-marked}
use Rattle.amd_report.proofs.components.join_all.Given.{Over}
use Rattle.amd_report.proofs.components.join_all.Goals.{After-deref}
use Rattle.amd_report.proofs.components.join_all.Goals as goal

pub most_common-first-requires : goal.most_common-first-requires
most_common-first-requires g c =
    let some = c.requires.classes in
    let h = c.join_some.ensures.classes some.0 some.1 some.2 in record { names = (h.name, h.names) }

-- the classes with the marks
marked : (g : Over) (c : After-deref g) (graph : Graph) → Connects graph c.args.n c.args.a_p.now c.args.a_i.now →
    AreClasses graph c.args.a_p.now c.args.a_i.now 0 0 c.args.links.now →
    AreMarkedClasses graph c.args.a_p.now c.args.a_i.now 0 0 c.deref.result.now c.most_common-first.new.links
marked g c graph connects h =
    subst (λ m. AreMarkedClasses graph c.args.a_p.now c.args.a_i.now 0 0 m c.most_common-first.new.links) (sym c.deref.ensures.value)
    (classes-marked graph c.args.a_p.now c.args.a_i.now c.in_ok-marks.marks.items c.most_common-first.new.links
    c.most_common-first.result c.in_ok-marks.ensures.marks
    (classes-kept graph c.args.a_p.now c.args.a_i.now c.join_some.new.links c.most_common-first.new.links c.most_common-first.ensures.size
    c.most_common-first.ensures.names (c.join_some.ensures.classes graph connects h)))

pub join_entries-requires-clause-classes : goal.join_entries-requires-clause-classes
join_entries-requires-clause-classes g c =
    let some = c.requires.classes in
    (some.0, some.1, marked g (goal.at.join_entries-requires-clause-classes g c).After-deref some.0 some.1 some.2)

pub returns : goal.returns
returns g c = record {
  classes = λ graph connects h.
      (c.join_entries.ensures.classes graph connects (marked g (goal.at.returns g c).After-deref graph connects h)).classes;
}
