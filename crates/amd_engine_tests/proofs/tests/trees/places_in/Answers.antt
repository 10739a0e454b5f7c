-- The words have the numbers of the forest.
use Rattle.std.proofs.Common.{rules, ◌∙◌, length}
use Rattle.amd_postorder.specs.Trees.{IsElementForest}
use Rattle.amd_engine_tests.proofs.tests.trees.places_in.Goals as goal

pub links_of-links-requires-clause-forest : goal.links_of-links-requires-clause-forest
links_of-links-requires-clause-forest g c =
    let parent = c.args.parent.now in
    let forest : IsElementForest (length parent) parent c.args.nv.now c.args.f_size.now = search rules in
    rw (
      c.deref.ensures.value ∙ c.words_of-parents.ensures,
      c.deref-2.ensures.value ∙ c.words_of-counts.ensures,
      c.deref-3.ensures.value ∙ c.words_of-sizes.ensures,
    ) forest
