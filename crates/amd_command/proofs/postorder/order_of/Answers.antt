-- The lists that are handed on are those of the tree.
use Rattle.std.proofs.Common.{◌∙◌}
use Rattle.amd_command.proofs.Posting.{forest-handed}
use Rattle.amd_command.proofs.postorder.order_of.Goals as goal

pub postorder-requires-clause-forest : goal.postorder-requires-clause-forest
postorder-requires-clause-forest c = forest-handed _ _ _ _ c.in_ok-links.ensures.behind (record {
  links_are = c.deref.ensures.value ∙ c.in_ok-links.ensures.links;
  rows_are = c.deref-2.ensures.value ∙ c.in_ok-rows.ensures.items_if_clones_equal (λ y h. h);
  sizes_are = c.deref-3.ensures.value ∙ c.in_ok-sizes.ensures.items_if_clones_equal (λ y h. h);
})
