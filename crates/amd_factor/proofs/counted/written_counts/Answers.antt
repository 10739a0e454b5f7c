use Rattle.std.proofs.Common.{◌∙◌}
use Rattle.amd_factor.proofs.counted.written_counts.Goals as goal

pub returns : goal.returns
returns g c = record {
  holds = c.in_ok-sized.ensures.sizes;
  needs = c.need_of_sizes-need.ensures _ (c.deref.ensures.value ∙ c.in_ok-sized.ensures.sizes.sizes_are);
}
