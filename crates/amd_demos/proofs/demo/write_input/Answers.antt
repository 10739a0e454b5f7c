-- The parts are written one after another.
use Rattle.amd_texts.proofs.Told.{told-more, told-then}
use Rattle.amd_demos.proofs.demo.write_input.Goals as goal

pub returns : goal.returns
returns g c =
    let up_to_2 = told-more _ _ _ _ c.in_ok-write_title.ensures c.in_ok-control.ensures in
    let up_to_3 = told-then _ _ _ up_to_2 c.in_ok-write_size.ensures in
    let up_to_4 = told-then _ _ _ up_to_3 c.in_ok-write_listing.ensures in
    told-then _ _ _ up_to_4 c.in_ok-write_input_plots.ensures
