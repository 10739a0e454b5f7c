use Rattle.amd_model.proofs.Examples.Inputs.{cycle_form, jumbled_form, jumbled, not_jumbled, threshold, raised, cut, none_held}
use Rattle.amd_model.proofs.example_laws.example_inputs.Goals as goal

pub returns : goal.returns
returns c = record {
  cycle_form = cycle_form;
  jumbled_form = jumbled_form;
  jumbled = jumbled;
  not_jumbled = not_jumbled;
  threshold =
      threshold;
  raised = raised;
  cut = cut;
  none_held = none_held;
}
