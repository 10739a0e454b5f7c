use Rattle.amd_model.proofs.Examples.Seven.{lists, first_pivot, second_pivot, third_pivot, fits, homes}
use Rattle.amd_model.proofs.example_laws.example_seven_lists.Goals as goal

pub returns : goal.returns
returns c = record {
  lists = lists;
  first_pivot = first_pivot;
  second_pivot = second_pivot;
  third_pivot = third_pivot;
  fits = fits;
  homes =
      homes;
}
