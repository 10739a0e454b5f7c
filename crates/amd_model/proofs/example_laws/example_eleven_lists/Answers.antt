use Rattle.amd_model.proofs.Examples.Eleven.{lists, first_pivot, second_pivot, third_pivot, fourth_pivot, fifth_pivot, fits, homes}
use Rattle.amd_model.proofs.example_laws.example_eleven_lists.Goals as goal

pub returns : goal.returns
returns c = record {
  lists = lists;
  first_pivot = first_pivot;
  second_pivot = second_pivot;
  third_pivot = third_pivot;
  fourth_pivot =
      fourth_pivot;
  fifth_pivot = fifth_pivot;
  fits = fits;
  homes = homes;
}
