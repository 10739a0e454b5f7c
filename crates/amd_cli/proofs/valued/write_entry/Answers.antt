-- The entry has the row and the column of the line, and the words behind them.
use Rattle.std.proofs.Common.{◌∷◌, ◌∙◌, ap}
use Rattle.amd_cli.specs.Valued.{words_of}
use Rattle.amd_cli.proofs.valued.write_entry.Goals as goal

pub returns : goal.returns
returns g c =
    let front = c.in-Some.ensures in
    let value = c.in-Some-value_of.ensures in (
      record {
        row = c.in-Some.row;
        column = c.in-Some.column;
        values = words_of c.in-Some-value_of.value;
      },
      record {
        first = front.first;
        second = front.second;
        parts = front.parts ∙ ap (λ z. front.first ∷ (front.second ∷ z)) value.words;
        has_row = front.has_row;
        has_column = front.has_column;
        counted = value.counted;
      },
      rw (c.place_of-left.ensures, c.place_of-right.ensures) at c.in_ok-write_placed.ensures,
    )
