-- The rows of a column, and the text of a matrix.
use Rattle.std.specs.Prelude.{◌+◌, ℕ, zero, suc, List, [], ◌++◌, codes, decimal, flat_map}
use Rattle.std.specs.Prelude.{length, slice_index, slice_range, min, max}

-- the rows of column j, as far as the list has them; for a column form, those between its two pointers
abbrev pub column_rows : List ℕ → List ℕ → ℕ → List ℕ
column_rows ap ai j =
    let begin : ℕ = min (slice_index ap j) (length ai) in
    slice_range ai begin (max (min (slice_index ap (j + 1)) (length ai)) begin)

-- the line of an entry
abbrev pub entry_line : ℕ → ℕ → List ℕ
entry_line column row = decimal (row + 1) ++ (codes " " ++ (decimal (column + 1) ++ codes "\n"))

-- the lines of the first k columns
abbrev pub matrix_entries : List ℕ → List ℕ → ℕ → List ℕ
matrix_entries ap ai zero = []
matrix_entries ap ai (suc k) = matrix_entries ap ai k ++ flat_map (entry_line k) (column_rows ap ai k)

-- the line of the size
abbrev pub size_line : ℕ → ℕ → List ℕ
size_line n entries = decimal n ++ (codes " " ++ (decimal n ++ (codes " " ++ (decimal entries ++ codes "\n"))))

-- the text of a matrix
abbrev pub matrix_text : ℕ → List ℕ → List ℕ → List ℕ
matrix_text n ap ai =
    codes "%%MatrixMarket matrix coordinate pattern general\n" ++ size_line n (length ai) ++ matrix_entries ap ai n
