-- The factor under an ordering as JSON.
use Rattle.std.specs.Prelude.{◌+◌, ◌/◌, ◌==◌, ℕ, zero, suc, Option, None, List, [], ◌++◌}
use Rattle.std.specs.Prelude.{codes, decimal, length, slice_index, slice_index_or, if◌then◌else◌}
use Rattle.amd_types.specs.declared.amd.Info.{Info}
use Rattle.amd_factor.specs.declared.needs.Need.{Need}
use Rattle.amd_report.specs.FactorTexts.{row_at_parent}
use Rattle.amd_report.specs.Json.{bound_members, matrix_members, need_members}

-- what stands before an item of a list
abbrev pub comma : ℕ → List ℕ
comma k = if k == 0 then [] else codes ","

-- the row of the parent of column k under the rows p, from 1 on; 0 where there is none
abbrev pub row_of_parent : List ℕ → List (Option ℕ) → ℕ → ℕ
row_of_parent p parents k = row_at_parent p (slice_index_or parents k None)

-- the item of column k, of a row, the number of its parent's row, and its size
abbrev pub column_item : ℕ → ℕ → ℕ → ℕ → List ℕ
column_item k row above size =
    comma k ++ (codes "[" ++ (decimal (row + 1) ++ (codes "," ++ (decimal above ++ (codes ","
    ++ (decimal size ++ codes "]"))))))

-- the items of the first k columns
abbrev pub column_items : List ℕ → List (Option ℕ) → List ℕ → ℕ → List ℕ
column_items p parents sizes zero = []
column_items p parents sizes (suc k) =
    column_items p parents sizes k
    ++ column_item k (slice_index p k) (row_of_parent p parents k) (slice_index sizes k)

-- an ordering, what the factor needs, and its columns
abbrev pub analysis_json : Info → ℕ → Need → List ℕ → List (Option ℕ) → List ℕ → List ℕ
analysis_json i d need p parents sizes =
    matrix_members i d ++ bound_members i ++ need_members (codes "ordered") i.n (i.nz_a_plus_at / 2) need
    ++ codes ",\"columns\":[" ++ column_items p parents sizes (length p) ++ codes "]}\n"
