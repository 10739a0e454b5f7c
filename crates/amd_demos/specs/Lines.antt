-- The lines that the demos write.
use Rattle.std.specs.Prelude.{ℕ, ℤ, List, [], ◌∷◌, ◌++◌, codes}
use Rattle.std.specs.Fmt.{signed_decimal}
use Rattle.amd_types.specs.declared.amd.Info.{Info}
use Rattle.amd_types.specs.declared.amd.Status.{Status}
use Rattle.amd_types.specs.declared.amd.Status.TheVariants.{OK, Invalid, OkButJumbled, OutOfMemory}
use Rattle.amd_texts.specs.Texts.{info_text}

-- the line where there is no ordering
abbrev pub failure_line : List ℕ
failure_line = codes "AMD failed\n"

-- the numbers, each with a text in front of it
abbrev pub each_of : List ℕ → List ℤ → List ℕ
each_of before [] = []
each_of before (x ∷ xs) = (before ++ signed_decimal x) ++ each_of before xs

-- the numbers, parted by commas
abbrev pub parted : List ℤ → List ℕ
parted [] = []
parted (x ∷ xs) = signed_decimal x ++ each_of (codes ", ") xs

-- the line of a name and a list in brackets
abbrev pub list_line : List ℕ → List ℤ → List ℕ
list_line name xs = ((name ++ codes " = [") ++ parted xs) ++ codes "]\n"

-- the lines of a title and a vector, and an empty line
abbrev pub vector_lines : List ℕ → List ℤ → List ℕ
vector_lines title xs = ((title ++ codes "\n") ++ each_of (codes " ") xs) ++ codes "\n\n"

-- the name of a status
abbrev pub status_name : Status → List ℕ
status_name OK = codes "OK"
status_name Invalid = codes "Invalid"
status_name OkButJumbled = codes "OkButJumbled"
status_name OutOfMemory = codes "OutOfMemory"

-- the line of a status and the one that is wanted, and the record
abbrev pub record_lines : Status → Info → List ℕ
record_lines wanted info =
    (codes "return value from amd::order: " ++ status_name info.status ++ codes " (should be " ++ status_name wanted ++
    codes ")\n")
    ++ info_text info

-- a permutation and its inverse
abbrev pub permutation_lines : List ℤ → List ℤ → List ℕ
permutation_lines p q = vector_lines (codes "Permutation vector:") p ++ vector_lines
    (codes "Inverse permutation vector:") q
