-- What a block holds.
use Rattle.std.specs.Prelude.{ℕ, List, drop, slice_range}
use Rattle.amd_lines.specs.declared.chunks.Block.{Block}

-- the bytes that were passed last
abbrev pub passed_of : {Z : Type 0} → Block Z → List ℕ
passed_of b = slice_range b.bytes.items b.begin b.next

-- the bytes that were read and not passed
abbrev pub held_of : {Z : Type 0} → Block Z → List ℕ
held_of b = drop b.next b.bytes.items
