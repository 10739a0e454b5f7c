-- How much memory a workspace takes, and how its lists lie in a block that a caller lends.
use Rattle.std.specs.Prelude.{◌≢◌, ◌≤◌, ◌+◌, ◌*◌, ◌/◌, ℕ, ℤ, Bool, pos, Option, List, nat_le, if◌then◌else◌}
use Rattle.std.specs.Prelude.{slice_index, unsigned_abs}
use Rattle.std.specs.Mem.{type_size}
use Rattle.std.specs.Vec.{vec_capacity}
use denote.RattleType.{RattleType}
use Rattle.amd_types.specs.Naturals.{naturals}
use Rattle.amd_lists.specs.Sizes.{bucket_count}
use Rattle.amd_workspace.specs.declared.lists.Memory.{Memory}
use Rattle.amd.specs.Within.{IsCall}
use Rattle.amd.specs.declared.refusal.Refusal.{Refusal}
use Rattle.amd.specs.declared.refusal.Refusal.TheVariants as refusal

-- the words of a workspace for so many rows and entries
abbrev pub workspace_words : ℕ → ℕ → ℕ
workspace_words rows entries = 3 * entries + 11 * rows + bucket_count rows + 1

-- so many words the lists have room for, where the transpose has so many pointers and row indices; a pair of sides
-- counts two
abbrev pub words_in : {S P U A : Type 0} → Memory S P U A → ℕ → ℕ → ℕ
words_in m pointers columns = vec_capacity m.words.iw + vec_capacity m.words.next + vec_capacity m.pe + vec_capacity m.len +
    vec_capacity m.nv + vec_capacity m.e_len + vec_capacity m.lists.w + vec_capacity m.lists.head +
    2 * vec_capacity m.lists.sides + vec_capacity m.lists.hash + pointers + columns

-- the least multiple of 4 that is not less
abbrev pub fours : ℕ → ℕ
fours n = (n + 3) / 4 * 4

-- the words of the lists of a matrix are so few that each number of the workspace has 32 bits
abbrev pub is_narrow : ℕ → ℕ → Bool
is_narrow rows entries = nat_le (2 * entries + rows) 2147483645

-- the bytes of each word in a block: 4 where that is enough, and else 8
abbrev pub word_bytes : ℕ → ℕ → ℕ
word_bytes rows entries = if is_narrow rows entries then 4 else 8

-- the bytes of a workspace in a block: those of its words, where each list takes whole units of 16 bytes
abbrev pub workspace_bytes : ℕ → ℕ → ℕ
workspace_bytes rows entries = word_bytes rows entries * (3 * fours entries + 12 * fours rows + 4)

-- values of these types take at most so many bytes: a word of the lists, a place in them, a cell, a pair of sides
pub record HaveWidth (W P C S : RattleType) (width : ℕ) : Type 0 where
  pub word : type_size W ≤ width
  pub place : type_size P ≤ width
  pub cell : type_size C ≤ width
  pub sides : type_size S ≤ 2 * width

-- a block of so many bytes is enough for a matrix with n rows and these pointers
abbrev pub FitsInBlock : ℤ → List ℤ → ℕ → Type 0
FitsInBlock n ap size = n ≢ pos 0 → workspace_bytes (unsigned_abs n) (slice_index (naturals ap) (unsigned_abs n)) ≤ size

-- why nothing is ordered in a block of so many bytes
abbrev pub IsBlockRefusal : Option (List Bool) → ℤ → List ℤ → List ℤ → List ℤ → List ℤ → ℕ → Refusal → Type 0
IsBlockRefusal hold n ap ai p q size refusal.Invalid = ¬ (IsCall hold n ap ai p q)
IsBlockRefusal hold n ap ai p q size refusal.TooLarge = IsCall hold n ap ai p q × (¬ (FitsInBlock n ap size))
