-- The memory of an elimination: how much room its lists have, and that they keep it.
use Rattle.std.specs.Prelude.{ℕ, ◌≤◌}
use Rattle.std.specs.Vec.{vec_capacity}
use Rattle.amd_lists.specs.Sizes.{bucket_count}
use Rattle.amd_workspace.specs.declared.lists.Words.{Words}
use Rattle.amd_workspace.specs.declared.lists.Lists.{Lists}
use Rattle.amd_workspace.specs.declared.lists.Memory.{Memory}

-- the words, and the places in them, have as much room as before
pub record KeepsWords {S U A : Type 0} (old new : Words S U A) : Type 0 where
  pub next : vec_capacity old.next ≤ vec_capacity new.next
  pub iw : vec_capacity old.iw ≤ vec_capacity new.iw

-- the lists with a place for each row have room for n rows, and that of the buckets for theirs
pub record HasRows {U A : Type 0} (n : ℕ) (l : Lists U A) : Type 0 where
  pub w : n ≤ vec_capacity l.w
  pub head : n ≤ vec_capacity l.head
  pub sides : n ≤ vec_capacity l.sides
  pub hash : bucket_count n ≤ vec_capacity l.hash

-- the words have room for so many, and all lists for n rows, but for the numbers of rows and of elements
pub record HasRoomBeside {S P U A : Type 0} (n count : ℕ) (m : Memory S P U A) : Type 0 where
  pub words : count ≤ vec_capacity m.words.iw
  pub next : n ≤ vec_capacity m.words.next
  pub pe : n ≤ vec_capacity m.pe
  pub len : n ≤ vec_capacity m.len
  pub lists : HasRows n m.lists

-- and these too
pub record HasRoom {S P U A : Type 0} (n count : ℕ) (m : Memory S P U A) : Type 0 where
  pub beside : HasRoomBeside n count m
  pub nv : n ≤ vec_capacity m.nv
  pub e_len : n ≤ vec_capacity m.e_len
