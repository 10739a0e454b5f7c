-- Memory that has room for some words has room for fewer, and for as many as a list that is put in their place.
use Rattle.std.proofs.Common.{ℕ, ◌≤◌, arith, le_trans}
use Rattle.amd_lists.proofs.BucketCounts.{buckets_rise}
use Rattle.amd_workspace.specs.Lists.{HasRoom, HasRows}
use Rattle.amd_workspace.specs.declared.lists.Memory.{Memory}
use Rattle.amd_workspace.specs.declared.lists.Lists.{Lists}

fewer_rows : {U A : Type 0} (n m : ℕ) (l : Lists U A) → HasRows n l → m ≤ n → HasRows m l
fewer_rows n m l has few =
    let c = has.w in let d = has.head in let e = has.sides in let f = has.hash in record {
      w = omega (arith, c, few);
      head = omega (arith, d, few);
      sides = omega (arith, e, few);
      hash = le_trans (buckets_rise m n few) f;
    }

-- room for fewer rows and fewer words
pub less_room : {S P U A : Type 0} (n count m few : ℕ) (memory : Memory S P U A) → HasRoom n count memory → m ≤ n → few ≤ count →
    HasRoom m few memory
less_room n count m few memory has rows words =
    let other = has.beside in let a = other.words in let b = other.next in let c = other.pe in let d = other.len in let e = has.nv in
    let f = has.e_len in record {
      beside = record {
        words = omega (arith, a, words);
        next = omega (arith, b, rows);
        pe = omega (arith, c, rows);
        len = omega (arith, d, rows);
        lists = fewer_rows n m memory.lists other.lists rows;
      };
      nv = omega (arith, e, rows);
      e_len = omega (arith, f, rows);
    }
