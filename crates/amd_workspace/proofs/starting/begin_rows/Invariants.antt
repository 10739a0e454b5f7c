use Rattle.std.proofs.Common.{ℕ, Bool, ◌≡◌, ◌≤◌, length, reverse}
use Rattle.std.specs.Option.{option_copied}
use Rattle.amd_words.specs.Sides.{nexts, lasts}
use Rattle.amd_model.specs.Below.{count_below}
use Rattle.amd_lists.specs.Chains.{DegreeLists}
use Rattle.amd_workspace.specs.Starting.{KeepsRows, Rows, IsSame, BeginsRows, held_in, begins_class, classes_of}
use Rattle.amd_workspace.proofs.starting.begin_rows.Given as goal

abbrev pub invariant-rows : goal.invariant-rows
invariant-rows g l =
    let n : ℕ = length l.fn.lists.len.now in let held : ℕ → Bool = held_in (option_copied l.fn.hold) l.fn.threshold l.fn.lists.len.now in
    let p : Rows = record {
      pe = l.fn.lists.pe.now;
      e_len = l.fn.lists.e_len.now;
      nv = l.fn.lists.nv.now;
      len = l.fn.lists.len.now;
      degree = l.fn.lists.degree.now;
      w = l.fn.lists.w.now;
    } in
    let q : Rows = record {
      pe = l.lists.pe.now;
      e_len = l.lists.e_len.now;
      nv = l.lists.nv.now;
      len = l.lists.len.now;
      degree = l.lists.degree.now;
      w = l.lists.w.now;
    } in record {
      begins : BeginsRows l.i n held p q;
      rest : (j : ℕ) → l.i ≤ j → IsSame j p q;
      links : (length l.lists.head.now ≡ n) × (length (nexts l.lists.sides.now) ≡ n) × (length (lasts l.lists.sides.now) ≡ n);
      linked : DegreeLists n l.lists.head.now (nexts l.lists.sides.now) (lasts l.lists.sides.now) l.lists.degree.now
          (λ b. reverse (classes_of held l.fn.lists.len.now l.i b));
      live : l.live ≡ count_below l.i (begins_class held l.fn.lists.len.now);
      dense : l.n_dense ≡ count_below l.i held;
      buckets : l.lists.hash.now ≡ l.fn.lists.hash.now;
      loans : KeepsRows l.fn.lists l.lists;
    }
