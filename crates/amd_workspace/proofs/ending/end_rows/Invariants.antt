use Rattle.std.proofs.Common.{ℕ, ◌≡◌, ◌≤◌, length}
use Rattle.amd_words.specs.Words.{word}
use Rattle.amd_workspace.specs.Ending.{EndsRows}
use Rattle.amd_workspace.proofs.ending.end_rows.Given as goal

abbrev pub invariant-rows : goal.invariant-rows
invariant-rows g l =
    let n : ℕ = length l.fn.degree in record {
      lengths : (length l.pe ≡ n) × (length l.e_len ≡ n) × (length l.nv ≡ n);
      ends : EndsRows l.i l.fn.pe l.fn.e_len l.fn.degree l.pe l.e_len l.nv;
      rest : (j : ℕ) → l.i ≤ j → (word l.pe j ≡ word l.fn.pe j) × (word l.e_len j ≡ word l.fn.e_len j);
    }
