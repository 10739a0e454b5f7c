-- The lines of entries, column by column.
use Rattle.std.proofs.Common.{◌≡◌, ◌+◌, ℕ, suc, List, arith, subst, sym}
use Rattle.std.specs.Prelude.{Option, flat_map}
use Rattle.std.specs.Io.KnownBytes.{Appends}
use Rattle.amd_texts.proofs.Written.{Appends-then}
use Rattle.amd_report.specs.Patterns.{column_rows, entry_line, matrix_entries}

pub entries-next : (ap_ ai rows : List ℕ) (k : ℕ) (a b c : Option (List ℕ)) → rows ≡ column_rows ap_ ai k →
    Appends a b (matrix_entries ap_ ai k) → Appends b c (flat_map (entry_line k) rows) →
    Appends a c (matrix_entries ap_ ai (k + 1))
entries-next ap_ ai rows k a b c r first next =
    let step : k + 1 ≡ suc k = omega arith in
    subst (λ m. Appends a c (matrix_entries ap_ ai m)) (sym step)
    (Appends-then a b c (matrix_entries ap_ ai k) _ first (subst (λ z. Appends b c (flat_map (entry_line k) z)) r next))
