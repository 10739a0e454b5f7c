-- The items of the columns of a factor, written one after another.
use Rattle.std.proofs.Common.{◌≡◌, ◌+◌, ℕ, suc, List, arith, subst, sym}
use Rattle.std.specs.Prelude.{Option, slice_index}
use Rattle.std.specs.Io.KnownBytes.{Appends}
use Rattle.amd_texts.proofs.Written.{Appends-then}
use Rattle.amd_report.specs.FactorJson.{column_item, column_items, row_of_parent}

-- a writer that took the items of the first k columns, and then the next one
pub items-next : (p : List ℕ) (parents : List (Option ℕ)) (sizes : List ℕ) (k row above size : ℕ) (a b c : Option (List ℕ)) →
    row ≡ slice_index p k → above ≡ row_of_parent p parents k → size ≡ slice_index sizes k
    → Appends a b (column_items p parents sizes k) → Appends b c (column_item k row above size)
    → Appends a c (column_items p parents sizes (k + 1))
items-next p parents sizes k row above size a b c r u s first next =
    let step : k + 1 ≡ suc k = omega arith in
    let by_row = subst (λ (z : ℕ). Appends b c (column_item k z above size)) r next in
    let by_parent = subst (λ (z : ℕ). Appends b c (column_item k (slice_index p k) z size)) u by_row in
    let item = subst (λ (z : ℕ). Appends b c (column_item k (slice_index p k) (row_of_parent p parents k) z)) s by_parent in
    subst (λ m. Appends a c (column_items p parents sizes m)) (sym step)
    (Appends-then a b c (column_items p parents sizes k) _ first item)
