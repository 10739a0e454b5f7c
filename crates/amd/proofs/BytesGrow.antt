-- The bytes of a workspace grow with its rows and entries.
use Rattle.std.proofs.Common.{ℕ, ◌≡◌, ◌≤◌, Bool, true, false, refl, arith}
use Rattle.amd.specs.Blocks.{is_narrow, workspace_bytes}

-- for each width of the lesser workspace and of the greater one
by_widths : (n e m f : ℕ) → n ≤ m → e ≤ f → (one other : Bool) → is_narrow n e ≡ one → is_narrow m f ≡ other →
    workspace_bytes n e ≤ workspace_bytes m f
by_widths n e m f rows entries true true a b = rw (a, b) (omega (arith, rows, entries))
by_widths n e m f rows entries true false a b = rw (a, b) (omega (arith, rows, entries))
by_widths n e m f rows entries false false a b = rw (a, b) (omega (arith, rows, entries))
by_widths n e m f rows entries false true a b = grind (arith, rows, entries, a, b)

pub bytes_grow : (n e m f : ℕ) → n ≤ m → e ≤ f → workspace_bytes n e ≤ workspace_bytes m f
bytes_grow n e m f rows entries = by_widths n e m f rows entries (is_narrow n e) (is_narrow m f) refl refl
