-- The lists of classes, where slices of them are lent together.
use Rattle.std.specs.Prelude.{ℕ, ℤ, List, ◌≡◌}
use Rattle.amd_merging.specs.Classes.{Lists, Classes, classes_of}
use Rattle.amd_merging.specs.declared.merging.ClassCounts.{ClassCounts}
use Rattle.amd_merging.specs.declared.merging.Read.{Read}

-- what the slices hold
abbrev pub lists_read : {S P U : Type 0} → Read S P U → Lists
lists_read l = record { iw = l.iw.now; pe = l.pe.now; e_len = l.e_len.now; len = l.len.now }

-- what merging works on, with what it counts
abbrev pub classes_with : {S U : Type 0} → List ℤ → List ℤ → List ℤ → List ℕ → ClassCounts S U → List ℕ → List (ℕ × ℕ) → Classes
classes_with iw pe e_len len counts hash sides = classes_of iw pe e_len counts.nv.now len counts.w.now hash sides

-- the slices are those that were lent
abbrev pub KeepsCounts : {S U : Type 0} → ClassCounts S U → ClassCounts S U → Type 0
KeepsCounts old new = (new.nv.ghost_name ≡ old.nv.ghost_name) × (new.w.ghost_name ≡ old.w.ghost_name)
