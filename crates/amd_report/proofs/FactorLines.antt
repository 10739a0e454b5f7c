-- The lines on a factor, written one after another.
use Rattle.std.proofs.Common.{◌≡◌, ◌++◌, ◌+◌, ◌-◌, ◌∙◌, ℕ, suc, List, append_assoc, arith, length, replicate, subst, sym}
use Rattle.std.specs.Prelude.{Option, Some, None, codes, decimal, slice_index, slice_index_or}
use Rattle.std.specs.Io.KnownBytes.{Appends}
use Rattle.amd_texts.proofs.Padding.{labelled-from_format}
use Rattle.amd_texts.proofs.Written.{Appends-then}
use Rattle.amd_report.specs.FactorTexts.{bound_line, column_line, column_lines, row_at_parent}
use Rattle.amd_report.specs.Texts.{supernode_line, supernode_lines, tree_number}

-- the line of a figure and its bound, as the format writes it
pub beside-from_format : (label shown : List ℕ) (exact bound : ℕ) (old new : Option (List ℕ)) →
    shown ≡ label ++ replicate (52 - length label) 32
    → Appends old new (codes "    " ++ (shown ++ (decimal exact ++ (codes ", at most " ++ (decimal bound ++ codes "\n")))))
    → Appends old new (bound_line label exact bound)
beside-from_format label shown exact bound old new same h =
    let text : List ℕ = decimal exact ++ codes ", at most " ++ decimal bound in
    let line : text ++ codes "\n" ≡ decimal exact ++ (codes ", at most " ++ (decimal bound ++ codes "\n")) =
    append_assoc (decimal exact ++ codes ", at most ") (decimal bound) (codes "\n")
    ∙ append_assoc (decimal exact) (codes ", at most ") (decimal bound ++ codes "\n") in
    labelled-from_format label shown (Some text) old new same
    (subst (λ z. Appends old new (codes "    " ++ (shown ++ z))) (sym line) h)

-- six texts one after another
six-texts : (a b c d e f : List ℕ) → a ++ b ++ c ++ d ++ e ++ f ≡ a ++ (b ++ (c ++ (d ++ (e ++ f))))
six-texts a b c d e f =
    append_assoc (a ++ b ++ c ++ d) e f ∙ append_assoc (a ++ b ++ c) d (e ++ f)
    ∙ append_assoc (a ++ b) c (d ++ (e ++ f)) ∙ append_assoc a b (c ++ (d ++ (e ++ f)))

-- a writer that took the lines of the first k columns, and then the next one
pub columns-next : (p sizes : List ℕ) (parent : List (Option ℕ)) (k row above size : ℕ) (a b c : Option (List ℕ)) →
    row ≡ slice_index p k + 1 → above ≡ row_at_parent p (slice_index_or parent k None) → size ≡ slice_index sizes k
    → Appends a b (column_lines p sizes parent k)
    → Appends b c (decimal row ++ (codes " " ++ (decimal above ++ (codes " " ++ (decimal size ++ codes "\n")))))
    → Appends a c (column_lines p sizes parent (k + 1))
columns-next p sizes parent k row above size a b c r u s first next =
    let step : k + 1 ≡ suc k = omega arith in
    let whole = subst (Appends b c)
    (sym (six-texts (decimal row) (codes " ") (decimal above) (codes " ") (decimal size) (codes "\n"))) next in
    let line : Appends b c (column_line p sizes parent k) = rw (r, u, s) at whole in
    subst (λ m. Appends a c (column_lines p sizes parent m)) (sym step) (Appends-then a b c (column_lines p sizes parent k) _ first line)

-- a writer that took the lines of the first k supernodes, and then the next one
pub supernodes-next : (first ptr : List ℕ) (parent : List (Option ℕ)) (k begin end above below : ℕ) (a b c : Option (List ℕ)) →
    begin ≡ slice_index first k + 1 → end ≡ slice_index first (k + 1) → above ≡ tree_number (slice_index_or parent k None)
    → below ≡ slice_index ptr (k + 1) - slice_index ptr k → Appends a b (supernode_lines first ptr parent k)
    → Appends b c (decimal begin ++ (codes " " ++ (decimal end ++ (codes " " ++ (decimal above ++ (codes " "
    ++ (decimal below ++ codes "\n")))))))
    → Appends a c (supernode_lines first ptr parent (k + 1))
supernodes-next first ptr parent k begin end above below a b c f l u n before next =
    let step : k + 1 ≡ suc k = omega arith in
    let whole : decimal begin ++ codes " " ++ decimal end ++ codes " " ++ decimal above ++ codes " " ++ decimal below ++ codes "\n"
    ≡ decimal begin ++ (codes " " ++ (decimal end ++ (codes " " ++ (decimal above ++ (codes " " ++ (decimal below ++ codes "\n")))))) =
    simp append_assoc in
    let line : Appends b c (supernode_line first ptr parent k) = rw (f, l, u, n) at (subst (Appends b c) (sym whole) next) in
    subst (λ m. Appends a c (supernode_lines first ptr parent m)) (sym step)
    (Appends-then a b c (supernode_lines first ptr parent k) _ before line)
