-- The sizes of columns, written one after another.
use Rattle.std.proofs.Common.{◌≡◌, ◌<◌, ◌+◌, ◌-◌, ◌++◌, refl, ℕ, ℤ, List, [], ◌∷◌, ◌∙◌, ap, sym, subst, length}
use Rattle.std.proofs.Common.{take, append_assoc, append-nil}
use Rattle.std.specs.Prelude.{Option, codes, decimal, slice_index, slice_index_or}
use Rattle.std.specs.Io.KnownBytes.{Appends}
use Rattle.std.proofs.KnownBytes.{Appends-trans}
use Rattle.amd_types.specs.declared.amd.Info.{Info}
use Rattle.amd_factor.specs.Factors.{IsFactorOf}
use Rattle.amd_factor.specs.Needs.{TellSizes}
use Rattle.amd_factor.proofs.Factors.ColumnSizes.{one-more, size-is, sizes-held}
use Rattle.amd_demos.specs.Exact.{exact_line, column_counts, exact_lines, HasExact, TellsExact}

-- the sizes of columns and of one more
counts-more : (xs : List (List ℕ)) (x : List ℕ) → column_counts (xs ++ x ∷ []) ≡ column_counts xs ++ (codes " " ++ decimal (length x))
counts-more [] x = append-nil (codes " " ++ decimal (length x))
counts-more (y ∷ xs) x = ap (λ z. (codes " " ++ decimal (length y)) ++ z) (counts-more xs x)
    ∙ sym (append_assoc (codes " " ++ decimal (length y)) (column_counts xs) (codes " " ++ decimal (length x)))

-- a writer that took the sizes of the first k columns, and then that of the next one
pub counts-next : (columns : List (List ℕ)) (ptr : List ℕ) (k size : ℕ) (a b c : Option (List ℕ)) → TellSizes columns ptr
    → k < length ptr - 1
    → slice_index ptr k + size ≡ slice_index ptr (k + 1) → Appends a b (column_counts (take k columns)) →
    Appends b c (codes " " ++ decimal size)
    → Appends a c (column_counts (take (k + 1) columns))
counts-next columns ptr k size a b c sizes inside end first next =
    let column = slice_index_or columns k [] in
    let named : Appends b c (codes " " ++ decimal (length column)) =
    subst (λ z. Appends b c (codes " " ++ decimal z)) (size-is columns ptr sizes k size inside end) next in
    let more : column_counts (take (k + 1) columns) ≡ column_counts (take k columns) ++ (codes " " ++ decimal (length column)) =
    ap column_counts (one-more columns ptr sizes k size inside end) ∙ counts-more (take k columns) column in
    subst (Appends a c) (sym more) (Appends-trans a b c _ _ first named)

-- a figure under another name
pub beside-named : (name : List ℕ) (x y bound : ℕ) (a b : Option (List ℕ)) → x ≡ y → Appends a b (exact_line name x bound)
    → Appends a b (exact_line name y bound)
beside-named name x y bound a b same h = subst (λ z. Appends a b (exact_line name z bound)) same h

-- the factor that was answered, under the names of the caller
pub exact-of : (m n : ℤ) (bp ap' bi ai r p : List ℤ) (ptr begins rows : List ℕ) (parent : List (Option ℕ)) (info : Info)
    (a b : Option (List ℕ))
    → m ≡ n → bp ≡ ap' → bi ≡ ai → r ≡ p → begins ≡ ptr → IsFactorOf m bp bi r ptr rows parent
    → ((columns : List (List ℕ)) → TellSizes columns begins → Appends a b (exact_lines columns info)) → HasExact n ap' ai p info a b
exact-of m n bp ap' bi ai r p ptr begins rows parent info a b same_n same_p same_i same_r same f written =
    let one : IsFactorOf n bp bi r ptr rows parent = subst (λ z. IsFactorOf z bp bi r ptr rows parent) same_n f in
    let two : IsFactorOf n ap' bi r ptr rows parent = subst (λ z. IsFactorOf n z bi r ptr rows parent) same_p one in
    let three : IsFactorOf n ap' ai r ptr rows parent = subst (λ z. IsFactorOf n ap' z r ptr rows parent) same_i two in
    let four : IsFactorOf n ap' ai p ptr rows parent = subst (λ z. IsFactorOf n ap' ai z ptr rows parent) same_r three in
    let columns = four.holds.columns in
    let sizes : TellSizes columns begins = subst (TellSizes columns) (sym same) (sizes-held columns ptr rows parent four.holds.holds) in
    let told : TellsExact n ap' ai p info (exact_lines columns info) =
    record { order = four.order; permutes = four.permutes; columns = columns; factor = four.holds.factor; lines = refl } in
    (exact_lines columns info, told, written columns sizes)
