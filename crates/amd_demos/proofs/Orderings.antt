-- An ordering that was answered, under the names of the caller.
use Rattle.std.proofs.Common.{◌≡◌, subst}
use Rattle.std.specs.Prelude.{ℤ, pos, Bool, true, List}
use Rattle.amd_types.specs.declared.amd.Info.{Info}
use Rattle.amd.specs.Answers.{IsOrdering}

-- an ordering under what is the default, of a matrix and with permutations that may be named in two ways
pub default-ordering : (m n t : ℤ) (b : Bool) (bp ap bi ai r p s q : List ℤ) (info : Info) → m ≡ n → t ≡ pos 10000 → b ≡ true → bp ≡ ap
    → bi ≡ ai → r ≡ p → s ≡ q → IsOrdering m t b bp bi r s info → IsOrdering n (pos 10000) true ap ai p q info
default-ordering m n t b bp ap bi ai r p s q info same_n same_t same_b same_p same_i same_r same_s ordering =
    let one : IsOrdering n t b bp bi r s info = subst (λ z. IsOrdering z t b bp bi r s info) same_n ordering in
    let two : IsOrdering n (pos 10000) b bp bi r s info = subst (λ z. IsOrdering n z b bp bi r s info) same_t one in
    let three : IsOrdering n (pos 10000) true bp bi r s info = subst (λ z. IsOrdering n (pos 10000) z bp bi r s info) same_b two in
    let four : IsOrdering n (pos 10000) true ap bi r s info = subst (λ z. IsOrdering n (pos 10000) true z bi r s info) same_p three in
    let five : IsOrdering n (pos 10000) true ap ai r s info = subst (λ z. IsOrdering n (pos 10000) true ap z r s info) same_i four in
    let six : IsOrdering n (pos 10000) true ap ai p s info = subst (λ z. IsOrdering n (pos 10000) true ap ai z s info) same_r five in
    subst (λ z. IsOrdering n (pos 10000) true ap ai p z info) same_s six
