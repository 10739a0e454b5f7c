-- Bytes that were read behind others, and the first line of bytes of which the front is held.
use Rattle.std.proofs.Common.{◌≡◌, ◌≢◌, ◌+◌, ◌<◌, ◌≤◌, ℕ, zero, suc, false, List, [], ◌∷◌, ◌++◌}
use Rattle.std.proofs.Common.{length, get_or, take, drop}
use Rattle.std.proofs.Common.{arith, refl, ap, ◌∙◌, eqb, length-drop, length-take-le}
use Rattle.std.proofs.Math.Seq.{take-add, take-append_seam}
use Rattle.std.proofs.lemmas.List.{take_all}
use Rattle.std.proofs.lemmas.Bool.{ne_eqb}
use Rattle.std.specs.Io.BufRead.{take_through, drop_through}

pub appended : (old wide given new after out zeros : List ℕ) (filled count chunk : ℕ) → filled ≡ length old →
    wide ≡ take (filled + chunk) old ++ zeros → given ≡ wide → take filled new ≡ take filled given → after ≡ new →
    out ≡ take (filled + count) after → filled + count ≤ length new →
    (length (take count (drop filled new)) ≡ count) × (out ≡ old ++ take count (drop filled new))
appended old wide given new after out zeros filled count chunk size grown handed front same cut room =
    let all : take (filled + chunk) old ≡ old = take_all (filled + chunk) old (omega arith) in
    let start : take filled wide ≡ old = ap (take filled) (grown ∙ ap (λ z. z ++ zeros) all)
    ∙ ap (λ n. take n (old ++ zeros)) size ∙ take-append_seam old zeros in
    let rest = length-drop filled new in (
      length-take-le count (drop filled new) (omega (arith, rest, room)),
      cut ∙ ap (take (filled + count)) same ∙ take-add filled count new
          ∙ ap (λ z. z ++ take count (drop filled new)) (front ∙ ap (take filled) handed ∙ start),
    )

-- the place of the first line feed of the bytes that are held
pub line-held : (held more : List ℕ) (k : ℕ) → k < length held → ((j : ℕ) → j < k → get_or held j 0 ≢ 10) → get_or held k 0 ≡ 10 →
    (take_through 10 (held ++ more) ≡ take (k + 1) held) × (drop_through 10 (held ++ more) ≡ drop (k + 1) held ++ more)
line-held [] more k h before here = absurd (omega arith)
line-held (x ∷ xs) more zero h before here = let e : x ≡ 10 = here in rw e (refl, refl)
line-held (x ∷ xs) more (suc k) h before here =
    let rest = line-held xs more k (omega arith) (λ j l. before (suc j) (omega arith)) here in
    let other : eqb x 10 ≡ false = ne_eqb x 10 (before 0 (omega arith)) in
    let e : suc k + 1 ≡ suc (k + 1) = omega arith in
    rw (other, e) (ap (λ z. x ∷ z) rest.0, rest.1)

-- bytes without a line feed are one line
pub line-last : (held : List ℕ) → ((j : ℕ) → j < length held → get_or held j 0 ≢ 10) → (take_through 10 held ≡ held)
    × (drop_through 10 held ≡ [])
line-last [] none = (refl, refl)
line-last (x ∷ xs) none =
    let rest = line-last xs (λ j l. none (suc j) (omega arith)) in
    let other : eqb x 10 ≡ false = ne_eqb x 10 (none 0 (omega arith)) in
    rw other (ap (λ z. x ∷ z) rest.0, rest.1)

-- bytes without a line feed are the front of a line, or all of it
pub line-longer : (held more : List ℕ) → ((j : ℕ) → j < length held → get_or held j 0 ≢ 10) →
    length held ≤ length (take_through 10 (held ++ more))
line-longer [] more none = omega arith
line-longer (x ∷ xs) more none =
    let rest = line-longer xs more (λ j l. none (suc j) (omega arith)) in
    let other : eqb x 10 ≡ false = ne_eqb x 10 (none 0 (omega arith)) in
    rw other (omega (arith, rest))
