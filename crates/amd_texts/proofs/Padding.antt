-- A label that is filled up to a width.
use Rattle.std.proofs.Common.{◌≡◌, ◌-◌, ◌^◌, ◌<◌, ◌≤◌, ◌++◌, ◌&&◌, ℕ, zero, suc, Bool, true, false, List, [], ◌∷◌, length, replicate, refl}
use Rattle.std.proofs.Common.{ap, arith, append_assoc, subst}
use Rattle.std.proofs.lemmas.Bool.Decides.{nat_tests}
use Rattle.std.specs.Prelude.{Option, Some, None, IfSome, codes}
use Rattle.std.specs.List.{repeat, list_all}
use Rattle.std.specs.Char.{encode_utf8, is_ascii}
use Rattle.std.specs.Io.KnownBytes.{Appends}
use Rattle.std.specs.Fmt.{take_chars, char_count, is_char_start, padded, format_spec, ◌++?◌}
use Rattle.amd_texts.specs.Texts.{labelled}

-- both of two tests hold
and-true_left : (a b : Bool) → a && b ≡ true → a ≡ true
and-true_left true b h = refl
and-true_left false b h = h

and-true_right : (a b : Bool) → a && b ≡ true → b ≡ true
and-true_right true b h = h
and-true_right false b h = cc

-- an ASCII byte begins a character
is_char_start-ascii : (b : ℕ) → is_ascii b ≡ true → is_char_start b ≡ true
is_char_start-ascii b h = grind (arith, nat_tests)

-- an ASCII text has as many characters as bytes
char_count-ascii : (text : List ℕ) → list_all is_ascii text ≡ true → char_count text ≡ length text
unfolding char_count
char_count-ascii [] h = refl
char_count-ascii (b ∷ text) h =
    let e : is_char_start b ≡ true = is_char_start-ascii b (and-true_left (is_ascii b) (list_all is_ascii text) h) in
    let ih : char_count text ≡ length text = char_count-ascii text (and-true_right (is_ascii b) (list_all is_ascii text) h) in
    rw e (omega arith)

-- a limit that is not reached cuts nothing
take_chars-ascii : (n : ℕ) (text : List ℕ) → list_all is_ascii text ≡ true → length text ≤ n → take_chars n text ≡ text
unfolding take_chars
take_chars-ascii n [] h fits = refl
take_chars-ascii zero (b ∷ text) h fits = absurd (omega arith)
take_chars-ascii (suc n) (b ∷ text) h fits =
    let e : is_char_start b ≡ true = is_char_start-ascii b (and-true_left (is_ascii b) (list_all is_ascii text) h) in
    let one : suc n - 1 ≡ n = omega arith in
    let ih : take_chars n text ≡ text = take_chars-ascii n text (and-true_right (is_ascii b) (list_all is_ascii text) h) (omega arith) in
    rw (e, one, ih) (grind (arith, nat_tests))

-- the fill character is a space
repeat-space : (n : ℕ) → repeat n (encode_utf8 32) ≡ replicate n 32
unfolding encode_utf8
repeat-space zero = refl
repeat-space (suc n) = ap (λ xs. 32 ∷ xs) (repeat-space n)

-- a label under the options of the column
pub padded-label : (label : List ℕ) → list_all is_ascii label ≡ true → length label < 2 ^ 64 →
    padded (format_spec 32 1 0 52 (2 ^ 64 - 1)) label ≡ label ++ replicate (52 - length label) 32
unfolding padded
padded-label label h fits =
    let whole : take_chars (2 ^ 64 - 1) label ≡ label = take_chars-ascii (2 ^ 64 - 1) label h (omega arith) in
    let all_behind : 52 - length label - 0 ≡ 52 - length label = omega arith in
    rw (whole, char_count-ascii label h, all_behind) (ap (λ xs. label ++ xs) (repeat-space (52 - length label)))

-- the line that a format writes
pub labelled-from_format : (label shown : List ℕ) (value : Option (List ℕ)) (old new : Option (List ℕ)) →
    shown ≡ label ++ replicate (52 - length label) 32
    → IfSome (Some (codes "    ") ++? Some shown ++? value ++? Some (codes "\n")) (Appends old new) →
    IfSome value (λ text. Appends old new (labelled label text))
unfolding labelled
labelled-from_format label shown None old new same h = tt
labelled-from_format label shown (Some text) old new same h =
    let whole : codes "    " ++ (shown ++ (text ++ codes "\n")) ≡ labelled label text = rw same (simp append_assoc) in
    subst (λ xs. Appends old new xs) whole h
