-- Members of objects, and decimal fractions, as formats write them.
use Rattle.std.proofs.Common.{◌≡◌, ◌++◌, ◌-◌, ℕ, List, append_assoc, length, replicate, subst, sym, ap, ◌∙◌}
use Rattle.std.specs.Prelude.{Option, Some, None, IfSome, codes, decimal}
use Rattle.std.specs.Io.KnownBytes.{Appends}
use Rattle.std.specs.Fmt.{◌++?◌}
use Rattle.amd_texts.specs.Texts.{labelled}
use Rattle.amd_texts.proofs.Padding.{labelled-from_format}
use Rattle.amd_report.specs.Comparisons.{three_figures, two_figures}
use Rattle.amd_report.specs.Json.{member, quoted}

pub member-from_format : (before name : List ℕ) (value old new : Option (List ℕ)) →
    IfSome (Some before ++? Some (codes "\"") ++? Some name ++? Some (codes "\":") ++? value) (Appends old new) →
    IfSome value (λ text. Appends old new (member before name text))
unfolding member
member-from_format before name None old new h = tt
member-from_format before name (Some text) old new h =
    let whole : before ++ (codes "\"" ++ (name ++ (codes "\":" ++ text))) ≡ member before name text = simp append_assoc in
    subst (λ xs. Appends old new xs) whole h

pub text-from_format : (name text : List ℕ) (old new : Option (List ℕ)) →
    Appends old new (codes ",\"" ++ (name ++ (codes "\":\"" ++ (text ++ codes "\"")))) →
    Appends old new (member (codes ",") name (quoted text))
unfolding member
text-from_format name text old new h =
    subst (λ xs. Appends old new xs) (sym (append_assoc (codes ",\"" ++ name) (codes "\":") (quoted text))) h

-- a decimal fraction behind a name
pub mean-from_format : (w t h : ℕ) (old new : Option (List ℕ)) →
    Appends old new (codes ",\"mean_degree\":" ++ (decimal w ++ (codes "." ++ (decimal t ++ decimal h)))) →
    Appends old new (member (codes ",") (codes "mean_degree") (decimal w ++ codes "." ++ decimal t ++ decimal h))
unfolding member
mean-from_format w t h old new k =
    let whole : codes ",\"mean_degree\":" ++ (decimal w ++ (codes "." ++ (decimal t ++ decimal h)))
    ≡ member (codes ",") (codes "mean_degree") (decimal w ++ codes "." ++ decimal t ++ decimal h) = simp append_assoc in
    subst (λ xs. Appends old new xs) whole k

-- a share in tenths behind a name
pub share-from_format : (w t : ℕ) (old new : Option (List ℕ)) →
    Appends old new (codes ",\"pattern_symmetry_percent\":" ++ (decimal w ++ (codes "." ++ decimal t))) →
    Appends old new (member (codes ",") (codes "pattern_symmetry_percent") (decimal w ++ codes "." ++ decimal t))
unfolding member
share-from_format w t old new k =
    let whole : codes ",\"pattern_symmetry_percent\":" ++ (decimal w ++ (codes "." ++ decimal t))
    ≡ member (codes ",") (codes "pattern_symmetry_percent") (decimal w ++ codes "." ++ decimal t) = simp append_assoc in
    subst (λ xs. Appends old new xs) whole k

-- a text behind a label
pub line-from_format : (label shown text rest : List ℕ) (old new : Option (List ℕ)) →
    shown ≡ label ++ replicate (52 - length label) 32
    → text ++ codes "\n" ≡ rest → Appends old new (codes "    " ++ (shown ++ rest)) → Appends old new (labelled label text)
line-from_format label shown text rest old new same line k =
    labelled-from_format label shown (Some text) old new same
    (subst (λ z. Appends old new (codes "    " ++ (shown ++ z))) (sym line) k)

-- a decimal fraction, and figures under two and three orders, with the end of a line
pub fraction-line : (w t h : ℕ) → (decimal w ++ codes "." ++ decimal t ++ decimal h) ++ codes "\n"
    ≡ decimal w ++ (codes "." ++ (decimal t ++ (decimal h ++ codes "\n")))
fraction-line w t h = simp append_assoc

pub share-line : (w t : ℕ) → (decimal w ++ codes "." ++ decimal t ++ codes " %") ++ codes "\n"
    ≡ decimal w ++ (codes "." ++ (decimal t ++ codes " %\n"))
share-line w t = simp append_assoc

pub two-line : (a b : ℕ) → two_figures a b ++ codes "\n"
    ≡ decimal a ++ (codes " as it stands, " ++ (decimal b ++ codes " ordered\n"))
two-line a b =
    append_assoc (decimal a) (codes " as it stands, " ++ (decimal b ++ codes " ordered")) (codes "\n")
    ∙ ap (λ z. decimal a ++ (codes " as it stands, " ++ z)) (append_assoc (decimal b) (codes " ordered") (codes "\n"))

pub three-line : (a b c : ℕ) (option : List ℕ) → three_figures a b c option ++ codes "\n"
    ≡ decimal a ++ (codes " as it stands, " ++ (decimal b ++ (codes " ordered, " ++ (decimal c ++ (codes " by " ++ (option ++ codes
    "\n"))))))
three-line a b c option = simp append_assoc
