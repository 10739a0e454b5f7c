-- What the parts of a demo write, one after another.
use Rattle.std.proofs.Common.{◌≡◌, ◌++◌, ℕ, ℤ, List, [], ◌∷◌, length, append_assoc, ap, sym, ◌∙◌, subst}
use Rattle.std.specs.Prelude.{Option, Bool, true, false, Ok, Err, IfOk}
use Rattle.std.specs.declared.result.Result.{Result}
use Rattle.std.specs.Fmt.{signed_decimal}
use Rattle.std.specs.Io.KnownBytes.{Appends}
use Rattle.std.proofs.lemmas.List.{nil_from_length}
use Rattle.std.proofs.KnownBytes.{Appends-nil, Appends-trans}
use Rattle.std.specs.Prelude.{codes}
use Rattle.amd_types.specs.declared.amd.Info.{Info}
use Rattle.amd_texts.specs.Writers.{HasTold}
use Rattle.amd_demos.specs.Lines.{each_of, parted, failure_line, record_lines, permutation_lines}
use Rattle.amd_demos.specs.Demos.{EndsInFailure, HasDemo, HasEnd, IsEnd, IsWanted, wanted_status}
use Rattle.amd_demos.specs.declared.demo.Form.{Form}

-- no numbers, of which nothing is written
pub parted-none : (xs : List ℤ) (a : Option (List ℕ)) → length xs ≡ 0 → Appends a a (parted xs)
parted-none xs a h = subst (λ z. Appends a a (parted z)) (sym (nil_from_length xs h)) (Appends-nil a)

-- a first number, and the others
pub parted-some : (xs rest : List ℤ) (x y : ℤ) (a b c : Option (List ℕ)) → xs ≡ y ∷ rest → x ≡ y → Appends a b (signed_decimal x)
    → Appends b c (each_of (codes ", ") rest) → Appends a c (parted xs)
parted-some xs rest x y a b c split same first others =
    let named = split ∙ ap (λ z. z ∷ rest) (sym same) in
    subst (λ z. Appends a c (parted z)) (sym named) (Appends-trans a b c _ _ first others)

-- two texts between three others, under other names
pub texts-between : (before middle after xs ys us vs : List ℕ) (a b : Option (List ℕ)) → xs ≡ us → ys ≡ vs
    → Appends a b (before ++ (xs ++ (middle ++ (ys ++ after)))) → Appends a b (before ++ us ++ middle ++ vs ++ after)
texts-between before middle after xs ys us vs a b one other h =
    let first = subst (λ z. Appends a b (before ++ (z ++ (middle ++ (ys ++ after))))) one h in
    let second = subst (λ z. Appends a b (before ++ (us ++ (middle ++ (z ++ after))))) other first in
    let flat = sym (append_assoc before us (middle ++ (vs ++ after))) ∙ sym (append_assoc (before ++ us) middle (vs ++ after))
    ∙ sym (append_assoc (before ++ us ++ middle) vs after) in
    subst (Appends a b) flat second

-- the line of failure behind a text
pub failure-after : (xs : List ℕ) (a b c : Option (List ℕ)) → Appends a b xs → Appends b c failure_line → EndsInFailure a c
failure-after xs a b c h k = (xs, Appends-trans a b c xs failure_line h k)

-- what a demo ends with, written behind the record, the permutations and the plots, of a permutation that may be named in two ways
pub demo-ended : {E : Type 0} (form : Form) (n : ℤ) (ap ai p q s : List ℤ) (info : Info) (r : Result Bool E) (a b c d : Option (List ℕ))
    → s ≡ p → IsWanted (wanted_status form) n ap ai p q info
    → Appends a b (record_lines (wanted_status form) info ++ permutation_lines p q) → HasTold b c
    → IfOk r (λ ended. ended ≡ true → HasEnd form n ap ai s info c d) → IfOk r (λ ordered. ordered ≡ true → HasDemo form n ap ai a d)
demo-ended form n ap ai p q s info (Err e) a b c d named wanted told plots h = tt
demo-ended form n ap ai p q s info (Ok r) a b c d named wanted told plots h = λ same. record {
  p = p;
  q = q;
  info = info;
  wanted = wanted;
  end = (h same).0;
  ends = subst (λ z. IsEnd form n ap ai z info (h same).0) named (h same).1;
  before = [];
  between = plots.0;
  text = Appends-trans a b d _ _ told (Appends-trans b c d _ _ plots.1 (h same).2);
}

-- a failure behind the plots
pub failure-ended : {E : Type 0} (xs : List ℕ) (r : Result Bool E) (a b c d : Option (List ℕ)) → Appends a b xs → HasTold b c
    → IfOk r (λ ended. ended ≡ false → Appends c d failure_line) → IfOk r (λ ordered. ordered ≡ false → EndsInFailure a d)
failure-ended xs (Err e) a b c d told plots h = tt
failure-ended xs (Ok r) a b c d told plots h = λ same.
    failure-after (xs ++ plots.0) a c d (Appends-trans a b c xs plots.0 told plots.1) (h same)

-- a demo that was written behind some text
pub demo-behind : {E : Type 0} (form : Form) (n : ℤ) (ap ai : List ℤ) (r : Result Bool E) (a b c : Option (List ℕ)) → HasTold a b
    → IfOk r (λ ordered. ordered ≡ true → HasDemo form n ap ai b c) → IfOk r (λ ordered. ordered ≡ true → HasDemo form n ap ai a c)
demo-behind form n ap ai (Err e) a b c g h = tt
demo-behind form n ap ai (Ok r) a b c g h = λ same. record {
  p = (h same).p;
  q = (h same).q;
  info = (h same).info;
  wanted = (h same).wanted;
  end = (h same).end;
  ends = (h same).ends;
  before = g.0 ++ (h same).before;
  between = (h same).between;
  text = subst (Appends a c) (sym (append_assoc g.0 (h same).before _)) (Appends-trans a b c g.0 _ g.1 (h same).text);
}

-- a failure that was written behind some text
pub failure-behind : {E : Type 0} (r : Result Bool E) (a b c : Option (List ℕ)) → HasTold a b
    → IfOk r (λ ordered. ordered ≡ false → EndsInFailure b c) → IfOk r (λ ordered. ordered ≡ false → EndsInFailure a c)
failure-behind (Err e) a b c g h = tt
failure-behind (Ok r) a b c g h = λ same.
    (g.0 ++ (h same).0, subst (Appends a c) (sym (append_assoc g.0 (h same).0 failure_line)) (Appends-trans a b c g.0 _ g.1 (h same).1))
