-- Lines that were read one after another.
use Rattle.std.proofs.Common.{◌≡◌, ◌≢◌, ◌+◌, ◌<◌, ◌≤◌, ℕ, Bool, true, false, Option, Some, None, List, [], ◌∷◌, ◌++◌, cond, refl, sym}
use Rattle.std.proofs.Common.{ap, ◌∙◌, subst}
use Rattle.std.proofs.Common.{append-nil, append_assoc, arith, length, length-append, get_or, take, drop, zero, suc}
use Rattle.std.proofs.Common.{◌-◌, ◌⊎◌, inl, inr, eqb, length-drop}
use Rattle.std.proofs.lemmas.Bool.{eq-eqb, eqb-true}
use Rattle.std.specs.Prelude.{All, IfSome, min}
use Rattle.std.specs.Io.BufRead.{take_through, drop_through}
use Rattle.std.specs.Io.KnownBytes.{Consumes, IsAtEnd, prepend_known}
use Rattle.std.proofs.lemmas.Bool.{cases_lt}
use Rattle.std.proofs.lemmas.List.{take_all, drop_all, get_or-drop, get_or-take, length-take, take-take, length-take-le}
use Rattle.memchr.specs.Find.{Passes, Nowhere, NoneBefore, is_byte}
use Rattle.std.proofs.lemmas.List.Elements.{filter-append}
use Rattle.amd_lines.specs.Words.{words, EndsAt}
use Rattle.amd_lines.specs.Lines.{BeginsWith, TookLine, line_number, one_line_more}
use Rattle.amd_lines.specs.Lines.{TakesLine, TakesLines, TakesTelling, TakesNotes, FailsAt, is_note}
use Rattle.amd_lines.specs.Lines.{tells, telling, rest_of, line_of, EndsLine, HasNoFeed, KeepsRest, MeetsLong, IfLong, is_long}
use Rattle.amd_lines.specs.declared.errors.LineCause.{LineCause}
use Rattle.amd_lines.specs.declared.errors.LineCause.TheVariants as cause
use Rattle.amd_lines.specs.Blocks.{held_of}
use Rattle.amd_lines.proofs.BlockLemmas.{line-held, line-last, line-longer}
use Rattle.amd_lines.specs.declared.lines.LineReader.{LineReader}

begins-append : (is js : List (List ℕ)) (bytes : List ℕ) (mid rest : Option (List ℕ)) → BeginsWith is bytes mid
    → IfSome mid (λ bs. BeginsWith js bs rest) → BeginsWith (is ++ js) bytes rest
begins-append [] js bytes mid rest h k =
    let P : Option (List ℕ) → Type 0 = λ m. IfSome m (λ bs. BeginsWith js bs rest) in subst P h k
begins-append (i ∷ is) js bytes mid rest h k = (h.0, h.1, begins-append is js (drop_through 10 bytes) mid rest h.2 k)

pub known-append : (is js : List (List ℕ)) (first mid rest : Option (List ℕ)) → IfSome first (λ bs. BeginsWith is bs mid)
    → IfSome mid (λ bs. BeginsWith js bs rest) → IfSome first (λ bs. BeginsWith (is ++ js) bs rest)
known-append is js None mid rest h k = tt
known-append is js (Some bytes) mid rest h k = begins-append is js bytes mid rest h k

pub number-append : (n : ℕ) (is js : List (List ℕ)) → line_number n (is ++ js) ≡ line_number (line_number n is) js
number-append n [] js = refl
number-append n (i ∷ is) js = number-append (one_line_more n) is js

pub known-none : (rest : Option (List ℕ)) → IfSome rest (λ bs. rest ≡ Some bs)
known-none None = tt
known-none (Some bytes) = refl

pub line-known : (first rest : Option (List ℕ)) (line : List ℕ) → IfSome first (λ bs. TookLine bs line rest true)
    → IfSome first (λ bs. BeginsWith (line ∷ []) bs rest)
line-known None rest line h = tt
line-known (Some bytes) rest line h = (h.0, h.1, h.2)

pub end-known : (first rest : Option (List ℕ)) (line : List ℕ) → IfSome first (λ bs. TookLine bs line rest false)
    → IfSome first (λ bs. BeginsWith [] bs rest)
end-known None rest line h = tt
end-known (Some bytes) rest line h = h.1 ∙ ap Some (sym h.0)

pub last-known : (first rest : Option (List ℕ)) (line : List ℕ) → IfSome first (λ bs. TookLine bs line rest false)
    → IfSome first (λ bs. rest ≡ Some [])
last-known None rest line h = tt
last-known (Some bytes) rest line h = h.1

begins-known : (ls : List (List ℕ)) (bytes : List ℕ) (rest : Option (List ℕ)) → BeginsWith ls bytes rest →
    (x : List ℕ) × (rest ≡ Some x)
begins-known [] bytes rest h = (bytes, h)
begins-known (l ∷ ls) bytes rest h = begins-known ls (drop_through 10 bytes) rest h.2

pub end-append : (ls : List (List ℕ)) (first mid last : Option (List ℕ)) → IfSome first (λ bs. BeginsWith ls bs mid)
    → IfSome mid (λ bs. last ≡ Some []) → IfSome first (λ bs. last ≡ Some [])
end-append ls None mid last h k = tt
end-append ls (Some bytes) mid last h k =
    let x = begins-known ls bytes mid h in
    let P : Option (List ℕ) → Type 0 = λ m. IfSome m (λ bs. last ≡ Some []) in subst P x.1 k

-- two readings in turn are one
pub takes-append : {R Z : Type 0} (remaining : R → Option (List ℕ)) (a b c : LineReader R Z) (is js : List (List ℕ))
    → TakesLines remaining a b is → TakesLines remaining b c js → TakesLines remaining a c (is ++ js)
takes-append remaining a b c is js h k = record {
  counted = k.counted ∙ ap (λ n. line_number n js) h.counted ∙ sym (number-append a.lines is js);
  longest = k.longest ∙ h.longest;
  took = known-append is js _ _ _ h.took k.took;
}

-- nothing was read
pub takes-none : {R Z : Type 0} (remaining : R → Option (List ℕ)) (a : LineReader R Z) → TakesLines remaining a a []
takes-none remaining a = record { counted = refl; longest = refl; took = known-none (rest_of remaining a) }

-- one line was read
pub takes-one : {R Z : Type 0} (remaining : R → Option (List ℕ)) (a b : LineReader R Z) → TakesLine remaining a b true
    → TakesLines remaining a b (line_of b ∷ [])
takes-one remaining a b h = record { counted = h.counted; longest = h.longest; took = line-known _ _ _ h.took }

-- no line was left
pub takes-end : {R Z : Type 0} (remaining : R → Option (List ℕ)) {mark : Option ℕ} (a b : LineReader R Z) → TakesLine remaining a b false →
    TakesNotes mark remaining a b
takes-end remaining a b h = record {
  lines = [];
  takes = record { counted = h.counted; longest = h.longest; took = end-known _ _ (line_of b) h.took };
  tells = refl;
  end = last-known _ _ (line_of b) h.took;
}

-- lines of which each part tells some; notes tell none
pub telling-both : (mark : Option ℕ) (is js ks us : List (List ℕ)) → telling mark is ≡ ks → telling mark js ≡ us →
    telling mark (is ++ js) ≡ ks ++ us
telling-both mark is js ks us h k = filter-append (tells mark) is js ∙ ap (λ t. t ++ telling mark js) h ∙ ap (λ t. ks ++ t) k

-- a line that says something, and one that does not
pub telling-one : (mark : Option ℕ) (line : List ℕ) → is_note mark (words line) ≡ false → telling mark (line ∷ []) ≡ line ∷ []
telling-one mark line h = rw h refl

pub telling-none : (mark : Option ℕ) (line : List ℕ) → is_note mark (words line) ≡ true → telling mark (line ∷ []) ≡ []
telling-none mark line h = rw h refl

-- notes, and then all that is left
pub notes-end : {R Z : Type 0} {mark : Option ℕ} (remaining : R → Option (List ℕ)) (a b c : LineReader R Z) (is : List (List ℕ)) →
    TakesLines remaining a b is → telling mark is ≡ [] → TakesNotes mark remaining b c → TakesNotes mark remaining a c
notes-end {mark} remaining a b c is h tell k = record {
  lines = is ++ k.lines;
  takes = takes-append remaining a b c is k.lines h k.takes;
  tells = telling-both mark is k.lines [] [] tell k.tells;
  end = end-append is _ _ _ h.took k.end;
}

-- notes, and then a line that says something
pub notes-telling : {R Z : Type 0} {mark : Option ℕ} (remaining : R → Option (List ℕ)) (a b c : LineReader R Z) (is : List (List ℕ)) →
    TakesLines remaining a b is
    → telling mark is ≡ [] → TakesLine remaining b c true → is_note mark (words (line_of c)) ≡ false →
    TakesTelling mark remaining a c (line_of c)
notes-telling {mark} remaining a b c is h tell k says = record {
  lines = is ++ line_of c ∷ [];
  takes = takes-append remaining a b c is (line_of c ∷ []) h (takes-one remaining b c k);
  tells = telling-both mark is (line_of c ∷ []) [] (line_of c ∷ []) tell (telling-one mark (line_of c) says);
  before = is;
  parts = refl;
  says = says;
}

-- a line that says something was passed
pub line-telling : {R Z : Type 0} {mark : Option ℕ} (remaining : R → Option (List ℕ)) (a c : LineReader R Z) →
    TakesLine remaining a c true → is_note mark (words (line_of c)) ≡ false → TakesTelling mark remaining a c (line_of c)
line-telling {mark} remaining a c k says = notes-telling {mark = mark} remaining a a c [] (takes-none remaining a) refl k says

-- the line that was read last
pub fails-here : {R Z : Type 0} (remaining : R → Option (List ℕ)) (a b : LineReader R Z) (is : List (List ℕ)) (n : ℕ)
    → TakesLines remaining a b is → n ≡ b.lines → FailsAt remaining a n
fails-here remaining a b is n h e = record { lines = is; rest = rest_of remaining b; named = e ∙ h.counted; took = h.took }

-- a line behind lines that were read
pub fails-behind : {R Z : Type 0} (remaining : R → Option (List ℕ)) (a b : LineReader R Z) (is : List (List ℕ)) (n : ℕ)
    → TakesLines remaining a b is → FailsAt remaining b n → FailsAt remaining a n
fails-behind remaining a b is n h k = record {
  lines = is ++ k.lines;
  rest = k.rest;
  named = k.named ∙ ap (λ z. line_number z k.lines) h.counted ∙ sym (number-append a.lines is k.lines);
  took = known-append is k.lines _ _ k.rest h.took k.took;
}

-- the line that says something, or the last one of all
pub fails-telling : {R Z : Type 0} {mark : Option ℕ} (remaining : R → Option (List ℕ)) (a b : LineReader R Z) (line : List ℕ) (n : ℕ)
    → TakesTelling mark remaining a b line → n ≡ b.lines → FailsAt remaining a n
fails-telling remaining a b line n h e = fails-here remaining a b h.lines n h.takes e

pub fails-notes : {R Z : Type 0} {mark : Option ℕ} (remaining : R → Option (List ℕ)) (a b : LineReader R Z) (n : ℕ) →
    TakesNotes mark remaining a b → n ≡ b.lines → FailsAt remaining a n
fails-notes remaining a b n h e = fails-here remaining a b h.lines n h.takes e

-- the next line, where the bytes are known
abbrev next_line : Option (List ℕ) → List ℕ
next_line None = []
next_line (Some bytes) = take_through 10 bytes

abbrev behind_line : Option (List ℕ) → Option (List ℕ)
behind_line None = None
behind_line (Some bytes) = Some (drop_through 10 bytes)

-- the next line
pub fails-next : {R Z : Type 0} (remaining : R → Option (List ℕ)) (a : LineReader R Z) (n : ℕ) → n ≡ one_line_more a.lines
    → IfSome (rest_of remaining a) (λ bytes. 0 < length bytes) → FailsAt remaining a n
fails-next remaining a n named some = record {
  lines = next_line (rest_of remaining a) ∷ [];
  rest = behind_line (rest_of remaining a);
  named = named;
  took = known (rest_of remaining a) some;
}
  where
    known : (o : Option (List ℕ)) → IfSome o (λ bytes. 0 < length bytes) →
        IfSome o (λ bytes. BeginsWith (next_line o ∷ []) bytes (behind_line o))
    known None h = tt
    known (Some bytes) h = (h, refl, refl)

-- what is held stands before the reader
pub held-some : (held : List ℕ) (known : Option (List ℕ)) → 0 < length held → IfSome (prepend_known held known) (λ bytes. 0 < length bytes)
held-some held None h = tt
held-some held (Some xs) h = let l = length-append held xs in omega (arith, l, h)

-- the line was passed
pub passed-line : {R Z : Type 0} (remaining : R → Option (List ℕ)) (a b : LineReader R Z) (count : ℕ) → EndsLine remaining a count →
    b.lines ≡ one_line_more a.lines → b.longest ≡ a.longest → line_of b ≡ take count (held_of a.block) →
    held_of b.block ≡ drop count (held_of a.block) → b.input ≡ a.input → TakesLine remaining a b true
passed-line remaining a b count h counted longest line held input = record {
  counted = counted;
  longest = longest;
  took = known (rest_of remaining a)
      (held-some (held_of a.block) (remaining a.input) (let w = h.within in let s = h.some in omega (arith, w, s))) h.line h.rest;
}
  where
    after : rest_of remaining b ≡ prepend_known (drop count (held_of a.block)) (remaining a.input)
    after = ap (λ z. prepend_known z (remaining b.input)) held ∙ ap (λ i. prepend_known (drop count (held_of a.block)) (remaining i)) input

    known : (o : Option (List ℕ)) → IfSome o (λ bytes. 0 < length bytes) →
        IfSome o (λ bytes. take_through 10 bytes ≡ take count (held_of a.block)) →
        IfSome o (λ bytes. prepend_known (drop count (held_of a.block)) (remaining a.input) ≡ Some (drop_through 10 bytes)) →
        IfSome o (λ bytes. TookLine bytes (line_of b) (rest_of remaining b) true)
    known None s l r = tt
    known (Some bytes) s l r = (s, line ∙ sym l, after ∙ r)

-- the next line ends at the first line feed that is held
pub ends-here : {R Z : Type 0} (remaining : R → Option (List ℕ)) (a : LineReader R Z) (k : ℕ) →
    NoneBefore (Passes (is_byte 10) (held_of a.block)) 0 (length (held_of a.block)) k →
    Passes (is_byte 10) (held_of a.block) k → EndsLine remaining a (k + 1)
ends-here remaining a k none here = record {
  within = (let h = none.high in omega (arith, h));
  some = omega arith;
  none = λ j l e. none.before j (omega arith) (omega (arith, l)) (eq-eqb _ _ e);
  line = (parts (remaining a.input)).0;
  rest = (parts (remaining a.input)).1;
}
  where
    parts : (known : Option (List ℕ)) →
        IfSome (prepend_known (held_of a.block) known) (λ bytes. take_through 10 bytes ≡ take (k + 1) (held_of a.block))
        × IfSome (prepend_known (held_of a.block) known) (λ bytes. prepend_known (drop (k + 1) (held_of a.block)) known
        ≡ Some (drop_through 10 bytes))
    parts None = (tt, tt)
    parts (Some xs) =
        let both = line-held (held_of a.block) xs k none.high (λ j l e. none.before j (omega arith) l (eq-eqb _ _ e)) (eqb-true _ _ here) in
        (both.0, ap Some (sym both.1))

-- the same of the first line feed of a front of the bytes that are held
pub ends-ahead : {R Z : Type 0} (remaining : R → Option (List ℕ)) (a : LineReader R Z) (most k : ℕ) →
    EndsAt (take most (held_of a.block)) k →
    EndsLine remaining a (k + 1) × (take (k + 1) (held_of a.block) ≡ take (k + 1) (take most (held_of a.block)))
ends-ahead remaining a most k h =
    let held = held_of a.block in
    let size = length-take most held in
    let within = h.within in
    let short : k < most = omega (arith, size, within) in
    let here : get_or held k 0 ≡ 10 = sym (get_or-take most held k 0 short) ∙ h.feed in
    let none : Nowhere (Passes (is_byte 10) held) 0 k
    = λ j l m e. h.none j m (get_or-take most held j 0 (omega (arith, m, short)) ∙ eqb-true _ _ e) in (
      ends-here remaining a k (record { low = omega arith; high = omega (arith, size, within); before = none }) (eq-eqb _ _ here),
      sym (take-take (k + 1) most held (omega (arith, short))),
    )

-- no more is taken than there is
pub take-least : (most n : ℕ) (xs : List ℕ) → n ≡ min (length xs) most → take n xs ≡ take most xs
take-least most n xs is = elim (cases_lt most (length xs)) [
  | inl x ↦ ap (λ z. take z xs) (omega (arith, is, x))
  | inr x ↦ take_all n xs (omega (arith, is, x)) ∙ sym (take_all most xs x)
]

-- bytes without a line feed at the end of the input are the last line
pub ends-all : {R Z : Type 0} (remaining : R → Option (List ℕ)) (a : LineReader R Z) (k : ℕ) → k ≡ length (held_of a.block) → 0 < k →
    All (λ b. b ≢ 10) (held_of a.block) → IsAtEnd (remaining a.input) → EndsLine remaining a k
ends-all remaining a k size some none end = record {
  within = omega (arith, size);
  some = some;
  none = λ j l. none j 0 (omega (arith, size, l));
  line = (parts (remaining a.input) end).0;
  rest = (parts (remaining a.input) end).1;
}
  where
    parts : (known : Option (List ℕ)) → IsAtEnd known →
        IfSome (prepend_known (held_of a.block) known) (λ bytes. take_through 10 bytes ≡ take k (held_of a.block))
        × IfSome (prepend_known (held_of a.block) known) (λ bytes. prepend_known (drop k (held_of a.block)) known
        ≡ Some (drop_through 10 bytes))
    parts None h = (tt, tt)
    parts (Some xs) h =
        let both = line-last (held_of a.block) (λ j l. none j 0 l) in
        let all : held_of a.block ++ xs ≡ held_of a.block = ap (λ z. held_of a.block ++ z) h ∙ append-nil (held_of a.block) in (
          ap (take_through 10) all ∙ both.0 ∙ sym (take_all k (held_of a.block) (omega (arith, size))),
          ap Some (ap (λ z. z ++ xs) (drop_all k (held_of a.block) (omega (arith, size))) ∙ h ∙ sym (ap (drop_through 10) all ∙ both.1)),
        )

-- more was read, or nothing
pub keeps-none : {R Z : Type 0} (remaining : R → Option (List ℕ)) (a : LineReader R Z) → KeepsRest remaining a a
keeps-none remaining a = record { counted = refl; longest = refl; kept = known-none (rest_of remaining a) }

pub same-then : (P : List ℕ → Type 0) (first mid : Option (List ℕ)) → IfSome first (λ bytes. mid ≡ Some bytes) → IfSome mid P →
    IfSome first P
same-then P None mid h k = tt
same-then P (Some bytes) mid h k = subst (λ o. IfSome o P) h k

pub keeps-append : {R Z : Type 0} (remaining : R → Option (List ℕ)) (a b c : LineReader R Z) → KeepsRest remaining a b →
    KeepsRest remaining b c → KeepsRest remaining a c
keeps-append remaining a b c h k = record {
  counted = k.counted ∙ h.counted;
  longest = k.longest ∙ h.longest;
  kept = same-then (λ bytes. rest_of remaining c ≡ Some bytes) (rest_of remaining a) (rest_of remaining b) h.kept k.kept;
}

pub keeps-takes : {R Z : Type 0} (remaining : R → Option (List ℕ)) (a b c : LineReader R Z) (some : Bool) → KeepsRest remaining a b →
    TakesLine remaining b c some → TakesLine remaining a c some
keeps-takes remaining a b c some h k = record {
  counted = k.counted ∙ ap (λ n. cond some (one_line_more n) n) h.counted;
  longest = k.longest ∙ h.longest;
  took = same-then (λ bytes. TookLine bytes (line_of c) (rest_of remaining c) some) (rest_of remaining a)
      (rest_of remaining b) h.kept k.took;
}

pub keeps-fails : {R Z : Type 0} (remaining : R → Option (List ℕ)) (a b : LineReader R Z) (n : ℕ) → KeepsRest remaining a b →
    FailsAt remaining b n → FailsAt remaining a n
keeps-fails remaining a b n h k = record {
  lines = k.lines;
  rest = k.rest;
  named = k.named ∙ ap (λ z. line_number z k.lines) h.counted;
  took = same-then (λ bytes. BeginsWith k.lines bytes k.rest) (rest_of remaining a) (rest_of remaining b) h.kept k.took;
}

-- no line was read
pub fails-still : {R Z : Type 0} (remaining : R → Option (List ℕ)) (a : LineReader R Z) (n : ℕ) → n ≡ a.lines → FailsAt remaining a n
fails-still remaining a n e = fails-here remaining a a [] n (takes-none remaining a) e

-- a search behind bytes that were looked at
feed-later : (bytes : List ℕ) (seen k : ℕ) → seen ≤ k → Passes (is_byte 10) bytes k → Passes (is_byte 10) (drop seen bytes) (k - seen)
feed-later bytes seen k l h =
    let place : seen + (k - seen) ≡ k = omega (arith, l) in
    ap (λ z. eqb z 10) (get_or-drop seen bytes (k - seen) 0 ∙ ap (λ i. get_or bytes i 0) place) ∙ h

feed-nowhere : (bytes : List ℕ) (seen n : ℕ) → HasNoFeed seen bytes → Nowhere (Passes (is_byte 10) (drop seen bytes)) 0 n →
    Nowhere (Passes (is_byte 10) bytes) 0 (seen + n)
feed-nowhere bytes seen n none later k l m h = at (cases_lt k seen)
  where
    at : (k < seen) ⊎ (seen ≤ k) → ⊥
    at (inl before) = none k before (eqb-true _ _ h)
    at (inr behind) = later (k - seen) (omega arith) (omega (arith, behind, m)) (feed-later bytes seen k behind h)

pub feed-none : (bytes : List ℕ) (seen : ℕ) → seen ≤ length bytes → HasNoFeed seen bytes →
    Nowhere (Passes (is_byte 10) (drop seen bytes)) 0 (length (drop seen bytes)) → Nowhere (Passes (is_byte 10) bytes) 0 (length bytes)
feed-none bytes seen within none later =
    let rest = length-drop seen bytes in
    let whole : seen + length (drop seen bytes) ≡ length bytes = omega (arith, rest, within) in
    subst (λ n. Nowhere (Passes (is_byte 10) bytes) 0 n) whole (feed-nowhere bytes seen (length (drop seen bytes)) none later)

pub feed-found : (bytes : List ℕ) (seen place : ℕ) → seen ≤ length bytes → HasNoFeed seen bytes →
    NoneBefore (Passes (is_byte 10) (drop seen bytes)) 0 (length (drop seen bytes)) place → Passes (is_byte 10) (drop seen bytes) place →
    NoneBefore (Passes (is_byte 10) bytes) 0 (length bytes) (seen + place) × Passes (is_byte 10) bytes (seen + place)
feed-found bytes seen place within none first here = (
  record {
    low = omega arith;
    high = (let rest = length-drop seen bytes in let h = first.high in omega (arith, rest, within, h));
    before = feed-nowhere bytes seen place none first.before;
  },
  ap (λ z. eqb z 10) (sym (get_or-drop seen bytes place 0)) ∙ here,
)

-- a search that found nothing
pub no-feed : (held : List ℕ) → Nowhere (Passes (is_byte 10) held) 0 (length held) → All (λ b. b ≢ 10) held
no-feed held none k d h e = none k (omega arith) h (eq-eqb _ _ (get_or-any held k 0 d h ∙ e))
  where
    get_or-any : (xs : List ℕ) (k : ℕ) (x y : ℕ) → k < length xs → get_or xs k x ≡ get_or xs k y
    get_or-any [] k x y h = absurd (omega arith)
    get_or-any (z ∷ zs) zero x y h = refl
    get_or-any (z ∷ zs) (suc k) x y h = get_or-any zs k x y (omega arith)

pub none-behind : (old new more : List ℕ) → new ≡ old ++ more → length more ≡ 0 → All (λ b. b ≢ 10) old → All (λ b. b ≢ 10) new
none-behind old new [] h e none = subst (λ z. All (λ b. b ≢ 10) z) (sym (h ∙ append-nil old)) none
none-behind old new (x ∷ xs) h e none = absurd (omega arith)

-- a fact of a line that is too long, where one is told
pub if-long : (c : LineCause) {P : Type 0} → P → IfLong c P
if-long cause.Long p = p
if-long cause.Lines p = tt
if-long cause.OutOfMemory p = tt
if-long (cause.Input x) p = tt

pub if-long-weaker : (c : LineCause) {P Q : Type 0} → (P → Q) → IfLong c P → IfLong c Q
if-long-weaker cause.Long f p = f p
if-long-weaker cause.Lines f p = tt
if-long-weaker cause.OutOfMemory f p = tt
if-long-weaker (cause.Input x) f p = tt

pub long-of : (c : LineCause) {P : Type 0} → is_long c ≡ true → IfLong c P → P
long-of cause.Long is p = p
long-of cause.Lines is p = cc
long-of cause.OutOfMemory is p = cc
long-of (cause.Input x) is p = cc

-- the next line has so many bytes, and they are too many
pub long-next : {R Z : Type 0} (remaining : R → Option (List ℕ)) (a : LineReader R Z) (count n : ℕ) → EndsLine remaining a count →
    a.longest < count → n ≡ one_line_more a.lines → MeetsLong remaining a [] n
long-next remaining a count n h long named = record {
  line = take count (held_of a.block);
  rest = behind_line (rest_of remaining a);
  named = named;
  took = known (rest_of remaining a) some h.line;
  long = (let l = length-take-le count (held_of a.block) h.within in omega (arith, l, long));
}
  where
    some : IfSome (rest_of remaining a) (λ bytes. 0 < length bytes)
    some = held-some (held_of a.block) (remaining a.input) (let w = h.within in let s = h.some in omega (arith, w, s))

    known : (o : Option (List ℕ)) → IfSome o (λ bytes. 0 < length bytes) →
        IfSome o (λ bytes. take_through 10 bytes ≡ take count (held_of a.block)) →
        IfSome o (λ bytes. BeginsWith (take count (held_of a.block) ∷ []) bytes (behind_line o))
    known None s l = tt
    known (Some bytes) s l = (s, sym l, refl)

-- no line feed stands in the bytes that are held, and they are too many
pub long-held : {R Z : Type 0} (remaining : R → Option (List ℕ)) (a : LineReader R Z) (n : ℕ) →
    Nowhere (Passes (is_byte 10) (held_of a.block)) 0 (length (held_of a.block)) → a.longest < length (held_of a.block) →
    n ≡ one_line_more a.lines → MeetsLong remaining a [] n
long-held remaining a n none long named = record {
  line = front (remaining a.input);
  rest = behind_line (rest_of remaining a);
  named = named;
  took = known (remaining a.input);
  long = longer (remaining a.input);
}
  where
    held : List ℕ
    held = held_of a.block

    front : Option (List ℕ) → List ℕ
    front None = held
    front (Some more) = take_through 10 (held ++ more)

    known : (o : Option (List ℕ)) →
        IfSome (prepend_known held o) (λ bytes. BeginsWith (front o ∷ []) bytes (behind_line (prepend_known held o)))
    known None = tt
    known (Some more) = let l = length-append held more in (omega (arith, l, long), refl, refl)

    longer : (o : Option (List ℕ)) → a.longest < length (front o)
    longer None = long
    longer (Some more) =
        let l = line-longer held more (λ j m e. none j (omega arith) m (eq-eqb _ _ e)) in
        omega (arith, l, long)

-- the same of a reader that has read more bytes
pub keeps-long : {R Z : Type 0} (remaining : R → Option (List ℕ)) (a b : LineReader R Z) (n : ℕ) → KeepsRest remaining a b →
    MeetsLong remaining b [] n → MeetsLong remaining a [] n
keeps-long remaining a b n h k = record {
  line = k.line;
  rest = k.rest;
  named = k.named ∙ ap one_line_more h.counted;
  took = same-then (λ bytes. BeginsWith (k.line ∷ []) bytes k.rest) (rest_of remaining a) (rest_of remaining b) h.kept k.took;
  long = (let l = h.longest in let m = k.long in omega (arith, l, m));
}

-- a reader that has read more bytes
pub keeps-more : {R Z : Type 0} (remaining : R → Option (List ℕ)) (a b : LineReader R Z) (more : List ℕ) → b.lines ≡ a.lines →
    b.longest ≡ a.longest → held_of b.block ≡ held_of a.block ++ more → Consumes (remaining a.input) (remaining b.input) more →
    KeepsRest remaining a b
keeps-more remaining a b more counted longest held took = record {
  counted = counted;
  longest = longest;
  kept = rw held (known (remaining a.input) (remaining b.input) took);
}
  where
    known : (o p : Option (List ℕ)) → Consumes o p more →
        IfSome (prepend_known (held_of a.block) o) (λ bytes. prepend_known (held_of a.block ++ more) p ≡ Some bytes)
    known None p h = tt
    known (Some xs) None h = absurd h
    known (Some xs) (Some ys) h = ap Some (append_assoc (held_of a.block) more ys ∙ ap (λ z. held_of a.block ++ z) (sym h))

-- and behind lines that were read
pub long-behind : {R Z : Type 0} (remaining : R → Option (List ℕ)) (a b : LineReader R Z) (is : List (List ℕ)) (n : ℕ) →
    TakesLines remaining a b is → MeetsLong remaining b [] n → MeetsLong remaining a is n
long-behind remaining a b is n h k = record {
  line = k.line;
  rest = k.rest;
  named = k.named ∙ ap one_line_more h.counted ∙ sym (number-append a.lines is (k.line ∷ []));
  took = known-append is (k.line ∷ []) _ _ k.rest h.took k.took;
  long = (let l = h.longest in let m = k.long in omega (arith, l, m));
}
