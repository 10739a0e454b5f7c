-- A line that is passed piece by piece, and whether it says something.
use Rattle.std.proofs.Common.{◌≡◌, ◌≢◌, ◌+◌, ◌<◌, ◌≤◌, ℕ, zero, suc, Bool, true, false, Option, Some, None, List, [], ◌∷◌, ◌++◌}
use Rattle.std.proofs.Common.{refl, sym, ap, ◌∙◌, subst, arith, length, length-append, get_or, drop, not, append-nil, append_assoc}
use Rattle.std.proofs.Common.{drop-cons, eqb, ◌⊎◌, inl, inr, take}
use Rattle.memchr.specs.Find.{NoneBefore, Passes, is_byte}
use Rattle.amd_lines.proofs.LineLemmas.{no-feed, same-then, known-append, number-append}
use Rattle.std.specs.Prelude.{All, IfSome}
use Rattle.std.proofs.Math.Seq.{drop-append_seam, get_or-append_seam}
use Rattle.std.proofs.lemmas.Bool.{ne_eqb, cases_lt, eqb-true}
use Rattle.std.proofs.lemmas.List.{get_or_append_left, take_more, get_or-take, length-take}
use Rattle.std.proofs.lemmas.List.Quantifiers.{position-Some}
use Rattle.std.proofs.lemmas.List.Sums.{fails_before_first}
use Rattle.std.proofs.lemmas.Grind.{common_steps}
use Rattle.std.specs.List.{position, position_or_len}
use Rattle.std.specs.Char.{is_ascii_whitespace}
use Rattle.std.specs.Io.BufRead.{take_through, drop_through}
use Rattle.std.specs.Io.KnownBytes.{IsAtEnd, prepend_known}
use Rattle.amd_lines.specs.Words.{BeginsWithByte, words}
use Rattle.amd_lines.specs.Blocks.{held_of}
use Rattle.amd_lines.specs.Lines.{BeginsWith, is_note, rest_of, line_of, HasNoFeed, KeepsRest, HoldsLong, NoteSoFar, IsPiece}
use Rattle.amd_lines.specs.Lines.{PassesPiece, PassesNote, TellsLong, TakesLines, StandsLong, MeetsTelling, telling, one_line_more}
use Rattle.amd_lines.specs.declared.lines.LineReader.{LineReader}
use Rattle.amd_lines.proofs.WordLemmas.{parts-blank, head-of, not-true}

-- a front of a line that has no word leaves open what the line says
abbrev letter : ℕ → Bool
letter b = not (is_ascii_whitespace b)

blank-of : (b : ℕ) → letter b ≡ false → is_ascii_whitespace b ≡ true
blank-of b h = at (is_ascii_whitespace b) refl h
  where
    at : (x : Bool) → is_ascii_whitespace b ≡ x → not x ≡ false → is_ascii_whitespace b ≡ true
    at true e k = e
    at false e k = cc

pub front-open : (front : List ℕ) → position letter front ≡ None → (tail : List ℕ) → words (front ++ tail) ≡ words tail
front-open front h tail =
    sym (parts-blank is_ascii_whitespace (front ++ tail) (length front) (let l = length-append front tail in omega (arith, l)) blank)
    ∙ ap words (drop-append_seam front tail)
  where
    within : (j : ℕ) → j < length front → j < position_or_len letter front
    within j l = grind (arith, common_steps)

    blank : (j : ℕ) → j < length front → is_ascii_whitespace (get_or (front ++ tail) j 0) ≡ true
    blank j l = ap is_ascii_whitespace (get_or_append_left front tail 0 j l)
        ∙ blank-of (get_or front j 0) (fails_before_first letter front j 0 (within j l))

-- one with a word tells how the first word begins
pub front-told : (front : List ℕ) (i : ℕ) → position letter front ≡ Some i → (tail : List ℕ) →
    BeginsWithByte (get_or front i 0) (words (front ++ tail))
front-told front i h tail =
    let here = position-Some letter front i 0 h in
    let size = length-append front tail in
    let low = here.0 in
    let begin = parts-blank is_ascii_whitespace (front ++ tail) i (omega (arith, size, low))
    (λ j l. ap is_ascii_whitespace (get_or_append_left front tail 0 j (omega (arith, l, low)))
    ∙ blank-of (get_or front j 0) (here.2 j l)) in
    let same = get_or_append_left front tail 0 i low in
    let text = drop (suc i) (front ++ tail) in
    let x = get_or front i 0 in
    let cut : drop i (front ++ tail) ≡ x ∷ text
    = drop-cons (front ++ tail) i 0 (omega (arith, size, low)) ∙ ap (λ z. z ∷ text) same in
    let head = head-of is_ascii_whitespace x text (not-true _ here.1) in
    (_, _, sym begin ∙ ap words cut ∙ head)

pub note-told : (front : List ℕ) (i b : ℕ) → position letter front ≡ Some i → NoteSoFar (Some b) (Some (eqb (get_or front i 0) b)) front
note-told front i b h = λ tail. let t = front-told front i h tail in rw t.2 refl

pub note-plain : (front : List ℕ) (i : ℕ) → position letter front ≡ Some i → NoteSoFar None (Some false) front
note-plain front i h = λ tail. let t = front-told front i h tail in rw t.2 refl

-- a piece more
pub open-more : (mark : Option ℕ) (o : Option Bool) (passed piece : List ℕ) → NoteSoFar mark None passed → NoteSoFar mark o piece →
    NoteSoFar mark o (passed ++ piece)
open-more mark None passed piece h k = λ tail. ap words (append_assoc passed piece tail) ∙ h (piece ++ tail) ∙ k tail
open-more mark (Some b) passed piece h k = λ tail.
    ap (λ z. is_note mark (words z)) (append_assoc passed piece tail) ∙ ap (is_note mark) (h (piece ++ tail)) ∙ k tail

pub told-more : (mark : Option ℕ) (b : Bool) (passed piece : List ℕ) → NoteSoFar mark (Some b) passed →
    NoteSoFar mark (Some b) (passed ++ piece)
told-more mark b passed piece h = λ tail. ap (λ z. is_note mark (words z)) (append_assoc passed piece tail) ∙ h (piece ++ tail)

-- what is told of all bytes of a line is true of it
pub told-whole : (mark : Option ℕ) (b : Bool) (line : List ℕ) → NoteSoFar mark (Some b) line → is_note mark (words line) ≡ b
told-whole mark b line h = ap (λ z. is_note mark (words z)) (sym (append-nil line)) ∙ h []

pub open-whole : (mark : Option ℕ) (line : List ℕ) → NoteSoFar mark None line → is_note mark (words line) ≡ true
open-whole mark line h = ap (λ z. is_note mark (words z)) (sym (append-nil line)) ∙ ap (is_note mark) (h []) ∙ none mark
  where
    none : (m : Option ℕ) → is_note m (words []) ≡ true
    none None = refl
    none (Some b) = refl

pub note-whole : (mark : Option ℕ) (o : Option Bool) (line : List ℕ) → NoteSoFar mark o line → o ≢ Some false →
    is_note mark (words line) ≡ true
note-whole mark None line h other = open-whole mark line h
note-whole mark (Some true) line h other = told-whole mark true line h
note-whole mark (Some false) line h other = absurd (other refl)

-- the bytes up to a first line feed, and all of them where there is none
pub piece-some : (held : List ℕ) (k : ℕ) → NoneBefore (Passes (is_byte 10) held) 0 (length held) k → Passes (is_byte 10) held k →
    IsPiece (take (k + 1) held) true
piece-some held k none here = (
  take k held,
  (
    take_more held k 0 none.high ∙ ap (λ z. take k held ++ z ∷ []) (eqb-true _ _ here),
    no-feed (take k held) (λ j l m e.
        let size = length-take k held in
        let low : j < k = omega (arith, size, m) in
        none.before j l low (ap (λ z. eqb z 10) (sym (get_or-take k held j 0 low)) ∙ e)),
  ),
)

-- the first line of bytes whose front has no line feed, or ends with the first one
pub through-behind : (f xs : List ℕ) → All (λ b. b ≢ 10) f →
    (take_through 10 (f ++ xs) ≡ f ++ take_through 10 xs) × (drop_through 10 (f ++ xs) ≡ drop_through 10 xs)
through-behind [] xs h = (refl, refl)
through-behind (x ∷ f) xs h =
    let rest = through-behind f xs (λ i d l. h (suc i) d (omega (arith, l))) in
    let other : eqb x 10 ≡ false = ne_eqb x 10 (h 0 0 (omega arith)) in
    rw other (ap (λ z. x ∷ z) rest.0, rest.1)

all-both : (f g : List ℕ) → All (λ b. b ≢ 10) f → All (λ b. b ≢ 10) g → All (λ b. b ≢ 10) (f ++ g)
all-both [] g h k i d l = k i d l
all-both (x ∷ f) g h k zero d l = h zero d (omega arith)
all-both (x ∷ f) g h k (suc i) d l = all-both f g (λ j e m. h (suc j) e (omega (arith, m))) k i d (omega (arith, l))

-- the bytes of a line that were passed, and what they tell of it
pub record Passing {R Z : Type 0} (mark : Option ℕ) (remaining : R → Option (List ℕ)) (a b : LineReader R Z) (told : Option Bool) : Type 0
  where
    pub passed : List ℕ
    pub took : IfSome (rest_of remaining a) (λ bytes. prepend_known passed (rest_of remaining b) ≡ Some bytes)
    pub feeds : All (λ x. x ≢ 10) passed
    pub so_far : NoteSoFar mark told passed
    pub long : a.longest < length (passed ++ held_of b.block)
    pub front : HasNoFeed a.longest (passed ++ held_of b.block)
    pub counted : b.lines ≡ a.lines
    pub longest : b.longest ≡ a.longest

pub passing-none : {R Z : Type 0} (mark : Option ℕ) (remaining : R → Option (List ℕ)) (a : LineReader R Z) → HoldsLong a →
    Passing mark remaining a a None
passing-none mark remaining a h = record {
  passed = [];
  took = known (rest_of remaining a);
  feeds = λ i d l. absurd (omega arith);
  so_far = λ tail. refl;
  long = h.more;
  front = h.front;
  counted = refl;
  longest = refl;
}
  where
    known : (o : Option (List ℕ)) → IfSome o (λ bytes. prepend_known [] o ≡ Some bytes)
    known None = tt
    known (Some xs) = refl

prepend-both : (xs ys : List ℕ) (o : Option (List ℕ)) → prepend_known xs (prepend_known ys o) ≡ prepend_known (xs ++ ys) o
prepend-both xs ys None = refl
prepend-both xs ys (Some zs) = ap Some (sym (append_assoc xs ys zs))

known-as : (P Q : List ℕ → Type 0) (o : Option (List ℕ)) → ((x : List ℕ) → P x → Q x) → IfSome o P → IfSome o Q
known-as P Q None f h = tt
known-as P Q (Some x) f h = f x h

-- a piece was passed
pub took-piece : {R Z : Type 0} (mark : Option ℕ) (remaining : R → Option (List ℕ)) (a b c : LineReader R Z) (told : Option Bool)
    (ends : Bool) → (p : Passing mark remaining a b told) → PassesPiece b c ends →
    IfSome (rest_of remaining a) (λ bytes. prepend_known (p.passed ++ line_of c) (rest_of remaining c) ≡ Some bytes)
took-piece mark remaining a b c told ends p k =
    let same : prepend_known p.passed (rest_of remaining b) ≡ prepend_known (p.passed ++ line_of c) (rest_of remaining c)
    = ap (λ z. prepend_known p.passed (prepend_known z (remaining b.input))) k.parts
    ∙ ap (λ z. prepend_known p.passed z) (sym (prepend-both (line_of c) (held_of c.block) (remaining b.input)))
    ∙ prepend-both p.passed (line_of c) (prepend_known (held_of c.block) (remaining b.input))
    ∙ ap (λ i. prepend_known (p.passed ++ line_of c) (prepend_known (held_of c.block) (remaining i))) (sym k.input) in
    known-as _ _ (rest_of remaining a) (λ bytes e. sym same ∙ e) p.took

-- the whole front that was held
front-piece : {R Z : Type 0} (mark : Option ℕ) (remaining : R → Option (List ℕ)) (a b c : LineReader R Z) (told : Option Bool) (ends : Bool)
    → (p : Passing mark remaining a b told) → PassesPiece b c ends →
    p.passed ++ held_of b.block ≡ (p.passed ++ line_of c) ++ held_of c.block
front-piece mark remaining a b c told ends p k =
    ap (λ z. p.passed ++ z) k.parts ∙ sym (append_assoc p.passed (line_of c) (held_of c.block))

-- the line goes on behind it
pub passing-more : {R Z : Type 0} (mark : Option ℕ) (remaining : R → Option (List ℕ)) (a b c d : LineReader R Z) (told then : Option Bool)
    (more : List ℕ) → (p : Passing mark remaining a b told) → PassesPiece b c false → NoteSoFar mark then (p.passed ++ line_of c) →
    KeepsRest remaining c d → held_of d.block ≡ held_of c.block ++ more → Passing mark remaining a d then
passing-more mark remaining a b c d told then more p k tells keeps held = record {
  passed = p.passed ++ line_of c;
  took = known-as _ _ (rest_of remaining a)
      (λ bytes e. onto (rest_of remaining c) (rest_of remaining d) bytes e keeps.kept) (took-piece mark remaining a b c told false p k);
  feeds = feedless;
  so_far = tells;
  long = (let l = length-append (p.passed ++ line_of c) (held_of d.block) in omega (arith, l, size));
  front = λ j l. subst (λ z. z ≢ 10) (sym (get_or_append_left (p.passed ++ line_of c) (held_of d.block) 0 j (omega (arith, l, size))))
      (feedless j 0 (omega (arith, l, size)));
  counted = keeps.counted ∙ k.counted ∙ p.counted;
  longest = keeps.longest ∙ k.longest ∙ p.longest;
}
  where
    feedless : All (λ x. x ≢ 10) (p.passed ++ line_of c)
    feedless = all-both p.passed (line_of c) p.feeds k.piece

    size : a.longest < length (p.passed ++ line_of c)
    size = subst (λ z. a.longest < length z)
        (front-piece mark remaining a b c told false p k ∙ ap (λ z. (p.passed ++ line_of c) ++ z) (k.rest refl)
        ∙ append-nil (p.passed ++ line_of c)) p.long

    onto : (o q : Option (List ℕ)) (bytes : List ℕ) → prepend_known (p.passed ++ line_of c) o ≡ Some bytes →
        IfSome o (λ bs. q ≡ Some bs) → prepend_known (p.passed ++ line_of c) q ≡ Some bytes
    onto None q bytes e h = cc
    onto (Some xs) q bytes e h = ap (λ z. prepend_known (p.passed ++ line_of c) z) h ∙ e

-- the line ends with it
ends-line : (passed piece : List ℕ) (o : Option (List ℕ)) (bytes : List ℕ) → All (λ x. x ≢ 10) passed → IsPiece piece true →
    prepend_known (passed ++ piece) o ≡ Some bytes → BeginsWith ((passed ++ piece) ∷ []) bytes o
ends-line passed piece None bytes h k e = cc
ends-line passed piece (Some xs) bytes h k e =
    let is : (passed ++ piece) ++ xs ≡ bytes = cc in
    let parts : bytes ≡ (passed ++ k.0) ++ 10 ∷ xs
    = sym is ∙ ap (λ z. (passed ++ z) ++ xs) k.1.0 ∙ ap (λ z. z ++ xs) (sym (append_assoc passed k.0 (10 ∷ [])))
    ∙ append_assoc (passed ++ k.0) (10 ∷ []) xs in
    let both = through-behind (passed ++ k.0) (10 ∷ xs) (all-both passed k.0 h k.1.1) in
    let size = length-append (passed ++ k.0) (10 ∷ xs) in
    let long = ap length parts in (
      omega (arith, size, long),
      ap (λ z. passed ++ z) k.1.0 ∙ sym (append_assoc passed k.0 (10 ∷ [])) ∙ sym (ap (take_through 10) parts ∙ both.0),
      ap Some (sym (ap (drop_through 10) parts ∙ both.1)),
    )

pub note-ends : {R Z : Type 0} (mark : Option ℕ) (remaining : R → Option (List ℕ)) (a b c : LineReader R Z) (told : Option Bool)
    → (p : Passing mark remaining a b told) → PassesPiece b c true → is_note mark (words (p.passed ++ line_of c)) ≡ true →
    PassesNote mark remaining a c
note-ends mark remaining a b c told p k note = record {
  line = p.passed ++ line_of c;
  took = known-as _ _ (rest_of remaining a) (λ bytes e. ends-line p.passed (line_of c) (rest_of remaining c) bytes p.feeds k.piece e)
      (took-piece mark remaining a b c told true p k);
  note = note;
}

-- the text ends with it
pub note-last : {R Z : Type 0} (mark : Option ℕ) (remaining : R → Option (List ℕ)) (a b c d : LineReader R Z) (told : Option Bool)
    → (p : Passing mark remaining a b told) → PassesPiece b c false → is_note mark (words (p.passed ++ line_of c)) ≡ true →
    KeepsRest remaining c d → held_of d.block ≡ held_of c.block → IsAtEnd (remaining d.input) → PassesNote mark remaining a d
note-last mark remaining a b c d told p k note keeps held end = record {
  line = passed;
  took = known-as _ _ (rest_of remaining a) (λ bytes e. last (rest_of remaining c) bytes e keeps.kept)
      (took-piece mark remaining a b c told false p k);
  note = note;
}
  where
    passed : List ℕ
    passed = p.passed ++ line_of c

    feedless : All (λ x. x ≢ 10) passed
    feedless = all-both p.passed (line_of c) p.feeds k.piece

    size : a.longest < length passed
    size = subst (λ z. a.longest < length z)
        (front-piece mark remaining a b c told false p k ∙ ap (λ z. passed ++ z) (k.rest refl) ∙ append-nil passed) p.long

    none : held_of d.block ≡ []
    none = held ∙ k.rest refl

    nothing : (o : Option (List ℕ)) (xs : List ℕ) → IsAtEnd o → prepend_known [] o ≡ Some xs → xs ≡ []
    nothing None xs h e = cc
    nothing (Some ys) xs h e = let is : ys ≡ xs = cc in sym is ∙ h

    last : (o : Option (List ℕ)) (bytes : List ℕ) → prepend_known passed o ≡ Some bytes →
        IfSome o (λ bs. rest_of remaining d ≡ Some bs) → BeginsWith (passed ∷ []) bytes (rest_of remaining d)
    last None bytes e h = cc
    last (Some xs) bytes e h =
        let gone : xs ≡ [] = nothing (remaining d.input) xs end (ap (λ z. prepend_known z (remaining d.input)) (sym none) ∙ h) in
        let is : passed ++ xs ≡ bytes = cc in
        let whole : bytes ≡ passed ++ [] = sym is ∙ ap (λ z. passed ++ z) gone in
        let both = through-behind passed [] feedless in
        let long = ap length (whole ∙ append-nil passed) in (
          omega (arith, long, size),
          sym (ap (take_through 10) whole ∙ both.0 ∙ append-nil passed),
          h ∙ ap Some (gone ∙ sym (ap (drop_through 10) whole ∙ both.1)),
        )

-- the line says something
pub tells-ends : {R Z : Type 0} (mark : Option ℕ) (remaining : R → Option (List ℕ)) (a b c : LineReader R Z) (told : Option Bool)
    → (p : Passing mark remaining a b told) → PassesPiece b c true → NoteSoFar mark (Some false) (p.passed ++ line_of c) →
    TellsLong mark remaining a
tells-ends mark remaining a b c told p k tells = record {
  line = p.passed ++ line_of c;
  rest = rest_of remaining c;
  took = known-as _ _ (rest_of remaining a) (λ bytes e. ends-line p.passed (line_of c) (rest_of remaining c) bytes p.feeds k.piece e)
      (took-piece mark remaining a b c told true p k);
  long = long (cases_lt a.longest (length (p.passed ++ line_of c)));
  says = told-whole mark false (p.passed ++ line_of c) tells;
}
  where
    front : List ℕ
    front = p.passed ++ k.piece.0

    whole : p.passed ++ held_of b.block ≡ front ++ 10 ∷ held_of c.block
    whole = front-piece mark remaining a b c told true p k ∙ ap (λ z. (p.passed ++ z) ++ held_of c.block) k.piece.1.0
        ∙ ap (λ z. z ++ held_of c.block) (sym (append_assoc p.passed k.piece.0 (10 ∷ [])))
        ∙ append_assoc front (10 ∷ []) (held_of c.block)

    line : p.passed ++ line_of c ≡ front ++ 10 ∷ []
    line = ap (λ z. p.passed ++ z) k.piece.1.0 ∙ sym (append_assoc p.passed k.piece.0 (10 ∷ []))

    long : (a.longest < length (p.passed ++ line_of c)) ⊎ (length (p.passed ++ line_of c) ≤ a.longest) →
        a.longest < length (p.passed ++ line_of c)
    long (inl x) = x
    long (inr x) =
        let size = ap length line ∙ length-append front (10 ∷ []) in
        absurd (p.front (length front) (omega (arith, x, size))
        (ap (λ z. get_or z (length front) 0) whole ∙ get_or-append_seam front 10 (held_of c.block) 0))

pub tells-on : {R Z : Type 0} (mark : Option ℕ) (remaining : R → Option (List ℕ)) (a b c : LineReader R Z) (told : Option Bool)
    → (p : Passing mark remaining a b told) → PassesPiece b c false → NoteSoFar mark (Some false) (p.passed ++ line_of c) →
    TellsLong mark remaining a
tells-on mark remaining a b c told p k tells = record {
  line = passed ++ tail (rest_of remaining c);
  rest = behind (rest_of remaining c);
  took = known-as _ _ (rest_of remaining a) (λ bytes e. begins (rest_of remaining c) bytes e)
      (took-piece mark remaining a b c told false p k);
  long = (let l = length-append passed (tail (rest_of remaining c)) in omega (arith, l, size));
  says = tells (tail (rest_of remaining c));
}
  where
    passed : List ℕ
    passed = p.passed ++ line_of c

    size : a.longest < length passed
    size = subst (λ z. a.longest < length z)
        (front-piece mark remaining a b c told false p k ∙ ap (λ z. passed ++ z) (k.rest refl) ∙ append-nil passed) p.long

    tail : Option (List ℕ) → List ℕ
    tail None = []
    tail (Some xs) = take_through 10 xs

    behind : Option (List ℕ) → Option (List ℕ)
    behind None = None
    behind (Some xs) = Some (drop_through 10 xs)

    begins : (o : Option (List ℕ)) (bytes : List ℕ) → prepend_known passed o ≡ Some bytes →
        BeginsWith ((passed ++ tail o) ∷ []) bytes (behind o)
    begins None bytes e = cc
    begins (Some xs) bytes e =
        let is : passed ++ xs ≡ bytes = cc in
        let both = through-behind passed xs (all-both p.passed (line_of c) p.feeds k.piece) in
        let l = length-append passed xs in
        let long = ap length is in (
          omega (arith, l, long, size),
          sym (ap (take_through 10) (sym is) ∙ both.0),
          ap Some (sym (ap (drop_through 10) (sym is) ∙ both.1)),
        )

pub tells-any : {R Z : Type 0} (mark : Option ℕ) (remaining : R → Option (List ℕ)) (a b c : LineReader R Z) (told : Option Bool)
    (ends : Bool) → (p : Passing mark remaining a b told) → PassesPiece b c ends → (o : Option Bool) →
    NoteSoFar mark o (p.passed ++ line_of c) → o ≡ Some false → TellsLong mark remaining a
tells-any mark remaining a b c told ends p k o tells is =
    at ends k (subst (λ z. NoteSoFar mark z (p.passed ++ line_of c)) is tells)
  where
    at : (e : Bool) → PassesPiece b c e → NoteSoFar mark (Some false) (p.passed ++ line_of c) → TellsLong mark remaining a
    at true j t = tells-ends mark remaining a b c told p j t
    at false j t = tells-on mark remaining a b c told p j t

-- a long note is one line, and a long line that says something is met behind lines that say nothing
pub note-takes : {R Z : Type 0} (mark : Option ℕ) (remaining : R → Option (List ℕ)) (a b c : LineReader R Z) → StandsLong remaining a b →
    (k : PassesNote mark remaining b c) → c.lines ≡ one_line_more a.lines → c.longest ≡ a.longest → TakesLines remaining a c (k.line ∷ [])
note-takes mark remaining a b c h k counted longest = record {
  counted = counted;
  longest = longest;
  took = same-then (λ bytes. BeginsWith (k.line ∷ []) bytes (rest_of remaining c)) (rest_of remaining a) (rest_of remaining b)
      h.kept k.took;
}

pub meets-telling : {R Z : Type 0} (mark : Option ℕ) (remaining : R → Option (List ℕ)) (a b c : LineReader R Z) (ls : List (List ℕ)) (n : ℕ)
    → TakesLines remaining a b ls → telling mark ls ≡ [] → StandsLong remaining b c → c.longest ≡ b.longest → n ≡ one_line_more b.lines →
    TellsLong mark remaining c → MeetsTelling mark remaining a n
meets-telling mark remaining a b c ls n h none k longest named t = record {
  before = ls;
  passed = none;
  meets = record {
    line = t.line;
    rest = t.rest;
    named = named ∙ ap one_line_more h.counted ∙ sym (number-append a.lines ls (t.line ∷ []));
    took = known-append ls (t.line ∷ []) (rest_of remaining a) (rest_of remaining b) t.rest h.took
        (same-then (λ bytes. BeginsWith (t.line ∷ []) bytes t.rest) (rest_of remaining b) (rest_of remaining c) k.kept t.took);
    long = (let l = t.long in let m = h.longest in omega (arith, l, m, longest));
  };
  says = t.says;
}
