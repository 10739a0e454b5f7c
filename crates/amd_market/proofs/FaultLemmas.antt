-- What the error of a reader says of the lines that it read.
use Rattle.std.proofs.Common.{◌≡◌, ◌≢◌, ℕ, false, List, [], ◌∷◌, ◌++◌, length, sym, ap, ◌∙◌, subst, inl, inr}
use Rattle.std.proofs.Common.{Option, Some, None, append-nil, append_assoc, Result, Ok, Err, refl, arith, length-append}
use Rattle.std.specs.Prelude.{◌⊎◌, ◌^◌, IfSome, IfErr, IsErrAnd}
use Rattle.amd_lines.specs.Lines.{BeginsWith, line_number, TakesLine, TakesLines, TakesTelling, TakesNotes, FailsAt, rest_of, percent}
use Rattle.amd_lines.specs.Lines.{MeetsLong, MeetsTelling, telling}
use Rattle.amd_market.specs.declared.found.Found.{Found}
use Rattle.amd_lines.proofs.LineLemmas.{known-append, number-append, telling-both, telling-one}
use Rattle.amd_market.specs.Faults.{named_line}
use Rattle.amd_market.specs.Faults.{IsTold, IsUnread, IsOfMachine, IfTooLong}
use Rattle.amd_market.specs.Faults.{HasBannerFault, HasKindFault, HasWordFault, header_words, banner_word, object_word, low}
use Rattle.amd_market.specs.Headers.{format_text}
use Rattle.amd_market.specs.Stops.{Stop, StopsBehind, at_line, at_long, at_end, after, all, says, NoLine, Blames, FileStops}
use Rattle.amd_market.specs.Files.{FailsFor, NamesFault}
use Rattle.amd_lines.specs.declared.lines.LineReader.{LineReader}
use Rattle.amd_market.specs.declared.faults.ReadFault.TheVariants as fault
use Rattle.amd_market.specs.declared.faults.ReadError.{ReadError}
use Rattle.amd_market.specs.declared.faults.ReadError.TheVariants as error
use Rattle.amd_market.specs.declared.headers.Format.{Format}
use Rattle.amd_market.specs.declared.faults.ReadFault.{ReadFault}

-- a stop behind more lines, where those that count are counted one by one
stops-more : {counted : List (List ℕ) → List (List ℕ)} {HasFault : ReadFault → List ℕ → Type 0} {IsEnd : ReadFault → Type 0}
    (ls before : List (List ℕ)) (s : Stop) → ((js : List (List ℕ)) → counted (ls ++ js) ≡ counted ls ++ counted js) →
    StopsBehind counted HasFault IsEnd before s → StopsBehind counted HasFault IsEnd (counted ls ++ before) (after ls s)
stops-more {counted} ls before s both (at_line passed line parts quiet here has) =
    at_line (ls ++ passed) line (ap (λ z. ls ++ z) parts ∙ sym (append_assoc ls passed (line ∷ [])))
    (both passed ∙ ap (λ z. counted ls ++ z) quiet) here has
stops-more {counted} ls before s both (at_long passed line parts quiet here long is) =
    at_long (ls ++ passed) line (ap (λ z. ls ++ z) parts ∙ sym (append_assoc ls passed (line ∷ [])))
    (both passed ∙ ap (λ z. counted ls ++ z) quiet) here long is
stops-more {counted} ls before s both (at_end quiet none is) =
    at_end (both s.lines ∙ ap (λ z. counted ls ++ z) quiet) none is

pub all-more : {HasFault : ReadFault → List ℕ → Type 0} {IsEnd : ReadFault → Type 0} (ls before : List (List ℕ)) (s : Stop) →
    StopsBehind all HasFault IsEnd before s → StopsBehind all HasFault IsEnd (ls ++ before) (after ls s)
all-more ls before s h = stops-more ls before s (λ js. refl) h

pub says-more : {HasFault : ReadFault → List ℕ → Type 0} {IsEnd : ReadFault → Type 0} (ls told before : List (List ℕ)) (s : Stop) →
    telling percent ls ≡ told → StopsBehind says HasFault IsEnd before s → StopsBehind says HasFault IsEnd (told ++ before) (after ls s)
says-more {HasFault} {IsEnd} ls told before s tells h =
    subst (λ z. StopsBehind says HasFault IsEnd (z ++ before) (after ls s)) tells
    (stops-more ls before s (λ js. telling-both percent ls js (telling percent ls) (telling percent js) refl refl) h)

-- the same of a stop that is the first
pub all-first : {HasFault : ReadFault → List ℕ → Type 0} {IsEnd : ReadFault → Type 0} (ls : List (List ℕ)) (s : Stop) →
    StopsBehind all HasFault IsEnd [] s → StopsBehind all HasFault IsEnd ls (after ls s)
all-first {HasFault} {IsEnd} ls s h = subst (λ z. StopsBehind all HasFault IsEnd z (after ls s)) (append-nil ls) (all-more ls [] s h)

pub says-first : {HasFault : ReadFault → List ℕ → Type 0} {IsEnd : ReadFault → Type 0} (ls told : List (List ℕ)) (s : Stop) →
    telling percent ls ≡ told → StopsBehind says HasFault IsEnd [] s → StopsBehind says HasFault IsEnd told (after ls s)
says-first {HasFault} {IsEnd} ls told s tells h =
    subst (λ z. StopsBehind says HasFault IsEnd z (after ls s)) (append-nil told) (says-more ls told [] s tells h)

-- a stop where any line may stand is one where some may
pub any-line : {HasFault : ReadFault → List ℕ → Type 0} {IsEnd : ReadFault → Type 0} (before : List (List ℕ)) (s : Stop) →
    StopsBehind all NoLine IsEnd before s → StopsBehind all HasFault IsEnd before s
any-line before s (at_line passed line parts quiet here has) = absurd has
any-line before s (at_long passed line parts quiet here long is) = at_long passed line parts quiet here long is
any-line before s (at_end quiet none is) = at_end quiet none is

-- what an error says of lines that were read behind others
blames-more : (P Q : Stop → Type 0) (longest : ℕ) (e : ReadError) (is js : List (List ℕ)) (rest : Option (List ℕ)) →
    ((s : Stop) → P s → Q (after is s)) → Blames P longest e js rest → Blames Q longest e (is ++ js) rest
blames-more P Q longest (error.Line n f found) is js rest more (inl h) = inl h
blames-more P Q longest (error.Line n f found) is js rest more (inr h) = inr (more _ h)
blames-more P Q longest (error.Input n x) is js rest more h = tt

-- an error behind lines that were read
pub for-behind : {R Z : Type 0} {P Q : Stop → Type 0} (remaining : R → Option (List ℕ)) (a b : LineReader R Z) (is : List (List ℕ))
    (e : ReadError) → TakesLines remaining a b is → ((s : Stop) → P s → Q (after is s)) → FailsFor P remaining b e →
    FailsFor Q remaining a e
for-behind {P = P} {Q = Q} remaining a b is e h more k = record {
  lines = is ++ k.lines;
  rest = k.rest;
  named = k.named ∙ ap (λ n. line_number n k.lines) h.counted ∙ sym (number-append a.lines is k.lines);
  took = known-append is k.lines _ _ k.rest h.took k.took;
  cause = subst (λ z. Blames Q z e (is ++ k.lines) k.rest) h.longest (blames-more P Q b.longest e is k.lines k.rest more k.cause);
}

-- what is more than true of a stop
pub for-weaker : {R Z : Type 0} {P Q : Stop → Type 0} (remaining : R → Option (List ℕ)) (a : LineReader R Z) (e : ReadError) →
    ((s : Stop) → P s → Q s) → FailsFor P remaining a e → FailsFor Q remaining a e
for-weaker {P = P} {Q = Q} remaining a e more k = record {
  lines = k.lines;
  rest = k.rest;
  named = k.named;
  took = k.took;
  cause = at e k.cause;
}
  where
    at : (x : ReadError) → Blames P a.longest x k.lines k.rest → Blames Q a.longest x k.lines k.rest
    at (error.Line n f found) (inl h) = inl h
    at (error.Line n f found) (inr h) = inr (more _ h)
    at (error.Input n x) h = tt

-- a fault of the lines that were read
pub for-here : {R Z : Type 0} {P : Stop → Type 0} (remaining : R → Option (List ℕ)) (a b : LineReader R Z) (is : List (List ℕ))
    (e : ReadError) (f : ReadFault) → TakesLines remaining a b is → IsTold b.lines f e →
    IsOfMachine f ⊎ P (record { fault = f; lines = is; rest = rest_of remaining b; longest = a.longest }) → FailsFor P remaining a e
for-here {P = P} remaining a b is e f h same k = record {
  lines = is;
  rest = rest_of remaining b;
  named = ap named_line same.1 ∙ h.counted;
  took = h.took;
  cause = subst (λ z. Blames P a.longest z is (rest_of remaining b)) (sym same.1) k;
}

-- a fault that no text has
pub for-machine : {R Z : Type 0} {P : Stop → Type 0} (remaining : R → Option (List ℕ)) (a b : LineReader R Z) (is : List (List ℕ))
    (e : ReadError) (f : ReadFault) → TakesLines remaining a b is → IsTold b.lines f e → IsOfMachine f → FailsFor P remaining a e
for-machine remaining a b is e f h same m = for-here remaining a b is e f h same (inl m)

-- the next line was not read: it is too long, or no text has the fault
for-stop : {R Z : Type 0} {P : Stop → Type 0} (remaining : R → Option (List ℕ)) (a : LineReader R Z) (e : ReadError) →
    FailsAt remaining a (named_line e) → IsUnread e →
    ((n : ℕ) → (found : Option Found) → e ≡ error.Line n fault.Long found → FailsFor P remaining a e) → FailsFor P remaining a e
for-stop remaining a (error.Line n fault.Long found) h u long = long n found refl
for-stop remaining a (error.Line n fault.Lines found) h u long =
    record { lines = h.lines; rest = h.rest; named = h.named; took = h.took; cause = inl tt }
for-stop remaining a (error.Line n fault.OutOfMemory found) h u long =
    record { lines = h.lines; rest = h.rest; named = h.named; took = h.took; cause = inl tt }
for-stop remaining a (error.Line n f found) h u long = absurd u
for-stop remaining a (error.Input n x) h u long =
    record { lines = h.lines; rest = h.rest; named = h.named; took = h.took; cause = tt }

-- of the next line that says something
pub for-unread : {R Z : Type 0} {HasFault : ReadFault → List ℕ → Type 0} {IsEnd : ReadFault → Type 0} (remaining : R → Option (List ℕ))
    (a : LineReader R Z) (e : ReadError) → FailsAt remaining a (named_line e) → IsUnread e →
    IfTooLong e (MeetsTelling percent remaining a (named_line e)) → FailsFor (StopsBehind says HasFault IsEnd []) remaining a e
for-unread {HasFault} {IsEnd} remaining a e h u long =
    for-stop {P = StopsBehind says HasFault IsEnd []} remaining a e h u (λ n found is.
    let m = subst (λ x. IfTooLong x (MeetsTelling percent remaining a (named_line x))) is long in
    subst (λ x. FailsFor (StopsBehind says HasFault IsEnd []) remaining a x) (sym is) (record {
      lines = m.before ++ m.meets.line ∷ [];
      rest = m.meets.rest;
      named = m.meets.named;
      took = m.meets.took;
      cause = inr (at_long m.before m.meets.line refl m.passed (telling-one percent m.meets.line m.says) m.meets.long refl);
    }))

-- of the next line of all
pub for-no-line : {R Z : Type 0} {HasFault : ReadFault → List ℕ → Type 0} {IsEnd : ReadFault → Type 0} (remaining : R → Option (List ℕ))
    (a : LineReader R Z) (e : ReadError) → FailsAt remaining a (named_line e) → IsUnread e →
    IfTooLong e (MeetsLong remaining a [] (named_line e)) → FailsFor (StopsBehind all HasFault IsEnd []) remaining a e
for-no-line {HasFault} {IsEnd} remaining a e h u long =
    for-stop {P = StopsBehind all HasFault IsEnd []} remaining a e h u (λ n found is.
    let m = subst (λ x. IfTooLong x (MeetsLong remaining a [] (named_line x))) is long in
    subst (λ x. FailsFor (StopsBehind all HasFault IsEnd []) remaining a x) (sym is) (record {
      lines = m.line ∷ [];
      rest = m.rest;
      named = m.named;
      took = m.took;
      cause = inr (at_long [] m.line refl refl refl m.long refl);
    }))

-- the text ends, and no line is left
pub for-last : {R Z : Type 0} {HasFault : ReadFault → List ℕ → Type 0} {IsEnd : ReadFault → Type 0} (remaining : R → Option (List ℕ))
    (a b : LineReader R Z) (e : ReadError) (f : ReadFault) → TakesLine remaining a b false → IsTold b.lines f e → IsEnd f →
    FailsFor (StopsBehind all HasFault IsEnd []) remaining a e
for-last {HasFault} {IsEnd} remaining a b e f h same is = record {
  lines = [];
  rest = Some [];
  named = ap named_line same.1 ∙ h.counted;
  took = none (rest_of remaining a) h.took;
  cause = subst (λ z. Blames (StopsBehind all HasFault IsEnd []) a.longest z [] (Some [])) (sym same.1) (inr (at_end refl refl is));
}
  where
    none : (o : Option (List ℕ)) → IfSome o (λ bytes. (bytes ≡ []) × (rest_of remaining b ≡ Some [])) →
        IfSome o (λ bytes. Some [] ≡ Some bytes)
    none None k = tt
    none (Some bytes) k = ap Some (sym k.0)

at-end : (ls : List (List ℕ)) (first rest : Option (List ℕ)) → IfSome first (λ bytes. BeginsWith ls bytes rest) →
    IfSome first (λ bytes. rest ≡ Some []) → IfSome first (λ bytes. BeginsWith ls bytes (Some []))
at-end ls None rest h k = tt
at-end ls (Some bytes) rest h k = subst (BeginsWith ls bytes) k h

-- what comes before the one element of a list is empty
pub alone : (xs : List (List ℕ)) (y z : List ℕ) → xs ++ y ∷ [] ≡ z ∷ [] → xs ≡ []
alone [] y z h = refl
alone (x ∷ xs) y z h = (let e = ap length h in let k = length-append xs (y ∷ []) in absurd (omega (arith, e, k)))

-- an error of a reader that began at the start of a text
pub names-fault : {R Z : Type 0} (remaining : R → Option (List ℕ)) (a : LineReader R Z) (input : R) (e : ReadError) →
    rest_of remaining a ≡ remaining input → a.lines ≡ 0 → a.longest ≡ 2 ^ 16 → FailsFor FileStops remaining a e →
    IfSome (remaining input) (λ bytes. NamesFault bytes e)
names-fault remaining a input e same none longest h = rw (← same) (known (rest_of remaining a) h.took)
  where
    known : (first : Option (List ℕ)) → IfSome first (λ bytes. BeginsWith h.lines bytes h.rest) → IfSome first (λ bytes. NamesFault bytes e)
    known None k = tt
    known (Some bytes) k = record {
      lines = h.lines;
      rest = h.rest;
      named = h.named ∙ ap (λ n. line_number n h.lines) none;
      begins = k;
      cause = subst (λ z. Blames FileStops z e h.lines h.rest) longest h.cause;
    }

-- a first line that lacks the banner
pub no-banner : (f : ReadFault) (line : List ℕ) → HasBannerFault f line →
    ((vs : List (List ℕ)) → header_words line ≢ banner_word ∷ vs) → HasWordFault f line
no-banner fault.Gzip line h none = h
no-banner fault.Banner line h none = (h, none)
no-banner f line h none = absurd h

-- a first line with another field or symmetry
pub no-kind : (f : ReadFault) (line : List ℕ) (ws us ts : List (List ℕ)) (g : Format) → header_words line ≡ banner_word ∷ us →
    us ≡ object_word ∷ ts → ts ≡ low (format_text g) ∷ ws → HasKindFault f ws → HasWordFault f line
no-kind fault.Field line ws us ts g h k m bad = (g, (ws, (h ∙ ap (λ z. banner_word ∷ z) (k ∙ ap (λ z. object_word ∷ z) m), bad)))
no-kind fault.Symmetry line ws us ts g h k m bad = (g, (ws, (h ∙ ap (λ z. banner_word ∷ z) (k ∙ ap (λ z. object_word ∷ z) m), bad)))
no-kind f line ws us ts g h k m bad = absurd bad

-- what is true of an error is true of the one that is handed on in its place
pub handed-on : {T E : Type 0} {x : E} (Q : E → Type 0) (r : Result T E) → IsErrAnd r (λ e. e ≡ x) → Q x → IfErr r Q
handed-on Q (Ok v) h q = absurd h
handed-on Q (Err e) h q = subst Q (sym h) q

module _ {R Z : Type 0} {remaining : R → Option (List ℕ)} {a b : LineReader R Z} {e : ReadError} {f : ReadFault}
    {HasFault : ReadFault → List ℕ → Type 0} {IsEnd : ReadFault → Type 0} where
  -- a fault of the words of the line that says something
  pub for-words : {line : List ℕ} → TakesTelling percent remaining a b line → IsTold b.lines f e → HasFault f line →
      FailsFor (StopsBehind says HasFault IsEnd []) remaining a e
  for-words {line} h told has = for-here remaining a b h.lines e f h.takes told
      (inr (at_line h.before line h.parts quiet here has))
    where
      here : says (line ∷ []) ≡ line ∷ []
      here = telling-one percent line h.says

      quiet : says h.before ≡ []
      quiet = alone (says h.before) line line
          (sym (telling-both percent h.before (line ∷ []) (says h.before) (line ∷ []) refl here)
          ∙ ap (telling percent) (sym h.parts) ∙ h.tells)

  -- a fault of a text that ends where a line was to come
  pub for-missing : TakesNotes percent remaining a b → IsTold b.lines f e → IsEnd f →
      FailsFor (StopsBehind says HasFault IsEnd []) remaining a e
  for-missing h told is = record {
    lines = h.lines;
    rest = Some [];
    named = ap named_line told.1 ∙ h.takes.counted;
    took = at-end h.lines (rest_of remaining a) (rest_of remaining b) h.takes.took h.end;
    cause = subst (λ z. Blames (StopsBehind says HasFault IsEnd []) a.longest z h.lines (Some [])) (sym told.1)
        (inr (at_end h.tells refl is));
  }

  -- a fault of the next line of all
  pub for-line : {line : List ℕ} → TakesLines remaining a b (line ∷ []) → IsTold b.lines f e → HasFault f line →
      FailsFor (StopsBehind all HasFault IsEnd []) remaining a e
  for-line {line} h told has = for-here remaining a b (line ∷ []) e f h told (inr (at_line [] line refl refl refl has))
