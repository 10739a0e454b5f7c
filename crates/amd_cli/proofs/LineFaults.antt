-- What the error of a list says of the lines that were read.
use Rattle.std.proofs.Common.{◌≡◌, ◌+◌, ℕ, Option, Some, None, List, [], ◌∷◌, ◌++◌, inl, inr, refl, sym}
use Rattle.std.proofs.Common.{ap, subst, ◌∙◌, append_assoc, append-nil}
use Rattle.std.specs.Prelude.{IfSome}
use Rattle.std.specs.List.{AllZip}
use Rattle.amd_lines.specs.Lines.{BeginsWith, FailsAt, TakesLines, TakesTelling, line_number, percent, rest_of, telling}
use Rattle.amd_lines.proofs.LineLemmas.{takes-append, telling-both, telling-one}
use Rattle.amd_lines.specs.declared.lines.LineReader.{LineReader}
use Rattle.amd_market.proofs.FaultLemmas.{alone}
use Rattle.amd_market.specs.Faults.{IsOfReading, IsTold, IsUnread, named_line}
use Rattle.amd_market.specs.declared.faults.ReadFault.{ReadFault}
use Rattle.amd_market.specs.declared.faults.ReadError.{ReadError}
use Rattle.amd_market.specs.declared.faults.ReadError.TheVariants as error
use Rattle.amd_cli.specs.Listed.{BlamesLine, EndAtNone, NamesNone}

-- some lines were read, the error names the last of them, and what it blames is true of them
pub record FailsAtNone {R Z X : Type 0} (remaining : R → Option (List ℕ)) (Spells : List ℕ → X → Type 0) (old : LineReader R Z)
    (e : ReadError) : Type 0 where
  pub lines : List (List ℕ)
  pub rest : Option (List ℕ)
  pub named : named_line e ≡ line_number old.lines lines
  pub took : IfSome (rest_of remaining old) (λ bytes. BeginsWith lines bytes rest)
  pub cause : BlamesLine Spells e lines

-- an error of a reader that began at the start of a text
pub names-none : {R Z X : Type 0} (remaining : R → Option (List ℕ)) (Spells : List ℕ → X → Type 0) (a : LineReader R Z) (input : R)
    (e : ReadError) → rest_of remaining a ≡ remaining input → a.lines ≡ 0 → FailsAtNone remaining Spells a e →
    IfSome (remaining input) (λ bytes. NamesNone Spells bytes e)
names-none remaining Spells a input e same none h = rw (← same) (known (rest_of remaining a) h.took)
  where
    known : (first : Option (List ℕ)) → IfSome first (λ bytes. BeginsWith h.lines bytes h.rest) →
        IfSome first (λ bytes. NamesNone Spells bytes e)
    known None k = tt
    known (Some bytes) k = record {
      lines = h.lines;
      rest = h.rest;
      named = h.named ∙ ap (λ m. line_number m h.lines) none;
      begins = k;
      cause = h.cause;
    }

blames-unread : {X : Type 0} (Spells : List ℕ → X → Type 0) (e : ReadError) (ls : List (List ℕ)) → IsUnread e → BlamesLine Spells e ls
blames-unread Spells (error.Line k f found) ls h = inl h
blames-unread Spells (error.Input k x) ls h = tt

-- a fault of reading makes an error of reading
pub told-unread : (k : ℕ) (f : ReadFault) (e : ReadError) → IsTold k f e → IsOfReading f → IsUnread e
told-unread k f e same h = subst IsUnread (sym same.1) h

-- an error of reading
pub fails-unread : {R Z X : Type 0} (remaining : R → Option (List ℕ)) (Spells : List ℕ → X → Type 0) (a : LineReader R Z) (e : ReadError) →
    FailsAt remaining a (named_line e) → IsUnread e → FailsAtNone remaining Spells a e
fails-unread remaining Spells a e h u = record {
  lines = h.lines;
  rest = h.rest;
  named = h.named;
  took = h.took;
  cause = blames-unread Spells e h.lines u;
}

-- a line that is no such thing, behind lines whose telling ones are
pub fails-none : {R Z X : Type 0} (remaining : R → Option (List ℕ)) (Spells : List ℕ → X → Type 0) (a b c : LineReader R Z)
    (is : List (List ℕ)) (xs : List X) (line : List ℕ) (e : ReadError) (f : ReadFault) → TakesLines remaining a b is →
    AllZip Spells (telling percent is) xs → TakesTelling percent remaining b c line → ((x : X) → Spells line x → ⊥) →
    IsTold c.lines f e → FailsAtNone remaining Spells a e
fails-none remaining Spells a b c is xs line e f h spells t none same = record {
  lines = is ++ t.lines;
  rest = rest_of remaining c;
  named = ap named_line same.1 ∙ whole.counted;
  took = whole.took;
  cause = subst (λ x. BlamesLine Spells x (is ++ t.lines)) (sym same.1) (inr at-end);
}
  where
    whole : TakesLines remaining a c (is ++ t.lines)
    whole = takes-append remaining a b c is t.lines h t.takes

    quiet : telling percent t.before ≡ []
    quiet = alone (telling percent t.before) line line
        (sym (telling-both percent t.before (line ∷ []) (telling percent t.before) (line ∷ []) refl (telling-one percent line t.says))
        ∙ ap (telling percent) (sym t.parts) ∙ t.tells)

    same-things : telling percent (is ++ t.before) ≡ telling percent is
    same-things = telling-both percent is t.before (telling percent is) [] refl quiet ∙ append-nil (telling percent is)

    at-end : EndAtNone Spells (is ++ t.lines)
    at-end = record {
      before = is ++ t.before;
      line = line;
      parts = ap (λ z. is ++ z) t.parts ∙ sym (append_assoc is t.before (line ∷ []));
      says = t.says;
      none = none;
      things = xs;
      spells = subst (λ ls. AllZip Spells ls xs) (sym same-things) spells;
    }
