-- The lines of entries, read and written at their places one after another.
use Rattle.std.proofs.Common.{◌≡◌, ◌++◌, ◌∙◌, ℕ, false, Option, Some, None, List, [], ◌∷◌, length}
use Rattle.std.proofs.Common.{ap, append_assoc, append-nil, refl, subst, sym}
use Rattle.std.proofs.lemmas.Grind.{flat_map-append}
use Rattle.std.specs.Prelude.{IfSome, flat_map}
use Rattle.std.specs.List.{AllZip}
use Rattle.amd_lines.specs.Lines.{BeginsWith, TakesLines, TakesNotes, TakesTelling, percent, rest_of, telling}
use Rattle.amd_lines.specs.declared.lines.LineReader.{LineReader}
use Rattle.amd_lines.proofs.LineLemmas.{end-append, takes-append, telling-both}
use Rattle.amd_market.specs.Headers.{SpellsHeader, is_array}
use Rattle.amd_market.specs.declared.headers.Header.{Header}
use Rattle.amd_cli.specs.Valued.{PlacesText, SpellsValued, TakesListed, TakesPlaced, Valued, ended, placed_text}
use Rattle.amd_cli.proofs.ListedLines.{ThingsSoFar, things-next, things-none}

-- lines were read whose telling ones are entries, and these were written
pub record PlacedSoFar {R Z : Type 0} (remaining : R → Option (List ℕ)) (old new : LineReader R Z) (h : Header)
    (places before after : List ℕ) : Type 0 where
  pub entries : List Valued
  pub so_far : ThingsSoFar remaining (SpellsValued h.field (length places)) old new entries
  pub placed : after ≡ before ++ flat_map (placed_text h.symmetry places) entries

pub placed-none : {R Z : Type 0} (remaining : R → Option (List ℕ)) (a : LineReader R Z) (h : Header) (places before : List ℕ) →
    PlacedSoFar remaining a a h places before before
placed-none remaining a h places before = record {
  entries = [];
  so_far = things-none remaining _ a;
  placed = sym (append-nil before);
}

-- one entry more
pub placed-next : {R Z : Type 0} (remaining : R → Option (List ℕ)) (a b c : LineReader R Z) (h : Header)
    (places before mid after line : List ℕ) (e : Valued) → PlacedSoFar remaining a b h places before mid →
    TakesTelling percent remaining b c line → SpellsValued h.field (length places) line e →
    after ≡ mid ++ placed_text h.symmetry places e → PlacedSoFar remaining a c h places before after
placed-next remaining a b c h places before mid after line e k t one pushed =
    let f : Valued → List ℕ = placed_text h.symmetry places in
    record {
      entries = k.entries ++ e ∷ [];
      so_far = things-next remaining _ a b c k.entries _ line e k.so_far t one refl;
      placed = pushed
          ∙ ap (λ z. z ++ f e) k.placed
          ∙ append_assoc before (flat_map f k.entries) (f e)
          ∙ ap (λ z. before ++ (flat_map f k.entries ++ z)) (sym (append-nil (f e)))
          ∙ ap (λ z. before ++ z) (sym (flat_map-append f k.entries (e ∷ [])));
    }

-- all lines were read
pub placed-whole : {R Z : Type 0} (remaining : R → Option (List ℕ)) (a b c : LineReader R Z) (h : Header) (places before after : List ℕ) →
    PlacedSoFar remaining a b h places before after → TakesNotes percent remaining b c → TakesPlaced remaining a c h places before after
placed-whole remaining a b c h places before after k end =
    let lines = k.so_far.lines in
    record {
      lines = lines ++ end.lines;
      takes = takes-append remaining a b c lines end.lines k.so_far.takes end.takes;
      end = end-append lines _ _ _ k.so_far.takes.took end.end;
      entries = k.entries;
      spells = subst (λ ls. AllZip (SpellsValued h.field (length places)) ls k.entries)
          (sym (telling-both percent lines end.lines (telling percent lines) [] refl end.tells ∙ append-nil (telling percent lines)))
          k.so_far.spells;
      placed = k.placed;
    }

-- the line of the size stands before them
pub listed-whole : {R Z : Type 0} (remaining : R → Option (List ℕ)) (a b c : LineReader R Z) (h : Header)
    (places before mid after line : List ℕ) → TakesTelling percent remaining a b line → mid ≡ before ++ ended line →
    TakesPlaced remaining b c h places mid after → TakesListed remaining a c h places before after
listed-whole remaining a b c h places before mid after line t wrote k = record {
  lines = t.lines ++ k.lines;
  takes = takes-append remaining a b c t.lines k.lines t.takes k.takes;
  end = end-append t.lines _ _ _ t.takes.took k.end;
  size_line = line;
  entry_lines = telling percent k.lines;
  parts = telling-both percent t.lines k.lines (line ∷ []) (telling percent k.lines) t.tells refl;
  entries = k.entries;
  spells = k.spells;
  placed = k.placed ∙ ap (λ z. z ++ flat_map (placed_text h.symmetry places) k.entries) wrote;
}

-- and the first line before that
pub text-whole : {R Z : Type 0} (remaining : R → Option (List ℕ)) (a b c : LineReader R Z) (input : R) (h : Header)
    (places mid text line : List ℕ) → rest_of remaining a ≡ remaining input → TakesLines remaining a b (line ∷ []) →
    SpellsHeader line h → is_array h.format ≡ false → mid ≡ ended line → TakesListed remaining b c h places mid text →
    IfSome (remaining input) (λ bytes. PlacesText bytes places text)
text-whole remaining a b c input h places mid text line same first spells lists wrote k =
    let whole = takes-append remaining a b c (line ∷ []) k.lines first k.takes in
    rw (← same) (known (rest_of remaining a) whole.took (end-append (line ∷ []) _ _ _ first.took k.end))
  where
    known : (start : Option (List ℕ)) → IfSome start (λ bs. BeginsWith (line ∷ k.lines) bs (rest_of remaining c)) →
        IfSome start (λ bs. rest_of remaining c ≡ Some []) → IfSome start (λ bytes. PlacesText bytes places text)
    known None w z = tt
    known (Some bytes) w z = record {
      first = line;
      others = k.lines;
      lines = subst (BeginsWith (line ∷ k.lines) bytes) z w;
      header = h;
      has_header = spells;
      lists = lists;
      size_line = k.size_line;
      entry_lines = k.entry_lines;
      parts = k.parts;
      entries = k.entries;
      spells = k.spells;
      placed = k.placed ∙ ap (λ z. (z ++ ended k.size_line) ++ flat_map (placed_text h.symmetry places) k.entries) wrote;
    }
