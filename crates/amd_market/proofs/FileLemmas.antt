-- The parts of a file, read one after another.
use Rattle.std.proofs.Common.{◌≡◌, ◌+◌, ◌<◌, ℕ, true, false, Option, Some, None, List, [], ◌∷◌, ◌++◌, length, length-append}
use Rattle.std.proofs.Common.{refl, sym, ap, ◌∙◌, subst}
use Rattle.std.proofs.Common.{append-nil}
use Rattle.std.specs.Prelude.{IfSome, flat_map, All}
use Rattle.std.proofs.lemmas.Grind.{flat_map-append}
use Rattle.amd_market.specs.Headers.{SpellsHeader, pairs_of}
use Rattle.amd_market.specs.Entries.{SpellsSize, SpellsEntry, SpellsEntries}
use Rattle.amd_market.specs.Headers.{is_array}
use Rattle.amd_market.specs.Arrays.{SpellsShape, SpellsArray}
use Rattle.amd_market.specs.Boeing.{SpellsBoeing}
use Rattle.amd_market.specs.Faults.{HasHeaderFault}
use Rattle.amd_lines.specs.Lines.{BeginsWith, TakesLines, TakesTelling, TakesNotes, telling, rest_of, percent}
use Rattle.amd_lines.proofs.LineLemmas.{end-append, takes-append, takes-none, telling-both}
use Rattle.amd_market.specs.Faults.{IsTold, IsOfMachine}
use Rattle.amd_market.specs.Stops.{Stop, EntryStops, EntriesStop}
use Rattle.amd_market.specs.Columns.{HoldsOnce}
use Rattle.amd_market.specs.Files.{TakesEntries, TakesBody, SpellsBody, SpellsFile, market, boeing, FailsFor}
use Rattle.amd_market.proofs.EntryLemmas.{Inside, entries-more, all-inside}
use Rattle.amd_market.specs.declared.headers.Format.{Format}
use Rattle.amd_market.specs.declared.headers.Format.TheVariants.{Coordinate, Array}
use Rattle.amd_market.specs.declared.headers.Header.{Header}
use Rattle.amd_market.specs.declared.sources.Source.{Source}
use Rattle.amd_market.specs.declared.sources.Source.TheVariants as source
use Rattle.amd_market.specs.declared.faults.ReadFault.TheVariants as fault
use Rattle.amd_lines.specs.declared.lines.LineReader.{LineReader}
use Rattle.amd_market.proofs.FaultLemmas.{for-behind, for-machine}
use Rattle.amd_market.proofs.StopLemmas.{entry-behind}
use Rattle.amd_market.specs.declared.faults.ReadFault.{ReadFault}
use Rattle.amd_market.specs.declared.faults.ReadError.{ReadError}

-- no entry was read yet
pub entries-none : {R Z : Type 0} (remaining : R → Option (List ℕ)) (a : LineReader R Z) (header : Header) (n : ℕ) (ps : List (ℕ × ℕ)) →
    ps ≡ []
    → TakesEntries remaining a a header n 0 ps
entries-none remaining a header n ps h = record {
  lines = [];
  takes = takes-none remaining a;
  entries = [];
  counted = refl;
  spells =
      tt;
  pairs_are = h;
}

-- one entry more
pub entries-next : {R Z : Type 0} (remaining : R → Option (List ℕ)) (a b c : LineReader R Z) (header : Header) (n k : ℕ)
    (ps qs : List (ℕ × ℕ))
    (line : List ℕ) (e : ℕ × ℕ) → TakesEntries remaining a b header n k ps → TakesTelling percent remaining b c line →
    SpellsEntry header.field n line e
    → qs ≡ ps ++ pairs_of header.symmetry e → TakesEntries remaining a c header n (k + 1) qs
entries-next remaining a b c header n k ps qs line e h t one more = record {
  lines = h.lines ++ t.lines;
  takes = takes-append remaining a b c h.lines t.lines h.takes t.takes;
  entries = h.entries ++ e ∷ [];
  counted = (let l = length-append h.entries (e ∷ []) in let m = h.counted in l ∙ ap (λ z. z + 1) m);
  spells = subst (λ ls. SpellsEntries header.field n ls (h.entries ++ e ∷ []))
      (sym (telling-both percent h.lines t.lines (telling percent h.lines) (line ∷ []) refl t.tells))
      (entries-more header.field n (telling percent h.lines) h.entries line e h.spells one);
  pairs_are = more ∙ ap (λ z. z ++ pairs_of header.symmetry e) h.pairs_are
      ∙ sym (flat_map-append (pairs_of header.symmetry) h.entries (e ∷ []) ∙
      ap (λ z. flat_map (pairs_of header.symmetry) h.entries ++ z) (append-nil (pairs_of header.symmetry e)));
}

module _ {R Z : Type 0} {remaining : R → Option (List ℕ)} {a b : LineReader R Z} {header : Header} {n k : ℕ} {ps : List (ℕ × ℕ)}
    (read : TakesEntries remaining a b header n k ps) where
  -- an error behind the entries
  pub entries-behind : {told : ℕ} {e : ReadError} → k < told → FailsFor (EntryStops header.field n k told []) remaining b e →
      FailsFor (EntriesStop header.field n told []) remaining a e
  entries-behind {told} {e} few fails =
      for-behind remaining a b read.lines e read.takes (λ s h. entry-behind remaining a b header n k told ps read s few h) fails

  module _ {c : LineReader R Z} {entry : ℕ × ℕ}
      (next : (line : List ℕ) × TakesTelling percent remaining b c line × SpellsEntry header.field n line entry) where
    -- a fault that no text has behind one entry more
    pub entries-stopped : {P : Stop → Type 0} {e : ReadError} {f : ReadFault} → IsTold c.lines f e → IsOfMachine f →
        FailsFor P remaining a e
    entries-stopped {e = e} {f = f} told is =
        for-machine remaining a c (read.lines ++ next.1.lines) e f
        (takes-append remaining a b c read.lines next.1.lines read.takes next.1.takes) told is

    pub entries-and : {qs : List (ℕ × ℕ)} → qs ≡ ps ++ pairs_of header.symmetry entry → TakesEntries remaining a c header n (k + 1) qs
    entries-and {qs} more = entries-next remaining a b c header n k ps qs next.0 entry read next.1 next.2 more

-- the pairs that were read lie in the matrix
pub pairs-inside : {R Z : Type 0} (remaining : R → Option (List ℕ)) (a b : LineReader R Z) (header : Header) (n k : ℕ) (ps : List (ℕ × ℕ))
    → TakesEntries remaining a b header n k ps → All {X = ℕ × ℕ} (Inside n) ps
pairs-inside remaining a b header n k ps h =
    let P : List (ℕ × ℕ) → Type 0 = λ z. All {X = ℕ × ℕ} (Inside n) z in
    subst P (sym h.pairs_are) (all-inside header.field n header.symmetry (telling percent h.lines) h.entries h.spells)

-- the lines of a size, of the entries, and of notes up to the end
pub body-whole : {R Z : Type 0} (remaining : R → Option (List ℕ)) (a b c d : LineReader R Z) (size_line : List ℕ) (ls : List (List ℕ))
    (header : Header) (n : ℕ) (pairs entries : List (ℕ × ℕ)) → TakesTelling percent remaining a b size_line → TakesLines remaining b c ls →
    TakesNotes percent remaining c d → SpellsBody header.format header n size_line (telling percent ls) entries →
    pairs ≡ flat_map (pairs_of header.symmetry) entries → TakesBody remaining a d header n pairs
body-whole remaining a b c d size_line ls header n pairs entries first second third spells are =
    let both = takes-append remaining a b c first.lines ls first.takes second in record {
      lines = (first.lines ++ ls) ++ third.lines;
      takes = takes-append remaining a c d (first.lines ++ ls) third.lines both third.takes;
      end = end-append (first.lines ++ ls) _ _ _ both.took third.end;
      size_line = size_line;
      entry_lines = telling percent ls;
      parts = telling-both percent (first.lines ++ ls) third.lines (size_line ∷ telling percent ls) []
          (telling-both percent first.lines ls (size_line ∷ []) (telling percent ls) first.tells refl) third.tells ∙
          append-nil (size_line ∷ telling percent ls);
      entries = entries;
      has_body = spells;
      pairs_are = are;
    }

-- the body of a format that lists entries, and of one that lists places
pub listed-body : (f : Format) (h : Header) (n : ℕ) (size_line : List ℕ) (ls : List (List ℕ)) (es : List (ℕ × ℕ)) → is_array f ≡ false →
    SpellsSize size_line n n (length es) → SpellsEntries h.field n ls es → SpellsBody f h n size_line ls es
listed-body Coordinate h n size_line ls es is size spells = (size, spells)
listed-body Array h n size_line ls es is size spells = cc

pub array-body : (f : Format) (h : Header) (n : ℕ) (size_line : List ℕ) (ls : List (List ℕ)) (es : List (ℕ × ℕ)) → is_array f ≡ true →
    SpellsShape size_line n n → SpellsArray h.field h.symmetry n ls es → SpellsBody f h n size_line ls es
array-body Array h n size_line ls es is size spells = (size, spells)
array-body Coordinate h n size_line ls es is size spells = cc

-- all lines of a file of the Matrix Market
pub market-whole : {R Z : Type 0} (remaining : R → Option (List ℕ)) (a b c : LineReader R Z) (input : R) (line : List ℕ) (header : Header)
    (s : Source) (n : ℕ) (ps : List (ℕ × ℕ)) (ap' ai : List ℕ) (repeats : ℕ) → rest_of remaining a ≡ remaining input →
    TakesLines remaining a b (line ∷ []) → SpellsHeader line header → s ≡ source.Market header → TakesBody remaining b c header n ps →
    HoldsOnce n ps ap' ai repeats → IfSome (remaining input) (λ bytes. SpellsFile bytes s n ap' ai repeats)
market-whole remaining a b c input line header s n ps ap' ai repeats same first head told body holds =
    let whole = takes-append remaining a b c (line ∷ []) body.lines first body.takes in
    rw (← same) (known (rest_of remaining a) (rest_of remaining c) whole.took (end-append (line ∷ []) _ _ _ first.took body.end))
  where
    made : (bytes : List ℕ) → BeginsWith (line ∷ body.lines) bytes (Some []) → SpellsFile bytes s n ap' ai repeats
    made bytes h = market header told (record {
      first = line;
      others = body.lines;
      lines = h;
      has_header = head;
      size_line = body.size_line;
      entry_lines = body.entry_lines;
      parts = body.parts;
      entries = body.entries;
      has_body = body.has_body;
      matrix = subst (λ z. HoldsOnce n z ap' ai repeats) body.pairs_are holds;
    })

    known : (first' last : Option (List ℕ)) → IfSome first' (λ bs. BeginsWith (line ∷ body.lines) bs last) →
        IfSome first' (λ bs. last ≡ Some []) → IfSome first' (λ bytes. SpellsFile bytes s n ap' ai repeats)
    known None last w z = tt
    known (Some bytes) last w z = made bytes (subst (BeginsWith (line ∷ body.lines) bytes) z w)

-- the lines of a Harwell-Boeing file that are read
pub boeing-whole : {R Z : Type 0} (remaining : R → Option (List ℕ)) (a b c : LineReader R Z) (input : R) (line : List ℕ)
    (ls : List (List ℕ)) (s : Source) (n : ℕ) (ap' ai : List ℕ) (repeats : ℕ) → rest_of remaining a ≡ remaining input →
    TakesLines remaining a b (line ∷ []) → HasHeaderFault fault.Banner line → TakesLines remaining b c ls →
    SpellsBoeing ls s n ap' ai repeats → IfSome (remaining input) (λ bytes. SpellsFile bytes s n ap' ai repeats)
boeing-whole remaining a b c input line ls s n ap' ai repeats same first none behind spells =
    let whole = takes-append remaining a b c (line ∷ []) ls first behind in
    rw (← same) (known (rest_of remaining a) (rest_of remaining c) whole.took)
  where
    known : (first' last : Option (List ℕ)) → IfSome first' (λ bs. BeginsWith (line ∷ ls) bs last) →
        IfSome first' (λ bytes. SpellsFile bytes s n ap' ai repeats)
    known None last w = tt
    known (Some bytes) last w = boeing line ls last none w spells
