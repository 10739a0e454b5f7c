-- Lines that were read one after another, and the items that they spell.
use Rattle.std.proofs.Common.{◌≡◌, ℕ, ℤ, Option, None, List, [], ◌∷◌, ◌++◌, refl, sym, ap, ◌∙◌, subst}
use Rattle.amd_lines.specs.Lines.{TakesLines, TakesTelling, FailsAt}
use Rattle.amd_lines.specs.declared.lines.LineReader.{LineReader}
use Rattle.amd_lines.specs.declared.errors.LineCause.{LineCause}
use Rattle.amd_lines.specs.declared.errors.LineCause.TheVariants as cause
use Rattle.amd_lines.proofs.LineLemmas.{takes-append, takes-none, telling-both, fails-behind, fails-here}
use Rattle.amd_cases.specs.Items.{SpellsItem}
use Rattle.amd_cases.specs.Reading.{TakesItems, SpellsItems, ReadsBody, ReadsCase, NamesLast, case_error, worded}
use Rattle.amd_cases.specs.declared.cases.Case.{Case}
use Rattle.amd_cases.specs.declared.items.Item.{Item}
use Rattle.amd_cases.specs.declared.items.Item.TheVariants as item
use Rattle.amd_cases.specs.declared.faults.CaseFault.{CaseFault}
use Rattle.amd_cases.specs.declared.reader.CaseError.{CaseError}
use Rattle.amd_cases.specs.declared.reader.CaseError.TheVariants as error

spells-append : {Z : Type 0} (ls ks : List (List ℕ)) (is js : List (Item Z)) → SpellsItems ls is → SpellsItems ks js →
    SpellsItems (ls ++ ks) (is ++ js)
spells-append [] ks [] js h k = k
spells-append (l ∷ ls) ks (i ∷ is) js h k = (h.0, spells-append ls ks is js h.1 k)
spells-append [] ks (i ∷ is) js h k = absurd h
spells-append (l ∷ ls) ks [] js h k = absurd h

-- two readings of items in turn are one
pub items-append : {R Z : Type 0} (remaining : R → Option (List ℕ)) (a b c : LineReader R Z) (is js : List (Item Z)) →
    TakesItems remaining a b is → TakesItems remaining b c js → TakesItems remaining a c (is ++ js)
items-append remaining a b c is js h k = record {
  lines = h.lines ++ k.lines;
  takes = takes-append remaining a b c h.lines k.lines h.takes k.takes;
  spells =
      subst (λ t. SpellsItems t (is ++ js)) (sym (telling-both None h.lines k.lines (worded h.lines) (worded k.lines) refl refl))
      (spells-append (worded h.lines) (worded k.lines) is js h.spells k.spells);
}

-- no item was read yet
pub items-none : {R Z : Type 0} (remaining : R → Option (List ℕ)) (a : LineReader R Z) → TakesItems remaining a a []
items-none remaining a = record { lines = []; takes = takes-none remaining a; spells = tt }

-- the line of the number, and then the body
pub case-behind : {R Z : Type 0} (remaining : R → Option (List ℕ)) (a b c : LineReader R Z) (i : Item Z) (k number : ℤ) (case : Case Z) →
    TakesItems remaining a b (i ∷ []) → i ≡ item.Case k → ReadsBody remaining b c number case → number ≡ k →
    ReadsCase remaining a c case
case-behind remaining a b c i k number case h same body named = record {
  items = item.Case number ∷ body.items;
  takes =
      items-append remaining a b c (item.Case number ∷ []) body.items
      (subst (λ j. TakesItems remaining a b (j ∷ [])) (same ∙ ap item.Case (sym named)) h) body.takes;
  spells = body.spells;
}

-- one line that has a word
pub takes-item : {R Z : Type 0} (remaining : R → Option (List ℕ)) (a b : LineReader R Z) (line : List ℕ) (i : Item Z) →
    TakesTelling None remaining a b line → SpellsItem line i → TakesItems remaining a b (i ∷ [])
takes-item remaining a b line i h one = record {
  lines = h.lines;
  takes = h.takes;
  spells = subst (λ ls. SpellsItems ls (i ∷ [])) (sym h.tells) (one, tt);
}

-- a line that was not read
pub names-unread : {R Z : Type 0} (remaining : R → Option (List ℕ)) (a b : LineReader R Z) (line : ℕ) (c : LineCause) (e : CaseError) →
    e ≡ case_error line c → FailsAt remaining a line → line ≡ b.lines → NamesLast remaining a b e
names-unread remaining a b line cause.Long e same h n = rw same (record { counted = n; fails = h })
names-unread remaining a b line cause.Lines e same h n = rw same (record { counted = n; fails = h })
names-unread remaining a b line cause.OutOfMemory e same h n = rw same (record { counted = n; fails = h })
names-unread remaining a b line (cause.Input x) e same h n = rw same (record { counted = n; fails = h })

-- a fault of the last of the lines that were read
pub names-last : {R Z : Type 0} (remaining : R → Option (List ℕ)) (a b : LineReader R Z) (ls : List (List ℕ)) (f : CaseFault)
    (e : CaseError) → TakesLines remaining a b ls → e ≡ error.Line b.lines f → NamesLast remaining a b e
names-last remaining a b ls f e h same = rw same (record { counted = refl; fails = fails-here remaining a b ls b.lines h refl })

-- an error behind lines that were read
pub names-behind : {R Z : Type 0} (remaining : R → Option (List ℕ)) (a b c : LineReader R Z) (ls : List (List ℕ)) (e : CaseError) →
    TakesLines remaining a b ls → NamesLast remaining b c e → NamesLast remaining a c e
names-behind remaining a b c ls (error.Line n f) h k = record { counted = k.counted; fails = fails-behind remaining a b ls n h k.fails }
names-behind remaining a b c ls (error.Input n x) h k = record { counted = k.counted; fails = fails-behind remaining a b ls n h k.fails }
names-behind remaining a b c ls error.Stopped h k = tt
