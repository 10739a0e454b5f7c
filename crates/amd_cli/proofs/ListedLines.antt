-- The lines of a list, read one after another.
use Rattle.std.proofs.Common.{◌≡◌, ℕ, Option, Some, None, List, [], ◌∷◌, ◌++◌, refl, sym, ◌∙◌, subst, append-nil}
use Rattle.std.specs.Prelude.{IfSome}
use Rattle.std.specs.List.{AllZip}
use Rattle.amd_lines.specs.Lines.{BeginsWith}
use Rattle.amd_lines.proofs.LineLemmas.{end-append}
use Rattle.amd_lines.specs.Lines.{TakesLines, TakesTelling, TakesNotes, telling, rest_of, percent}
use Rattle.amd_lines.proofs.LineLemmas.{takes-append, takes-none, telling-both}
use Rattle.amd_lines.specs.declared.lines.LineReader.{LineReader}
use Rattle.amd_cli.specs.Listed.{ListsEach}

-- one more on each side
pub each-more : {X Y : Type 0} (P : X → Y → Type 0) (xs : List X) (ys : List Y) (x : X) (y : Y) → AllZip P xs ys → P x y →
    AllZip P (xs ++ x ∷ []) (ys ++ y ∷ [])
each-more P [] [] x y h one = (one, tt)
each-more P [] (s ∷ ys) x y h one = absurd h
each-more P (k ∷ xs) [] x y h one = absurd h
each-more P (k ∷ xs) (s ∷ ys) x y h one = (h.0, each-more P xs ys x y h.1 one)

-- lines were read whose telling ones are the things
pub record ThingsSoFar {R Z X : Type 0} (remaining : R → Option (List ℕ)) (Spells : List ℕ → X → Type 0) (old new : LineReader R Z)
    (xs : List X) : Type 0 where
  pub lines : List (List ℕ)
  pub takes : TakesLines remaining old new lines
  pub spells : AllZip Spells (telling percent lines) xs

-- no line was read yet
pub things-none : {R Z X : Type 0} (remaining : R → Option (List ℕ)) (Spells : List ℕ → X → Type 0) (a : LineReader R Z) →
    ThingsSoFar remaining Spells a a []
things-none remaining Spells a = record { lines = []; takes = takes-none remaining a; spells = tt }

-- one line more
pub things-next : {R Z X : Type 0} (remaining : R → Option (List ℕ)) (Spells : List ℕ → X → Type 0) (a b c : LineReader R Z)
    (old new : List X) (line : List ℕ) (x : X) → ThingsSoFar remaining Spells a b old → TakesTelling percent remaining b c line →
    Spells line x → new ≡ old ++ x ∷ [] → ThingsSoFar remaining Spells a c new
things-next remaining Spells a b c old new line x h t one pushed = record {
  lines = h.lines ++ t.lines;
  takes = takes-append remaining a b c h.lines t.lines h.takes t.takes;
  spells = subst (AllZip Spells (telling percent (h.lines ++ t.lines))) (sym pushed)
      (subst (λ ls. AllZip Spells ls (old ++ x ∷ []))
      (sym (telling-both percent h.lines t.lines (telling percent h.lines) (line ∷ []) refl t.tells))
      (each-more Spells (telling percent h.lines) old line x h.spells one));
}

-- all lines were read
pub things-whole : {R Z X : Type 0} (remaining : R → Option (List ℕ)) (Spells : List ℕ → X → Type 0) (a b c : LineReader R Z) (input : R)
    (xs : List X) → rest_of remaining a ≡ remaining input → ThingsSoFar remaining Spells a b xs → TakesNotes percent remaining b c →
    IfSome (remaining input) (λ bytes. ListsEach Spells bytes xs)
things-whole remaining Spells a b c input xs same h end =
    let whole = takes-append remaining a b c h.lines end.lines h.takes end.takes in
    rw (← same) (known (rest_of remaining a) (rest_of remaining b) (rest_of remaining c) h.takes.took whole.took end.end)
  where
    made : (bytes : List ℕ) → BeginsWith (h.lines ++ end.lines) bytes (Some []) → ListsEach Spells bytes xs
    made bytes k = record {
      lines = h.lines ++ end.lines;
      all = k;
      spells = subst (λ ls. AllZip Spells ls xs)
          (sym (telling-both percent h.lines end.lines (telling percent h.lines)
          [] refl end.tells ∙ append-nil (telling percent h.lines))) h.spells;
    }

    known : (first mid last : Option (List ℕ)) → IfSome first (λ bs. BeginsWith h.lines bs mid) →
        IfSome first (λ bs. BeginsWith (h.lines ++ end.lines) bs last)
        → IfSome mid (λ bs. last ≡ Some []) → IfSome first (λ bytes. ListsEach Spells bytes xs)
    known None mid last k w z = tt
    known (Some bytes) mid last k w z =
        made bytes (subst (BeginsWith (h.lines ++ end.lines) bytes) (end-append h.lines (Some bytes) mid last k z) w)
