-- The lines of a list of rows, read one after another.
use Rattle.std.proofs.Common.{◌≡◌, ◌≢◌, ◌≤◌, ◌⊎◌, ℕ, zero, suc, Bool, true, false, Option, Some, None, List, [], ◌∷◌, ◌++◌, inl, inr}
use Rattle.std.proofs.Common.{length, refl, sym, ◌∙◌, subst, append-nil, arith, set, replicate}
use Rattle.std.specs.Prelude.{IfSome, Contains, slice_index_or, ◌<◌, ◌↔◌}
use Rattle.std.proofs.lemmas.Bool.{cases_lt, cases_eq}
use Rattle.std.proofs.lemmas.List.{length-replicate, length-set, get_or-set_same, get_or-set_other, get_or-replicate, get_or_past}
use Rattle.std.proofs.lemmas.List.Elements.{Contains-append_left, Contains-append_right, Contains-append_cases}
use Rattle.amd_lines.specs.Lines.{BeginsWith}
use Rattle.amd_lines.proofs.LineLemmas.{end-append}
use Rattle.amd_lines.specs.Lines.{TakesLines, TakesTelling, TakesNotes, telling, rest_of, percent}
use Rattle.amd_lines.proofs.LineLemmas.{takes-append, takes-none, telling-both}
use Rattle.amd_lines.specs.declared.lines.LineReader.{LineReader}
use Rattle.std.specs.List.{AllZip}
use Rattle.amd_cli.specs.Held.{SpellsRow, AreMarks, MarksRows}
use Rattle.amd_cli.proofs.ListedLines.{each-more}

-- lines were read whose telling ones are rows, and exactly these are marked
pub record HeldSoFar {R Z : Type 0} (remaining : R → Option (List ℕ)) (old new : LineReader R Z) (n : ℕ) (marks : List Bool) : Type 0 where
  pub lines : List (List ℕ)
  pub takes : TakesLines remaining old new lines
  pub rows : List ℕ
  pub spells : AllZip (SpellsRow n) (telling percent lines) rows
  pub marked : AreMarks n rows marks

none-held : (n v : ℕ) → slice_index_or (replicate n false) v false ≡ true → Contains {X = ℕ} [] v
none-held n v h = at (cases_lt v n)
  where
    at : (v < n) ⊎ (n ≤ v) → Contains {X = ℕ} [] v
    at (inl l) = (let e = get_or-replicate n v false false l in let bad : false ≡ true = sym e ∙ h in cc)
    at (inr l) = (let e = get_or_past (replicate n false) v false (let r = length-replicate n false in omega (arith, l, r)) in
        let bad : false ≡ true = sym e ∙ h in cc)

nothing-contained : (v : ℕ) → Contains {X = ℕ} [] v → (b : Bool) → b ≡ true
nothing-contained v h b = (let l = h.1 in absurd (omega (arith, l)))

-- no line was read yet
pub held-none : {R Z : Type 0} (remaining : R → Option (List ℕ)) (a : LineReader R Z) (n : ℕ) (marks : List Bool) →
    marks ≡ replicate n false
    → HeldSoFar remaining a a n marks
held-none remaining a n marks same = record {
  lines = [];
  takes = takes-none remaining a;
  rows = [];
  spells = tt;
  marked = subst (AreMarks n []) (sym same) (record {
    size = length-replicate n false;
    each = λ v. (none-held n v, λ h. nothing-contained v h (slice_index_or (replicate n false) v false));
  });
}

one-marked : (rows : List ℕ) (marks : List Bool) (row v : ℕ) → row < length marks →
    ((slice_index_or marks v false ≡ true) ↔ Contains rows v)
    → (slice_index_or (set marks row true) v false ≡ true) ↔ Contains (rows ++ row ∷ []) v
one-marked rows marks row v inside h = (there, back)
  where
    there : slice_index_or (set marks row true) v false ≡ true → Contains (rows ++ row ∷ []) v
    there e = at (cases_eq v row)
      where
        at : (v ≡ row) ⊎ (v ≢ row) → Contains (rows ++ row ∷ []) v
        at (inl same) = Contains-append_right rows (row ∷ []) v (0, omega arith, sym same)
        at (inr other) = Contains-append_left rows (row ∷ []) v (h.0 (sym (get_or-set_other marks row v true false (λ e. other e)) ∙ e))

    back : Contains (rows ++ row ∷ []) v → slice_index_or (set marks row true) v false ≡ true
    back k = at (cases_eq v row)
      where
        at : (v ≡ row) ⊎ (v ≢ row) → slice_index_or (set marks row true) v false ≡ true
        at (inl same) = rw same (get_or-set_same marks row true false inside)
        at (inr other) = get_or-set_other marks row v true false (λ e. other e) ∙ h.1 (before (Contains-append_cases rows (row ∷ []) v k))
          where
            before : Contains rows v ⊎ Contains (row ∷ []) v → Contains rows v
            before (inl x) = x
            before (inr x) = absurd (other (last x))
              where
                last : Contains (row ∷ []) v → v ≡ row
                last (zero, l, e) = sym e
                last (suc i, l, e) = absurd (omega (arith, l))

-- one line more
pub held-next : {R Z : Type 0} (remaining : R → Option (List ℕ)) (a b c : LineReader R Z) (n : ℕ) (marks : List Bool) (line : List ℕ)
    (row : ℕ)
    → HeldSoFar remaining a b n marks → TakesTelling percent remaining b c line → SpellsRow n line row →
    HeldSoFar remaining a c n (set marks row true)
held-next remaining a b c n marks line row h t one = record {
  lines = h.lines ++ t.lines;
  takes = takes-append remaining a b c h.lines t.lines h.takes t.takes;
  rows = h.rows ++ row ∷ [];
  spells = subst (λ ls. AllZip (SpellsRow n) ls (h.rows ++ row ∷ []))
      (sym (telling-both percent h.lines t.lines (telling percent h.lines) (line ∷ []) refl t.tells))
      (each-more (SpellsRow n) (telling percent h.lines) h.rows line row h.spells one);
  marked = record {
    size = length-set marks row true ∙ h.marked.size;
    each = λ v. one-marked h.rows marks row v (let l = one.index.0 in let s = h.marked.size in omega (arith, l, s)) (h.marked.each v);
  };
}

-- all lines were read
pub held-whole : {R Z : Type 0} (remaining : R → Option (List ℕ)) (a b c : LineReader R Z) (input : R) (n : ℕ) (marks : List Bool) →
    rest_of remaining a ≡ remaining input
    → HeldSoFar remaining a b n marks → TakesNotes percent remaining b c → IfSome (remaining input) (λ bytes. MarksRows bytes n marks)
held-whole remaining a b c input n marks same h end =
    let whole = takes-append remaining a b c h.lines end.lines h.takes end.takes in
    rw (← same) (known (rest_of remaining a) (rest_of remaining b) (rest_of remaining c) h.takes.took whole.took end.end)
  where
    made : (bytes : List ℕ) → BeginsWith (h.lines ++ end.lines) bytes (Some []) → MarksRows bytes n marks
    made bytes k = record {
      lines = h.lines ++ end.lines;
      all = k;
      rows = h.rows;
      spells = subst (λ ls. AllZip (SpellsRow n) ls h.rows)
          (sym (telling-both percent h.lines end.lines (telling percent h.lines)
          [] refl end.tells ∙ append-nil (telling percent h.lines))) h.spells;
      marked = h.marked;
    }

    known : (first mid last : Option (List ℕ)) → IfSome first (λ bs. BeginsWith h.lines bs mid) →
        IfSome first (λ bs. BeginsWith (h.lines ++ end.lines) bs last)
        → IfSome mid (λ bs. last ≡ Some []) → IfSome first (λ bytes. MarksRows bytes n marks)
    known None mid last k w z = tt
    known (Some bytes) mid last k w z =
        made bytes (subst (BeginsWith (h.lines ++ end.lines) bytes) (end-append h.lines (Some bytes) mid last k z) w)
