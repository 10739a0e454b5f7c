-- The runs of a line of cells, cell by cell.
use Rattle.std.proofs.Common.{◌≡◌, ◌≢◌, ◌<◌, ◌≤◌, ◌+◌, ◌-◌, ◌++◌, ℕ, List, [], ◌∷◌, arith, length, sym, subst, ◌∙◌, ap}
use Rattle.std.proofs.Common.{append-nil, refl, ⊎_elim}
use Rattle.std.specs.Prelude.{Option, slice_index}
use Rattle.std.specs.Io.KnownBytes.{Appends}
use Rattle.std.proofs.KnownBytes.{Appends-nil, Appends-trans}
use Rattle.std.proofs.lemmas.Bool.{cases_eq, cases_lt}
use Rattle.std.proofs.lemmas.Grind.{flat_map-append}
use Rattle.std.proofs.lemmas.List.Elements.{Contains-append_left, Contains-push, Contains-push_cases}
use Rattle.amd_report.specs.Pictures.{AreRunsOf, TellsLine, TellsRuns, run_path, runs_text}

-- nothing is told
pub runs-none : (line : ℕ) (kinds : List ℕ) (kind : ℕ) (start : Option (List ℕ)) → TellsRuns line kinds kind 0 0 start start
runs-none line kinds kind start = record {
  runs = [];
  are = record {
    inside = λ run has. absurd (let l = has.1 in omega (arith, l));
    only = λ run cell has. absurd (let l = has.1 in omega (arith, l));
    all = λ cell l. absurd (omega (arith, l));
  };
  told = Appends-nil start;
  reached = omega arith;
  run = λ k a b. absurd (omega (arith, b));
  goes_on = λ l. absurd (omega (arith, l));
}

-- a cell of another kind: no run goes on there
pub runs-skip : (line : ℕ) (kinds : List ℕ) (kind cell begin : ℕ) (start now : Option (List ℕ)) →
    slice_index kinds cell ≢ kind → TellsRuns line kinds kind cell begin start now →
    TellsRuns line kinds kind (cell + 1) (cell + 1) start now
runs-skip line kinds kind cell begin start now other t =
    let at : begin ≡ cell = ⊎_elim (λ l. absurd (other (t.goes_on l))) (λ m. (let r = t.reached in omega (arith, r, m)))
    (cases_lt begin cell) in
    record {
      runs = t.runs;
      are = record {
        inside = λ run has. (let i = t.are.inside run has in omega (arith, i, at));
        only = t.are.only;
        all = λ k l is. ⊎_elim
            (λ e. absurd (other (subst (λ z. slice_index kinds z ≡ kind) e is)))
            (λ ne. t.are.all k (omega (arith, l, ne, at)) is) (cases_eq k cell);
      };
      told = t.told;
      reached = omega arith;
      run = λ k a b. absurd (omega (arith, a, b));
      goes_on = λ l. absurd (omega (arith, l));
    }

-- a cell of this kind, and the next one too
pub runs-on : (line : ℕ) (kinds : List ℕ) (kind cell begin : ℕ) (start now : Option (List ℕ)) →
    slice_index kinds cell ≡ kind → slice_index kinds (cell + 1) ≡ kind → TellsRuns line kinds kind cell begin start now →
    TellsRuns line kinds kind (cell + 1) begin start now
runs-on line kinds kind cell begin start now is next t = record {
  runs = t.runs;
  are = t.are;
  told = t.told;
  reached = (let r = t.reached in omega (arith, r));
  run = λ k a b. ⊎_elim (λ e. subst (λ z. slice_index kinds z ≡ kind) (sym e) is)
      (λ ne. t.run k a (omega (arith, b, ne))) (cases_eq k cell);
  goes_on = λ l. next;
}

-- a run that ends
pub runs-end : (line : ℕ) (kinds : List ℕ) (kind cell begin : ℕ) (start now next : Option (List ℕ)) →
    slice_index kinds cell ≡ kind → Appends now next (run_path line begin (cell + 1 - begin)) →
    TellsRuns line kinds kind cell begin start now → TellsRuns line kinds kind (cell + 1) (cell + 1) start next
runs-end line kinds kind cell begin start now next is more t =
    let new : ℕ × ℕ = (begin, cell + 1) in
    let whole : runs_text line (t.runs ++ new ∷ []) ≡ runs_text line t.runs ++ run_path line begin (cell + 1 - begin) =
    flat_map-append (λ run. run_path line run.0 (run.1 - run.0)) t.runs (new ∷ [])
    ∙ ap (λ z. runs_text line t.runs ++ z) (append-nil (run_path line begin (cell + 1 - begin))) in
    record {
      runs = t.runs ++ new ∷ [];
      are = record {
        inside = λ run has. ⊎_elim
            (λ old. (let i = t.are.inside run old in let r = t.reached in omega (arith, i, r)))
            (λ e. subst (λ z. z.1 ≤ cell + 1) e (omega arith)) (Contains-push_cases t.runs new run has);
        only = λ run k has a b. ⊎_elim
            (λ old. t.are.only run k old a b)
            (λ e. ⊎_elim (λ same. subst (λ z. slice_index kinds z ≡ kind) (sym same) is)
            (λ ne. t.run k (subst (λ z. z.0 ≤ k) (sym e) a)
            (let c : k < cell + 1 = subst (λ z. k < z.1) (sym e) b in omega (arith, c, ne))) (cases_eq k cell))
            (Contains-push_cases t.runs new run has);
        all = λ k l of. ⊎_elim
            (λ low. (let o = t.are.all k low of in (o.0, Contains-append_left t.runs (new ∷ []) o.0 o.1, o.2, o.3)))
            (λ high. (new, Contains-push t.runs new, high, l)) (cases_lt k begin);
      };
      told = subst (Appends start next) (sym whole) (Appends-trans start now next _ _ t.told more);
      reached = omega arith;
      run = λ k a b. absurd (omega (arith, a, b));
      goes_on = λ l. absurd (omega (arith, l));
    }

-- the whole line
pub runs-all : (line : ℕ) (kinds : List ℕ) (kind cell begin : ℕ) (start now : Option (List ℕ)) → 0 < kind → cell ≡ length kinds →
    slice_index kinds cell ≡ 0 → TellsRuns line kinds kind cell begin start now →
    (text : List ℕ) × TellsLine line kinds kind text × Appends start now text
runs-all line kinds kind cell begin start now some e past t =
    let at : begin ≡ length kinds = ⊎_elim (λ l. absurd (let g = t.goes_on l in omega (arith, g, past, some)))
    (λ m. (let r = t.reached in omega (arith, r, m, e))) (cases_lt begin cell) in (
      runs_text line t.runs,
      record { runs = t.runs; are = subst (λ z. AreRunsOf kinds kind z t.runs) at t.are; tells = refl },
      t.told,
    )
