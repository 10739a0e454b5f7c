-- Runs over states that are given by tables, shown by tests over the rows.
use Rattle.std.proofs.Common.{ℕ, Bool, true, false, ◌≡◌, ◌≤◌, ◌&&◌, not, refl, ap, arith, None, List, [], ◌∷◌, length, inl, inr}
use Rattle.std.specs.Prelude.{nat_lt, nat_le, slice_index_or}
use Rattle.std.proofs.lemmas.Bool.{cases_Bool, cases_lt, ltb-true, leb-true, and_parts, not-true}
use Rattle.std.proofs.lemmas.List.{get_or_past}
use Rattle.amd_model.specs.Below.{all_below}
use Rattle.amd_model.specs.Graph.{Graph, IsGraph}
use Rattle.amd_model.specs.State.{State, Home, Last, live_at, live}
use Rattle.amd_model.specs.Run.{Run, Steps, last_state}
use Rattle.amd_model.specs.Sound.{IsSound}
use Rattle.amd_model.specs.Quotient.{has, each}
use Rattle.amd_model.specs.Examples.Table.{Table, state_of}
use Rattle.amd_model.proofs.Counting.Below.{all_gives}
use Rattle.amd_model.proofs.States.SoundStart.{start_sound}
use Rattle.amd_model.proofs.States.SoundStep.{step_sound}
use Rattle.amd_model.proofs.States.StepTest.{Ends, passes, start_tests, start_from, step_tests, step_from}
use Rattle.amd_model.proofs.Quotient.Lists.{each_gives}

-- the lists are no longer than the graph has rows, and the borders have rows of it
unfoldable pub is_within : Graph → Table → Bool
is_within g t = nat_le (length t.homes) g.size && nat_le (length t.borders) g.size && nat_le (length t.parents) g.size
    && all_below g.size (λ e. each (λ v. nat_lt v g.size) (slice_index_or t.borders e []))

pub table_ends : (g : Graph) (t : Table) → is_within g t ≡ true → Ends g (state_of t)
unfolding has is_within
table_ends g t within =
    let small : ℕ → Bool = λ e. each (λ v. nat_lt v g.size) (slice_index_or t.borders e []) in
    let p = and_parts (nat_le (length t.homes) g.size && nat_le (length t.borders) g.size && nat_le (length t.parents) g.size)
    (all_below g.size small) within in
    let q = and_parts (nat_le (length t.homes) g.size && nat_le (length t.borders) g.size) (nat_le (length t.parents) g.size) p.0 in
    let r = and_parts (nat_le (length t.homes) g.size) (nat_le (length t.borders) g.size) q.0 in
    let lh = leb-true (length t.homes) g.size r.0 in let lb = leb-true (length t.borders) g.size r.1 in
    let lp = leb-true (length t.parents) g.size q.1 in
    let past : (e v : ℕ) → g.size ≤ e → has (slice_index_or t.borders e []) v ≡ false
    = λ e v l. ap (λ xs. has xs v) (get_or_past t.borders e [] (omega (arith, l, lb))) in
    record {
      rows = λ v l. get_or_past t.homes v Last (omega (arith, l, lh));
      borders = λ e v l. elim (cases_lt e g.size) [
        | inr k ↦ past e v k
        | inl k ↦ elim (cases_Bool (has (slice_index_or t.borders e []) v)) [
          | inr n ↦ n
          | inl y ↦ absurd (let m =
              ltb-true v g.size (each_gives (λ v. nat_lt v g.size) (slice_index_or t.borders e []) (all_gives g.size small p.1 e k) v y) in
              omega (arith, m, l))
        ]
      ];
      elements = past;
      parents = λ e l. get_or_past t.parents e None (omega (arith, l, lp));
    }

-- the tests of a run: pivots, each with the table after it
unfoldable pub steps_test : Graph → Bool → Table → List (ℕ × Table) → Bool
steps_test g aggressive t [] = all_below g.size (λ v. not (live (state_of t) v))
steps_test g aggressive t (p ∷ rest) = is_within g p.1 && passes (step_tests g aggressive p.0 (state_of t) (state_of p.1)) && steps_test g
    aggressive p.1 rest

abbrev pub states_of : List (ℕ × Table) → List State
states_of [] = []
states_of (p ∷ rest) = state_of p.1 ∷ states_of rest

steps_from : (g : Graph) → IsGraph g → (aggressive : Bool) (t : Table) (rest : List (ℕ × Table)) → IsSound g (state_of t) →
    Ends g (state_of t) → steps_test g aggressive t rest ≡ true →
    Steps g aggressive (state_of t) (states_of rest) × ((v : ℕ) → live (last_state (state_of t) (states_of rest)) v ≡ false)
unfolding steps_test live_at
steps_from g laws aggressive t [] sound ends passed = (
  tt,
  λ v. elim (cases_lt v g.size) [
    | inl l ↦ not-true (live (state_of t) v) (all_gives g.size (λ v. not (live (state_of t) v)) passed v l)
    | inr l ↦ ap live_at (ends.rows v l)
  ],
)
steps_from g laws aggressive t (p ∷ rest) sound ends passed =
    let u : Table = p.1 in
    let a = and_parts (is_within g u && passes (step_tests g aggressive p.0 (state_of t) (state_of u))) (steps_test g aggressive u rest)
    passed in
    let b = and_parts (is_within g u) (passes (step_tests g aggressive p.0 (state_of t) (state_of u))) a.0 in
    let step = step_from g aggressive p.0 (state_of t) (state_of u) laws sound ends (table_ends g u b.0) b.1 in
    let r = steps_from g laws aggressive u rest (step_sound g laws aggressive p.0 (state_of t) (state_of u) sound step) (table_ends g u b.0)
    a.1 in
    (((p.0, step), r.0), r.1)

unfoldable pub run_test : Graph → (ℕ → Bool) → Bool → Table → List (ℕ × Table) → Bool
run_test g dense aggressive t rest = is_within g t && passes (start_tests g dense (state_of t)) && steps_test g aggressive t rest

-- tables that pass the tests are a run
pub tables_run : (g : Graph) → IsGraph g → (dense : ℕ → Bool) (aggressive : Bool) (homes : List Home) (bounds : List ℕ)
    (rest : List (ℕ × Table)) →
    let t : Table = record { homes = homes; bounds = bounds; borders = []; parents = [] } in
    run_test g dense aggressive t rest ≡ true → Run g dense aggressive (state_of t) (states_of rest)
unfolding run_test has
tables_run g laws dense aggressive homes bounds rest passed =
    let t : Table = record { homes = homes; bounds = bounds; borders = []; parents = [] } in
    let a = and_parts (is_within g t && passes (start_tests g dense (state_of t))) (steps_test g aggressive t rest) passed in
    let b = and_parts (is_within g t) (passes (start_tests g dense (state_of t))) a.0 in
    let start = start_from g dense (state_of t) (table_ends g t b.0) b.1 (λ e v. refl) (λ e. refl) in
    let r = steps_from g laws aggressive t rest (start_sound g laws dense (state_of t) start) (table_ends g t b.0) a.1 in
    record { start = start; steps = r.0; end = r.1 }
