-- The list that is built in the workspace is that of the elimination kept in lists, if the lists of the workspace are kept.
use Rattle.std.proofs.Common.{ℕ, ℤ, List, true, ◌<◌, ◌-◌, arith, ◌++◌, ◌≡◌, sym, ap, ◌∙◌, flat_map}
use Rattle.std.specs.Prelude.{◌==◌}
use Rattle.amd_model.specs.Graph.{Graph}
use Rattle.amd_model.specs.State.{State}
use Rattle.amd_model.specs.Quotient.{QuotientGraph, Fits, Once, has, gathered}
use Rattle.amd_round_laws.specs.Rounds.{firsts}
use Rattle.amd_round_laws.specs.Rounds.{rows_left}
use Rattle.amd_round_laws.specs.Views.{View, live_of}
use Rattle.amd_round_laws.specs.Keeps.{Keeps}
use Rattle.amd_round_laws.proofs.Fronts.Absorbed.{front_found}
use Rattle.amd_round_laws.proofs.Lists.Taken.{taken_off}
use Rattle.amd_words.specs.Words.{size_of}
use Rattle.amd_fronts.specs.Counts.{counter}
use Rattle.amd_lists.specs.Layout.{elements_in, rows_met, list_in}
use Rattle.amd_elements.specs.Element.{front_of, elements_at, variables_at}

pub front_gathered : (g : Graph) (s : State) (t : QuotientGraph) → Fits g t s → (v : View) → Keeps v t →
    (iw nv pe : List ℤ) (len : List ℕ) (c m : ℕ) → has t.placed c ≡ true →
    v.size ≡ size_of nv → v.members ≡ list_in iw pe len → v.lists.elements c ≡ elements_at iw pe c m →
    v.lists.variables c ≡ variables_at iw pe len c m → front_of iw nv pe len c m ≡ gathered t c
front_gathered g s t fits v keeps iw nv pe len c m class size members elements variables =
    ap (λ z. firsts (λ x. x == c) (flat_map (λ e. live_of z (list_in iw pe len e)) (elements_at iw pe c m)
    ++ live_of z (variables_at iw pe len c m))) (sym size)
    ∙ ap (λ z. firsts (λ x. x == c) (flat_map (λ e. live_of v.size (z e)) (elements_at iw pe c m)
    ++ live_of v.size (variables_at iw pe len c m))) (sym members)
    ∙ ap (λ z. firsts (λ x. x == c) (flat_map (λ e. live_of v.size (v.members e)) z ++ live_of v.size (variables_at iw pe len c m)))
    (sym elements)
    ∙ ap (λ z. firsts (λ x. x == c) (flat_map (λ e. live_of v.size (v.members e)) (v.lists.elements c) ++ live_of v.size z)) (sym variables)
    ∙ front_found g s t fits v keeps c class

-- what a counter is above the flag is what the rules of a view say is left of the element
pub beyond_is : (flag x all seen : ℕ) → 0 < x → 0 < seen → counter flag x all seen - flag ≡ all - seen
beyond_is flag x all seen some rows_met = grind arith

pub counted_left : (iw pe e_len nv : List ℤ) (block whole : ℕ → ℕ) (front : List ℕ) (flag x all e : ℕ) → whole e - block e ≡ all →
    ((i : ℕ) → has front i ≡ true → Once (elements_in iw pe e_len i)) →
    0 < x → 0 < rows_met iw pe e_len nv front e → counter flag x all (rows_met iw pe e_len nv front e) - flag
    ≡ rows_left block whole (size_of nv) (elements_in iw pe e_len) front e
counted_left iw pe e_len nv block whole front flag x all e border once some seen =
    beyond_is flag x all (rows_met iw pe e_len nv front e) some seen
    ∙ sym (taken_off e (size_of nv) (elements_in iw pe e_len) (whole e - block e) front once
    ∙ ap (λ m. m - rows_met iw pe e_len nv front e) border)
