-- the goals of listed::rows_in_order.
use Rattle.std.proofs.Common.{ℕ, List, ◌≡◌, take, get_or, append_assoc}
use Rattle.amd_plain.proofs.ListPlaces.{list_deref}
use Rattle.amd_plain.proofs.HandedLists.{rows_more}
use Rattle.std.proofs.Common.{length, ap, sym, ◌∙◌, ◌++◌, ◌∷◌, [], lt_of_lt_of_le, le_of_eq}
use Rattle.std.specs.Prelude.{flat_map}
use Rattle.amd_plain.specs.Views.{list_at}
use borrow.Author.Count.{falls}
use Rattle.std.proofs.lemmas.Result.{IfOk-from_err}
use Rattle.std.proofs.lemmas.List.{take_all}
use Rattle.amd_plain.proofs.listed.rows_in_order.Goals as goal

pub returns-in_err-p : goal.returns-in_err-p
returns-in_err-p g c = IfOk-from_err c.from_residual.result _ c.from_residual.ensures.0

pub elements-init : goal.elements-init
elements-init g c = c.in_ok-p.ensures.items

pub bounds-elements-e-index : goal.bounds-elements-e-index
bounds-elements-e-index g c = c.elements-test.true

pub index-requires : goal.index-requires
index-requires g c = lt_of_lt_of_le (c.requires.range c.elements.e-index 0 c.elements-test.true)
    (le_of_eq (sym (c.args.rows.now.ok.0)))

pub returns-in_err-extend_from_slice : goal.returns-in_err-extend_from_slice
returns-in_err-extend_from_slice g c =
    IfOk-from_err c.from_residual-in_err-extend_from_slice.result _ c.from_residual-in_err-extend_from_slice.ensures.0

pub returns-in_err-push : goal.returns-in_err-push
returns-in_err-push g c = IfOk-from_err c.from_residual-in_err-push.result _ c.from_residual-in_err-push.ensures.0

pub elements-smaller : goal.elements-smaller
elements-smaller g c = falls (length c.args.elements.now) c.elements.e-index c.elements-test.true

pub elements-preserved : goal.elements-preserved
elements-preserved g c =
    let k : ℕ = c.elements.e-index in let es : List ℕ = c.args.elements.now in let e : ℕ = get_or es k 0 in
    let rows = c.args.rows.now.items in let f : ℕ → List ℕ = λ j. list_at rows j ++ j ∷ [] in
    let list : c.deref.result.now ≡ list_at rows e = list_deref rows e c.index.result.now c.deref.result.now
    (c.requires.range k 0 c.elements-test.true) c.index.ensures c.deref.ensures.value in
    c.in_ok-push.ensures.items
    ∙ ap (λ l. l ++ e ∷ []) (c.in_ok-extend_from_slice.ensures.items ∙ ap (λ l. c.elements.p.items ++ l) list
    ∙ ap (λ l. l ++ list_at rows e) c.elements.invariant)
    ∙ append_assoc (flat_map f (take k es)) (list_at rows e) (e ∷ []) ∙ sym (rows_more f es k c.elements-test.true)

pub returns : goal.returns
returns g c = c.elements.invariant
    ∙ ap (flat_map (λ e. list_at c.args.rows.now.items e ++ e ∷ [])) (take_all c.elements.e-index c.args.elements.now c.elements-test.false)
