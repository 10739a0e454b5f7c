use Rattle.std.proofs.Common.{◌≡◌, ◌∙◌, ◌&&◌, ap, sym, ℕ}
use Rattle.std.proofs.lemmas.Bool.{and_left}
use Rattle.amd_model.specs.Quotient.{is_empty}
use Rattle.amd_plain.specs.Views.{list_at}
use Rattle.amd_plain.proofs.ListPlaces.{list_read}
use Rattle.amd_plain.proofs.Kept.{none_is}
use Rattle.amd_plain.proofs.absorption.keeps_nothing.Goals as goal

pub returns-then-is_empty : goal.returns-then-is_empty
returns-then-is_empty g c =
    let i : ℕ = c.args.i in let elements = c.args.lists.now.elements.items in let variables = c.args.lists.now.variables.items in
    let first : c.is_empty.result ≡ is_empty (list_at elements i) = c.is_empty.ensures ∙ none_is c.index.result.now ∙
    ap is_empty (sym (list_read elements i c.index.result.now c.requires.elements c.index.ensures)) in
    let second : c.is_empty-then-is_empty.result ≡ is_empty (list_at variables i)
    = c.is_empty-then-is_empty.ensures ∙ none_is c.index-then-is_empty.result.now ∙
    ap is_empty (sym (list_read variables i c.index-then-is_empty.result.now c.requires.variables c.index-then-is_empty.ensures)) in
    second ∙ sym (ap (λ b. b && is_empty (list_at variables i)) (sym first ∙ c.if-is_empty.true))

pub returns-else-is_empty : goal.returns-else-is_empty
returns-else-is_empty g c =
    let i : ℕ = c.args.i in let elements = c.args.lists.now.elements.items in let variables = c.args.lists.now.variables.items in
    let first : c.is_empty.result ≡ is_empty (list_at elements i) = c.is_empty.ensures ∙ none_is c.index.result.now ∙
    ap is_empty (sym (list_read elements i c.index.result.now c.requires.elements c.index.ensures)) in
    c.if-is_empty.false ∙ sym (and_left (is_empty (list_at elements i)) (is_empty (list_at variables i)) (sym first ∙ c.if-is_empty.false))
