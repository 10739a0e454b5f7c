-- The numbers so far have the values so far.
use Rattle.std.proofs.Common.{◌++◌, ◌∷◌, [], map, pos, take, sym, ◌∙◌, ap}
use Rattle.std.proofs.lemmas.List.{map-append, take_more}
use Rattle.amd_c_calls.proofs.forests.numbers_from.Goals as goal

pub numbers-preserved : goal.numbers-preserved
numbers-preserved g c =
    let value = g.I.Index.value in
    ap (map value) c.in_ok-push.ensures.items
    ∙ map-append value c.numbers.numbers.items (c.in-Some.number ∷ [])
    ∙ ap (λ xs. xs ++ value c.in-Some.number ∷ []) c.numbers.invariant
    ∙ ap (λ z. take c.numbers.k c.args.signed.now ++ z ∷ []) c.in-Some.ensures
    ∙ sym (take_more c.args.signed.now c.numbers.k (pos 0) c.numbers-test.true)
