-- The numbers so far are the values so far.
use Rattle.std.proofs.Common.{◌<◌, ◌++◌, ◌∷◌, [], map, pos, take, length, arith, sym, ◌∙◌, ap, rules, SFits, w64}
use Rattle.std.proofs.lemmas.Int.{to_z-of_z}
use Rattle.std.proofs.lemmas.List.{length-map, take_more}
use Rattle.amd_c_calls.proofs.forests.signed_of.Goals as goal

pub numbers-preserved : goal.numbers-preserved
numbers-preserved g c =
    let value = g.I.Index.value in
    let numbers = map value c.args.numbers.now in
    let inside : c.numbers.k < length numbers = (let t = c.numbers-test.true in let m = length-map c.args.numbers.now value in
    omega (arith, t, m)) in
    let fits : SFits w64 c.in-Some.number = search rules in
    let number = to_z-of_z w64 c.in-Some.number fits in
    c.in_ok-push.ensures.items
    ∙ ap (λ z. c.numbers.signed.items ++ z ∷ []) number
    ∙ ap (λ xs. xs ++ c.in-Some.number ∷ []) c.numbers.invariant
    ∙ ap (λ z. take c.numbers.k numbers ++ z ∷ []) c.in-Some.ensures
    ∙ sym (take_more numbers c.numbers.k (pos 0) inside)
