-- The goals of ending::link_of.
use Rattle.std.proofs.Common.{ℤ, pos, negsuc, ◌≡◌, ◌<◌, ◌^◌, ◌∙◌, ap, sym, arith, w64, to_z}
use Rattle.std.specs.Prelude.{int_lt}
use Rattle.std.proofs.lemmas.Int.{ints, to_z-of_z}
use Rattle.amd_words.specs.Words.{flip_of}
use Rattle.amd_workspace.proofs.EndWords.{mark_named, plain_named}
use Rattle.amd_workspace.proofs.ending.link_of.Goals as goal

pub returns-then-mark-ltminus1 : goal.returns-then-mark-ltminus1
returns-then-mark-ltminus1 c =
    let z : ℤ = c.args.mark in let f = c.ranges.mark in
    let e : z ≡ flip_of c.number_in.result = sym (to_z-of_z w64 z f) ∙ c.number_in.ensures in
    let small : c.number_in.result < 2 ^ 63 = omega (arith, ints, e, f) in
    let same : to_z w64 c.number_in.result ≡ pos c.number_in.result = omega (arith, ints, small) in
    same ∙ sym (mark_named z c.number_in.result e)

pub returns-else-mark-ltminus1 : goal.returns-else-mark-ltminus1
returns-else-mark-ltminus1 c =
    let z : ℤ = c.args.mark in
    sym (plain_named z (sym (ap (λ y. int_lt y (negsuc 0)) (to_z-of_z w64 z c.ranges.mark)) ∙ c.if-mark-ltminus1.false))
