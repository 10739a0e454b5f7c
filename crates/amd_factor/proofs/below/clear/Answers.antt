use Rattle.std.proofs.Common.{◌≡◌, ap, sym, ◌∙◌, arith, length, map, take}
use Rattle.std.proofs.Math.ListN.{replicate}
use Rattle.std.proofs.Math.Seq.{take-length}
use Rattle.amd_factor.proofs.Factors.PlaceNumbers.{are_of}
use Rattle.amd_factor.proofs.below.clear.Goals as goal

pub returns-clause-told : goal.returns-clause-told
returns-clause-told g c =
    let all : c.numbers.k ≡ length c.numbers.numbers = (let most = c.numbers.auto.k-end in let least = c.numbers-test.false in
    let size = c.numbers.invariant.size in omega (arith, most, least, size)) in
    are_of (map g.I.Index.value c.numbers.numbers) (replicate c.numbers.k 0)
    (ap (map g.I.Index.value) (sym (ap (λ k. take k c.numbers.numbers) all ∙ take-length c.numbers.numbers))
    ∙ c.numbers.invariant.items)
