use Rattle.std.proofs.Common.{ℤ, pos, w64, ◌<◌, FitsSigned, rules, arith, length}
use Rattle.std.proofs.lemmas.Int.{to_z-of_z}
use Rattle.std.specs.Prelude.{slice_index_or}
use Rattle.std.proofs.lemmas.List.{get_or_default}
use Rattle.std.proofs.lemmas.List.Edits.{map_over_more}
use Rattle.amd_lending.specs.Views.{raised}
use Rattle.amd_lending.proofs.Raised.{each_from, raised_fits, fit_more}
use Rattle.amd_lending.proofs.raise.Goals as goal

pub loop-i-preserved : goal.loop-i-preserved
loop-i-preserved c =
    let z : ℤ = c.max.result in
    let here : FitsSigned w64 z = search rules in
    let same = to_z-of_z w64 z here in
    let inside : c.loop-i.i < length c.loop-i.numbers = search rules in
    let x : ℤ = slice_index_or c.loop-i.numbers c.loop-i.i (pos 0) in
    let there : FitsSigned w64 x = search rules in
    rw same (record {
      items = rw (c.max.ensures.value, to_z-of_z w64 x there)
          (map_over_more raised c.args.numbers.now c.loop-i.numbers c.loop-i.i x c.loop-i-test.true c.loop-i.invariant.items
          (get_or_default c.loop-i.numbers c.loop-i.i (pos 0) x inside));
      fit = fit_more c.loop-i.numbers c.loop-i.i z inside (raised_fits z c.max.type_inv c.max.ensures.other_bound) c.loop-i.invariant.fit;
    })

pub returns-clause-fits : goal.returns-clause-fits
returns-clause-fits c = each_from _ c.loop-i.numbers (pos 0) (λ k l. c.loop-i.invariant.fit k (omega (
  arith,
  l,
  c.loop-i.auto.numbers,
  c.loop-i-test.false,
)))
