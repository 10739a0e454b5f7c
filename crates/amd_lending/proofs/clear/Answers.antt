use Rattle.std.proofs.Common.{ℤ, pos, ◌<◌, arith, rules, length}
use Rattle.std.specs.Prelude.{slice_index_or}
use Rattle.std.proofs.lemmas.List.{get_or_default}
use Rattle.std.proofs.lemmas.List.Edits.{map_over_more}
use Rattle.amd_lending.proofs.Cleared.{cleared_fit}
use Rattle.amd_lending.proofs.clear.Goals as goal

pub loop-i-preserved : goal.loop-i-preserved
loop-i-preserved c =
    let inside : c.loop-i.i < length c.loop-i.numbers = search rules in
    let x : ℤ = slice_index_or c.loop-i.numbers c.loop-i.i (pos 0) in
    record {
      items = map_over_more (λ x. pos 0) c.args.numbers.now c.loop-i.numbers c.loop-i.i x c.loop-i-test.true
          c.loop-i.invariant.items (get_or_default c.loop-i.numbers c.loop-i.i (pos 0) x inside);
    }

pub returns-clause-fits : goal.returns-clause-fits
returns-clause-fits c = cleared_fit 2147483647 c.args.numbers.now c.loop-i.numbers c.loop-i.i (omega (
  arith,
  c.loop-i.auto.numbers,
  c.loop-i-test.false,
)) c.loop-i.invariant.items
