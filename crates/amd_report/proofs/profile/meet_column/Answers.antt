-- Each turn meets one entry more.
use Rattle.std.proofs.Common.{◌+◌, ◌<◌, ◌≤◌, ◌∙◌, ℕ, List, length, ap, refl, arith}
use Rattle.std.specs.Prelude.{slice_index}
use Rattle.std.proofs.lemmas.List.{length-set}
use Rattle.amd_report.proofs.Firsts.{firsts-begin, firsts-end, firsts-next}
use Rattle.amd_report.proofs.profile.meet_column.Goals as goal

pub places-init : goal.places-init
places-init c = record {
  size = refl;
  firsts = firsts-begin c.args.a_p.now c.args.a_i.now c.args.column c.args.firsts.now c.requires.firsts;
}

pub places-preserved : goal.places-preserved
places-preserved c =
    let pointers : List ℕ = c.args.a_p.now in
    let rows : List ℕ = c.args.a_i.now in
    let column : ℕ = c.args.column in
    let place : ℕ = c.places.place in
    let before = c.places.invariant.size in
    let inside = c.requires.inside in
    let low : slice_index pointers column ≤ place = omega arith in
    let high : place < slice_index pointers (column + 1) = omega arith in
    let row = c.requires.form.rows column place inside low high in
    let after = ap length c.lower.ensures ∙ length-set _ _ _ in
    record {
      size = after ∙ before;
      firsts = firsts-next pointers rows column place c.places.firsts low high (omega (arith, row, before))
          (omega (arith, inside, before)) c.places.invariant.firsts c.lower.new.firsts
          (rw (c.max.ensures, c.min.ensures) at c.lower.ensures);
    }

pub returns-clause-firsts : goal.returns-clause-firsts
returns-clause-firsts c =
    firsts-end c.args.a_p.now c.args.a_i.now c.args.column c.places.place c.places.firsts (omega arith) c.places.invariant.firsts
