-- Each turn draws a link up by one, and goes there.
use Rattle.std.proofs.Common.{◌∙◌, ℕ, List, refl, arith}
use Rattle.std.specs.Prelude.{slice_index}
use Rattle.std.proofs.lemmas.List.{length-set}
use Rattle.amd_report.proofs.Classes.{drawn-up, link-in}
use Rattle.amd_report.proofs.components.first_of.Goals as goal

pub up-init : goal.up-init
up-init c = record { inside = c.requires.inside; some = c.requires.names; names = λ name h. (h, refl) }

pub up-preserved : goal.up-preserved
up-preserved c =
    let links : List ℕ = c.up.links in
    let at : ℕ = c.up.at in
    let here = c.up.invariant.inside in
    let some = c.up.invariant.some.1 in
    let over : ℕ = slice_index links (slice_index links at) in
    let first = link-in c.up.invariant.some.0 links some at here in
    let second = link-in c.up.invariant.some.0 links some (slice_index links at) first in
    let long = length-set links at over in
    record {
      inside = omega (arith, second, long);
      some = (c.up.invariant.some.0, drawn-up c.up.invariant.some.0 links some at here c.up-test.true);
      names = λ name h. (let old = c.up.invariant.names name h in
          (drawn-up name links old.0 at here c.up-test.true, old.0.same (slice_index links at) first ∙ old.0.same at here ∙ old.1));
    }
