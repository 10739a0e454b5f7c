-- Each item is read behind the others, and the draft has what they tell; an error names the last line.
use Rattle.std.proofs.Common.{◌++◌, ◌∷◌, [], refl, subst}
use Rattle.std.proofs.Math.Facts.{to_z-of_z}
use Rattle.amd_cases.specs.declared.items.Item.TheVariants as item
use Rattle.amd_cases.specs.Spelling.{SpellsCase}
use Rattle.std.proofs.lemmas.Result.{err_from_is_err_and}
use Rattle.amd_cases.proofs.ReadingLemmas.{items-none, items-append, names-last, names-behind}
use Rattle.amd_cases.proofs.DraftLemmas.{gathers-none, gathers-more, gathers-all}
use Rattle.amd_cases.proofs.reader.CaseReader.take_body.Goals as goal

pub items-init : goal.items-init
items-init g c = ([], items-none _ _, gathers-none _ _ _ c.new-draft.ensures refl)

pub items-preserved : goal.items-preserved
items-preserved g c =
    let inv = c.items.invariant in
    let t = rw c.in-Some.is at c.in_ok-take_item.ensures.takes in (
      inv.0 ++ c.in-Some.item ∷ [],
      items-append _ _ _ _ inv.0 _ inv.1 t,
      gathers-more _ inv.0 _ _ c.in-Some.item inv.2
          c.in_default.ensures.adds,
    )

pub returns-in-Ok-clause-takes : goal.returns-in-Ok-clause-takes
returns-in-Ok-clause-takes g c =
    let inv = c.items.invariant in
    let t = rw (c.in-Some-End.is, c.in-Some-End.field-0-is) at c.in_ok-take_item.ensures.takes in
    record {
      items = inv.0 ++ item.End ∷ [];
      takes = items-append _ _ _ _ inv.0 _ inv.1 t;
      spells = subst (λ n. SpellsCase (item.Case n ∷ (inv.0 ++ item.End ∷ [])) c.in-Ok.case) (to_z-of_z c.ranges.number)
          (gathers-all _ inv.0 c.items.draft c.in-Ok.case inv.2 c.in-Ok.ensures);
    }

pub returns-in_err-take_item-clause-line : goal.returns-in_err-take_item-clause-line
returns-in_err-take_item-clause-line g c =
    let read = c.items.invariant.1 in
    let p = err_from_is_err_and c.from_residual.result c.from_residual.ensures.1 in
    rw (p.1, p.2) (names-behind _ _ _ _ read.lines _ read.takes c.in_err-take_item.ensures.line)

pub returns-in-None-clause-line : goal.returns-in-None-clause-line
returns-in-None-clause-line g c =
    let read = c.items.invariant.1 in
    let t = rw c.in-None.is at c.in_ok-take_item.ensures.takes in
    names-behind _ _ _ _ read.lines _ read.takes (names-last _ _ _ t.lines _ _ t.takes c.at_line.ensures)

pub returns-in-Err-clause-line : goal.returns-in-Err-clause-line
returns-in-Err-clause-line g c =
    let read = c.items.invariant.1 in
    let t = rw (c.in-Some-End.is, c.in-Some-End.field-0-is) at c.in_ok-take_item.ensures.takes in
    names-behind _ _ _ _ read.lines _ read.takes (names-last _ _ _ t.lines _ _ t.takes c.at_line-in-Err.ensures)

pub returns-in-Err-add : goal.returns-in-Err-add
returns-in-Err-add g c =
    let read = c.items.invariant.1 in
    let t = rw c.in-Some.is at c.in_ok-take_item.ensures.takes in
    record {
      takes = tt;
      line = names-behind _ _ _ _ read.lines _ read.takes (names-last _ _ _ t.lines _ _ t.takes c.at_line-in-Err-add.ensures);
    }
