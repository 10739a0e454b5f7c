-- the goals of merging::representatives.
use Rattle.std.proofs.Common.{◌≡◌, ◌<◌, ◌+◌, ◌-◌, ◌&&◌, inl, inr, ℕ, true, length, drop, arith, sym, subst, refl, ◌∙◌}
use Rattle.std.specs.Prelude.{◌==◌}
use Rattle.std.proofs.lemmas.Bool.{and_parts}
use Rattle.amd_model.specs.Quotient.{has}
use Rattle.amd_plain.specs.Views.{num, list_at}
use Rattle.amd_plain.specs.Rounds.{plain_alike}
use Rattle.amd_plain.specs.Groups.{group_in}
use Rattle.amd_round_laws.proofs.Lists.Named.{has_at}
use Rattle.amd_plain.proofs.ListPlaces.{empty_below}
use Rattle.amd_round_laws.proofs.Merging.Representatives.{
  Found,
  rep,
  alike_self,
  alike_flip,
  alike_through,
  behind_in,
  found_none,
  found_more,
}
use Rattle.amd_round_laws.proofs.Merging.Representatives.{found_new}
use Rattle.amd_plain.proofs.MergeParts.{alike_grouped}
use Rattle.std.proofs.Common.{ap}
use Rattle.std.proofs.lemmas.Result.{IfOk-from_err}
use Rattle.std.proofs.lemmas.Bool.{eqb-true}
use Rattle.amd_plain.proofs.merging.representatives.Goals as goal

pub classes-init : goal.classes-init
classes-init g c =
    let es = c.args.lists.now.elements.items in
    let vs = c.args.lists.now.variables.items in
    let idle = c.requires.idle in
    record {
      within = omega arith;
      ready = record {
        rows = idle.rows;
        elements = idle.elements;
        groups =
            empty_below (length es) c.args.scratch.now.groups.items idle.groups.0 idle.groups.1;
        beyond = idle.beyond;
        into = idle.into;
      };
      found = found_none (plain_alike es vs) (alike_self (list_at es) (list_at vs)) (alike_flip (list_at es) (list_at vs))
          (alike_through (list_at es) (list_at vs)) c.args.rest.now (group_in es vs) (num c.args.scratch.now.into.items)
          (list_at c.args.scratch.now.groups.items) idle.groups.1;
      beyond = refl;
    }

pub represent-requires-clause-once : goal.represent-requires-clause-once
represent-requires-clause-once g c =
    let w = c.classes.invariant.within in
    let test = c.classes-test.true in
    c.requires.lists_once _ (has_at c.args.rest.now (c.classes.left - 1) 0 (omega (arith, w, test)))

pub represent-requires-clause-group_once : goal.represent-requires-clause-group_once
represent-requires-clause-group_once g c = λ b r h.
    let es = c.args.lists.now.elements.items in
    let vs = c.args.lists.now.variables.items in
    let rest = c.args.rest.now in
    let k = c.classes.left in
    let last = rep (plain_alike es vs) (alike_self (list_at es) (list_at vs)) (alike_flip (list_at es) (list_at vs))
    (alike_through (list_at es) (list_at vs)) rest r in
    let p = and_parts (has (drop k rest) r && last == r) (group_in es vs r == b) (sym (c.classes.invariant.found.groups b r) ∙ h) in
    c.requires.lists_once r (behind_in rest k r (and_parts (has (drop k rest) r) (last == r) p.0).0)

pub classes-preserved : goal.classes-preserved
classes-preserved g c =
    let es = c.args.lists.now.elements.items in
    let vs = c.args.lists.now.variables.items in
    let rest = c.args.rest.now in
    let k : ℕ = c.classes.left - 1 in
    let inv = c.classes.invariant in
    let w = inv.within in
    let test = c.classes-test.true in
    let within : k < length rest = omega (arith, w, test) in
    let more : c.classes.left ≡ k + 1 = omega (arith, test) in
    let before = c.classes.scratch in
    let after = c.represent.new.scratch in
    let done = c.in_ok-represent.ensures in
    let so = subst (λ m. Found (plain_alike es vs) (alike_self (list_at es) (list_at vs)) (alike_flip (list_at es) (list_at vs))
    (alike_through (list_at es) (list_at vs)) rest (group_in es vs) m (num before.into.items) (list_at before.groups.items)) more
    inv.found in
    let grouped = λ (x y : ℕ) (hx : has rest x ≡ true) (hy : has rest y ≡ true) (a : plain_alike es vs x y ≡ true).
    alike_grouped es vs x y (c.requires.lists_once x hx) (c.requires.lists_once y hy) a in
    record {
      within = omega (arith, w);
      ready = done.ready;
      found = elim done.looked [
        | inl p ↦ found_more (plain_alike es vs) (alike_self (list_at es) (list_at vs)) (alike_flip (list_at es) (list_at vs))
            (alike_through (list_at es) (list_at vs)) rest c.requires.once (group_in es vs) grouped k within
            (num before.into.items) (num after.into.items) (list_at before.groups.items) (list_at after.groups.items) so done.others p.0 p.1
            p.2
        | inr p ↦ found_new (plain_alike es vs) (alike_self (list_at es) (list_at vs)) (alike_flip (list_at es) (list_at vs))
            (alike_through (list_at es) (list_at vs)) rest c.requires.once (group_in es vs) grouped k within
            (num before.into.items) (num after.into.items) (list_at before.groups.items) (list_at after.groups.items) so done.others p.0 p.1
            p.2
      ];
      beyond = done.beyond ∙ inv.beyond;
    }

pub empty_groups-requires-clause-range : goal.empty_groups-requires-clause-range
empty_groups-requires-clause-range g c = c.requires.range

pub overflow_sub-left : goal.overflow_sub-left
overflow_sub-left g c = let t = c.classes-test.true in omega (arith, t)

pub bounds-rest-left : goal.bounds-rest-left
bounds-rest-left g c =
    let w = c.classes.invariant.within in let t = c.classes-test.true in omega (arith, w, t)

pub represent-requires-clause-row : goal.represent-requires-clause-row
represent-requires-clause-row g c = c.requires.range (c.classes.left - 1) 0
    (let w = c.classes.invariant.within in let t = c.classes-test.true in omega (arith, w, t))

pub represent-requires-clause-elements : goal.represent-requires-clause-elements
represent-requires-clause-elements g c = c.requires.elements

pub represent-requires-clause-variables : goal.represent-requires-clause-variables
represent-requires-clause-variables g c = c.requires.variables

pub represent-requires-clause-ready : goal.represent-requires-clause-ready
represent-requires-clause-ready g c = c.classes.invariant.ready

pub returns-in_err-represent-clause-into : goal.returns-in_err-represent-clause-into
returns-in_err-represent-clause-into g c = IfOk-from_err c.from_residual.result _ c.from_residual.ensures.0

pub returns-in_err-represent-clause-idle : goal.returns-in_err-represent-clause-idle
returns-in_err-represent-clause-idle g c = IfOk-from_err c.from_residual.result _ c.from_residual.ensures.0

pub returns-in_err-represent-clause-beyond : goal.returns-in_err-represent-clause-beyond
returns-in_err-represent-clause-beyond g c = IfOk-from_err c.from_residual.result _ c.from_residual.ensures.0

pub classes-smaller : goal.classes-smaller
classes-smaller g c = let t = c.classes-test.true in omega (arith, t)

pub empty_groups-requires-clause-variables : goal.empty_groups-requires-clause-variables
empty_groups-requires-clause-variables g c = c.requires.variables.0

pub empty_groups-requires-clause-groups : goal.empty_groups-requires-clause-groups
empty_groups-requires-clause-groups g c = c.classes.invariant.ready.groups.0

pub empty_groups-requires-clause-grouped : goal.empty_groups-requires-clause-grouped
empty_groups-requires-clause-grouped g c = λ b r h.
    let es = c.args.lists.now.elements.items in let vs = c.args.lists.now.variables.items in let rest = c.args.rest.now in
    let k = c.classes.left in
    let last = rep (plain_alike es vs) (alike_self (list_at es) (list_at vs)) (alike_flip (list_at es) (list_at vs))
    (alike_through (list_at es) (list_at vs)) rest r in
    let p = and_parts (has (drop k rest) r && last == r) (group_in es vs r == b) (sym (c.classes.invariant.found.groups b r) ∙ h) in
    (behind_in rest k r (and_parts (has (drop k rest) r) (last == r) p.0).0, eqb-true (group_in es vs r) b p.1)

pub returns-clause-into : goal.returns-clause-into
returns-clause-into g c = λ i h.
    let none : c.classes.left ≡ 0 = (let t = c.classes-test.false in omega (arith, t)) in
    c.classes.invariant.found.into i (ap (λ k. has (drop k c.args.rest.now) i) none ∙ h)

pub returns-clause-idle : goal.returns-clause-idle
returns-clause-idle g c = record {
  rows = c.classes.invariant.ready.rows;
  elements = c.classes.invariant.ready.elements;
  groups = (c.empty_groups.ensures.size ∙ c.classes.invariant.ready.groups.0, c.empty_groups.ensures.empty);
  beyond = c.classes.invariant.ready.beyond;
  into = c.classes.invariant.ready.into;
}

pub returns-clause-beyond : goal.returns-clause-beyond
returns-clause-beyond g c = c.classes.invariant.beyond
