use Rattle.std.proofs.Common.{◌≡◌, map, arith, refl, subst, le_antisymm}
use Rattle.std.proofs.lemmas.Bool.{false≢true}
use Rattle.std.proofs.lemmas.List.{length-map}
use Rattle.amd_model.specs.Input.Columns.{IsColumnForm, IsSorted}
use Rattle.amd_input.proofs.Classes.{form_none, sorted_none}
use Rattle.amd_input.proofs.valid.are_short_and_sorted.Goals as goal

pub returns-in_default-clause-form : goal.returns-in_default-clause-form
returns-in_default-clause-form g c e = absurd (false≢true e)

pub returns-in_default-clause-sorted : goal.returns-in_default-clause-sorted
returns-in_default-clause-sorted g c e = absurd (false≢true e)

pub returns-then-entries-columns-clause-form : goal.returns-then-entries-columns-clause-form
returns-then-entries-columns-clause-form g c e = absurd (false≢true e)

pub returns-then-entries-columns-clause-sorted : goal.returns-then-entries-columns-clause-sorted
returns-then-entries-columns-clause-sorted g c e = absurd (false≢true e)

pub groups-init : goal.groups-init
groups-init g c = record {
  form = form_none _ _ _ c.requires.first (simp length-map (omega arith));
  sorted = sorted_none (g.I.Index.value c.args.n_row) _ _;
  inside = omega arith;
}

pub are_sorted-requires-clause-form : goal.are_sorted-requires-clause-form
are_sorted-requires-clause-form g c = c.groups.invariant.form

pub are_sorted-requires-clause-sorted : goal.are_sorted-requires-clause-sorted
are_sorted-requires-clause-sorted g c = c.groups.invariant.sorted

pub returns-then-not-are_sorted-clause-form : goal.returns-then-not-are_sorted-clause-form
returns-then-not-are_sorted-clause-form g c e = absurd (false≢true e)

pub returns-then-not-are_sorted-clause-sorted : goal.returns-then-not-are_sorted-clause-sorted
returns-then-not-are_sorted-clause-sorted g c e = absurd (false≢true e)

pub groups-preserved : goal.groups-preserved
groups-preserved g c = record {
  form = c.if-not-are_sorted.ensures.form refl;
  sorted = c.if-not-are_sorted.ensures.sorted refl;
  inside = (let is = c.min.ensures in omega (arith, is));
}

pub returns-clause-form : goal.returns-clause-form
returns-clause-form g c e =
    let same : c.groups.first ≡ c.args.columns = le_antisymm c.groups.invariant.inside c.groups-test.false in
    let n = g.I.Index.value in
    subst (λ z. IsColumnForm (n c.args.n_row) z (map n c.args.a_p.now) (map n c.args.a_i.now)) same c.groups.invariant.form

pub returns-clause-sorted : goal.returns-clause-sorted
returns-clause-sorted g c e =
    let same : c.groups.first ≡ c.args.columns = le_antisymm c.groups.invariant.inside c.groups-test.false in
    subst (λ z. IsSorted z (map g.I.Index.value c.args.a_p.now) (map g.I.Index.value c.args.a_i.now)) same c.groups.invariant.sorted
