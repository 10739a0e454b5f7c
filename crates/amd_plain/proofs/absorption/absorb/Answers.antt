-- the goals of absorption::absorb.
use Rattle.std.proofs.Common.{ℕ, Bool, false, Some, List, ◌≡◌, ◌<◌, ◌∙◌, ◌&&◌, ◌||◌, ◌==◌, not, cond, nat_eq, nat_lt, ap, sym, subst}
use Rattle.std.proofs.Common.{length, length-set, filter, flat_map}
use Rattle.std.proofs.lemmas.Bool.{cond-true, cond-false}
use Rattle.amd_model.specs.Quotient.{has}
use Rattle.amd_plain.specs.Views.{num, mark_at, some_at, list_at, ListsBelow}
use Rattle.amd_plain.specs.Rounds.{firsts}
use Rattle.amd_plain.proofs.ListPlaces.{list_read}
use Rattle.amd_round_laws.proofs.Lists.Named.{filter_named}
use Rattle.amd_round_laws.proofs.Fronts.Gathered.{firsts_gives}
use Rattle.amd_plain.proofs.KeptParts.{touched_below, spared_is, adopted_is, in_either, cleared_is, pivot_cleared}
use Rattle.std.proofs.Common.{lt_of_lt_of_le, le_of_eq}
use Rattle.amd_plain.specs.Views.{Below}
use Rattle.amd_plain.proofs.ReadLists.{read_below}
use Rattle.std.proofs.lemmas.Result.{IfOk-from_err}
use Rattle.amd_plain.proofs.absorption.absorb.Goals as goal

pub count_beyond-requires-clause-range : goal.count_beyond-requires-clause-range
count_beyond-requires-clause-range g c =
    let elements = c.args.lists.now.elements.items in
    let below = touched_below (length c.args.counts.now.size.now) elements (has (list_at elements c.args.pivot)) c.args.front.now
    c.in_ok-touched.touched.items c.requires.lists.elements c.in_ok-touched.ensures.list in
    subst (Below (length c.args.counts.now.size.now)) (sym c.deref.ensures.value) below

pub spare-requires-clause-range : goal.spare-requires-clause-range
spare-requires-clause-range g c =
    let elements = c.args.lists.now.elements.items in
    let below = touched_below (length c.args.counts.now.size.now) elements (has (list_at elements c.args.pivot)) c.args.front.now
    c.in_ok-touched.touched.items c.requires.lists.elements c.in_ok-touched.ensures.list in
    let room : length c.deref-3.result.now ≡ length c.args.counts.now.size.now = ap length c.deref-3.ensures.value ∙
    c.count_beyond.ensures.size ∙ c.requires.marked.beyond in
    subst (λ m. Below m c.deref-2.result.now) (sym room) (subst (Below (length c.args.counts.now.size.now)) (sym c.deref-2.ensures.value)
    below)

pub adopt-requires-2-clause-range : goal.adopt-requires-2-clause-range
adopt-requires-2-clause-range g c =
    let elements = c.args.lists.now.elements.items in
    let below = touched_below (length c.args.counts.now.size.now) elements (has (list_at elements c.args.pivot)) c.args.front.now
    c.in_ok-touched.touched.items c.requires.lists.elements c.in_ok-touched.ensures.list in
    let room : length c.deref-7.result.now ≡ length c.args.counts.now.size.now = ap length c.deref-7.ensures.value ∙ c.spare.ensures.size ∙
    c.in_ok-touched.ensures.size ∙ c.requires.marked.elements.0 in
    subst (λ m. Below m c.deref-6.result.now) (sym room) (subst (Below (length c.args.counts.now.size.now)) (sym c.deref-6.ensures.value)
    below)

pub clear_all-requires-2 : goal.clear_all-requires-2
clear_all-requires-2 g c =
    let elements = c.args.lists.now.elements.items in
    let below = touched_below (length c.args.counts.now.size.now) elements (has (list_at elements c.args.pivot)) c.args.front.now
    c.in_ok-touched.touched.items c.requires.lists.elements c.in_ok-touched.ensures.list in
    let room : length c.clear_all.new.marks.items ≡ length c.args.counts.now.size.now = c.clear_all.ensures.size ∙ c.spare.ensures.size ∙
    c.in_ok-touched.ensures.size ∙ c.requires.marked.elements.0 in
    record {
      range = subst (λ m. Below m c.deref-11.result.now) (sym room) (subst (Below (length c.args.counts.now.size.now)) (sym
          c.deref-11.ensures.value) below);
    }

pub returns : goal.returns
returns g c =
    let r = c.requires in let p : ℕ = c.args.pivot in let front : List ℕ = c.args.front.now in
    let size : List ℕ = c.args.counts.now.size.now in
    let elements = c.args.lists.now.elements.items in let members = c.args.lists.now.members.items in
    let variables = c.args.lists.now.variables.items in
    let touched : List ℕ = c.in_ok-touched.touched.items in let own : List ℕ = list_at elements p in
    let beyond : List ℕ = c.count_beyond.new.beyond.items in let rows : List Bool = c.args.scratch.now.rows.items in
    let marked : List Bool = c.touched_by.new.marks.items in let taken : List Bool = c.spare.new.taken.items in
    let inside : ℕ → Bool = λ j. j == p || has front j in
    let row : p < length elements = lt_of_lt_of_le r.pivot.0 (le_of_eq (sym r.lists.elements.0)) in
    let touched_is : touched ≡ firsts (has own) (flat_map (list_at elements) front) = c.in_ok-touched.ensures.list in
    let gathered = firsts_gives (has own) (flat_map (list_at elements) front) touched touched_is in
    let whole : ℕ → Bool = λ e. c.args.aggressive && nat_eq (num beyond e) 0 in
    let first : c.deref-4.result.now ≡ own = c.deref-4.ensures.value ∙ sym (list_read elements p c.index.result.now row c.index.ensures) in
    let rows_marked : (j : ℕ) → mark_at c.deref-8.result.now j ≡ inside j = λ j. ap (λ l. mark_at l j)
    c.deref-8.ensures.value ∙ r.marked.rows.1 j in
    let taken_is : (e : ℕ) → mark_at taken e ≡ (has own e || (has touched e && whole e)) = λ e.
    c.spare.ensures.spared e
    ∙ ap (λ l. mark_at marked e && not (has l e && not (c.args.aggressive && nat_eq (num c.deref-3.result.now e) 0)))
    c.deref-2.ensures.value
    ∙ ap (λ l. mark_at marked e && not (has touched e && not (c.args.aggressive && nat_eq (num l e) 0))) c.deref-3.ensures.value
    ∙ ap (λ b. b && not (has touched e && not (whole e))) (c.in_ok-touched.ensures.marked e) ∙
    spared_is (has own e) (has touched e) (whole e) (λ h. (gathered e h).1) in
    let parents : (e : ℕ) → some_at c.adopt-2.new.parent.items e ≡ cond (mark_at taken e) (Some p) (some_at c.args.parent.now.items e)
    = λ e.
    adopted_is (has own e) (has touched e) (mark_at taken e) (Some p) (some_at c.args.parent.now.items e)
    (some_at c.adopt.new.parent.items e)
    (some_at c.adopt-2.new.parent.items e)
    (λ h. in_either (has own e) (has touched e) (whole e) (sym (taken_is e) ∙ h))
    (c.adopt.ensures.adopted e ∙ ap (λ l. cond (has l e && mark_at c.deref-5.result.now e) (Some p) (some_at c.args.parent.now.items e))
    first
    ∙ ap (λ l. cond (has own e && mark_at l e) (Some p) (some_at c.args.parent.now.items e)) c.deref-5.ensures.value)
    (c.adopt-2.ensures.adopted e ∙ ap (λ l. cond (has l e && mark_at c.deref-7.result.now e) (Some p) (some_at c.adopt.new.parent.items e))
    c.deref-6.ensures.value
    ∙ ap (λ l. cond (has touched e && mark_at l e) (Some p) (some_at c.adopt.new.parent.items e)) c.deref-7.ensures.value) in
    let after = c.shorten.new.lists.elements.items in
    let room : p < length after = lt_of_lt_of_le r.pivot.0 (le_of_eq (sym c.shorten.ensures.elements.0)) in
    let second : c.deref-10.result.now ≡ own = c.deref-10.ensures.value ∙
    sym (list_read after p c.index-2.result.now room c.index-2.ensures) ∙ c.shorten.ensures.kept_elements p ∙
    cond-false _ _ _ r.pivot.1 in
    let marks : List Bool = c.clear_all-3.new.marks.items in
    let long : length marks ≡ length size = c.clear_all-3.ensures.size ∙ r.marked.rows.0 in
    let clear : (j : ℕ) → mark_at c.clear_all-2.new.marks.items j ≡ false = λ j.
    c.clear_all-2.ensures.cleared j ∙ ap (λ l. mark_at c.clear_all.new.marks.items j && not (has l j)) c.deref-11.ensures.value
    ∙ ap (λ b. b && not (has touched j)) (c.clear_all.ensures.cleared j ∙ ap (λ l. mark_at taken j && not (has l j)) second ∙
    ap (λ b. b && not (has own j)) (taken_is j))
    ∙ cleared_is (has own j) (has touched j) (whole j) in
    record {
      absorbed = record {
        classes = record {
          touched = touched;
          touched_is = touched_is;
          counted = λ e h. c.count_beyond.ensures.counted e (ap (λ l. has l e) c.deref.ensures.value ∙ h);
          taken = mark_at taken;
          taken_is = taken_is;
          parents = parents;
          elements = λ i h. c.shorten.ensures.kept_elements i ∙ cond-true (has front i) _ _ h
              ∙ ap (λ l. filter (λ e. not (mark_at l e)) (list_at elements i)) c.deref-9.ensures.value;
          variables = λ i h. c.shorten.ensures.kept_variables i ∙ cond-true (has front i) _ _ h
              ∙ filter_named (λ j. nat_lt 0 (num size j) && not (mark_at c.deref-8.result.now j)) (λ j. nat_lt 0 (num size j)
              && not (inside j))
              (list_at variables i) (λ j h. ap (λ b. nat_lt 0 (num size j) && not b) (rows_marked j));
        };
        elements = λ i h. c.shorten.ensures.kept_elements i ∙ cond-false (has front i) _ _ h;
        variables = λ i h. c.shorten.ensures.kept_variables i ∙ cond-false (has front i) _ _ h;
        members = c.shorten.ensures.members;
      };
      lists = record {
        variables = c.shorten.ensures.variables;
        elements = c.shorten.ensures.elements;
        members = subst (λ l. ListsBelow (length size) l.items) (sym c.shorten.ensures.members) r.lists.members;
      };
      parent = c.adopt-2.ensures.size ∙ c.adopt.ensures.size ∙ r.parent;
      idle = record {
        rows = (
          length-set marks p false ∙ long,
          pivot_cleared marks p front (lt_of_lt_of_le r.pivot.0 (le_of_eq (sym long)))
              (λ j. c.clear_all-3.ensures.cleared j ∙ ap (λ b. b && not (has front j)) (r.marked.rows.1 j)),
        );
        elements = (
          c.clear_all-2.ensures.size ∙ c.clear_all.ensures.size ∙ c.spare.ensures.size ∙ c.in_ok-touched.ensures.size ∙
              r.marked.elements.0,
          clear,
        );
        groups = r.marked.groups;
        beyond = c.count_beyond.ensures.size ∙ r.marked.beyond;
        into = r.marked.into;
      };
    }

pub clear_all-requires-3 : goal.clear_all-requires-3
clear_all-requires-3 g c = record { range = subst (λ n. Below n c.args.front.now) (sym c.requires.marked.rows.0) c.requires.range }

pub clear_all-requires : goal.clear_all-requires
clear_all-requires g c = record {
  range = read_below (length c.args.counts.now.size.now) (length c.spare.new.taken.items) c.shorten.new.lists.elements.items c.args.pivot
      c.index-2.result.now c.deref-10.result.now c.shorten.ensures.elements c.requires.pivot.0 c.index-2.ensures c.deref-10.ensures.value
      (c.spare.ensures.size ∙ c.in_ok-touched.ensures.size ∙ c.requires.marked.elements.0);
}

pub shorten-requires-clause-range : goal.shorten-requires-clause-range
shorten-requires-clause-range g c = c.requires.range

pub shorten-requires-clause-once : goal.shorten-requires-clause-once
shorten-requires-clause-once g c = c.requires.once

pub shorten-requires-clause-elements : goal.shorten-requires-clause-elements
shorten-requires-clause-elements g c = c.requires.lists.elements

pub shorten-requires-clause-variables : goal.shorten-requires-clause-variables
shorten-requires-clause-variables g c = c.requires.lists.variables

pub shorten-requires-clause-lengths : goal.shorten-requires-clause-lengths
shorten-requires-clause-lengths g c = (
  ap length c.deref-8.ensures.value ∙ c.requires.marked.rows.0,
  ap length c.deref-9.ensures.value ∙ c.spare.ensures.size ∙ c.in_ok-touched.ensures.size ∙ c.requires.marked.elements.0,
)

pub adopt-requires-clause-range : goal.adopt-requires-clause-range
adopt-requires-clause-range g c =
    read_below (length c.args.counts.now.size.now) (length c.deref-5.result.now) c.args.lists.now.elements.items c.args.pivot
    c.index.result.now c.deref-4.result.now c.requires.lists.elements c.requires.pivot.0 c.index.ensures c.deref-4.ensures.value
    (ap length c.deref-5.ensures.value ∙ c.spare.ensures.size ∙ c.in_ok-touched.ensures.size ∙ c.requires.marked.elements.0)

pub adopt-requires-clause-length : goal.adopt-requires-clause-length
adopt-requires-clause-length g c = c.requires.parent
    ∙ sym (ap length c.deref-5.ensures.value ∙ c.spare.ensures.size ∙ c.in_ok-touched.ensures.size ∙ c.requires.marked.elements.0)

pub adopt-requires-2-clause-length : goal.adopt-requires-2-clause-length
adopt-requires-2-clause-length g c = c.adopt.ensures.size ∙ c.requires.parent
    ∙ sym (ap length c.deref-7.ensures.value ∙ c.spare.ensures.size ∙ c.in_ok-touched.ensures.size ∙ c.requires.marked.elements.0)

pub count_beyond-requires-clause-front : goal.count_beyond-requires-clause-front
count_beyond-requires-clause-front g c = c.requires.range

pub count_beyond-requires-clause-elements : goal.count_beyond-requires-clause-elements
count_beyond-requires-clause-elements g c = c.requires.lists.elements

pub spare-requires-clause-length : goal.spare-requires-clause-length
spare-requires-clause-length g c = ap length c.deref-3.ensures.value ∙ c.count_beyond.ensures.size ∙ c.requires.marked.beyond
    ∙ sym (c.in_ok-touched.ensures.size ∙ c.requires.marked.elements.0)

pub touched_by-requires-clause-range : goal.touched_by-requires-clause-range
touched_by-requires-clause-range g c = subst (λ n. Below n c.args.front.now) (sym c.requires.marked.elements.0) c.requires.range

pub touched_by-requires-clause-elements : goal.touched_by-requires-clause-elements
touched_by-requires-clause-elements g c = subst (λ n. ListsBelow n c.args.lists.now.elements.items) (sym c.requires.marked.elements.0)
    c.requires.lists.elements

pub touched_by-requires-clause-pivot : goal.touched_by-requires-clause-pivot
touched_by-requires-clause-pivot g c = lt_of_lt_of_le (c.requires.pivot.0)
    (le_of_eq (sym (c.requires.marked.elements.0)))

pub touched_by-requires-clause-clear : goal.touched_by-requires-clause-clear
touched_by-requires-clause-clear g c = c.requires.marked.elements.1

pub returns-in_err-touched-clause-absorbed : goal.returns-in_err-touched-clause-absorbed
returns-in_err-touched-clause-absorbed g c = IfOk-from_err c.from_residual.result _ c.from_residual.ensures.0

pub returns-in_err-touched-clause-lists : goal.returns-in_err-touched-clause-lists
returns-in_err-touched-clause-lists g c = IfOk-from_err c.from_residual.result _ c.from_residual.ensures.0

pub returns-in_err-touched-clause-parent : goal.returns-in_err-touched-clause-parent
returns-in_err-touched-clause-parent g c = IfOk-from_err c.from_residual.result _ c.from_residual.ensures.0

pub returns-in_err-touched-clause-idle : goal.returns-in_err-touched-clause-idle
returns-in_err-touched-clause-idle g c = IfOk-from_err c.from_residual.result _ c.from_residual.ensures.0

pub count_beyond-requires-clause-lengths : goal.count_beyond-requires-clause-lengths
count_beyond-requires-clause-lengths g c = (c.requires.fronts.0, c.requires.fronts.1, c.requires.marked.beyond)

pub index-requires : goal.index-requires
index-requires g c = lt_of_lt_of_le (c.requires.pivot.0)
    (le_of_eq (sym (c.args.lists.now.elements.ok.0 ∙ c.requires.lists.elements.0)))

pub index-requires-2 : goal.index-requires-2
index-requires-2 g c = lt_of_lt_of_le (c.requires.pivot.0)
    (le_of_eq (sym (c.shorten.new.lists.elements.ok.0 ∙ c.shorten.ensures.elements.0)))

pub index_mut-requires : goal.index_mut-requires
index_mut-requires g c = lt_of_lt_of_le (c.requires.pivot.0)
    (le_of_eq (sym (c.clear_all-3.new.marks.ok.0 ∙ c.clear_all-3.ensures.size ∙ c.requires.marked.rows.0)))
