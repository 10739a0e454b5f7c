-- the goals of absorption::shorten.
use Rattle.std.proofs.Common.{ℕ, Bool, List, ◌<◌, refl, arith, length, get_or, not, ◌&&◌, nat_lt}
use Rattle.amd_plain.specs.Views.{num, mark_at}
use Rattle.amd_model.specs.Quotient.{has}
use Rattle.amd_plain.proofs.Kept.{keep_next, below_next}
use Rattle.std.proofs.Common.{filter}
use Rattle.amd_plain.specs.Views.{list_at}
use Rattle.amd_plain.proofs.Kept.{changed_all}
use Rattle.std.proofs.Common.{lt_of_lt_of_le, le_of_eq, sym, ◌∙◌}
use borrow.Author.Count.{falls}
use Rattle.amd_plain.proofs.absorption.shorten.Goals as goal

pub loop-i-init : goal.loop-i-init
unfolding has
loop-i-init g c = record {
  kept_elements = λ e. refl;
  kept_variables = λ e. refl;
  members = refl;
  elements =
      c.requires.elements;
  variables = c.requires.variables;
}

pub loop-i-preserved : goal.loop-i-preserved
loop-i-preserved g c =
    let k : ℕ = c.loop-i.i-index in let front : List ℕ = c.args.front.now in let here : k < length front = c.loop-i-test.true in
    let was = c.loop-i.invariant in let range = c.requires.range k 0 here in let x : ℕ = get_or front k 0 in
    let elements = c.loop-i.lists.elements.items in let variables = c.loop-i.lists.variables.items in
    let small : x < length elements = (let a = was.elements.0 in omega (arith, range, a)) in
    let room : x < length variables = (let a = was.variables.0 in omega (arith, range, a)) in
    let left : ℕ → Bool = λ e. not (mark_at c.args.taken.now e) in
    let outer : ℕ → Bool = λ j. nat_lt 0 (num c.args.size.now j) && not (mark_at c.args.marks.now j) in
    record {
      kept_elements = keep_next left c.args.lists.now.elements.items elements front k c.index_mut.result.now c.keep_elements.new.list here
          c.requires.once small c.index_mut.ensures.value c.keep_elements.ensures was.kept_elements;
      kept_variables = keep_next outer c.args.lists.now.variables.items variables front k c.index_mut-in-loop-i.result.now
          c.keep_variables.new.list here c.requires.once room c.index_mut-in-loop-i.ensures.value c.keep_variables.ensures
          was.kept_variables;
      members = was.members;
      elements = below_next (length c.args.size.now) left elements x c.index_mut.result.now c.keep_elements.new.list small
          c.index_mut.ensures.value c.keep_elements.ensures was.elements;
      variables = below_next (length c.args.size.now) outer variables x c.index_mut-in-loop-i.result.now c.keep_variables.new.list room
          c.index_mut-in-loop-i.ensures.value c.keep_variables.ensures was.variables;
    }

pub returns-clause-kept_variables : goal.returns-clause-kept_variables
returns-clause-kept_variables g c = changed_all c.args.front.now c.loop-i.i-index c.loop-i-test.false
    (λ i. filter (λ j. nat_lt 0 (num c.args.size.now j) && not (mark_at c.args.marks.now j)) (list_at c.args.lists.now.variables.items i))
    (list_at c.args.lists.now.variables.items) (list_at c.loop-i.lists.variables.items) c.loop-i.invariant.kept_variables

pub returns-clause-kept_elements : goal.returns-clause-kept_elements
returns-clause-kept_elements g c = changed_all c.args.front.now c.loop-i.i-index c.loop-i-test.false
    (λ i. filter (λ e. not (mark_at c.args.taken.now e)) (list_at c.args.lists.now.elements.items i))
    (list_at c.args.lists.now.elements.items) (list_at c.loop-i.lists.elements.items) c.loop-i.invariant.kept_elements

pub returns-clause-variables : goal.returns-clause-variables
returns-clause-variables g c = c.loop-i.invariant.variables

pub returns-clause-elements : goal.returns-clause-elements
returns-clause-elements g c = c.loop-i.invariant.elements

pub bounds-front-i-index : goal.bounds-front-i-index
bounds-front-i-index g c = c.loop-i-test.true

pub loop-i-smaller : goal.loop-i-smaller
loop-i-smaller g c = falls (length c.args.front.now) c.loop-i.i-index c.loop-i-test.true

pub index_mut-requires : goal.index_mut-requires
index_mut-requires g c = lt_of_lt_of_le (c.requires.range c.loop-i.i-index 0 c.loop-i-test.true)
    (le_of_eq (sym (c.loop-i.lists.elements.ok.0 ∙ c.loop-i.invariant.elements.0)))

pub index_mut-requires-in-loop-i : goal.index_mut-requires-in-loop-i
index_mut-requires-in-loop-i g c = lt_of_lt_of_le (c.requires.range c.loop-i.i-index 0 c.loop-i-test.true)
    (le_of_eq (sym (c.loop-i.lists.variables.ok.0 ∙ c.loop-i.invariant.variables.0)))

pub returns-clause-members : goal.returns-clause-members
returns-clause-members g c = c.loop-i.invariant.members
