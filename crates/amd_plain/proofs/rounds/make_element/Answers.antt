-- the goals of rounds::make_element.
use Rattle.std.proofs.Common.{ℕ, List, ◌≡◌, ◌<◌, ◌∙◌, ap, length, refl, subst}
use Rattle.std.specs.Prelude.{flat_map, ◌++◌, ◌==◌}
use Rattle.amd_plain.specs.Views.{list_at, plain_live, ListsBelow}
use Rattle.amd_plain.specs.ListsByBound.{Chosen}
use Rattle.amd_plain.specs.Rounds.{firsts, plain_counts, PlainAbsorbed}
use Rattle.amd_plain.specs.Keeps.{IsIdle}
use Rattle.amd_plain.specs.declared.work.PlainLists.{PlainLists}
use Rattle.amd_plain.proofs.FrontLists.{pivot_below, front_below, front_once, front_other}
use Rattle.std.proofs.lemmas.Result.{IfOk-from_err}
use Rattle.amd_plain.proofs.rounds.make_element.Goals as goal

-- the list of the element of a pivot
abbrev gathered : {A : Type 0} → List ℕ → PlainLists A → ℕ → List ℕ
gathered size lists c =
    firsts (λ x. x == c) (flat_map (λ e. plain_live size (list_at lists.members.items e)) (list_at lists.elements.items c)
    ++ plain_live size
    (list_at lists.variables.items c))

pub choose-pivot-requires-clause-lengths : goal.choose-pivot-requires-clause-lengths
choose-pivot-requires-clause-lengths g c = rw (c.deref.ensures.value, c.deref-2.ensures.value) c.requires.sized.bound

pub choose-pivot-requires-clause-range : goal.choose-pivot-requires-clause-range
choose-pivot-requires-clause-range g c = rw c.deref.ensures.value c.requires.sized.placed

pub choose-pivot-requires-clause-some : goal.choose-pivot-requires-clause-some
choose-pivot-requires-clause-some g c = rw (c.deref.ensures.value, c.deref-2.ensures.value) c.requires.some

pub front_of-requires-clause-size : goal.front_of-requires-clause-size
front_of-requires-clause-size g c = rw c.deref-3.ensures.value c.requires.sized.idle.rows.0

pub front_of-requires-clause-pivot : goal.front_of-requires-clause-pivot
front_of-requires-clause-pivot g c =
    let chosen = c.choose-pivot.ensures.chosen in let w = c.args.work.now in
    let below : c.choose-pivot.result < length w.size.items =
    pivot_below (length w.size.items) c.deref.result.now c.deref-2.result.now c.choose-pivot.new.least w.placed.items
    (list_at c.choose-pivot.new.lists.items c.choose-pivot.new.least) c.choose-pivot.result c.requires.sized.placed chosen.popped in
    rw c.deref-3.ensures.value below

pub front_of-requires-clause-variables : goal.front_of-requires-clause-variables
front_of-requires-clause-variables g c = rw c.deref-3.ensures.value c.requires.sized.variables

pub front_of-requires-clause-elements : goal.front_of-requires-clause-elements
front_of-requires-clause-elements g c = rw c.deref-3.ensures.value c.requires.sized.elements

pub front_of-requires-clause-members : goal.front_of-requires-clause-members
front_of-requires-clause-members g c = rw c.deref-3.ensures.value c.requires.sized.members

pub front_of-requires-clause-clear : goal.front_of-requires-clause-clear
front_of-requires-clause-clear g c = c.requires.sized.idle.rows.1

pub returns-in_err-front : goal.returns-in_err-front
returns-in_err-front g c = record { makes = IfOk-from_err c.from_residual.result _ c.from_residual.ensures.0 }

pub absorb-requires-clause-fronts : goal.absorb-requires-clause-fronts
absorb-requires-clause-fronts g c = let s = c.requires.sized in
    rw (c.deref-5.ensures.value, c.deref-6.ensures.value, c.deref-7.ensures.value) (s.block, s.front)

pub absorb-requires-clause-lists : goal.absorb-requires-clause-lists
absorb-requires-clause-lists g c = let s = c.requires.sized in
    rw c.deref-5.ensures.value (record { variables = s.variables; elements = s.elements; members = s.members })

pub absorb-requires-clause-pivot : goal.absorb-requires-clause-pivot
absorb-requires-clause-pivot g c =
    let chosen = c.choose-pivot.ensures.chosen in let w = c.args.work.now in
    let below : c.choose-pivot.result < length w.size.items =
    pivot_below (length w.size.items) c.deref.result.now c.deref-2.result.now c.choose-pivot.new.least w.placed.items
    (list_at c.choose-pivot.new.lists.items c.choose-pivot.new.least) c.choose-pivot.result c.requires.sized.placed chosen.popped in
    let front : List ℕ = c.in_ok-front.front.items in
    let other = front_other c.deref-3.result.now w.lists.members.items w.lists.elements.items w.lists.variables.items c.choose-pivot.result
    front c.in_ok-front.ensures.list in
    rw (c.deref-5.ensures.value, c.deref-4.ensures.value) (below, other)

pub absorb-requires-clause-range : goal.absorb-requires-clause-range
absorb-requires-clause-range g c =
    let w = c.args.work.now in let front : List ℕ = c.in_ok-front.front.items in
    let small = front_below c.deref-3.result.now w.lists.members.items w.lists.elements.items w.lists.variables.items c.choose-pivot.result
    front c.in_ok-front.ensures.list (length w.size.items) c.requires.sized.members c.requires.sized.variables in
    rw (c.deref-5.ensures.value, c.deref-4.ensures.value) small

pub absorb-requires-clause-once : goal.absorb-requires-clause-once
absorb-requires-clause-once g c =
    let w = c.args.work.now in let front : List ℕ = c.in_ok-front.front.items in
    let once = front_once c.deref-3.result.now w.lists.members.items w.lists.elements.items w.lists.variables.items c.choose-pivot.result
    front c.in_ok-front.ensures.list in
    rw c.deref-4.ensures.value once

pub absorb-requires-clause-parent : goal.absorb-requires-clause-parent
absorb-requires-clause-parent g c = rw c.deref-5.ensures.value c.requires.sized.parent

pub absorb-requires-clause-marked : goal.absorb-requires-clause-marked
absorb-requires-clause-marked g c = let idle = c.requires.sized.idle in
    rw (c.deref-5.ensures.value, c.deref-4.ensures.value) (record {
      rows = (c.front_of.ensures.size ∙ idle.rows.0, c.in_ok-front.ensures.marked);
      elements = idle.elements;
      groups = idle.groups;
      beyond = idle.beyond;
      into = idle.into;
    })

pub returns-in_err-absorb : goal.returns-in_err-absorb
returns-in_err-absorb g c = record { makes = IfOk-from_err c.from_residual-in_err-absorb.result _ c.from_residual-in_err-absorb.ensures.0 }

pub returns : goal.returns
returns g c =
    let w = c.args.work.now in let p : ℕ = c.choose-pivot.result in let front : List ℕ = c.in_ok-front.front.items in
    let sized = c.requires.sized in
    let chosen = subst (λ b. Chosen c.deref.result.now b w.placed.items c.choose-pivot.new.lists.items w.least c.choose-pivot.new.least p)
    c.deref-2.ensures.value c.choose-pivot.ensures.chosen in
    let list : front ≡ gathered c.deref-3.result.now w.lists p = c.in_ok-front.ensures.list in
    let absorbed = subst (λ f. PlainAbsorbed c.args.aggressive p f
    (plain_counts c.deref-5.result.now c.deref-6.result.now c.deref-7.result.now) w.lists
    c.absorb.new.lists w.parent.items c.absorb.new.parent.items c.absorb.new.scratch.beyond.items) c.deref-4.ensures.value
    c.in_ok-absorb.ensures.absorbed in
    let of_blocks = subst (λ b. PlainAbsorbed c.args.aggressive p front (plain_counts c.deref-5.result.now b c.deref-7.result.now) w.lists
    c.absorb.new.lists w.parent.items c.absorb.new.parent.items c.absorb.new.scratch.beyond.items) c.deref-6.ensures.value absorbed in
    let of_fronts = subst (λ f. PlainAbsorbed c.args.aggressive p front (plain_counts c.deref-5.result.now w.block.items f) w.lists
    c.absorb.new.lists w.parent.items c.absorb.new.parent.items c.absorb.new.scratch.beyond.items) c.deref-7.ensures.value of_blocks in
    record {
      makes = record {
        chosen = subst (λ s. Chosen s w.bound.items w.placed.items c.choose-pivot.new.lists.items w.least c.choose-pivot.new.least p)
            c.deref.ensures.value chosen;
        front_is = list ∙ ap (λ s. gathered s w.lists p) c.deref-3.ensures.value;
        absorbed = subst (λ s. PlainAbsorbed c.args.aggressive p front (plain_counts s w.block.items w.front.items) w.lists
            c.absorb.new.lists w.parent.items c.absorb.new.parent.items c.absorb.new.scratch.beyond.items)
            c.deref-5.ensures.value of_fronts;
        rows = record { size = refl; bound = refl; link = refl; live = refl };
        elements = record { block = refl; front = refl; n_dense = refl; figures = refl };
        sized = record {
          variables = subst (λ s. ListsBelow (length s) c.absorb.new.lists.variables.items) c.deref-5.ensures.value
              c.in_ok-absorb.ensures.lists.variables;
          elements = subst (λ s. ListsBelow (length s) c.absorb.new.lists.elements.items) c.deref-5.ensures.value
              c.in_ok-absorb.ensures.lists.elements;
          members = subst (λ s. ListsBelow (length s) c.absorb.new.lists.members.items) c.deref-5.ensures.value
              c.in_ok-absorb.ensures.lists.members;
          placed = subst (λ s. ListsBelow (length s) c.choose-pivot.new.lists.items) c.deref.ensures.value c.choose-pivot.ensures.range;
          size = sized.size;
          bound = sized.bound;
          link = sized.link;
          parent = c.in_ok-absorb.ensures.parent ∙ ap length c.deref-5.ensures.value;
          block = sized.block;
          front = sized.front;
          idle = subst (λ s. IsIdle (length s) c.absorb.new.scratch) c.deref-5.ensures.value c.in_ok-absorb.ensures.idle;
        };
      };
    }
