use Rattle.std.proofs.Common.{ℕ, ◌||◌, refl, sym, ap, subst, ◌∙◌}
use Rattle.std.proofs.Common.{le_of_eq, le_trans, lt_of_lt_of_le}
use Rattle.std.proofs.lemmas.Bool.{eq-eqb}
use Rattle.amd_model.specs.Quotient.{has}
use Rattle.amd_elements.specs.Element.{front_of}
use Rattle.amd_elements.specs.Premises.{HasListsAround}
use Rattle.amd_elements.specs.Room.{Unmarks, named_around}
use Rattle.amd_elements.proofs.ListsAround.{around_wide}
use Rattle.amd_elements.proofs.Meeting.{meets_none, unmarks_none, unmarks_one, unmarks_then, unmarked, meets_front_is, meets_front_left}
use Rattle.amd_elements.proofs.fitting.room_beyond_front.Goals as goal

pub visit_around-requires-clause-lists : goal.visit_around-requires-clause-lists
visit_around-requires-clause-lists g c = around_wide c.enter.new.nv c.enter.ensures.long c.requires.around.lists

pub visit_around-requires-clause-held : goal.visit_around-requires-clause-held
visit_around-requires-clause-held g c = record { meets = meets_none c.enter.new.nv c.args.room; same = refl }

pub leave-requires-clause-marked : goal.leave-requires-clause-marked
leave-requires-clause-marked g c = let pivot : ℕ = c.args.pivot in
    meets_front_is c.args.iw.now c.args.nv.now c.enter.new.nv c.args.pe.now c.args.len.now pivot c.args.n_elements c.enter.ensures.sizes
    c.enter.ensures.front c.requires.around.clear c.visit_around.ensures.held.meets pivot
    ∙ ap (λ b. b || has (front_of c.args.iw.now c.args.nv.now c.args.pe.now c.args.len.now pivot c.args.n_elements) pivot)
    (eq-eqb pivot pivot refl)

pub visit_around-requires-2-clause-lists : goal.visit_around-requires-2-clause-lists
visit_around-requires-2-clause-lists g c = subst (λ iw. HasListsAround c.args.pivot c.args.n_elements iw c.leave.new.nv c.args.pe.now
    c.args.len.now c.args.free) (sym c.visit_around.ensures.held.same) (around_wide c.leave.new.nv
    (c.leave.ensures.long ∙ c.visit_around.ensures.lengths.1 ∙ c.enter.ensures.long) c.requires.around.lists)

pub visit_around-requires-2-clause-held : goal.visit_around-requires-2-clause-held
visit_around-requires-2-clause-held g c = record { unmarks = unmarks_none c.leave.new.nv; same = refl }

pub returns-clause-room : goal.returns-clause-room
returns-clause-room g c = meets_front_left c.args.iw.now c.args.nv.now c.enter.new.nv c.args.pe.now c.args.len.now c.args.pivot
    c.args.n_elements c.enter.ensures.sizes c.enter.ensures.front c.requires.around.clear c.visit_around.ensures.held.meets

pub returns-clause-same : goal.returns-clause-same
returns-clause-same g c = let h = c.visit_around.ensures.held.meets in (
  c.visit_around-2.ensures.held.same ∙ c.visit_around.ensures.held.same,
  unmarked c.args.iw.now c.args.nv.now c.args.pe.now c.args.len.now c.args.pivot c.args.n_elements c.visit_around.new.nv
      c.visit_around-2.new.nv c.requires.around.clear (h.wide ∙ c.enter.ensures.long) (λ j. h.sizes j ∙ c.enter.ensures.sizes j)
      (meets_front_is c.args.iw.now c.args.nv.now c.enter.new.nv c.args.pe.now c.args.len.now c.args.pivot c.args.n_elements
      c.enter.ensures.sizes c.enter.ensures.front c.requires.around.clear h)
      (unmarks_then (unmarks_one c.visit_around.new.nv c.leave.new.nv c.args.pivot c.leave.ensures.long c.leave.ensures.sizes
      c.leave.ensures.front) (subst (λ iw. Unmarks c.leave.new.nv (named_around iw c.args.pe.now c.args.len.now c.args.pivot
      c.args.n_elements) c.visit_around-2.new.nv) c.visit_around.ensures.held.same c.visit_around-2.ensures.held.unmarks)),
)

pub enter-requires : goal.enter-requires
enter-requires g c = let a = c.requires.around in record { inside = a.pivot.0; class = a.pivot.1; fresh = a.clear c.args.pivot }

pub visit_around-requires-clause-pivot : goal.visit_around-requires-clause-pivot
visit_around-requires-clause-pivot g c = lt_of_lt_of_le c.requires.around.pivot.0 (le_of_eq (sym c.enter.ensures.long))

pub visit_around-requires-clause-end : goal.visit_around-requires-clause-end
visit_around-requires-clause-end g c = c.requires.end

pub leave-requires-clause-inside : goal.leave-requires-clause-inside
leave-requires-clause-inside g c =
    lt_of_lt_of_le c.requires.around.pivot.0 (le_of_eq (sym (c.visit_around.ensures.lengths.1 ∙ c.enter.ensures.long)))

pub visit_around-requires-2-clause-pivot : goal.visit_around-requires-2-clause-pivot
visit_around-requires-2-clause-pivot g c = lt_of_lt_of_le c.requires.around.pivot.0
    (le_of_eq (sym (c.leave.ensures.long ∙ c.visit_around.ensures.lengths.1 ∙ c.enter.ensures.long)))

pub visit_around-requires-2-clause-end : goal.visit_around-requires-2-clause-end
visit_around-requires-2-clause-end g c = le_trans c.requires.end (le_of_eq (sym c.visit_around.ensures.lengths.0))
