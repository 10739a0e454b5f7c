use Rattle.std.proofs.Common.{◌≡◌, ◌&&◌, inl, inr, ℕ, Bool, false, List, get_or, sym, ap, subst, ◌∙◌, Vec}
use Rattle.std.proofs.lemmas.Bool.{and_from, and_left, and_right, false≢true}
use Rattle.std.proofs.Math.Bool.{and_assoc}
use Rattle.amd_model.specs.Quotient.{has, each, Once}
use Rattle.amd_plain.specs.Views.{list_at}
use Rattle.amd_plain.specs.Rounds.{plain_alike}
use Rattle.amd_round_laws.proofs.Lists.Named.{has_at, more_gives}
use Rattle.amd_plain.proofs.ListPlaces.{list_deref}
use Rattle.std.proofs.Common.{length, lt_of_lt_of_le, le_of_eq}
use Rattle.std.proofs.lemmas.List.{take_all}
use Rattle.amd_plain.proofs.ReadLists.{read_below}
use Rattle.amd_plain.proofs.merging.first_alike.Goals as goal
use Rattle.amd_plain.proofs.merging.first_alike.Goals.{else-same_list-via-then-same_list+else-same_list-2}
use Rattle.amd_plain.proofs.merging.first_alike.Goals.{else-same_list-via-else-same_list}

-- two lists name the same numbers
abbrev same : List ℕ → List ℕ → Bool
same xs ys = each (has ys) xs && each (has xs) ys

two_alike : {A : Type 0} (elements variables : List (Vec ℕ A)) (i r : ℕ) →
    plain_alike elements variables i r ≡ (same (list_at elements r) (list_at elements i) && same (list_at variables r)
    (list_at variables i))
two_alike elements variables i r = and_assoc (same (list_at elements r) (list_at elements i))
    (each (has (list_at variables i)) (list_at variables r)) (each (has (list_at variables r)) (list_at variables i))

same_as : (xs ys xs' ys' : List ℕ) → xs ≡ xs' → ys ≡ ys' → same xs ys ≡ same xs' ys'
same_as xs ys xs' ys' e f = ap (λ z. same z ys) e ∙ ap (same xs') f

pub loop-r-init : goal.loop-r-init
unfolding has
loop-r-init g c = λ r h. absurd (false≢true h)

pub same_list-requires-clause-once : goal.same_list-requires-clause-once
same_list-requires-clause-once g c =
    let es = c.args.lists.now.elements.items in
    let r : ℕ = get_or c.args.group.now c.loop-r.r-index 0 in
    let once = c.requires.comparable.group_once r (has_at c.args.group.now c.loop-r.r-index 0 c.loop-r-test.true) in (
      subst Once (sym (list_deref es r c.index.result.now _ (c.requires.comparable.range c.loop-r.r-index 0 c.loop-r-test.true)
          c.index.ensures
          c.deref.ensures.value)) once.0,
      subst Once (sym (list_deref es c.args.i c.index-in-loop-r.result.now _ c.requires.comparable.row c.index-in-loop-r.ensures
          c.deref-in-loop-r.ensures.value)) c.requires.comparable.once.0,
    )

pub same_list-requires-then-same_list-clause-once : goal.same_list-requires-then-same_list-clause-once
same_list-requires-then-same_list-clause-once g c =
    let vs = c.args.lists.now.variables.items in
    let size = c.requires.comparable.variables.0 in
    let row = c.requires.comparable.row in
    let r : ℕ = get_or c.args.group.now c.loop-r.r-index 0 in
    let small = c.requires.comparable.range c.loop-r.r-index 0 c.loop-r-test.true in
    let once = c.requires.comparable.group_once r (has_at c.args.group.now c.loop-r.r-index 0 c.loop-r-test.true) in (
      subst Once (sym (list_deref vs r c.index-then-same_list.result.now _
          (lt_of_lt_of_le small (le_of_eq (sym size))) c.index-then-same_list.ensures
          c.deref-then-same_list.ensures.value)) once.1,
      subst Once (sym (list_deref vs c.args.i c.index-then-same_list-2.result.now _ (lt_of_lt_of_le row (le_of_eq (sym size)))
          c.index-then-same_list-2.ensures c.deref-then-same_list-2.ensures.value)) c.requires.comparable.once.1,
    )

pub returns-then-same_list-2 : goal.returns-then-same_list-2
returns-then-same_list-2 g c =
    let es = c.args.lists.now.elements.items in
    let vs = c.args.lists.now.variables.items in
    let size = c.requires.comparable.variables.0 in
    let row = c.requires.comparable.row in
    let i = c.args.i in
    let r : ℕ = get_or c.args.group.now c.loop-r.r-index 0 in
    let small = c.requires.comparable.range c.loop-r.r-index 0 c.loop-r-test.true in
    let er = list_deref es r c.index.result.now _ small c.index.ensures c.deref.ensures.value in
    let ei = list_deref es i c.index-in-loop-r.result.now _ row c.index-in-loop-r.ensures c.deref-in-loop-r.ensures.value in
    let vr = list_deref vs r c.index-then-same_list.result.now _
    (lt_of_lt_of_le small (le_of_eq (sym size))) c.index-then-same_list.ensures
    c.deref-then-same_list.ensures.value in
    let vi = list_deref vs i c.index-then-same_list-2.result.now _
    (lt_of_lt_of_le row (le_of_eq (sym size))) c.index-then-same_list-2.ensures
    c.deref-then-same_list-2.ensures.value in (
      has_at c.args.group.now c.loop-r.r-index 0 c.loop-r-test.true,
      two_alike es vs i r ∙ and_from (same (list_at es r) (list_at es i)) (same (list_at vs r) (list_at vs i))
          (sym (same_as _ _ _ _ er ei) ∙ sym c.same_list.ensures ∙ c.if-same_list.true)
          (sym (same_as _ _ _ _ vr vi) ∙ sym c.same_list-then-same_list.ensures ∙ c.if-same_list-2.true),
    )

pub loop-r-preserved : goal.loop-r-preserved
loop-r-preserved g c =
    let es = c.args.lists.now.elements.items in
    let vs = c.args.lists.now.variables.items in
    let size = c.requires.comparable.variables.0 in
    let row = c.requires.comparable.row in
    let i = c.args.i in
    let k = c.loop-r.r-index in
    let group = c.args.group.now in
    let r : ℕ = get_or group k 0 in
    let small = c.requires.comparable.range k 0 c.loop-r-test.true in
    let er = list_deref es r c.index.result.now _ small c.index.ensures c.deref.ensures.value in
    let ei = list_deref es i c.index-in-loop-r.result.now _ row c.index-in-loop-r.ensures c.deref-in-loop-r.ensures.value in
    let unlike : plain_alike es vs i r ≡ false = two_alike es vs i r ∙ elim c.else-same_list.branch [
      | else-same_list-via-then-same_list+else-same_list-2 w ↦ (
          let vr = list_deref vs r w.index-then-same_list.result.now _
          (lt_of_lt_of_le small (le_of_eq (sym size))) w.index-then-same_list.ensures
          w.deref-then-same_list.ensures.value in
          let vi = list_deref vs i w.index-then-same_list-2.result.now _
          (lt_of_lt_of_le row (le_of_eq (sym size))) w.index-then-same_list-2.ensures
          w.deref-then-same_list-2.ensures.value in
          and_right (same (list_at es r) (list_at es i)) (same (list_at vs r) (list_at vs i))
          (sym (same_as _ _ _ _ vr vi) ∙ sym w.same_list-then-same_list.ensures ∙ w.if-same_list-2.false))
      | else-same_list-via-else-same_list w ↦ and_left (same (list_at es r) (list_at es i)) (same (list_at vs r) (list_at vs i))
          (sym (same_as _ _ _ _ er ei) ∙ sym c.same_list.ensures ∙ w.if-same_list.false)
    ] in
    λ x h. elim (more_gives group k 0 x c.loop-r-test.true h) [
      | inl q ↦ c.loop-r.invariant x q
      | inr q ↦ ap (plain_alike es vs i) q ∙ unlike
    ]

pub same_list-requires-clause-marked : goal.same_list-requires-clause-marked
same_list-requires-clause-marked g c j = c.requires.elements.1 j ∙ ap (λ xs. has xs j)
    (sym (list_deref c.args.lists.now.elements.items c.args.i c.index-in-loop-r.result.now _ c.requires.comparable.row
    c.index-in-loop-r.ensures
    c.deref-in-loop-r.ensures.value))

pub same_list-requires-then-same_list-clause-marked : goal.same_list-requires-then-same_list-clause-marked
same_list-requires-then-same_list-clause-marked g c j = c.requires.rows.1 j ∙ ap (λ xs. has xs j)
    (sym (list_deref c.args.lists.now.variables.items c.args.i c.index-then-same_list-2.result.now _
    (lt_of_lt_of_le c.requires.comparable.row (le_of_eq (sym c.requires.comparable.variables.0))) c.index-then-same_list-2.ensures
    c.deref-then-same_list-2.ensures.value))

pub same_list-requires-clause-range : goal.same_list-requires-clause-range
same_list-requires-clause-range g c =
    read_below (length c.args.lists.now.elements.items) (length c.args.elements.now) c.args.lists.now.elements.items
    (get_or c.args.group.now c.loop-r.r-index 0) c.index.result.now c.deref.result.now c.requires.comparable.elements
    (c.requires.comparable.range c.loop-r.r-index 0 c.loop-r-test.true) c.index.ensures c.deref.ensures.value c.requires.elements.0

pub same_list-requires-then-same_list-clause-range : goal.same_list-requires-then-same_list-clause-range
same_list-requires-then-same_list-clause-range g c =
    read_below (length c.args.lists.now.elements.items) (length c.args.rows.now) c.args.lists.now.variables.items
    (get_or c.args.group.now c.loop-r.r-index 0) c.index-then-same_list.result.now c.deref-then-same_list.result.now
    c.requires.comparable.variables (c.requires.comparable.range c.loop-r.r-index 0 c.loop-r-test.true) c.index-then-same_list.ensures
    c.deref-then-same_list.ensures.value c.requires.rows.0

pub returns : goal.returns
returns g c r h = c.loop-r.invariant r
    (ap (λ xs. has xs r) (take_all c.loop-r.r-index c.args.group.now c.loop-r-test.false) ∙ h)
