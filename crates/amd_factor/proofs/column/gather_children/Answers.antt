use Rattle.std.proofs.Common.{ℕ, ◌≡◌, ◌<◌, ◌⊎◌, inl, inr, subst, sym, ◌∙◌, map, arith}
use Rattle.std.specs.Prelude.{slice_index_or, None, Contains}
use Rattle.std.proofs.lemmas.Bool.{cases_eq}
use Rattle.amd_factor.specs.Trees.{Entry}
use Rattle.amd_factor.specs.Gathering.{IsChild, IsLastChild}
use Rattle.amd_factor.proofs.Trees.ByChildren.{entry_by_child}
use Rattle.amd_factor.proofs.Trees.Descent.{IsAhead, LeadsTo, ahead, ahead_past, fewer_left, leads, steps_left}
use Rattle.amd_factor.proofs.Factors.PlaceNumbers.{are_range, counts_long, counts_range}
use Rattle.amd_types.specs.Naturals.{naturals}
use Rattle.amd_factor.proofs.column.gather_children.Goals as goal
use Rattle.amd_factor.proofs.column.gather_children.Goals.{then-child-base, else-child-base}

pub gather-count-requires : goal.gather-count-requires
gather-count-requires g c κs within =
    let can = c.requires.1 in
    let value = g.N.Index.value in
    let from = c.inherited-from.result.0 in let to = c.inherited-from.result.1 in
    let is : IsChild g.c c.in-Some.child = subst (LeadsTo g.c.order g.c.place) c.in-Some.is c.children.invariant.leads in
    let stand = can.columns.stand in let rows = naturals (map value c.args.columns.rows.now) in
    let has = (c.inherited-from.ensures.takes g.c rows stand is).inherits.1 in (
      within,
      (
        are_range value c.args.columns.rows.now from to can.columns.numbers,
        record {
          entries = λ j h. let e = (has j).0 (subst (λ xs. Contains xs j) (counts_range value c.args.columns.rows.now from to) h) in
              entry_by_child g.c.order.graph g.c.order.rows can.laws g.c.place j e.0 e.1.1 c.in-Some.child is e.1;
          listed = record {
            room = c.children.auto.fresh ∙ can.long;
            within = c.children.invariant.count;
            marks = c.children.invariant.marks;
          };
        },
      ),
    )

pub children-preserved : goal.children-preserved
children-preserved g c =
    let can = c.requires.1 in
    let value = g.N.Index.value in
    let child = c.in-Some.child in
    let is : IsChild g.c child = subst (LeadsTo g.c.order g.c.place) c.in-Some.is c.children.invariant.leads in
    let previous : IsLastChild g.c.order g.c.place child (slice_index_or c.args.columns.link.now child None) =
    can.columns.links.previous child g.c.place is.entry.0 is in
    let leads' = leads g.c.order g.c.place child (slice_index_or c.args.columns.link.now child None) previous in
    let past : (m : ℕ) → IsChild g.c m → IsAhead c.children.next m →
    (m ≡ child) ⊎ IsAhead (slice_index_or c.args.columns.link.now child None) m =
    (λ m p x. elim (cases_eq m child) [
      | inl q ↦ inl q
      | inr ne ↦ inr (ahead_past g.c.order g.c.place child m (slice_index_or c.args.columns.link.now child None) previous p
          (subst (λ v. IsAhead v m) c.in-Some.is x) ne)
    ]) in
    let at : (m j : ℕ) → m ≡ child → Entry g.c.order.graph g.c.order.rows m j → Entry g.c.order.graph g.c.order.rows child j =
    (λ m j q x. subst (λ y. Entry g.c.order.graph g.c.order.rows y j) q x) in
    elim c.if-child-base.branch [
      | then-child-base w ↦ (rw (w.mark-is, w.fresh-is, w.count-is) (record {
        count = w.gather-count.ensures.count;
        leads = leads';
        marks = w.gather-count.ensures.marks;
        kept = λ j old. w.gather-count.ensures.kept j (c.children.invariant.kept j old);
        done = λ m j p behind entry. elim (c.children.invariant.done m j p behind entry) [
          | inl x ↦ elim (past m p x) [
            | inl q ↦ inr (w.gather-count.ensures.all j
                (subst (λ xs. Contains xs j) (sym (counts_range value c.args.columns.rows.now w.inherited-from.result.0
                w.inherited-from.result.1))
                (((w.inherited-from.ensures.takes g.c (naturals (map value c.args.columns.rows.now)) can.columns.stand
                is).inherits.1 j).1 (behind, at m j q entry))))
            | inr a ↦ inl a
          ]
          | inr x ↦ inr (w.gather-count.ensures.kept j x)
        ];
      }))
      | else-child-base w ↦ rw (w.mark-is, w.fresh-is, w.count-is) (record {
        count = c.children.invariant.count;
        leads = leads';
        marks = c.children.invariant.marks;
        kept = c.children.invariant.kept;
        done = λ m j p behind entry. elim (c.children.invariant.done m j p behind entry) [
          | inl x ↦ elim (past m p x) [
            | inl q ↦ inr (c.children.invariant.kept j
                (can.base_marked (subst (λ y. IsChild g.c y) w.if-child-base.false is) j behind
                (subst (λ y. Entry g.c.order.graph g.c.order.rows y j) w.if-child-base.false (at m j q entry))))
            | inr a ↦ inl a
          ]
          | inr x ↦ inr x
        ];
      })
    ]

pub slice_bounds-gather-end : goal.slice_bounds-gather-end
slice_bounds-gather-end g c =
    let value = g.N.Index.value in let rows = c.args.columns.rows.now in
    let is : IsChild g.c c.in-Some.child = subst (LeadsTo g.c.order g.c.place) c.in-Some.is c.children.invariant.leads in
    let w = (c.inherited-from.ensures.takes g.c (naturals (map value rows)) c.requires.1.columns.stand is).within in
    let n = counts_long value rows in omega (arith, w, n)

pub inherited-from-requires : goal.inherited-from-requires
inherited-from-requires g c = record {
  stands = (
    g.c,
    naturals (map g.N.Index.value c.args.columns.rows.now),
    c.requires.1.columns.stand,
    subst (LeadsTo g.c.order g.c.place) c.in-Some.is c.children.invariant.leads,
  );
}

pub bounds-columns-k : goal.bounds-columns-k
bounds-columns-k g c =
    let can = c.requires.1 in let here = can.place in let low = can.inside in let room = can.columns.links.room in
    omega (arith, here, low, room)

pub offset_bounds-columns-k : goal.offset_bounds-columns-k
offset_bounds-columns-k g c =
    let can = c.requires.1 in let here = can.place in let low = can.inside in let room = can.columns.links.room in
    omega (arith, here, low, room)

pub bounds-columns-child : goal.bounds-columns-child
bounds-columns-child g c =
    let can = c.requires.1 in
    let is : IsChild g.c c.in-Some.child = subst (LeadsTo g.c.order g.c.place) c.in-Some.is c.children.invariant.leads in
    let behind = is.entry.0 in let low = can.inside in let room = can.columns.links.room in
    omega (arith, behind, low, room)

pub offset_bounds-columns-child : goal.offset_bounds-columns-child
offset_bounds-columns-child g c =
    let can = c.requires.1 in
    let is : IsChild g.c c.in-Some.child = subst (LeadsTo g.c.order g.c.place) c.in-Some.is c.children.invariant.leads in
    let behind = is.entry.0 in let low = can.inside in let room = can.columns.links.room in
    omega (arith, behind, low, room)

pub children-init : goal.children-init
children-init g c =
    let can = c.requires.1 in let o = g.c.order in let place = g.c.place in let link = c.args.columns.link.now in
    let last = can.columns.links.last place (omega arith) can.inside in record {
      count = omega arith;
      leads = subst (λ k. LeadsTo o place (slice_index_or link k None)) can.place (leads o place place
          (slice_index_or link place None) last);
      marks = can.marks;
      kept = λ j old. old;
      done = λ m j p behind entry. inl (subst (λ k. IsAhead (slice_index_or link k None) m) can.place
          (ahead o place place (slice_index_or link place None) last m p.entry.0 p));
    }

pub children-smaller : goal.children-smaller
children-smaller g c =
    let child = c.in-Some.child in let link = c.args.columns.link.now in
    let is : IsChild g.c child = subst (LeadsTo g.c.order g.c.place) c.in-Some.is c.children.invariant.leads in
    let previous : IsLastChild g.c.order g.c.place child (slice_index_or link child None) =
    c.requires.1.columns.links.previous child g.c.place is.entry.0 is in
    subst (λ v. steps_left (slice_index_or link child None) < steps_left v) (sym c.in-Some.is)
    (fewer_left g.c.order g.c.place child (slice_index_or link child None) previous)

pub slice_bounds-gather-start : goal.slice_bounds-gather-start
slice_bounds-gather-start g c = c.inherited-from.ensures.range

pub slice_bounds-gather-count : goal.slice_bounds-gather-count
slice_bounds-gather-count g c = c.inherited-from.ensures.range

pub offset_bounds-columns-from : goal.offset_bounds-columns-from
offset_bounds-columns-from g c =
    let value = g.N.Index.value in let rows = c.args.columns.rows.now in
    let is : IsChild g.c c.in-Some.child = subst (LeadsTo g.c.order g.c.place) c.in-Some.is c.children.invariant.leads in
    let w = (c.inherited-from.ensures.takes g.c (naturals (map value rows)) c.requires.1.columns.stand is).within in
    let n = counts_long value rows in let range = c.inherited-from.ensures.range in omega (arith, w, n, range)

pub returns-clause-count : goal.returns-clause-count
returns-clause-count g c = c.children.invariant.count

pub returns-clause-marks : goal.returns-clause-marks
returns-clause-marks g c = c.children.invariant.marks

pub returns-clause-children : goal.returns-clause-children
returns-clause-children g c = λ m j p behind entry. elim (c.children.invariant.done m j p behind entry) [
  | inl x ↦ absurd (subst (λ v. IsAhead v m) c.in_default.is x)
  | inr x ↦ x
]
