use Rattle.std.proofs.Common.{◌≤◌, ◌<◌, ◌-◌, ◌⊎◌, ℕ, inl, inr, subst, sym, arith}
use Rattle.std.specs.Prelude.{slice_index, slice_index_or, None}
use Rattle.std.proofs.lemmas.Bool.{cases_eq}
use Rattle.amd_factor.specs.Gathering.{IsChild, IsLastChild}
use Rattle.amd_factor.proofs.Trees.Descent.{IsAhead, LeadsTo, ahead, ahead_past, fewer_left, leads, steps_left}
use Rattle.amd_factor.proofs.children.greatest_child.Goals as goal
use Rattle.amd_factor.proofs.children.greatest_child.Goals.{then-ends-greatest, else-ends-greatest}

pub children-preserved : goal.children-preserved
children-preserved g c =
    let child = c.in-Some-next.child in
    let size : ℕ → ℕ = λ m. slice_index c.args.ends.now m - slice_index c.args.starts.now m in
    let is : IsChild g.c child = subst (LeadsTo g.c.order g.c.place) c.in-Some-next.is c.children.invariant.leads in
    let previous : IsLastChild g.c.order g.c.place child (slice_index_or c.args.link.now child None) =
    c.requires.links.previous child g.c.place is.entry.0 is in
    let far : (greatest : ℕ) → size child ≤ size greatest → size c.children.greatest ≤ size greatest → (m : ℕ) → IsChild g.c m →
    IsAhead (slice_index_or c.args.link.now child None) m ⊎ (size m ≤ size greatest) =
    (λ greatest a b m p. elim (c.children.invariant.greatest m p) [
      | inl x ↦ elim (cases_eq m child) [
        | inl q ↦ inr (subst (λ y. size y ≤ size greatest) (sym q) a)
        | inr ne ↦ inl (ahead_past g.c.order g.c.place child m (slice_index_or c.args.link.now child None) previous p
            (subst (λ v. IsAhead v m) c.in-Some-next.is x) ne)
      ]
      | inr x ↦ inr (omega (arith, x, b))
    ]) in
    elim c.if-ends-greatest.branch [
      | then-ends-greatest w ↦ (let t = w.if-ends-greatest.true in rw w.greatest-is (record {
        child = is;
        leads = leads g.c.order g.c.place child (slice_index_or c.args.link.now child None) previous;
        greatest = far child (omega arith) (omega (arith, t));
      }))
      | else-ends-greatest w ↦ (let t = w.if-ends-greatest.false in rw w.greatest-is (record {
        child = c.children.invariant.child;
        leads = leads g.c.order g.c.place child (slice_index_or c.args.link.now child None) previous;
        greatest = far c.children.greatest t (omega arith);
      }))
    ]

pub children-smaller : goal.children-smaller
children-smaller g c =
    let child = c.in-Some-next.child in let link = c.args.link.now in
    let is : IsChild g.c child = subst (LeadsTo g.c.order g.c.place) c.in-Some-next.is c.children.invariant.leads in
    let previous : IsLastChild g.c.order g.c.place child (slice_index_or link child None) =
    c.requires.links.previous child g.c.place is.entry.0 is in
    subst (λ v. steps_left (slice_index_or link child None) < steps_left v) (sym c.in-Some-next.is)
    (fewer_left g.c.order g.c.place child (slice_index_or link child None) previous)

pub bounds-link-k : goal.bounds-link-k
bounds-link-k g c =
    let here = c.requires.place in let low = c.requires.inside in let room = c.requires.links.room in omega (arith, here, low, room)

pub offset_bounds-link-k : goal.offset_bounds-link-k
offset_bounds-link-k g c =
    let here = c.requires.place in let low = c.requires.inside in let room = c.requires.links.room in omega (arith, here, low, room)

pub children-init : goal.children-init
children-init g c =
    let o = g.c.order in let place = g.c.place in let link = c.args.link.now in let here = c.requires.place in
    let greatest = c.in-Some.greatest in
    let size : ℕ → ℕ = λ m. slice_index c.args.ends.now m - slice_index c.args.starts.now m in
    let last = c.requires.links.last place (omega arith) c.requires.inside in
    let is : IsChild g.c greatest = subst (LeadsTo o place) c.in-Some.is (subst (λ k. LeadsTo o place (slice_index_or link k None)) here
    (leads o place place (slice_index_or link place None) last)) in
    let previous : IsLastChild o place greatest (slice_index_or link greatest None) =
    c.requires.links.previous greatest place is.entry.0 is in record {
      child = is;
      leads = leads o place greatest (slice_index_or link greatest None) previous;
      greatest = λ m p. elim (cases_eq m greatest) [
        | inl q ↦ inr (subst (λ y. size m ≤ size y) q (omega arith))
        | inr ne ↦ inl (ahead_past o place greatest m (slice_index_or link greatest None) previous p
            (subst (λ v. IsAhead v m) c.in-Some.is (subst (λ k. IsAhead (slice_index_or link k None) m) here
            (ahead o place place (slice_index_or link place None) last m p.entry.0 p))) ne)
      ];
    }

pub bounds-link-greatest : goal.bounds-link-greatest
bounds-link-greatest g c =
    let o = g.c.order in let place = g.c.place in let link = c.args.link.now in
    let last = c.requires.links.last place (omega arith) c.requires.inside in
    let is : IsChild g.c c.in-Some.greatest = subst (LeadsTo o place) c.in-Some.is (subst (λ k. LeadsTo o place
    (slice_index_or link k None))
    c.requires.place (leads o place place (slice_index_or link place None) last)) in
    let behind = is.entry.0 in let low = c.requires.inside in let room = c.requires.links.room in omega (arith, behind, low, room)

pub returns-clause-child : goal.returns-clause-child
returns-clause-child g c = c.children.invariant.child

pub returns-clause-greatest : goal.returns-clause-greatest
returns-clause-greatest g c = λ m p. elim (c.children.invariant.greatest m p) [
  | inl x ↦ absurd (subst (λ v. IsAhead v m) c.in_default-next.is x)
  | inr l ↦ l
]

pub overflow_sub-ends : goal.overflow_sub-ends
overflow_sub-ends g c = c.requires.stand.range c.children.greatest c.children.invariant.child.entry.0

pub overflow_sub-ends-in-Some-next : goal.overflow_sub-ends-in-Some-next
overflow_sub-ends-in-Some-next g c =
    let is : IsChild g.c c.in-Some-next.child = subst (LeadsTo g.c.order g.c.place) c.in-Some-next.is c.children.invariant.leads in
    c.requires.stand.range c.in-Some-next.child is.entry.0

pub bounds-ends-greatest : goal.bounds-ends-greatest
bounds-ends-greatest g c =
    let behind = c.children.invariant.child.entry.0 in let low = c.requires.inside in let room = c.requires.stand.stops in
    omega (arith, behind, low, room)

pub offset_bounds-ends-greatest : goal.offset_bounds-ends-greatest
offset_bounds-ends-greatest g c =
    let behind = c.children.invariant.child.entry.0 in let low = c.requires.inside in let room = c.requires.stand.stops in
    omega (arith, behind, low, room)

pub bounds-starts-greatest : goal.bounds-starts-greatest
bounds-starts-greatest g c =
    let behind = c.children.invariant.child.entry.0 in let low = c.requires.inside in let room = c.requires.stand.begins in
    omega (arith, behind, low, room)

pub offset_bounds-starts-greatest : goal.offset_bounds-starts-greatest
offset_bounds-starts-greatest g c =
    let behind = c.children.invariant.child.entry.0 in let low = c.requires.inside in let room = c.requires.stand.begins in
    omega (arith, behind, low, room)

pub bounds-ends-child : goal.bounds-ends-child
bounds-ends-child g c =
    let is : IsChild g.c c.in-Some-next.child = subst (LeadsTo g.c.order g.c.place) c.in-Some-next.is c.children.invariant.leads in
    let behind = is.entry.0 in let low = c.requires.inside in let room = c.requires.stand.stops in
    omega (arith, behind, low, room)

pub offset_bounds-ends-child : goal.offset_bounds-ends-child
offset_bounds-ends-child g c =
    let is : IsChild g.c c.in-Some-next.child = subst (LeadsTo g.c.order g.c.place) c.in-Some-next.is c.children.invariant.leads in
    let behind = is.entry.0 in let low = c.requires.inside in let room = c.requires.stand.stops in
    omega (arith, behind, low, room)

pub bounds-starts-child : goal.bounds-starts-child
bounds-starts-child g c =
    let is : IsChild g.c c.in-Some-next.child = subst (LeadsTo g.c.order g.c.place) c.in-Some-next.is c.children.invariant.leads in
    let behind = is.entry.0 in let low = c.requires.inside in let room = c.requires.stand.begins in
    omega (arith, behind, low, room)

pub offset_bounds-starts-child : goal.offset_bounds-starts-child
offset_bounds-starts-child g c =
    let is : IsChild g.c c.in-Some-next.child = subst (LeadsTo g.c.order g.c.place) c.in-Some-next.is c.children.invariant.leads in
    let behind = is.entry.0 in let low = c.requires.inside in let room = c.requires.stand.begins in
    omega (arith, behind, low, room)

pub bounds-link-child : goal.bounds-link-child
bounds-link-child g c =
    let is : IsChild g.c c.in-Some-next.child = subst (LeadsTo g.c.order g.c.place) c.in-Some-next.is c.children.invariant.leads in
    let behind = is.entry.0 in let low = c.requires.inside in let room = c.requires.links.room in omega (arith, behind, low, room)

pub offset_bounds-link-child : goal.offset_bounds-link-child
offset_bounds-link-child g c =
    let is : IsChild g.c c.in-Some-next.child = subst (LeadsTo g.c.order g.c.place) c.in-Some-next.is c.children.invariant.leads in
    let behind = is.entry.0 in let low = c.requires.inside in let room = c.requires.links.room in omega (arith, behind, low, room)
