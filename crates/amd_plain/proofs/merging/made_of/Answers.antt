use Rattle.std.proofs.Common.{ℕ, Bool, List, [], ◌∷◌, ◌++◌, ◌<◌, ◌∙◌, ap, arith, length, get_or, filter}
use Rattle.std.specs.Prelude.{◌==◌}
use Rattle.std.specs.Vec.{vec_capacity}
use Rattle.std.proofs.lemmas.Bool.{eq-eqb, ne_eqb}
use Rattle.std.proofs.lemmas.List.{length_push, take_all}
use Rattle.amd_plain.specs.Views.{num}
use Rattle.amd_plain.proofs.Kept.{filter_add, filter_pass}
use Rattle.amd_plain.proofs.merging.made_of.Goals as goal
use Rattle.amd_plain.proofs.merging.made_of.Goals.{then-into-i, else-into-i}

pub loop-i-init : goal.loop-i-init
loop-i-init g c = record {
  kept = c.in_ok-made.ensures.items;
  few = (let e = ap length c.in_ok-made.ensures.items in omega (arith, e));
  room = c.in_ok-made.ensures.capacity;
}

pub loop-i-preserved : goal.loop-i-preserved
loop-i-preserved g c =
    let k : ℕ = c.loop-i.i-index in let rest : List ℕ = c.args.rest.now in let here : k < length rest = c.loop-i-test.true in
    let into : List ℕ = c.args.into.now in let x : ℕ = get_or rest k 0 in let own : ℕ → Bool = λ i. num into i == i in
    let was = c.loop-i.invariant in let few = was.few in let room = was.room in
    elim c.if-into-i.branch [
      | then-into-i w ↦ (
          let made = ap (λ v. v.items) w.made-is ∙ w.push_reserved.ensures.items in
          let long = ap length made ∙ length_push c.loop-i.made.items x in
          record {
            kept = made ∙ ap (λ l. l ++ x ∷ []) was.kept ∙ filter_add own rest k here (eq-eqb (num into x) x w.if-into-i.true);
            few = omega (arith, long, few);
            room = (let a = ap vec_capacity w.made-is in let b = w.push_reserved.ensures.capacity in omega (arith, a, b, room));
          })
      | else-into-i w ↦ record {
        kept = ap (λ v. v.items) w.made-is ∙ was.kept ∙ filter_pass own rest k here (ne_eqb (num into x) x w.if-into-i.false);
        few = (let e = ap (λ v. length v.items) w.made-is in omega (arith, e, few));
        room = (let a = ap vec_capacity w.made-is in omega (arith, a, room));
      }
    ]

pub push_reserved-requires : goal.push_reserved-requires
push_reserved-requires g c =
    let few = c.loop-i.invariant.few in let room = c.loop-i.invariant.room in let here = c.loop-i-test.true in
    let len = c.loop-i.made.ok.0 in omega (arith, few, room, here, len)

pub returns : goal.returns
returns g c = c.loop-i.invariant.kept ∙ ap (filter (λ i. num c.args.into.now i == i))
    (take_all c.loop-i.i-index c.args.rest.now c.loop-i-test.false)
