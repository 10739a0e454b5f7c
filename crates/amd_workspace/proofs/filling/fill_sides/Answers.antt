use Rattle.std.proofs.Common.{◌≡◌, replicate, ℕ, ◌++◌, ◌∷◌, [], arith, ap, length, ◌∙◌}
use Rattle.std.proofs.lemmas.List.{length-replicate, replicate_more}
use Rattle.std.specs.Vec.{vec_capacity}
use Rattle.amd_workspace.proofs.filling.fill_sides.Goals as goal

pub push_reserved-requires : goal.push_reserved-requires
push_reserved-requires g c =
    let i = c.sides.invariant in let long = length-replicate {A = ℕ × ℕ} c.sides.counter (c.args.number, c.args.number) in
    let same = ap length i.items in let room = i.room in let wide = c.requires.room in let len = c.sides.own.ok.0 in
    omega (arith, long, same, room, wide, len)

pub sides-preserved : goal.sides-preserved
sides-preserved g c =
    let i = c.sides.invariant in let e = c.push_reserved.ensures in record {
      room = e.capacity ∙ i.room;
      items = e.items ∙ ap (λ x. c.sides.own.items ++ x ∷ []) c.sides_of.ensures
          ∙ ap (λ xs. xs ++ (c.args.number, c.args.number) ∷ []) i.items ∙ replicate_more c.sides.counter (c.args.number, c.args.number);
    }

pub sides-init : goal.sides-init
sides-init g c = record {
  room = c.clear.ensures.capacity ∙ ap vec_capacity c.replace-own.ensures.value;
  items = c.clear.ensures.items;
}

pub returns-clause-items : goal.returns-clause-items
returns-clause-items g c =
    let end : c.sides.counter ≡ c.args.count = (let a = c.sides-test.false in let b = c.sides.auto.counter-end in omega (arith, a, b)) in
    c.sides.invariant.items ∙ ap (λ n. replicate n (c.args.number, c.args.number)) end
