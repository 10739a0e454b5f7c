use Rattle.std.proofs.Common.{◌≡◌, ◌++◌, ◌∷◌, [], arith, refl, sym, ap, ◌∙◌, length, get_or, take}
use Rattle.std.proofs.lemmas.List.{length-take, take_more, take_all, nil_from_length}
use Rattle.amd_engine.proofs.fresh.write_degrees.Goals as goal

pub rows-init : goal.rows-init
rows-init g c = record { items = nil_from_length c.args.len.now.items c.requires.empty; capacity = refl }

pub cell_of-requires : goal.cell_of-requires
cell_of-requires g c = c.requires.fits c.rows.degree-index c.rows-test.true

pub push_reserved-requires : goal.push_reserved-requires
push_reserved-requires g c =
    let i = c.rows.invariant in let t = c.rows-test.true in let room = c.requires.room in let kept = i.capacity in
    let len = c.rows.len.ok.0 in let is = ap length i.items in let long = length-take c.rows.degree-index c.args.degrees.now in
    omega (arith, t, room, kept, len, is, long)

pub rows-preserved : goal.rows-preserved
rows-preserved g c =
    let i = c.rows.invariant in let n = c.rows.degree-index in let degrees = c.args.degrees.now in let e = c.push_reserved.ensures in
    record {
      items = e.items ∙ ap (λ x. c.rows.len.items ++ x ∷ []) c.cell_of.ensures ∙ ap (λ xs. xs ++ get_or degrees n 0 ∷ []) i.items
          ∙ sym (take_more degrees n 0 c.rows-test.true);
      capacity = e.capacity ∙ i.capacity;
    }

pub returns-clause-items : goal.returns-clause-items
returns-clause-items g c =
    let end : c.rows.degree-index ≡ length c.args.degrees.now =
    (let x = c.rows-test.false in let y = c.rows.auto.degree-index-end in omega (arith, x, y)) in
    c.rows.invariant.items ∙ ap (λ k. take k c.args.degrees.now) end ∙ take_all (length c.args.degrees.now) c.args.degrees.now (omega arith)

pub returns-clause-capacity : goal.returns-clause-capacity
returns-clause-capacity g c = c.rows.invariant.capacity
