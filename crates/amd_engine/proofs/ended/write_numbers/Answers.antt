use Rattle.std.proofs.Common.{◌≡◌, ◌<◌, ◌+◌, ◌++◌, ◌∷◌, [], ℕ, ℤ, List, arith, ap, get_or, length, map, pos, refl, set, sym, take, ◌∙◌}
use Rattle.std.proofs.lemmas.List.{length-set, map-append, map_more, take_all, take_more_set}
use Rattle.amd_engine.proofs.ended.write_numbers.Goals as goal

pub figures-init : goal.figures-init
figures-init g c = record { size = c.requires.room; items = refl }

-- one more figure, as a number of the caller's type
write_figure : {X : Type 0} (value : X → ℤ) (numbers : List X) (figures : List ℕ) (k : ℕ) (x : X) → k < length numbers →
    k < length figures → map value (take k numbers) ≡ map pos (take k figures) → value x ≡ pos (get_or figures k 0) →
    map value (take (k + 1) (set numbers k x)) ≡ map pos (take (k + 1) figures)
write_figure value numbers figures k x room within so number =
    ap (map value) (take_more_set numbers k x room)
    ∙ map-append value (take k numbers) (x ∷ [])
    ∙ ap (λ zs. zs ++ value x ∷ []) so
    ∙ ap (λ z. map pos (take k figures) ++ z ∷ []) number
    ∙ sym (map_more pos figures k 0 within)

pub figures-preserved : goal.figures-preserved
figures-preserved g c =
    let i = c.figures.invariant in let t = c.figures-test.true in let size = i.size in record {
      size = length-set c.figures.numbers c.figures.k c.in-Some.number ∙ size;
      items = write_figure g.I.Index.value c.figures.numbers c.args.figures.now c.figures.k c.in-Some.number (omega (arith, size, t)) t
          i.items (c.in-Some.ensures.1 ∙ ap pos c.cell_at.ensures.is);
    }

pub returns : goal.returns
returns g c =
    let i = c.figures.invariant in let t = c.figures-test.false in let size = i.size in
    ap (map g.I.Index.value) (sym (take_all c.figures.k c.figures.numbers (omega (arith, size, t)))) ∙ i.items
    ∙ ap (map pos) (take_all c.figures.k c.args.figures.now t)
