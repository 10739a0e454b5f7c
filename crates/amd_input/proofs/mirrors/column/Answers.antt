-- the goals of mirrors::column.
use Rattle.std.proofs.Common.{◌≡◌, ◌≢◌, ◌+◌, ◌<◌, ◌^◌, ◌++◌, ◌∷◌, [], Bool, true, false, arith, map, get_or, ap, sym, ◌∙◌, subst}
use Rattle.std.proofs.lemmas.Bool.{eqb-true, eqb-false, true≢false, le-ltb}
use Rattle.std.proofs.lemmas.List.{length-map}
use Rattle.amd_model.specs.Below.{count_below}
use Rattle.amd_types.specs.Naturals.{naturals, is_entry}
use Rattle.amd_edges.proofs.Forms.{pointer_fits, pointer_read, row_fits, place_in, place_up, sorted_form}
use Rattle.amd_edges.proofs.Reading.{before_end, past_end}
use Rattle.amd_input.specs.Mirrors.{HaveMirrors, CountOthers, is_beside}
use Rattle.amd_input.proofs.MirroredRows.{column_with, column_without, others_push}
use Rattle.amd_input.proofs.mirrors.column.Goals as goal
use Rattle.amd_input.proofs.mirrors.column.Goals.{then-place-end, else-place-end, then-diagonal, else-diagonal}

pub count_at-start-requires-clause-fits : goal.count_at-start-requires-clause-fits
count_at-start-requires-clause-fits g c = pointer_fits c.args.size (map g.I.Index.value c.args.a_p.now)
    (map g.I.Index.value c.args.a_i.now) c.requires.input.form c.args.k (let l = c.requires.k_in in omega (arith, l))
    (subst (λ x. x < 2 ^ 64) (sym (length-map c.args.a_i.now g.I.Index.value)) (omega (arith, c.well_formed)))

pub count_at-end-requires-clause-fits : goal.count_at-end-requires-clause-fits
count_at-end-requires-clause-fits g c = pointer_fits c.args.size (map g.I.Index.value c.args.a_p.now)
    (map g.I.Index.value c.args.a_i.now) c.requires.input.form (c.args.k + 1) (let l = c.requires.k_in in omega (arith, l))
    (subst (λ x. x < 2 ^ 64) (sym (length-map c.args.a_i.now g.I.Index.value)) (omega (arith, c.well_formed)))

pub count_at-requires-clause-within : goal.count_at-requires-clause-within
count_at-requires-clause-within g c = place_in g.I.Index.value c.args.a_i.now c.args.size (map g.I.Index.value c.args.a_p.now)
    c.requires.input.form c.args.k c.in-Some.place c.count_at-end.result c.requires.k_in c.count_at-end.ensures.count c.if-place-end.true

pub count_at-requires-clause-fits : goal.count_at-requires-clause-fits
count_at-requires-clause-fits g c = row_fits c.args.size (map g.I.Index.value c.args.a_p.now) (map g.I.Index.value c.args.a_i.now)
    c.requires.input.form c.args.k c.in-Some.place c.requires.k_in (before_end c.count_at-end.ensures.count c.if-place-end.true)
    c.ranges.size.fits

pub cell_of-requires : goal.cell_of-requires
cell_of-requires g c =
    let p = c.in-Some.place in let r = c.requires in
    place_up c.args.size (map g.I.Index.value c.args.a_p.now) (map g.I.Index.value c.args.a_i.now) r.input.form r.k_in
    c.count_at-end.ensures.count (elim c.if-diagonal.branch [
      | then-diagonal w ↦ (let is = w.place-is in let inside = before w.if-diagonal.true in omega (arith, is, inside))
      | else-diagonal w ↦ (let is = w.place-is in let to = c.in-Some.ensures.ends.to in let ends = c.count_at-end.ensures.count in
          omega (arith, is, to, ends))
    ]) r.fits
  where
    before : c.if-place-end.diagonal ≡ true → c.in-Some.place < c.count_at-end.result
    before e = elim c.if-place-end.branch [
      | then-place-end w ↦ w.if-place-end.true
      | else-place-end w ↦ absurd (true≢false (sym e ∙ w.diagonal-is ∙ le-ltb c.in-Some.place c.count_at-end.result w.if-place-end.false))
    ]

pub cell_of-requires-2 : goal.cell_of-requires-2
cell_of-requires-2 g c =
    place_up c.args.size (map g.I.Index.value c.args.a_p.now) (map g.I.Index.value c.args.a_i.now) c.requires.input.form c.requires.k_in
    c.count_at-end.ensures.count (elim c.if-diagonal.branch [
      | then-diagonal w ↦ (let is = w.others-is in omega (arith, is))
      | else-diagonal w ↦ (let is = w.others-is in omega (arith, is))
    ]) c.requires.fits

pub returns : goal.returns
returns g c =
    let n = c.args.size in let k = c.args.k in let p = c.in-Some.place in
    let ap' = naturals (map g.I.Index.value c.args.a_p.now) in let ai = naturals (map g.I.Index.value c.args.a_i.now) in
    let r = c.requires in let ends = c.count_at-end.ensures.count in let starts = c.count_at-start.ensures.count in
    let t = c.uppers.new.next.items in
    let form = sorted_form n (map g.I.Index.value c.args.a_p.now) (map g.I.Index.value c.args.a_i.now) r.input.form r.input.sorted in
    let diagonal : Bool = c.if-place-end.diagonal in let place = c.if-diagonal.place in let others = c.if-diagonal.others in
    let found : diagonal ≡ true → (p < get_or ap' (k + 1) 0) × (get_or ai p 0 ≡ k) = λ e. elim c.if-place-end.branch [
      | then-place-end w ↦ (
        before_end ends w.if-place-end.true,
        sym w.count_at.ensures.count ∙ eqb-true w.count_at.result k (sym w.diagonal-is ∙ e),
      )
      | else-place-end w ↦ absurd (true≢false (sym e ∙ w.diagonal-is ∙ le-ltb p c.count_at-end.result w.if-place-end.false))
    ] in
    let missed : diagonal ≡ false → p < get_or ap' (k + 1) 0 → get_or ai p 0 ≢ k = λ e inside. elim c.if-place-end.branch [
      | then-place-end w ↦ λ same. eqb-false w.count_at.result k (sym w.diagonal-is ∙ e) (w.count_at.ensures.count ∙ same)
      | else-place-end w ↦ absurd (past_end ends w.if-place-end.false inside)
    ] in
    let over : HaveMirrors n ap' ai (t ++ place ∷ []) (k + 1) 0 × (others ≡ count_below n (is_beside n ap' ai k))
    × (diagonal ≡ is_entry n ap' ai k k) = elim c.if-diagonal.branch [
      | then-diagonal w ↦ (let is = found w.if-diagonal.true in let o = w.others-is in
          let both = column_with n ap' ai form k p r.k_in c.in-Some.ensures.ends t c.in-Some.ensures.read place others is.0 is.1 w.place-is
          (omega (arith, o, ends, starts)) in (both.0, both.1, w.if-diagonal.true ∙ both.2))
      | else-diagonal w ↦ (let o = w.others-is in
          let both = column_without n ap' ai form k p r.k_in c.in-Some.ensures.ends t c.in-Some.ensures.read place others
          (missed w.if-diagonal.false) w.place-is (omega (arith, o, ends, starts)) in (both.0, both.1, w.if-diagonal.false ∙ both.2))
    ] in
    record {
      read = subst (λ l. HaveMirrors n ap' ai l (k + 1) 0)
          (ap (λ x. t ++ x ∷ []) (sym c.cell_of.ensures) ∙ sym c.push_reserved.ensures.items) over.0;
      others = subst (λ l. CountOthers n ap' ai (k + 1) l)
          (ap (λ x. c.args.degrees.now.items ++ x ∷ []) (sym c.cell_of-2.ensures) ∙ sym c.push_reserved-2.ensures.items)
          (others_push n ap' ai c.args.degrees.now.items k others r.others over.1);
      diagonal = over.2;
      lacks = tt;
      room = (c.push_reserved.ensures.capacity ∙ c.uppers.ensures.room, c.push_reserved-2.ensures.capacity);
    }

pub count_at-start-requires-clause-within : goal.count_at-start-requires-clause-within
count_at-start-requires-clause-within g c = (pointer_read g.I.Index.value c.args.a_p.now c.args.a_i.now c.args.size
    c.requires.input.form c.args.k (let l = c.requires.k_in in omega (arith, l)) (omega (arith, c.well_formed))).0

pub count_at-end-requires-clause-within : goal.count_at-end-requires-clause-within
count_at-end-requires-clause-within g c = (pointer_read g.I.Index.value c.args.a_p.now c.args.a_i.now c.args.size
    c.requires.input.form (c.args.k + 1) (let l = c.requires.k_in in omega (arith, l)) (omega (arith, c.well_formed))).0

pub uppers-requires-clause-input : goal.uppers-requires-clause-input
uppers-requires-clause-input g c = c.requires.input

pub uppers-requires-clause-fits : goal.uppers-requires-clause-fits
uppers-requires-clause-fits g c = c.requires.fits

pub uppers-requires-clause-k_in : goal.uppers-requires-clause-k_in
uppers-requires-clause-k_in g c = c.requires.k_in

pub uppers-requires-clause-read : goal.uppers-requires-clause-read
uppers-requires-clause-read g c = c.requires.read
