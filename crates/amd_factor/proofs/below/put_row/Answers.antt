use Rattle.std.proofs.Common.{ap, subst, sym, ◌∙◌, arith, length, map}
use Rattle.std.specs.Prelude.{slice_index, slice_index_or, None, IsSome}
use borrow.Author.Rules.{scaled_Fits}
use Rattle.amd_types.specs.Naturals.{naturals}
use Rattle.amd_factor.specs.Partitions.{Climbs}
use Rattle.amd_factor.proofs.Partitions.RowClimbs.{climbs-on, higher, row-in, told}
use Rattle.amd_factor.proofs.Partitions.TypedRows.{count-length, in-range, set-count, told-more}
use Rattle.amd_factor.proofs.below.put_row.Goals as goal

pub offset_bounds-rows-next : goal.offset_bounds-rows-next
offset_bounds-rows-next g c =
    let can = c.requires.1 in
    let i = row-in g.b c.args.j c.args.s c.args.next.now c.args.mark.now (naturals (map g.I.Index.value c.args.rows.now))
    can.row.laws can.row.place can.climbs can.new in
    let n = count-length g.I.Index.value c.args.rows.now in
    scaled_Fits _ (length c.args.rows.now) _ (in-range _ _ _ i n) (omega arith)

pub bounds-rows-next : goal.bounds-rows-next
bounds-rows-next g c =
    let can = c.requires.1 in
    let n = count-length g.I.Index.value c.args.rows.now in
    let i = row-in g.b c.args.j c.args.s c.args.next.now c.args.mark.now (naturals (map g.I.Index.value c.args.rows.now))
    can.row.laws can.row.place can.climbs can.new in
    omega (arith, i, n)

pub overflow_add-next : goal.overflow_add-next
overflow_add-next g c =
    let can = c.requires.1 in
    let n = count-length g.I.Index.value c.args.rows.now in
    let i = row-in g.b c.args.j c.args.s c.args.next.now c.args.mark.now (naturals (map g.I.Index.value c.args.rows.now))
    can.row.laws can.row.place can.climbs can.new in
    omega (arith, i, n)

pub unwrap-requires : goal.unwrap-requires
unwrap-requires g c =
    let can = c.requires.1 in
    subst (λ xs. IsSome (slice_index_or xs c.args.s None)) (sym can.row.parents)
    (told g.b c.args.j c.args.s c.args.next.now c.args.mark.now (naturals (map g.I.Index.value c.args.rows.now)) can.row.laws
    can.row.place can.climbs can.new)

pub returns-clause-told : goal.returns-clause-told
returns-clause-told g c =
    let can = c.requires.1 in
    told-more g.I.Index.value c.args.rows.now (slice_index c.args.next.now c.args.s) c.args.j c.args.number can.row.is
    can.told

pub returns-clause-climbs : goal.returns-clause-climbs
returns-clause-climbs g c =
    let can = c.requires.1 in
    subst (Climbs g.b c.args.j c.unwrap.result _ _)
    (sym (set-count g.I.Index.value c.args.rows.now (slice_index c.args.next.now c.args.s) c.args.j c.args.number can.row.is))
    (climbs-on g.b c.args.j c.args.s c.args.next.now c.args.mark.now (naturals (map g.I.Index.value c.args.rows.now)) can.row.laws
    can.row.place can.climbs can.new c.unwrap.result
    (ap (λ xs. slice_index_or xs c.args.s None) (sym can.row.parents) ∙ c.unwrap.ensures))

pub returns-clause-higher : goal.returns-clause-higher
returns-clause-higher g c =
    let can = c.requires.1 in
    higher g.b c.args.j c.args.s c.args.next.now c.args.mark.now (naturals (map g.I.Index.value c.args.rows.now)) can.row.laws
    can.row.place can.climbs can.new c.unwrap.result
    (ap (λ xs. slice_index_or xs c.args.s None) (sym can.row.parents) ∙ c.unwrap.ensures)
