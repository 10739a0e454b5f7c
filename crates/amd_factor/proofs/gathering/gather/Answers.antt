use Rattle.std.proofs.Common.{◌≡◌, subst, sym, ◌∙◌, arith, map}
use Rattle.std.specs.Prelude.{slice_index}
use Rattle.amd_types.specs.Naturals.{naturals}
use Rattle.amd_factor.specs.Gathering.{EntryOf}
use Rattle.amd_factor.proofs.Factors.NewRows.{place_in}
use Rattle.amd_factor.proofs.Factors.PlaceNumbers.{counts_long, place_of}
use Rattle.amd_factor.proofs.gathering.gather.Goals as goal

pub place_at-requires-clause-small : goal.place_at-requires-clause-small
place_at-requires-clause-small g c =
    let e = c.requires.1.1.entries _ (place_of g.N.Index.value c.args.rows.now c.rows.k c.rows-test.true) in
    let l = e.1 in let r = c.rows.invariant.marks.room in let s = c.rows.auto.mark in omega (arith, l, r, s)

pub list_row-listed-requires : goal.list_row-listed-requires
list_row-listed-requires g c = let lists = c.requires.1.1 in (
  subst (EntryOf g.c) (sym c.place_at.ensures)
      (lists.entries _ (place_of g.N.Index.value c.args.rows.now c.rows.k c.rows-test.true)),
  record {
    room = c.rows.auto.fresh ∙ lists.listed.room;
    within = c.rows.invariant.listed;
    marks = c.rows.invariant.marks;
  },
)

pub returns-clause-all : goal.returns-clause-all
returns-clause-all g c = λ j h.
    let p = place_in (naturals (map g.N.Index.value c.args.rows.now)) j h in
    let t = c.rows-test.false in let n = counts_long g.N.Index.value c.args.rows.now in
    subst (λ x. slice_index c.rows.mark x ≡ c.args.stamp) p.2 (c.rows.invariant.all p.0 (let l = p.1 in omega (arith, l, t, n)))
