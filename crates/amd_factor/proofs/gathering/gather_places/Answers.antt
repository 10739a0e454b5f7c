use Rattle.std.proofs.Common.{◌≡◌, subst, ◌∙◌, arith}
use Rattle.std.specs.Prelude.{slice_index}
use Rattle.std.proofs.lemmas.List.Elements.{Contains-get_or}
use Rattle.amd_factor.proofs.Factors.NewRows.{place_in}
use Rattle.amd_factor.proofs.gathering.gather_places.Goals as goal

pub list_row-listed-requires : goal.list_row-listed-requires
list_row-listed-requires g c = (
  c.requires.entries _ (Contains-get_or c.args.rows.now c.rows.row-index 0 c.rows-test.true),
  record {
    room = c.rows.auto.fresh ∙ c.requires.listed.room;
    within = c.rows.invariant.listed;
    marks = c.rows.invariant.marks;
  },
)

pub returns-clause-all : goal.returns-clause-all
returns-clause-all g c = λ j h.
    let p = place_in c.args.rows.now j h in let t = c.rows-test.false in
    subst (λ x. slice_index c.rows.mark x ≡ c.args.stamp) p.2 (c.rows.invariant.all p.0 (let l = p.1 in omega (arith, l, t)))
