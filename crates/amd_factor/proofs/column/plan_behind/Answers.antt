use Rattle.std.proofs.Common.{map, sym, subst}
use Rattle.std.proofs.lemmas.List.{take_rest}
use Rattle.amd_types.specs.Naturals.{naturals}
use Rattle.amd_factor.specs.Gathering.{StandAt}
use Rattle.amd_factor.proofs.Factors.Standing.{stand_behind}
use Rattle.amd_factor.proofs.column.plan_behind.Goals as goal

pub plan_column-requires : goal.plan_column-requires
plan_column-requires g c κs inside =
    let can = c.requires.1.0 in
    let h = c.requires.1.1 in let rows = naturals (map g.N.Index.value c.args.rows.now) in let ptr = c.args.lists.now.ptr.now in (
      inside,
      (
        can,
        record {
          numbers = h.numbers;
          links = h.links;
          stand = subst (λ ends. StandAt g.o c.args.k ptr ends rows) (sym (take_rest ptr 1))
              (stand_behind g.o c.args.k ptr rows can.place h.columns);
        },
      ),
    )
