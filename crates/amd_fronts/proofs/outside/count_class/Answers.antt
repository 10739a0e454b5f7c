use Rattle.std.proofs.Common.{refl, sym, ◌∙◌, arith, le_of_eq, lt_of_lt_of_le}
use Rattle.amd_words.specs.Sides.{nexts, lasts}
use Rattle.amd_lists.specs.Workspaces.{workspace_of}
use Rattle.amd_fronts.specs.Premises.{CanTouchAll}
use Rattle.amd_fronts.specs.Tallies.{tally_of}
use Rattle.amd_fronts.proofs.LentParts.{counted_over, counted_same}
use Rattle.amd_fronts.proofs.outside.count_class.Goals as goal

pub leave_list-requires : goal.leave_list-requires
leave_list-requires g c = record {
  lengths = (let l = c.requires.more_lengths in let n = sym l.1 in (l.0 ∙ n, c.requires.lengths.3 ∙ n));
  row = (let r = c.requires.row in let a = r.0 in let b = r.1 in let n = c.requires.more_lengths.1 in
      (omega (arith, a, n), omega (arith, b, n)));
}

pub class_lent-first-requires : goal.class_lent-first-requires
class_lent-first-requires g c = let a = c.requires.row.0 in let l = c.requires.lengths in record {
  inside = (
    lt_of_lt_of_le a (le_of_eq (sym l.0)),
    lt_of_lt_of_le a (le_of_eq (sym l.1)),
    lt_of_lt_of_le a (le_of_eq (sym l.2)),
  );
  places = (c.requires.listed.starts, c.requires.listed.counts);
  marked = c.requires.listed.inside;
}

pub touch_all-requires-clause-small : goal.touch_all-requires-clause-small
touch_all-requires-clause-small g c = c.requires.small

pub touch_all-requires-clause-all : goal.touch_all-requires-clause-all
touch_all-requires-clause-all g c =
    let p = workspace_of c.args.work.now in let at = c.class_lent-first.ensures.class in let same = c.class_lent-first.ensures.same in
    let l = c.requires.listed in
    let ready : CanTouchAll g.U.Unsigned.MOST (tally_of c.args.aggressive c.args.me c.args.i p) p.iw p.pe p.degree p.w _ _ = record {
      lengths = (c.requires.lengths.3, c.requires.lengths.0);
      inside = l.within;
      names = l.names;
      once = l.once;
      again = c.requires.again;
      first = c.requires.first;
      fits = c.requires.fits;
    } in
    rw (at.0, at.1, at.2, same.0, c.leave_list.ensures.same) ready

pub returns : goal.returns
returns g c =
    let p = workspace_of c.args.work.now in let i = c.args.i in
    let at = c.class_lent-first.ensures.class in let same = c.class_lent-first.ensures.same in
    let degree = c.leave_list.ensures.same in let kept = c.touch_all.ensures.same in let out = c.leave_list.ensures.takes in
    let l = c.requires.more_lengths in let t = out.lengths in let sides = c.leave_list.new.sides in
    record {
      counts = record {
        touches = counted_over (λ m. record { more = m; flag = p.flag; me = c.args.me; aggressive = c.args.aggressive })
            p.iw at.2 at.0 at.1 same.0 degree c.touch_all.ensures.touches;
        lengths = (t.0 ∙ l.1 ∙ sym l.0, t.1, t.2 ∙ l.1 ∙ sym l.2);
        linked = rw l.1 at out.linked;
        same = counted_same p kept.0 same.1 same.2 (kept.1 ∙ degree) c.touch_all.new.pe c.touch_all.new.w c.leave_list.new.head
            (nexts sides) (lasts sides);
      };
      loans = (refl, refl, refl, refl, refl, refl, refl, refl, refl, refl);
    }
