use Rattle.std.proofs.Common.{◌≡◌, ◌-◌, ◌<◌, inl, inr, sym, subst, length, arith, set}
use Rattle.std.specs.Prelude.{slice_index}
use Rattle.std.proofs.lemmas.Bool.{cases_eq}
use Rattle.std.proofs.lemmas.List.{get_or-set_same, get_or-set_other}
use Rattle.amd_factor.specs.Meetings.{CountsTargets, Taken}
use Rattle.amd_factor.proofs.Meetings.Telling.{last-in, rises, added-more, counted}
use Rattle.amd_factor.proofs.sweep.tell_counts.Goals as goal

pub sum_over-added-requires-clause-last : goal.sum_over-added-requires-clause-last
sum_over-added-requires-clause-last g c =
    let tree = c.requires.0 in let lists = c.requires.1 in
    let m = lists.met.1 in
    let room = lists.counts_room in let t = c.columns-test.true in
    let low : c.columns.k < length g.s.up = omega (arith, room, t) in
    last-in g.s tree.scene c.args.tree.now.size.now c.args.tree.now.rank.now tree.sizes tree.ranks
    c.columns.k low c.args.plus.now
    c.add_up.new.numbers m.plus_room c.add_up.auto.numbers c.add_up.ensures

pub sum_over-added-requires-clause-rises : goal.sum_over-added-requires-clause-rises
sum_over-added-requires-clause-rises g c =
    let tree = c.requires.0 in let lists = c.requires.1 in
    let m = lists.met.1 in
    let room = lists.counts_room in let t = c.columns-test.true in
    let low : c.columns.k < length g.s.up = omega (arith, room, t) in
    rises g.s tree.scene c.args.tree.now.size.now c.args.tree.now.rank.now tree.sizes tree.ranks
    c.columns.k low c.args.plus.now
    c.add_up.new.numbers m.plus_room c.add_up.auto.numbers c.add_up.ensures

pub sum_over-taken-requires-clause-last : goal.sum_over-taken-requires-clause-last
sum_over-taken-requires-clause-last g c =
    let tree = c.requires.0 in let lists = c.requires.1 in
    let m = lists.met.1 in
    let room = lists.counts_room in let t = c.columns-test.true in
    let low : c.columns.k < length g.s.up = omega (arith, room, t) in
    last-in g.s tree.scene c.args.tree.now.size.now c.args.tree.now.rank.now tree.sizes tree.ranks
    c.columns.k low c.args.minus.now
    c.add_up-2.new.numbers m.minus_room c.add_up-2.auto.numbers c.add_up-2.ensures

pub sum_over-taken-requires-clause-rises : goal.sum_over-taken-requires-clause-rises
sum_over-taken-requires-clause-rises g c =
    let tree = c.requires.0 in let lists = c.requires.1 in
    let m = lists.met.1 in
    let room = lists.counts_room in let t = c.columns-test.true in
    let low : c.columns.k < length g.s.up = omega (arith, room, t) in
    rises g.s tree.scene c.args.tree.now.size.now c.args.tree.now.rank.now tree.sizes tree.ranks
    c.columns.k low c.args.minus.now
    c.add_up-2.new.numbers m.minus_room c.add_up-2.auto.numbers c.add_up-2.ensures

pub overflow_sub-counts : goal.overflow_sub-counts
overflow_sub-counts g c =
    let tree = c.requires.0 in let lists = c.requires.1 in
    let m = lists.met.1 in
    let room = lists.counts_room in let t = c.columns-test.true in
    let low : c.columns.k < length g.s.up = omega (arith, room, t) in
    let a = added-more g.s tree.scene c.args.tree.now.size.now c.args.tree.now.rank.now tree.sizes tree.ranks
    c.columns.k low lists.met.0
    c.args.plus.now c.args.minus.now c.add_up.new.numbers c.add_up-2.new.numbers m c.add_up.auto.numbers c.add_up-2.auto.numbers
    c.add_up.ensures
    c.add_up-2.ensures c.sum_over-added.result c.sum_over-taken.result c.sum_over-added.ensures c.sum_over-taken.ensures in omega (arith, a)

pub columns-preserved : goal.columns-preserved
columns-preserved g c =
    let tree = c.requires.0 in let lists = c.requires.1 in
    let m = lists.met.1 in
    let room = lists.counts_room in let t = c.columns-test.true in
    let low : c.columns.k < length g.s.up = omega (arith, room, t) in
    let new = c.sum_over-added.result - c.sum_over-taken.result in
    let here : slice_index (set c.columns.counts c.columns.k new) c.columns.k ≡ new =
    get_or-set_same c.columns.counts c.columns.k new 0 (let same = c.columns.auto.counts in omega (arith, same, t)) in
    λ k l. elim (cases_eq k c.columns.k) [
      | inl e ↦ subst (λ v. CountsTargets g.s (Taken g.s (length g.s.up)) v (slice_index (set c.columns.counts c.columns.k new) v)) (sym e)
          (subst (CountsTargets g.s (Taken g.s (length g.s.up)) c.columns.k) (sym here)
          (counted g.s tree.scene c.args.tree.now.size.now c.args.tree.now.rank.now tree.sizes tree.ranks
          c.columns.k low lists.met.0
          c.args.plus.now c.args.minus.now c.add_up.new.numbers c.add_up-2.new.numbers m c.add_up.auto.numbers c.add_up-2.auto.numbers
          c.add_up.ensures
          c.add_up-2.ensures c.sum_over-added.result c.sum_over-taken.result c.sum_over-added.ensures c.sum_over-taken.ensures))
      | inr ne ↦ subst (CountsTargets g.s (Taken g.s (length g.s.up)) k) (sym (get_or-set_other c.columns.counts c.columns.k k new 0 ne))
          (c.columns.invariant k (omega (arith, l, ne)))
    ]
