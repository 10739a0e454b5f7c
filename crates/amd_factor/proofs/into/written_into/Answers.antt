use Rattle.std.proofs.Common.{◌≡◌, ◌++◌, ap, drop, length, map, pos, arith, rules, ◌∙◌}
use Rattle.std.proofs.lemmas.List.{take_at}
use Rattle.amd_factor.proofs.into.written_into.Goals as goal

pub factor_lists-requires : goal.factor_lists-requires
factor_lists-requires g c κs inside = (inside, let room = c.requires.1.1.later_are.room in omega (arith, room))

pub fill_into-requires : goal.fill_into-requires
fill_into-requires g c κs inside =
    let r = c.requires.1.1 in
    let ptr : c.deref_mut.result.now ≡ c.in_ok-lists.lists.ptr.items = search rules in
    let parent : c.deref_mut-2.result.now ≡ c.in_ok-lists.lists.parent.items = search rules in
    let mark : c.deref_mut-3.result.now ≡ c.in_ok-lists.lists.mark.items = search rules in
    let link : c.deref_mut-4.result.now ≡ c.in_ok-lists.lists.link.items = search rules in
    let fresh : c.deref_mut-5.result.now ≡ c.in_ok-lists.lists.fresh.items = search rules in (
      inside,
      (
        (rw (ptr, parent, mark, link, fresh) c.in_ok-lists.ensures),
        r,
      ),
    )

pub returns-clause-factor : goal.returns-clause-factor
returns-clause-factor g c =
    let ptr : length c.fill_into.new.ptr ≡ c.in_ok-lists.lists.ptr.len = search rules in
    let parent : length c.fill_into.new.parent ≡ c.in_ok-lists.lists.parent.len = search rules in
    let f = c.in-Some.ensures.factor in
    rw (take_at c.fill_into.new.ptr _ _ ptr, take_at c.fill_into.new.parent _ _ parent)
    (f.0, f.2 ∙ ap (λ n. map pos f.0 ++ drop n (map g.I.Index.value c.args.rows.now)) f.1, f.3)
