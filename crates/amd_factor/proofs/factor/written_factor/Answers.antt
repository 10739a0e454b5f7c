use Rattle.std.proofs.Common.{◌≡◌, length, arith, rules, subst, sym}
use Rattle.std.proofs.lemmas.List.{take_at}
use Rattle.amd_types.proofs.SignedCounts.{same_counts}
use Rattle.amd_factor.specs.Columns.{HoldFactor}
use Rattle.amd_factor.proofs.factor.written_factor.Goals as goal

pub factor_lists-requires : goal.factor_lists-requires
factor_lists-requires g c κs inside = (inside, let later = c.requires.1.1 in let room = later.room in omega (arith, room))

pub fill-requires : goal.fill-requires
fill-requires g c κs inside =
    let laws = c.requires.1.0 in
    let h = c.requires.1.1 in
    let ptr : c.deref_mut.result.now ≡ c.in_ok-lists.lists.ptr.items = search rules in
    let parent : c.deref_mut-2.result.now ≡ c.in_ok-lists.lists.parent.items = search rules in
    let mark : c.deref_mut-3.result.now ≡ c.in_ok-lists.lists.mark.items = search rules in
    let link : c.deref_mut-4.result.now ≡ c.in_ok-lists.lists.link.items = search rules in
    let fresh : c.deref_mut-5.result.now ≡ c.in_ok-lists.lists.fresh.items = search rules in (
      search rules,
      (
        inside,
        record {
          lists = record { laws = laws; most = λ j l. (let room = h.room in omega (arith, l, room)); later_are = h };
          sizes = rw (ptr, parent, mark, link, fresh) c.in_ok-lists.ensures;
          empty = c.in_ok-rows.ensures.items;
          capacity_is = (let e = c.in_ok-rows.ensures.exact in omega (arith, e));
        },
      ),
    )

pub returns-clause-factor : goal.returns-clause-factor
returns-clause-factor g c =
    let ptr : length c.fill.new.ptr ≡ c.in_ok-lists.lists.ptr.len = search rules in
    let parent : length c.fill.new.parent ≡ c.in_ok-lists.lists.parent.len = search rules in
    let f = c.in-Some.ensures.factor in
    rw (take_at c.fill.new.ptr _ _ ptr, take_at c.fill.new.parent _ _ parent)
    (subst (λ xs. HoldFactor g.o.graph g.o.rows c.fill.new.ptr xs c.fill.new.parent) (sym (same_counts c.fill.new.rows.items f.1 f.2)) f.3)
