use Rattle.std.proofs.Common.{ℕ, ◌≡◌, ◌≢◌, ◌<◌, ◌≤◌, ◌+◌, ◌∙◌, ap, arith, length, map, set, subst, sym}
use Rattle.std.specs.Prelude.{Some, slice_range}
use Rattle.std.proofs.lemmas.Grind.{common_steps}
use Rattle.std.proofs.lemmas.List.{get_or-set_other, get_or-set_same, length-set, take_at}
use Rattle.amd_types.specs.Naturals.{naturals}
use Rattle.amd_factor.specs.Columns.{first_of}
use Rattle.amd_factor.specs.Gathering.{LinkChildren}
use Rattle.amd_factor.proofs.Factors.PlaceNumbers.{counts_long}
use Rattle.amd_factor.proofs.Factors.Sharing.{firsts_next, links_later, no_part, stand_next}
use Rattle.amd_factor.proofs.Factors.Standing.{first_at, first_parent, no_parent}
use Rattle.amd_factor.proofs.sharing.stand_column.Goals as goal

below : (a b : ℕ) → a ≤ b → a ≢ b → a < b
below a b l ne = omega (arith, l, ne)

pub returns-then-begin-end-clause-columns : goal.returns-then-begin-end-clause-columns
returns-then-begin-end-clause-columns g c =
    let can = c.requires.1.1 in let rows = naturals (map g.N.Index.value c.args.rows.now) in let lists = c.args.lists.now in
    let n = counts_long g.N.Index.value c.args.rows.now in let w = can.stands.within in
    let empty = no_part rows c.args.begin c.args.end c.if-begin-end.true in
    record {
      numbers = can.columns.numbers;
      stand = stand_next g.o c.args.k c.args.begin c.args.end lists.starts.items lists.ends.items rows can.columns.stand can.place
          can.stands.range (omega (arith, n, w)) can.stands.column;
      links = links_later g.o c.args.k lists.link.items
          (no_parent g.o c.args.k (slice_range rows c.args.begin c.args.end) can.stands.column (ap first_of empty)) can.columns.links;
    }

pub place_at-first-requires-clause-small : goal.place_at-first-requires-clause-small
place_at-first-requires-clause-small g c =
    let can = c.requires.1.1 in let rows = naturals (map g.N.Index.value c.args.rows.now) in
    let n = counts_long g.N.Index.value c.args.rows.now in let w = can.stands.within in
    let first = first_at rows c.args.begin c.args.end (below c.args.begin c.args.end can.stands.range c.if-begin-end.false)
    (omega (arith, n, w)) in
    let parent = first_parent g.o c.args.k _ (slice_range rows c.args.begin c.args.end) can.stands.column first in
    let l = parent.entry.1 in let s = can.small in omega (arith, l, s)

pub link_child-requires : goal.link_child-requires
link_child-requires g c =
    let can = c.requires.1.1 in let rows = naturals (map g.N.Index.value c.args.rows.now) in
    let n = counts_long g.N.Index.value c.args.rows.now in let w = can.stands.within in
    let first = first_at rows c.args.begin c.args.end (below c.args.begin c.args.end can.stands.range c.if-begin-end.false)
    (omega (arith, n, w)) ∙ ap Some (sym c.place_at-first.ensures) in (
      first_parent g.o c.args.k c.place_at-first.result (slice_range rows c.args.begin c.args.end) can.stands.column first,
      subst (LinkChildren g.o c.args.k) (sym c.deref_mut.ensures.value) can.columns.links,
    )

pub returns-clause-columns : goal.returns-clause-columns
returns-clause-columns g c =
    let can = c.requires.1.1 in let rows = naturals (map g.N.Index.value c.args.rows.now) in let lists = c.args.lists.now in
    let n = counts_long g.N.Index.value c.args.rows.now in let w = can.stands.within in
    let long : length c.link_child.new.link ≡ lists.link.len = grind (arith, common_steps) in
    record {
      numbers = can.columns.numbers;
      stand = stand_next g.o c.args.k c.args.begin c.args.end lists.starts.items lists.ends.items rows can.columns.stand can.place
          can.stands.range (omega (arith, n, w)) can.stands.column;
      links = subst (LinkChildren g.o (c.args.k + 1)) (sym (take_at c.link_child.new.link _ _ long)) c.link_child.ensures.links;
    }

pub returns-clause-firsts : goal.returns-clause-firsts
returns-clause-firsts g c =
    let can = c.requires.1.1 in let rows = naturals (map g.N.Index.value c.args.rows.now) in let lists = c.args.lists.now in
    let n = counts_long g.N.Index.value c.args.rows.now in let w = can.stands.within in let k = c.args.k in
    let firsts = c.args.firsts.now in let first = c.place_at-first.result in let room = can.told.room in let place = can.place in
    firsts_next g.o k c.args.begin c.args.end lists.starts.items lists.ends.items rows can.columns.stand can.place can.stands.range
    (omega (arith, n, w)) can.stands.column firsts (set firsts k first) can.told (length-set firsts k first)
    (λ m low. get_or-set_other firsts k m first 0 (omega (arith, low)))
    (λ low. first_at rows c.args.begin c.args.end low (omega (arith, n, w))
    ∙ ap Some (sym c.place_at-first.ensures ∙ sym (get_or-set_same firsts k first 0 (omega (arith, room, place)))))
