use Rattle.std.proofs.Common.{ℕ, ℤ, List, refl, ◌<◌, ◌≤◌, ◌+◌, ◌^◌, ◌-◌, sym, ap, subst, ◌∙◌, arith, sum_by, set, length}
use Rattle.std.proofs.Common.{le_of_eq, lt_of_lt_of_le}
use Rattle.amd_words.specs.Words.{num, start, size_of, classes, rows}
use Rattle.amd_elements.specs.Element.{grown}
use Rattle.amd_lists.specs.Workspaces.{workspace_of}
use Rattle.amd_lists.proofs.Frames.{has_parts}
use Rattle.amd_words.proofs.RowLists.{names_at}
use Rattle.amd_elements.proofs.Settling.{list_laid}
use Rattle.amd_elements.proofs.Gathering.{gathers_end}
use Rattle.amd_elements.proofs.OwnPlace.{gathers_at, own_few, own_gather, own_builds}
use Rattle.amd_elements.proofs.own_place.make_own.Goals as goal

pub list_lent-from-requires : goal.list_lent-from-requires
list_lent-from-requires g c = let q = c.requires.pivot in record {
  inside = (lt_of_lt_of_le q.row.0 (le_of_eq (sym q.lengths.0)), lt_of_lt_of_le q.row.0 (le_of_eq (sym q.lengths.2)));
  place = (has_parts c.args.work.now.pe.now c.args.work.now.len.now c.args.me q.listed).0;
}

pub enter-requires-clause-inside : goal.enter-requires-clause-inside
enter-requires-clause-inside g c = c.requires.pivot.row.0

pub enter-requires-clause-class : goal.enter-requires-clause-class
enter-requires-clause-class g c = c.requires.pivot.row.1

pub enter-requires-clause-fresh : goal.enter-requires-clause-fresh
enter-requires-clause-fresh g c = c.requires.pivot.clear c.args.me

pub gather-end-requires : goal.gather-end-requires
gather-end-requires g c = own_gather record {
  inside = (let f = c.list_lent-from.ensures.list.0 in let n = c.list_lent-from.ensures.list.1 in
      let w = c.requires.pivot.laid.within c.args.me c.requires.pivot.listed in
      let e = c.requires.pivot.end in omega (arith, f, n, w, e));
  names = (names_at c.args.work.now.iw.now (sym c.enter.ensures.long) (sym c.list_lent-from.ensures.list.0)
      (sym c.list_lent-from.ensures.list.1) (list_laid c.requires.pivot.laid c.args.me c.requires.pivot.listed).2);
} (subst (λ m. sum_by (size_of c.enter.new.nv) (grown c.args.work.now.iw.now c.enter.new.nv c.list_lent-from.result.0
    c.list_lent-from.result.0
    (classes c.enter.new.nv (rows c.args.work.now.iw.now c.list_lent-from.result.0 m))) < 2 ^ 63) (sym c.list_lent-from.ensures.list.1)
    (subst (λ s. sum_by (size_of c.enter.new.nv) (grown c.args.work.now.iw.now c.enter.new.nv s s
    (classes c.enter.new.nv (rows c.args.work.now.iw.now s (num c.args.work.now.len.now c.args.me)))) < 2 ^ 63)
    (sym c.list_lent-from.ensures.list.0)
    (own_few c.args.work.now.iw.now c.args.work.now.nv.now c.enter.new.nv c.args.work.now.pe.now c.args.work.now.len.now c.args.me
    c.enter.ensures.sizes c.enter.ensures.front
    c.requires.pivot.clear (let f = c.requires.few in let top = g.met.P.Signed.narrow in omega (arith, f, top)))))

pub put_flip-requires-clause-inside : goal.put_flip-requires-clause-inside
put_flip-requires-clause-inside g c = lt_of_lt_of_le c.requires.pivot.row.0 (le_of_eq (sym c.requires.pivot.lengths.1))

pub put_flip-requires-clause-small : goal.put_flip-requires-clause-small
put_flip-requires-clause-small g c =
    let b = own_builds c.args.work.now.iw.now c.args.work.now.nv.now c.enter.new.nv c.args.work.now.pe.now c.args.work.now.len.now
    c.args.me c.enter.ensures.sizes c.enter.ensures.front c.requires.pivot.clear c.enter.ensures.long
    (gathers_at c.list_lent-from.ensures.list.0 c.list_lent-from.ensures.list.1 c.gather-end.ensures) in
    subst (λ t. t + 2 ≤ g.P.Signed.MOST) (sym b.total_is) c.requires.few

pub returns-clause-builds : goal.returns-clause-builds
returns-clause-builds g c = let p = c.args.work.now in let at = c.list_lent-from.ensures.list in
    own_builds p.iw.now p.nv.now c.enter.new.nv p.pe.now p.len.now c.args.me c.enter.ensures.sizes c.enter.ensures.front
    c.requires.pivot.clear c.enter.ensures.long (gathers_at at.0 at.1 c.gather-end.ensures)

pub returns-clause-inside : goal.returns-clause-inside
returns-clause-inside g c = let p = c.args.work.now in let at = c.list_lent-from.ensures.list in
    gathers_end (start p.pe.now c.args.me) (num p.len.now c.args.me) (gathers_at at.0 at.1 c.gather-end.ensures)

pub returns-clause-counts : goal.returns-clause-counts
returns-clause-counts g c = c.put_flip.ensures

pub returns-clause-lengths : goal.returns-clause-lengths
returns-clause-lengths g c = let p = c.args.work.now in let me : ℕ = c.args.me in
    c.put_cell.ensures ∙ ap (λ xs. set xs me (c.gather-end.result.0 - c.list_lent-from.result.0)) c.list_lent-from.ensures.same.1
    ∙ ap (λ s. set p.len.now me (c.gather-end.result.0 - s)) c.list_lent-from.ensures.list.0

pub put_cell-requires-clause-inside : goal.put_cell-requires-clause-inside
put_cell-requires-clause-inside g c = lt_of_lt_of_le c.requires.pivot.row.0
    (le_of_eq (sym (ap length c.list_lent-from.ensures.same.1 ∙ c.requires.pivot.lengths.2)))

pub put_cell-requires-clause-fits : goal.put_cell-requires-clause-fits
put_cell-requires-clause-fits g c =
    let a = gathers_end c.list_lent-from.result.0 c.list_lent-from.result.1 c.gather-end.ensures in
    let b = c.list_lent-from.ensures.small in omega (arith, a, b)

pub returns-clause-same : goal.returns-clause-same
returns-clause-same g c =
    let p = c.args.work.now in let lent = c.list_lent-from.ensures.same in
    ap (λ (pe : List ℤ). record (workspace_of p) {
      iw = c.gather-end.new.iw;
      nv = c.gather-end.new.nv;
      pe = pe;
      e_len = c.put_flip.new.words;
      len = c.put_cell.new.cells;
    }) lent.0

pub returns-clause-loans : goal.returns-clause-loans
returns-clause-loans g c = (refl, refl, refl, refl, refl, refl, refl, refl, refl, refl)
