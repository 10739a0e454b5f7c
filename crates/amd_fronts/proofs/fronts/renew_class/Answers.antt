-- The goals of fronts::renew_class.
use Rattle.std.proofs.Common.{refl, sym, ap, ◌∙◌, arith, length, set, pos, get_or-set_same, le_of_eq, le_trans, lt_of_lt_of_le}
use Rattle.amd_words.specs.Words.{num}
use Rattle.amd_lists.specs.Layout.{list_of}
use Rattle.amd_lists.specs.Renewal.{CanRenew}
use Rattle.amd_lists.specs.Workspaces.{workspace_of}
use Rattle.amd_fronts.proofs.LentParts.{renewed_over, renewed_same}
use Rattle.amd_fronts.proofs.RenewedFronts.{one_from}
use Rattle.amd_fronts.proofs.fronts.renew_class.Goals as goal

pub list_lent-from-requires : goal.list_lent-from-requires
list_lent-from-requires g c = let a = c.requires.placed.row in let l = c.requires.lengths in record {
  inside = (lt_of_lt_of_le a (le_of_eq (sym l.0)), lt_of_lt_of_le a (le_of_eq (sym l.2)));
  place = c.requires.placed.starts;
}

pub named_lent-n_elements-requires : goal.named_lent-n_elements-requires
named_lent-n_elements-requires g c = let a = c.requires.placed.row in record {
  inside = lt_of_lt_of_le a (le_of_eq (sym c.requires.lengths.1));
  place = c.requires.placed.counts;
}

pub renew_lent-few-requires : goal.renew_lent-few-requires
renew_lent-few-requires g c =
    let p = workspace_of c.args.work.now in let at = c.list_lent-from.ensures.list in let r = c.requires in
    let ready : CanRenew g.S.Signed.MOST g.U.Unsigned.MOST p.flag c.args.me p.w p.nv (list_of p p c.args.i) = record {
      lengths = r.lengths.3;
      inside = r.placed.within;
      long = (let n = r.narrow in let z = g.met.P.Signed.narrow in omega (arith, n, z));
      few = (let s = c.list_lent-from.ensures.small in let n = at.1 in omega (arith, s, n));
      parts = r.placed.parts;
      names = r.placed.names;
      row = r.row;
      room = r.loses;
      met = r.met;
    } in
    rw (at.0, at.1, c.named_lent-n_elements.ensures.is) ready

pub put_row-requires-clause-inside : goal.put_row-requires-clause-inside
put_row-requires-clause-inside g c = let a = c.requires.placed.row in let n = c.requires.lengths.1 in
    lt_of_lt_of_le a (le_of_eq (sym (ap length c.named_lent-n_elements.ensures.same ∙ n)))

pub put_row-requires-clause-small : goal.put_row-requires-clause-small
put_row-requires-clause-small g c = let s = c.renew_lent-few.ensures.list.renews.shorter in let k = c.list_lent-from.ensures.list.1 in
    let w = c.requires.placed.within in let n = c.requires.narrow in omega (arith, s, k, w, n)

pub put_cell-requires-clause-inside : goal.put_cell-requires-clause-inside
put_cell-requires-clause-inside g c = let a = c.requires.placed.row in let n = c.requires.lengths.2 in
    lt_of_lt_of_le a (le_of_eq (sym (ap length c.list_lent-from.ensures.same.1 ∙ n)))

pub put_cell-requires-clause-fits : goal.put_cell-requires-clause-fits
put_cell-requires-clause-fits g c = le_trans c.renew_lent-few.ensures.list.renews.shorter.1 c.list_lent-from.ensures.small

pub returns : goal.returns
returns g c =
    let p = workspace_of c.args.work.now in let i = c.args.i in let at = c.list_lent-from.ensures.list in
    let same = c.list_lent-from.ensures.same in let kept = c.renew_lent-few.ensures.same in let few = c.renew_lent-few.result.0 in
    let count = c.renew_lent-few.result.1 in let row = c.requires.placed.row in let l = c.requires.lengths in
    let told = renewed_over at.0 c.named_lent-n_elements.ensures.is at.1 c.renew_lent-few.ensures.list in
    let e_len = c.put_row.ensures ∙ ap (λ xs. set xs i (pos few)) c.named_lent-n_elements.ensures.same in
    let len = c.put_cell.ensures ∙ ap (λ xs. set xs i count) same.1 in
    let small_l = lt_of_lt_of_le row (le_of_eq (sym l.2)) in
    record {
      renews = record {
        renews = one_from _ few count (lt_of_lt_of_le row (le_of_eq (sym l.1))) small_l e_len len told.renews;
        count_is = sym (ap (λ xs. num xs i) len ∙ get_or-set_same p.len i count 0 small_l);
        outside = told.outside;
        hash_is = told.hash_is;
        same = renewed_same p same.0 kept.1 kept.0 c.renew_lent-few.new.iw c.put_row.new.words c.put_cell.new.cells;
      };
      loans = (refl, refl, refl, refl, refl, refl, refl, refl, refl, refl);
    }
