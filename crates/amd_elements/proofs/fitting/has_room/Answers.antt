use Rattle.std.proofs.Common.{lt_of_le_of_lt, ◌∙◌, ◌+◌, sym, ap, subst, arith, length}
use Rattle.std.specs.Prelude.{nat_le}
use Rattle.amd_elements.specs.Element.{front_of, ListsLaid}
use Rattle.amd_elements.proofs.Settling.{lists_laid}
use Rattle.amd_elements.proofs.fitting.has_room.Goals as goal

pub named_lent-n_elements-requires : goal.named_lent-n_elements-requires
named_lent-n_elements-requires g c = let a = c.requires.pivot.row.0 in let b = c.requires.pivot.lengths.1 in record {
  inside = omega (arith, a, b);
  place = c.requires.count;
}

pub fits-requires-clause-end : goal.fits-requires-clause-end
fits-requires-clause-end g c = (c.requires.pivot.end, lt_of_le_of_lt c.requires.wide.1 g.met.P.Signed.narrow)

pub fits-requires-clause-around : goal.fits-requires-clause-around
fits-requires-clause-around g c = let p = c.args.work.now in let q = c.requires.pivot in record {
  lists = record {
    lengths = (q.lengths.0, q.lengths.2);
    elements = (let a = q.laid.parts c.args.me q.listed in let is = c.named_lent-n_elements.ensures.is in omega (arith, a, is));
    laid = subst (λ m. ListsLaid p.iw.now p.pe.now p.len.now (length p.nv.now) p.free c.args.me m)
        (sym c.named_lent-n_elements.ensures.is) (lists_laid q.laid c.args.me q.listed c.requires.elements);
  };
  pivot = q.row;
  clear = q.clear;
}

pub returns-clause-fits : goal.returns-clause-fits
returns-clause-fits g c = let p = c.args.work.now in c.fits.ensures.fits
    ∙ ap (λ k. nat_le (p.free + length (front_of p.iw.now p.nv.now p.pe.now p.len.now c.args.me k)) (length p.iw.now))
    c.named_lent-n_elements.ensures.is
