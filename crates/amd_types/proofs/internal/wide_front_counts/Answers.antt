use Rattle.amd_types.proofs.FrontShares.{lnz_share, ldl_share, lu_share}
use Rattle.amd_types.proofs.internal.wide_front_counts.Goals as goal

pub returns : goal.returns
returns c = record {
  lnz = rw (c.cut_to_count.ensures, c.saturating_add-lnz.ensures) (lnz_share c.args.f c.args.r);
  ldl = rw (
    c.cut_to_count-2.ensures,
    c.saturating_add-ldl.ensures,
    c.saturating_add-lu.ensures,
    c.saturating_mul.ensures,
    c.saturating_mul-squares.ensures,
    c.saturating_add-lnz.ensures,
  ) (ldl_share c.args.f c.args.r);
  lu = rw (c.cut_to_count-3.ensures, c.saturating_add-lu.ensures, c.saturating_mul.ensures, c.saturating_mul-squares.ensures)
      (lu_share c.args.f c.args.r);
}
