-- the goals of lower::spread_in.
use Rattle.std.proofs.Common.{◌+◌, refl, sym, subst, ap, ◌∙◌, length, drop}
use Rattle.amd_workspace.specs.Lower.{IsReadyForColumn, SpreadsFirst, earlier_below}
use Rattle.amd_workspace.proofs.Layings.{written}
use Rattle.amd_workspace.proofs.lower.spread_in.Goals as goal

pub spread-requires : goal.spread-requires
spread-requires g c = let r = c.requires.ready in record {
  ready = (
    r.0,
    r.1,
    subst (IsReadyForColumn r.0 r.1 c.args.j c.args.end g.S.Signed.MOST g.U.Unsigned.MOST c.args.next.now)
        (sym c.deref_mut.ensures.value) r.2,
  );
}

pub returns-clause-long : goal.returns-clause-long
returns-clause-long g c = let new = c.spread.new.iw in let old = c.args.iw.now in
    let kept = c.spread.ensures.long ∙ ap length c.deref_mut.ensures.value in
    ap length (written new new (drop (length new) old.items) old.len refl (kept ∙ sym old.ok.0)) ∙ kept

pub returns-clause-after : goal.returns-clause-after
returns-clause-after g c = λ x m ready. let new = c.spread.new.iw in let old = c.args.iw.now in
    let kept = c.spread.ensures.long ∙ ap length c.deref_mut.ensures.value in
    subst (SpreadsFirst x.n x.ap x.ai m (earlier_below x.n x.ap x.ai (c.args.j + 1)) c.spread.new.next)
    (sym (written new new (drop (length new) old.items) old.len refl (kept ∙ sym old.ok.0)))
    (c.spread.ensures.after x m (subst (IsReadyForColumn x m c.args.j c.args.end g.S.Signed.MOST g.U.Unsigned.MOST c.args.next.now)
    (sym c.deref_mut.ensures.value) ready))
