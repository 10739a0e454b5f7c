use Rattle.std.proofs.Common.{refl, sym, ◌∙◌, arith}
use Rattle.amd_rounds.proofs.Compacted.{compacted, row_fits}
use Rattle.amd_rounds.proofs.packing.compact.Goals as goal

pub pack_lists-end-requires : goal.pack_lists-end-requires
pack_lists-end-requires g c = let laid = c.requires.laid.1 in let s = laid.sized in let wide = c.requires.wide in record {
  lengths = s.pe ∙ sym s.len;
  wide = (let b = s.len in ((omega (arith, wide, b)), wide.0));
  words = (let a = wide.2 in let b = s.len in ((omega (arith, a, b)), wide.4));
  fits = λ k l. let a = laid.laid.words k l in row_fits _ a.0 a.1 wide.2;
  end = laid.end;
  layout = record { within = laid.laid.within; apart = laid.laid.apart; plain = λ p l. (laid.laid.words p l).0 };
}

pub returns : goal.returns
returns g c = let v = c.pack_lists-end.new in record {
  compacts = λ h dense nzaat t s st. rw (c.pack_lists-end.ensures.same)
      (compacted st v.iw v.pe c.pack_lists-end.result c.pack_lists-end.ensures.compacts);
  moves = c.pack_lists-end.ensures.compacts;
  same = rw (c.pack_lists-end.ensures.same) refl;
  loans = (refl, refl, refl, refl, refl, refl, refl, refl, refl, refl);
}
