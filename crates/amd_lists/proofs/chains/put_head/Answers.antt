use Rattle.std.proofs.Common.{rules}
use Rattle.std.proofs.Common.{arith, get_or-set_same, get_or-set_other}
use Rattle.amd_lists.proofs.ChainLists.{put_on}
use Rattle.std.proofs.Common.{◌∙◌}
use Rattle.amd_words.proofs.SideLists.{both_long, lasts_same, nexts_same}
use Rattle.amd_lists.proofs.chains.put_head.Goals as goal

pub returns : goal.returns
returns g c = record {
  lengths = ((
    c.link.auto.head ∙ c.requires.lengths.0,
    nexts_same _ _ c.link.auto.sides,
    lasts_same _ _ c.link.auto.sides ∙ both_long c.args.sides.now,
  ));
  linked = (λ lists none h. rw c.put_cell.ensures
      (put_on _ _ _ _ _ _ _ _ _ c.link.ensures.relinks c.args.degree.now _ lists c.requires.row.0 c.requires.row.1 none
      (get_or-set_same c.args.degree.now c.args.i c.args.d 0 (let a = c.requires.row.0 in let b = c.requires.lengths.1 in
      omega (arith, a, b))) (λ x ne. get_or-set_other c.args.degree.now c.args.i x c.args.d 0 ne) h));
  degrees = (c.put_cell.ensures);
  others = search rules;
}

pub link-requires : goal.link-requires
link-requires g c = record {
  long = (c.requires.lengths.0);
  short = (c.requires.short);
  row = (c.requires.row);
}
