use Rattle.std.proofs.Common.{inr}
use Rattle.amd_factor.proofs.Trees.Ancestry.{begin, done-end, done-more, ended, ends, onward, still}
use Rattle.amd_factor.proofs.tree.climb.Goals as goal

pub up-init : goal.up-init
up-init g c = record {
  climbing = begin g.o c.requires.laws c.args.i c.requires.place c.args.j c.requires.earlier c.requires.edge c.args.parent.now
      c.args.ancestor.now
      c.requires.climbing;
  waits = λ r l h. inr h;
  kept = λ m h. h;
}

pub up-preserved-then-next-k : goal.up-preserved-then-next-k
up-preserved-then-next-k g c =
    record {
      climbing = ended g.o c.requires.laws c.args.i c.requires.place c.up.k c.up.parent c.up.ancestor c.up.invariant.climbing c.up-test.true
          c.if-next-k.true;
      waits = λ r l h. ends g.o c.requires.laws c.args.i c.requires.place c.up.k c.up.parent c.up.ancestor c.up.invariant.climbing
          c.up-test.true c.if-next-k.true r l (c.up.invariant.waits r l h);
      kept = λ m h. done-more g.o c.requires.laws c.args.i c.requires.place c.up.k c.up.parent c.up.ancestor c.up.invariant.climbing
          c.up-test.true
          c.if-next-k.true m (c.up.invariant.kept m h);
    }

pub up-preserved : goal.up-preserved
up-preserved g c =
    record {
      climbing = onward g.o c.requires.laws c.args.i c.requires.place c.up.k c.up.parent c.up.ancestor c.up.invariant.climbing
          c.up-test.true c.if-next-k.false;
      waits = λ r l h. still g.o c.requires.laws c.args.i c.requires.place c.up.k c.up.parent c.up.ancestor c.up.invariant.climbing
          c.up-test.true
          c.if-next-k.false r l (c.up.invariant.waits r l h);
      kept = c.up.invariant.kept;
    }

pub returns-clause-done : goal.returns-clause-done
returns-clause-done g c = λ r l h. done-end g.o c.requires.laws c.args.i c.requires.place c.up.k c.up.parent c.up-test.false r l
    (c.up.invariant.waits r l h)
