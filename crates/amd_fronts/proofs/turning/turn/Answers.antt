-- The goals of turning::turn.
use Rattle.std.proofs.Common.{arith, ◌+◌, ◌∙◌}
use Rattle.amd_words.specs.Words.{start}
use Rattle.amd_lists.specs.Workspaces.{workspace_of}
use Rattle.amd_fronts.proofs.FrontTurns.{turn_listed, renewable_left, turns_front}
use Rattle.amd_fronts.proofs.turning.turn.Goals as goal

pub count_outside-requires : goal.count_outside-requires
count_outside-requires g c =
    let r = c.requires in let p = workspace_of c.args.work.now in let e = r.list.within in let f = r.end in record {
      lengths = r.lengths;
      more_lengths = r.more_lengths;
      row = r.row.0;
      starts = r.list.starts;
      inside = omega (arith, e, f);
      small = r.row.1;
      front = (λ k l. r.laid.words (start p.pe c.args.me + k) (omega (arith, e, l)), r.list.once);
      classes = λ i h. let class = r.front i h in record {
        listed = turn_listed r.laid r.end class;
        apart = class.apart;
        bound = class.bound;
      };
      two = r.two.0;
      under = r.two.1;
      fits = r.fits;
      part = r.part;
    }

pub renew_all-requires : goal.renew_all-requires
renew_all-requires g c =
    renewable_left c.args.aggressive c.requires (workspace_of c.count_outside.new.work) c.count_outside.ensures.counts

pub returns : goal.returns
returns g c =
    let l = c.count_outside.ensures.loans in let m = c.renew_all.ensures.loans in record {
      turns = turns_front c.args.aggressive c.requires (workspace_of c.count_outside.new.work) c.count_outside.ensures.counts
          (workspace_of c.renew_all.new.work) c.renew_all.result c.renew_all.ensures.renews;
      loans = (m.0 ∙ l.0, m.1 ∙ l.1, m.2 ∙ l.2, m.3 ∙ l.3, m.4 ∙ l.4, m.5 ∙ l.5, m.6 ∙ l.6, m.7 ∙ l.7, m.8 ∙ l.8, m.9 ∙ l.9);
    }
