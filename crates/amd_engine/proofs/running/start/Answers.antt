use Rattle.std.proofs.Common.{◌∙◌, ap, length, refl}
use Rattle.std.specs.Option.{option_copied}
use Rattle.amd_workspace.specs.Starting.{Rows}
use Rattle.amd_engine.proofs.InPlaceLaw.{degrees_small, stands_start}
use Rattle.amd_engine.proofs.running.start.Goals as goal

pub begin_rows-live-requires-clause-degrees : goal.begin_rows-live-requires-clause-degrees
begin_rows-live-requires-clause-degrees g c =
    let can = c.requires.can.1 in let lays = can.graph in let rows = c.args.rows.now in
    degrees_small lays.0 lays.1 c.requires.can.0 rows.pe.now rows.len.now lays.2

pub returns-clause-starts : goal.returns-clause-starts
returns-clause-starts g c = λ iw can gr lists lays.
    let a = c.args in let old = a.rows.now in let e = c.begin_rows-live.ensures in let empty = can.empty in
    let p : Rows = record {
      pe = old.pe.now;
      e_len = old.e_len.now;
      nv = old.nv.now;
      len = old.len.now;
      degree = old.degree.now;
      w = old.w.now;
    } in
    stands_start (option_copied a.choice.now.hold) a.threshold p _ e.begins (record {
      sized = (e.lengths.0, e.lengths.1, e.lengths.2, ap length e.buckets ∙ empty.buckets);
      linked = e.linked;
      empty = rw e.buckets empty.empty;
      live = e.live;
      dense = e.dense;
      sums = c.first_figures.ensures;
      least = refl;
      most = refl;
      packs = refl;
      two = c.requires.flag;
      room = can.room;
    }) can.laid gr lists lays
