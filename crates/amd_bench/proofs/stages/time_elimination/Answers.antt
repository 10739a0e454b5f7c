use Rattle.std.proofs.Common.{arith, ℕ, ℤ, List, map, length, ap, ◌∙◌}
use Rattle.amd_edges.proofs.Forms.{pointer_read}
use Rattle.amd_model.specs.Quotient.{starting_list}
use Rattle.amd_model.specs.Input.Pattern.{graph_of, is_pair}
use Rattle.amd_engine.proofs.EndingLaw.{lays_pattern}
use Rattle.amd_engine.proofs.LentPattern.{degrees_fit}
use Rattle.amd_bench.proofs.stages.time_elimination.Goals as goal

pub count_at-requires-clause-fits : goal.count_at-requires-clause-fits
count_at-requires-clause-fits g c = (pointer_read g.I.Index.value c.args.a_p.now c.args.a_i.now (length c.args.degrees.now)
    c.requires.ready.form (length c.args.degrees.now) (omega arith) (omega (arith, c.well_formed))).1

pub memory_for-requires : goal.memory_for-requires
memory_for-requires g c = let n : ℕ = length c.args.degrees.now in let wide = c.requires.narrow.3 in record {
  fits = degrees_fit n (map g.I.Index.value c.args.a_p.now) (map g.I.Index.value c.args.a_i.now) c.args.degrees.now g.U.Unsigned.MOST
      c.requires.ready.degrees (omega (arith, wide));
}

pub lay-free-requires-clause-degrees : goal.lay-free-requires-clause-degrees
lay-free-requires-clause-degrees g c = rw c.in_ok-memory.ensures.degrees c.requires.ready.degrees

pub time_rounds-requires-clause-size : goal.time_rounds-requires-clause-size
time_rounds-requires-clause-size g c =
    (c.requires.ready.size, ap length (c.lay-free.ensures.degrees ∙ c.in_ok-memory.ensures.degrees))

pub time_rounds-requires-clause-graph : goal.time_rounds-requires-clause-graph
time_rounds-requires-clause-graph g c =
    let a_p : List ℤ = map g.I.Index.value c.args.a_p.now in
    let a_i : List ℤ = map g.I.Index.value c.args.a_i.now in
    let n : ℕ = length c.args.degrees.now in let e = c.lay-free.ensures in (
      graph_of n a_p a_i,
      starting_list n (is_pair n a_p a_i),
      lays_pattern n a_p a_i c.args.degrees.now _ _ _ c.requires.ready.degrees (e.degrees ∙ c.in_ok-memory.ensures.degrees) e.lists,
    )

pub time_rounds-requires-clause-room : goal.time_rounds-requires-clause-room
time_rounds-requires-clause-room g c =
    let room = c.in_ok-memory.ensures.room in let laid = c.lay-free.ensures.room _ _ room.beside in record {
      beside = record {
        words = laid.words;
        next = laid.next;
        pe = laid.pe;
        len = laid.len;
        lists = laid.lists;
      };
      nv = rw c.lay-free.ensures.aside.0 room.nv;
      e_len = rw c.lay-free.ensures.aside.1 room.e_len;
    }
