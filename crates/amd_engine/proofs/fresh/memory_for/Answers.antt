use Rattle.std.proofs.Common.{arith}
use Rattle.amd_engine.proofs.fresh.memory_for.Goals as goal

pub returns-clause-degrees : goal.returns-clause-degrees
returns-clause-degrees g c = c.write_degrees.ensures.items

pub returns-clause-room : goal.returns-clause-room
returns-clause-room g c = let h = c.in_ok-memory.ensures.beside in record {
  beside = record {
    words = h.words;
    next = h.next;
    pe = h.pe;
    len = (let room = h.len in let a = c.clear.ensures.capacity in let b = c.write_degrees.ensures.capacity in omega (arith, room, a, b));
    lists = h.lists;
  };
  nv = c.in_ok-memory.ensures.nv;
  e_len = c.in_ok-memory.ensures.e_len;
}
