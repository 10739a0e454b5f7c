use Rattle.std.proofs.Common.{arith, length}
use Rattle.amd.proofs.once.order_counted.Goals as goal

pub order_sorted-requires-clause-room : goal.order_sorted-requires-clause-room
order_sorted-requires-clause-room g c =
    let has = c.count_degrees-nzaat.ensures.room (length c.args.p.now) 0 c.requires.room in
    record {
      beside = record {
        words = c.in_ok-memory.ensures.capacity;
        next = has.beside.next;
        pe = has.beside.pe;
        len = has.beside.len;
        lists = has.beside.lists;
      };
      nv = has.nv;
      e_len = has.e_len;
    }

pub order_sorted-requires-clause-counted : goal.order_sorted-requires-clause-counted
order_sorted-requires-clause-counted g c =
    let counted = c.count_degrees-nzaat.ensures in let sum = counted.few in let few = c.requires.few in record {
      sum = c.count_degrees-nzaat.result;
      degrees_are = counted.degrees;
      held = omega arith;
      few = omega (arith, sum, few);
    }
