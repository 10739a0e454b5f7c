use Rattle.std.proofs.Common.{length, arith}
use Rattle.amd.proofs.narrow.order_counted.Goals as goal

pub order_sorted_lent-requires-clause-counted : goal.order_sorted_lent-requires-clause-counted
order_sorted_lent-requires-clause-counted g c =
    let counted = c.count_degrees-nzaat.ensures in let sum = counted.few in let wide = c.requires.narrow.0 in record {
      sum = c.count_degrees-nzaat.result;
      degrees_are = counted.degrees;
      held = omega arith;
      few = omega (arith, sum, wide);
    }

pub order_sorted_lent-requires-clause-room : goal.order_sorted_lent-requires-clause-room
order_sorted_lent-requires-clause-room g c =
    let has = c.count_degrees-nzaat.ensures.beside (length c.args.p.now) 0 c.requires.room in
    record {
      words = c.in_ok-memory.ensures.capacity;
      next = has.next;
      pe = has.pe;
      len = has.len;
      lists = has.lists;
    }
