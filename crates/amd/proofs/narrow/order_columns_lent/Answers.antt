use Rattle.std.proofs.Common.{length, arith}
use Rattle.amd.proofs.Rooms.{less_room}
use Rattle.amd.proofs.narrow.order_columns_lent.Goals as goal

pub order_sorted_lent-requires-clause-room : goal.order_sorted_lent-requires-clause-room
order_sorted_lent-requires-clause-room g c =
    let n = length c.args.p.now in let least = c.min-room.ensures in
    (less_room n c.args.words n c.min-room.result c.count_degrees-nzaat.new.memory
    (c.count_degrees-nzaat.ensures.room n c.args.words c.requires.room) (omega arith) (omega (arith, least))).beside

pub order_sorted_lent-requires-clause-counted : goal.order_sorted_lent-requires-clause-counted
order_sorted_lent-requires-clause-counted g c =
    let counted = c.count_degrees-nzaat.ensures in let least = c.min-room.ensures in
    let sum = counted.few in let words = c.requires.words in let wide = c.requires.narrow.0 in record {
      sum = c.count_degrees-nzaat.result;
      degrees_are = counted.degrees;
      held = omega (arith, least, sum, words);
      few = omega (arith, sum, words, wide);
    }

pub returns-clause-room : goal.returns-clause-room
returns-clause-room g c = λ n count has. c.order_sorted_lent.ensures.room n count (c.count_degrees-nzaat.ensures.room n count has)
