use Rattle.std.proofs.Common.{length, arith}
use Rattle.amd.proofs.Rooms.{less_room}
use Rattle.amd.proofs.widths.order_columns.Goals as goal

pub order_sorted-requires-clause-room : goal.order_sorted-requires-clause-room
order_sorted-requires-clause-room g c =
    let n = length c.args.p.now in let least = c.min-room.ensures in
    less_room n c.args.words n c.min-room.result c.count_degrees-nzaat.new.memory
    (c.count_degrees-nzaat.ensures.room n c.args.words c.requires.room) (omega arith) (omega (arith, least))

pub order_sorted-requires-clause-counted : goal.order_sorted-requires-clause-counted
order_sorted-requires-clause-counted g c =
    let counted = c.count_degrees-nzaat.ensures in let least = c.min-room.ensures in
    let sum = counted.few in let words = c.requires.words in let few = c.requires.few in record {
      sum = c.count_degrees-nzaat.result;
      degrees_are = counted.degrees;
      held = omega (arith, least, sum, words);
      few = omega (arith, sum, few);
    }

pub returns-clause-room : goal.returns-clause-room
returns-clause-room g c = λ n count has. c.order_sorted.ensures.room n count (c.count_degrees-nzaat.ensures.room n count has)
