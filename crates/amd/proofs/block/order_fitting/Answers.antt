-- A matrix with sorted columns is ordered in the words of the whole block, and any other in the lists of a workspace there.
use Rattle.std.proofs.Common.{arith, length, map, subst, sym, ◌≤◌}
use Rattle.std.specs.Option.{option_copied}
use Rattle.amd_edges.proofs.Forms.{pointer_read}
use Rattle.amd.specs.Blocks.{workspace_bytes}
use Rattle.amd.proofs.SortedColumns.{sorted_given, sorted_orders}
use Rattle.amd.proofs.block.order_fitting.Goals as goal

pub count_at-entries-requires-clause-within : goal.count_at-entries-requires-clause-within
count_at-entries-requires-clause-within g c = let m = c.args.matrix.now in
    (pointer_read g.I.Index.value m.a_p.now m.a_i.now (length c.args.p.now) c.requires.given.form (length c.args.p.now) (omega arith)
    (omega (arith, c.well_formed))).0

pub count_at-entries-requires-clause-fits : goal.count_at-entries-requires-clause-fits
count_at-entries-requires-clause-fits g c = let m = c.args.matrix.now in
    (pointer_read g.I.Index.value m.a_p.now m.a_i.now (length c.args.p.now) c.requires.given.form (length c.args.p.now) (omega arith)
    (omega (arith, c.well_formed))).1

pub sorted_words-words-requires : goal.sorted_words-words-requires
sorted_words-words-requires g c = record { narrow = (c.is_sorted_and_narrow.ensures c.if-is_sorted_and_narrow.true).1 }

pub sorted_memory-memory-requires-clause-narrow : goal.sorted_memory-memory-requires-clause-narrow
sorted_memory-memory-requires-clause-narrow g c = (c.is_sorted_and_narrow.ensures c.if-is_sorted_and_narrow.true).1

pub sorted_memory-memory-requires-clause-words : goal.sorted_memory-memory-requires-clause-words
sorted_memory-memory-requires-clause-words g c = c.sorted_words-words.ensures.inside

pub sorted_memory-memory-requires-clause-bytes : goal.sorted_memory-memory-requires-clause-bytes
sorted_memory-memory-requires-clause-bytes g c =
    subst (λ e. workspace_bytes (length c.args.p.now) e ≤ c.args.block.size) (sym c.count_at-entries.ensures.count) c.requires.bytes

pub order_columns-requires-clause-given : goal.order_columns-requires-clause-given
order_columns-requires-clause-given g c =
    let value = g.I.Index.value in let m = c.args.matrix.now in
    sorted_given (option_copied c.args.request.now.hold) m.jumbled (map value m.a_p.now) (map value m.a_i.now) (length c.args.p.now)
    (length c.args.p_inv.now) (c.is_sorted_and_narrow.ensures c.if-is_sorted_and_narrow.true).0 c.requires.given

pub order_columns-requires-clause-fits : goal.order_columns-requires-clause-fits
order_columns-requires-clause-fits g c = c.requires.fits

pub order_columns-requires-clause-room : goal.order_columns-requires-clause-room
order_columns-requires-clause-room g c = c.sorted_memory-memory.ensures.room

pub order_columns-requires-clause-words : goal.order_columns-requires-clause-words
order_columns-requires-clause-words g c =
    let enough = c.sorted_words-words.ensures.enough in let count = c.count_at-entries.ensures.count in omega (arith, enough, count)

pub order_columns-requires-clause-few : goal.order_columns-requires-clause-few
order_columns-requires-clause-few g c =
    let enough = c.sorted_words-words.ensures.enough in let few = c.sorted_words-words.ensures.few in
    let count = c.count_at-entries.ensures.count in
    omega (arith, enough, few, count)

pub order_columns-requires-clause-narrow : goal.order_columns-requires-clause-narrow
order_columns-requires-clause-narrow g c =
    let enough = c.sorted_words-words.ensures.enough in let few = c.sorted_words-words.ensures.few in
    (omega (arith, few), omega (arith, few), omega (arith, enough, few), omega (arith, enough, few), omega arith)

pub returns-then-is_sorted_and_narrow-clause-orders : goal.returns-then-is_sorted_and_narrow-clause-orders
returns-then-is_sorted_and_narrow-clause-orders g c =
    let value = g.I.Index.value in let m = c.args.matrix.now in let new = c.order_columns.new in
    sorted_orders (option_copied c.args.request.now.hold) m.jumbled (length c.args.p.now) c.args.request.now.control.now
    (map value m.a_p.now) (map value m.a_i.now) (map value new.p) (map value new.p_inv) new.info
    (c.is_sorted_and_narrow.ensures c.if-is_sorted_and_narrow.true).0 c.order_columns.ensures.orders

pub returns-then-is_sorted_and_narrow-clause-status : goal.returns-then-is_sorted_and_narrow-clause-status
returns-then-is_sorted_and_narrow-clause-status g c = c.order_columns.ensures.status

pub laid_in-widths-requires : goal.laid_in-widths-requires
laid_in-widths-requires g c = record {
  bytes =
      subst (λ e. workspace_bytes (length c.args.p.now) e ≤ c.args.block.size) (sym c.count_at-entries.ensures.count) c.requires.bytes;
}

pub order-requires-clause-inside : goal.order-requires-clause-inside
order-requires-clause-inside g c =
    let made = c.laid_in-widths.ensures in let rows = made.0 in let entries = made.1 in let count = c.count_at-entries.ensures.count in
    (omega (arith, rows), omega (arith, entries, count))

pub order-requires-clause-given : goal.order-requires-clause-given
order-requires-clause-given g c = c.requires.given

pub order-requires-clause-fits : goal.order-requires-clause-fits
order-requires-clause-fits g c = c.requires.fits

pub returns-clause-orders : goal.returns-clause-orders
returns-clause-orders g c = c.order.ensures.orders

pub returns-clause-status : goal.returns-clause-status
returns-clause-status g c = c.order.ensures.status
