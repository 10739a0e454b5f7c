-- As for `order_fitting`, with the lists of the permutation and its inverse among those of the elimination.
use Rattle.std.proofs.Common.{arith, length, subst, sym, ◌≤◌}
use Rattle.std.specs.Option.{option_copied}
use Rattle.amd_edges.proofs.Forms.{pointer_read}
use Rattle.amd_engine.specs.InPlace.{values}
use Rattle.amd.specs.Blocks.{workspace_bytes}
use Rattle.amd.proofs.SortedColumns.{sorted_given, sorted_orders}
use Rattle.amd.proofs.block.order_fitting_lent.Goals as goal

pub count_at-entries-requires-clause-within : goal.count_at-entries-requires-clause-within
count_at-entries-requires-clause-within c = let m = c.args.matrix.now in
    (pointer_read (λ x. x) m.a_p.now m.a_i.now (length c.args.p.now) c.requires.given.form (length c.args.p.now) (omega arith)
    (omega (arith, c.well_formed))).0

pub count_at-entries-requires-clause-fits : goal.count_at-entries-requires-clause-fits
count_at-entries-requires-clause-fits c = let m = c.args.matrix.now in
    (pointer_read (λ x. x) m.a_p.now m.a_i.now (length c.args.p.now) c.requires.given.form (length c.args.p.now) (omega arith)
    (omega (arith, c.well_formed))).1

pub sorted_words-words-requires : goal.sorted_words-words-requires
sorted_words-words-requires c = record { narrow = (c.is_sorted_and_narrow.ensures c.if-is_sorted_and_narrow.true).1 }

pub sorted_memory-memory-requires-clause-narrow : goal.sorted_memory-memory-requires-clause-narrow
sorted_memory-memory-requires-clause-narrow c = (c.is_sorted_and_narrow.ensures c.if-is_sorted_and_narrow.true).1

pub sorted_memory-memory-requires-clause-words : goal.sorted_memory-memory-requires-clause-words
sorted_memory-memory-requires-clause-words c = c.sorted_words-words.ensures.inside

pub sorted_memory-memory-requires-clause-bytes : goal.sorted_memory-memory-requires-clause-bytes
sorted_memory-memory-requires-clause-bytes c =
    subst (λ e. workspace_bytes (length c.args.p.now) e ≤ c.args.block.size) (sym c.count_at-entries.ensures.count) c.requires.bytes

pub order_columns_lent-requires-clause-given : goal.order_columns_lent-requires-clause-given
order_columns_lent-requires-clause-given c =
    let m = c.args.matrix.now in
    sorted_given (option_copied c.args.request.now.hold) m.jumbled (values m.a_p.now) (values m.a_i.now) (length c.args.p.now)
    (length c.args.p_inv.now) (c.is_sorted_and_narrow.ensures c.if-is_sorted_and_narrow.true).0 c.requires.given

pub order_columns_lent-requires-clause-room : goal.order_columns_lent-requires-clause-room
order_columns_lent-requires-clause-room c = c.sorted_memory-memory.ensures.room

pub order_columns_lent-requires-clause-words : goal.order_columns_lent-requires-clause-words
order_columns_lent-requires-clause-words c =
    let enough = c.sorted_words-words.ensures.enough in let count = c.count_at-entries.ensures.count in omega (arith, enough, count)

pub order_columns_lent-requires-clause-narrow : goal.order_columns_lent-requires-clause-narrow
order_columns_lent-requires-clause-narrow c =
    let enough = c.sorted_words-words.ensures.enough in let few = c.sorted_words-words.ensures.few in
    (omega (arith, few), omega (arith, few), omega (arith, enough, few), omega (arith, enough, few), omega arith)

pub returns-then-is_sorted_and_narrow-clause-orders : goal.returns-then-is_sorted_and_narrow-clause-orders
returns-then-is_sorted_and_narrow-clause-orders c =
    let m = c.args.matrix.now in let new = c.order_columns_lent.new in
    sorted_orders (option_copied c.args.request.now.hold) m.jumbled (length c.args.p.now) c.args.request.now.control.now
    (values m.a_p.now) (values m.a_i.now) (values new.p) (values new.p_inv) new.info
    (c.is_sorted_and_narrow.ensures c.if-is_sorted_and_narrow.true).0 c.order_columns_lent.ensures.orders

pub returns-then-is_sorted_and_narrow-clause-status : goal.returns-then-is_sorted_and_narrow-clause-status
returns-then-is_sorted_and_narrow-clause-status c = c.order_columns_lent.ensures.status

pub laid_in-widths-requires : goal.laid_in-widths-requires
laid_in-widths-requires c = record {
  bytes =
      subst (λ e. workspace_bytes (length c.args.p.now) e ≤ c.args.block.size) (sym c.count_at-entries.ensures.count) c.requires.bytes;
}

pub order_lending-requires-clause-inside : goal.order_lending-requires-clause-inside
order_lending-requires-clause-inside c =
    let made = c.laid_in-widths.ensures in let rows = made.0 in let entries = made.1 in let count = c.count_at-entries.ensures.count in
    (omega (arith, rows), omega (arith, entries, count))

pub order_lending-requires-clause-given : goal.order_lending-requires-clause-given
order_lending-requires-clause-given c = c.requires.given

pub order_lending-requires-clause-fits : goal.order_lending-requires-clause-fits
order_lending-requires-clause-fits c = c.requires.fits

pub returns-clause-orders : goal.returns-clause-orders
returns-clause-orders c = c.order_lending.ensures.orders

pub returns-clause-status : goal.returns-clause-status
returns-clause-status c = c.order_lending.ensures.status
