-- A matrix that fits takes no more words than the lists have, its transpose no more than it; and the lists keep their room.
use Rattle.std.proofs.Common.{ℕ, ℤ, List, ◌<◌, ◌≤◌, ◌+◌, ◌*◌, ◌/◌, ◌^◌, map, length, arith, le_refl, refl, Fits, w64}
use Rattle.std.specs.Prelude.{slice_index}
use Rattle.std.specs.Option.{option_copied}
use Rattle.amd_types.specs.Naturals.{naturals}
use Rattle.amd.specs.Within.{list_words}
use Rattle.amd.proofs.Fewer.{lent_entries, less_wide, still_few}
use Rattle.amd.proofs.Orderings.{orders_turned}
use Rattle.amd.proofs.OrderedColumns.{lent_clean}
use Rattle.amd.proofs.Rooms.{less_room}
use Rattle.amd.proofs.widths.WorkspaceIn.order.Goals as goal

twice_fits : (rows entries : ℕ) → 2 * entries + 2 * entries / 5 + rows < 2 ^ 63 → Fits w64 (2 * entries)
twice_fits rows entries few = omega arith

words_fit : (rows entries : ℕ) → 2 * entries + 2 * entries / 5 + rows < 2 ^ 63 → Fits w64 (2 * entries + rows)
words_fit rows entries few = omega arith

words_within : (rows entries n few : ℕ) → n ≤ rows → few ≤ entries → list_words n few ≤ list_words rows entries
words_within rows entries n few less fewer = omega arith

pub overflow_mul-words : goal.overflow_mul-words
overflow_mul-words g c = let self = c.args.self.now in twice_fits self.rows self.entries self.sized.few

pub overflow_add-words : goal.overflow_add-words
overflow_add-words g c = let self = c.args.self.now in words_fit self.rows self.entries self.sized.few

pub order_columns-requires-clause-given : goal.order_columns-requires-clause-given
order_columns-requires-clause-given g c = rw c.if-not-matrix.true at c.requires.given

pub order_columns-requires-clause-words : goal.order_columns-requires-clause-words
order_columns-requires-clause-words g c =
    let self = c.args.self.now in let n = length c.args.p.now in let inside = c.requires.inside in
    let a_p : List ℤ = map g.I.Index.value c.args.matrix.now.a_p.now in
    words_within self.rows self.entries n (slice_index (naturals a_p) n) inside.0 inside.1

pub order_columns-requires-clause-few : goal.order_columns-requires-clause-few
order_columns-requires-clause-few g c =
    let self = c.args.self.now in let n = length c.args.p.now in let inside = c.requires.inside in
    let a_p : List ℤ = map g.I.Index.value c.args.matrix.now.a_p.now in
    still_few self.rows self.entries n (slice_index (naturals a_p) n) self.sized.few inside.0 inside.1

pub order_columns-requires-clause-narrow : goal.order_columns-requires-clause-narrow
order_columns-requires-clause-narrow g c =
    let self = c.args.self.now in let words = list_words self.rows self.entries in
    less_wide g.S.Signed.MOST g.P.Signed.MOST g.U.Unsigned.MOST self.rows words (length c.args.p.now) words self.sized.narrow
    c.requires.inside.0 (le_refl words)

pub returns-then-not-matrix-clause-orders : goal.returns-then-not-matrix-clause-orders
returns-then-not-matrix-clause-orders g c = rw c.if-not-matrix.true c.order_columns.ensures.orders

pub returns-then-not-matrix-clause-status : goal.returns-then-not-matrix-clause-status
returns-then-not-matrix-clause-status g c = c.order_columns.ensures.status

pub returns-then-not-matrix-clause-made : goal.returns-then-not-matrix-clause-made
returns-then-not-matrix-clause-made g c = let self = c.args.self.now in (refl {a = self.rows}, refl {a = self.entries})

pub transpose-requires-clause-inside : goal.transpose-requires-clause-inside
transpose-requires-clause-inside g c = c.requires.inside

pub transpose-requires-clause-form : goal.transpose-requires-clause-form
transpose-requires-clause-form g c = c.requires.given.form

pub transpose-requires-clause-names : goal.transpose-requires-clause-names
transpose-requires-clause-names g c = c.requires.names

pub order_columns-requires-2-clause-words : goal.order_columns-requires-2-clause-words
order_columns-requires-2-clause-words g c =
    let self = c.args.self.now in let n = length c.args.p.now in let made = c.transpose.ensures in let m = c.args.matrix.now in
    let less = lent_entries g.J.Index.value n self.entries (map g.I.Index.value m.a_p.now) (map g.I.Index.value m.a_i.now) _ _
    c.deref.result.now c.deref.ensures.value made.clean made.few in
    words_within self.rows self.entries n _ c.requires.inside.0 less

pub order_columns-requires-2-clause-few : goal.order_columns-requires-2-clause-few
order_columns-requires-2-clause-few g c =
    let self = c.args.self.now in let n = length c.args.p.now in let made = c.transpose.ensures in let m = c.args.matrix.now in
    let less = lent_entries g.J.Index.value n self.entries (map g.I.Index.value m.a_p.now) (map g.I.Index.value m.a_i.now) _ _
    c.deref.result.now c.deref.ensures.value made.clean made.few in
    still_few self.rows self.entries n _ self.sized.few c.requires.inside.0 less

pub order_columns-requires-2-clause-narrow : goal.order_columns-requires-2-clause-narrow
order_columns-requires-2-clause-narrow g c =
    let self = c.args.self.now in let words = list_words self.rows self.entries in
    less_wide g.S.Signed.MOST g.P.Signed.MOST g.U.Unsigned.MOST self.rows words (length c.args.p.now) words self.sized.narrow
    c.requires.inside.0 (le_refl words)

pub invariant_of-self : goal.invariant_of-self
invariant_of-self g c =
    let s = c.args.self.now.sized in record {
      sized = record {
        memory = c.order_columns.ensures.room c.args.self.now.rows (list_words c.args.self.now.rows c.args.self.now.entries) s.memory;
        pointers = s.pointers;
        columns = s.columns;
        narrow = s.narrow;
        few = s.few;
      };
    }

pub order_columns-requires-clause-room : goal.order_columns-requires-clause-room
order_columns-requires-clause-room g c = let self = c.args.self.now in
    less_room self.rows (list_words self.rows self.entries) (length c.args.p.now) (list_words self.rows self.entries) self.memory
    self.sized.memory c.requires.inside.0 (le_refl (list_words self.rows self.entries))

pub order_columns-requires-2-clause-room : goal.order_columns-requires-2-clause-room
order_columns-requires-2-clause-room g c =
    let self = c.transpose.new.self in let made = c.transpose.ensures.made in let rows = made.0 in let entries = made.1 in
    let inside = c.requires.inside.0 in
    less_room self.rows (list_words self.rows self.entries) (length c.args.p.now) _ self.memory
    self.sized.memory (omega (arith, inside, rows)) (omega (arith, rows, entries))

pub order_columns-requires-2-clause-given : goal.order_columns-requires-2-clause-given
order_columns-requires-2-clause-given g c =
    let given = c.requires.given in
    let is = lent_clean (map g.J.Index.value) c.deref.ensures.value c.deref-2.ensures.value c.transpose.ensures.clean in record {
      places = given.places;
      some = given.some;
      form = is.form;
      sorted = λ _. is.sorted;
      marks = given.marks;
    }

pub invariant_of-self-2 : goal.invariant_of-self-2
invariant_of-self-2 g c =
    let self = c.transpose.new.self in let s = self.sized in record {
      sized = record {
        memory = c.order_columns-2.ensures.room self.rows (list_words self.rows self.entries) s.memory;
        pointers = s.pointers;
        columns = s.columns;
        narrow = s.narrow;
        few = s.few;
      };
    }

pub returns-clause-orders : goal.returns-clause-orders
returns-clause-orders g c =
    let value = g.I.Index.value in let new = c.order_columns-2.new in
    rw c.if-not-matrix.false (orders_turned (option_copied c.args.request.now.hold) (length c.args.p.now) c.args.request.now.control.now
    (map value c.args.matrix.now.a_p.now) (map value c.args.matrix.now.a_i.now) (map g.J.Index.value c.deref.result.now)
    (map g.J.Index.value c.deref-2.result.now) (map value new.p) (map value new.p_inv) new.info
    (lent_clean (map g.J.Index.value) c.deref.ensures.value c.deref-2.ensures.value c.transpose.ensures.clean)
    c.order_columns-2.ensures.orders)

pub order_columns-requires-clause-fits : goal.order_columns-requires-clause-fits
order_columns-requires-clause-fits g c = c.requires.fits

pub order_columns-requires-2-clause-fits : goal.order_columns-requires-2-clause-fits
order_columns-requires-2-clause-fits g c = c.requires.fits

pub returns-clause-status : goal.returns-clause-status
returns-clause-status g c = c.order_columns-2.ensures.status

pub returns-clause-made : goal.returns-clause-made
returns-clause-made g c = c.transpose.ensures.made
