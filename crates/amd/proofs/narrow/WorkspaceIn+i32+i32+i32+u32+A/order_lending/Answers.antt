-- A jumbled matrix is ordered by its transpose in the lists for it, and these keep their room.
use Rattle.std.proofs.Common.{ℤ, ap, length, arith, le_refl, refl}
use Rattle.std.specs.Option.{option_copied}
use Rattle.std.proofs.lemmas.Int.{ints}
use Rattle.std.proofs.lemmas.List.{length-map}
use Rattle.amd_edges.proofs.Forms.{pointer_within}
use Rattle.amd_engine.specs.InPlace.{values}
use Rattle.amd.specs.Within.{list_words}
use Rattle.amd.proofs.Orderings.{orders_turned}
use Rattle.amd.proofs.OrderedColumns.{lent_clean}
use Rattle.amd.proofs.Rooms.{less_room}
use Rattle.amd.proofs.SortedColumns.{sorted_given, sorted_orders}
use Rattle.amd.proofs.narrow.WorkspaceIn+i32+i32+i32+u32+A.order_lending.Goals as goal

pub invariant_of-self : goal.invariant_of-self
invariant_of-self g c =
    let s = c.args.self.now.sized in record {
      sized = record {
        memory = c.order_columns_lent.ensures.room c.args.self.now.rows (list_words c.args.self.now.rows c.args.self.now.entries) s.memory;
        pointers = s.pointers;
        columns = s.columns;
        narrow = s.narrow;
        few = s.few;
      };
    }

pub order_columns_lent-requires-clause-given : goal.order_columns_lent-requires-clause-given
order_columns_lent-requires-clause-given g c =
    let m = c.args.matrix.now in
    sorted_given (option_copied c.args.request.now.hold) m.jumbled (values m.a_p.now) (values m.a_i.now) (length c.args.p.now)
    (length c.args.p_inv.now) c.if-not-matrix.true c.requires.given

pub order_columns_lent-requires-clause-room : goal.order_columns_lent-requires-clause-room
order_columns_lent-requires-clause-room g c = let self = c.args.self.now in
    less_room self.rows (list_words self.rows self.entries) (length c.args.p.now) (list_words self.rows self.entries) self.memory
    self.sized.memory c.requires.inside.0 (le_refl (list_words self.rows self.entries))

pub order_columns_lent-requires-clause-words : goal.order_columns_lent-requires-clause-words
order_columns_lent-requires-clause-words g c = let inside = c.requires.inside in let a = inside.0 in let b = inside.1 in omega (arith, a, b)

pub order_columns_lent-requires-clause-narrow : goal.order_columns_lent-requires-clause-narrow
order_columns_lent-requires-clause-narrow g c =
    let wide = c.args.self.now.sized.narrow in let inside = c.requires.inside.0 in let a = wide.0 in let b = wide.1 in
    (omega (arith, a), omega (arith, b), omega (arith, a, inside), omega (arith, b, inside), omega arith)

pub returns-then-not-matrix-clause-orders : goal.returns-then-not-matrix-clause-orders
returns-then-not-matrix-clause-orders g c =
    let m = c.args.matrix.now in let new = c.order_columns_lent.new in
    sorted_orders (option_copied c.args.request.now.hold) m.jumbled (length c.args.p.now) c.args.request.now.control.now
    (values m.a_p.now) (values m.a_i.now) (values new.p) (values new.p_inv) new.info c.if-not-matrix.true
    c.order_columns_lent.ensures.orders

pub returns-then-not-matrix-clause-status : goal.returns-then-not-matrix-clause-status
returns-then-not-matrix-clause-status g c = c.order_columns_lent.ensures.status

pub returns-then-not-matrix-clause-made : goal.returns-then-not-matrix-clause-made
returns-then-not-matrix-clause-made g c = (refl {a = c.args.self.now.rows}, refl {a = c.args.self.now.entries})

pub transpose-requires-clause-inside : goal.transpose-requires-clause-inside
transpose-requires-clause-inside g c = c.requires.inside

pub transpose-requires-clause-form : goal.transpose-requires-clause-form
transpose-requires-clause-form g c = c.requires.given.form

pub transpose-requires-clause-names : goal.transpose-requires-clause-names
transpose-requires-clause-names g c =
    let wide = c.args.self.now.sized.narrow in let places = wide.0 in let rows = wide.2 in
    (record { sfits = omega (arith, ints, rows) }, record { sfits = omega (arith, ints, places) })

pub order_columns_lent-requires-2-clause-room : goal.order_columns_lent-requires-2-clause-room
order_columns_lent-requires-2-clause-room g c =
    let self = c.transpose.new.self in let made = c.transpose.ensures.made in let rows = made.0 in let entries = made.1 in
    let inside = c.requires.inside.0 in
    less_room self.rows (list_words self.rows self.entries) (length c.args.p.now) _ self.memory
    self.sized.memory (omega (arith, inside, rows)) (omega (arith, rows, entries))

pub order_columns_lent-requires-2-clause-given : goal.order_columns_lent-requires-2-clause-given
order_columns_lent-requires-2-clause-given g c =
    let given = c.requires.given in
    let is = lent_clean (values) c.deref.ensures.value c.deref-2.ensures.value c.transpose.ensures.clean in record {
      places = given.places;
      some = given.some;
      form = is.form;
      sorted = λ _. is.sorted;
      marks = given.marks;
    }

pub order_columns_lent-requires-2-clause-words : goal.order_columns_lent-requires-2-clause-words
order_columns_lent-requires-2-clause-words g c =
    let n = length c.args.p.now in
    let is = lent_clean values c.deref.ensures.value c.deref-2.ensures.value c.transpose.ensures.clean in
    let within = pointer_within n (values c.deref.result.now) (values c.deref-2.result.now) is.form n (omega arith) in
    let long = length-map c.deref-2.result.now (λ (x : ℤ). x) in let same = ap length c.deref-2.ensures.value in
    let few = c.transpose.ensures.few in let inside = c.requires.inside.0 in
    omega (arith, within, long, same, few, inside)

pub order_columns_lent-requires-2-clause-narrow : goal.order_columns_lent-requires-2-clause-narrow
order_columns_lent-requires-2-clause-narrow g c =
    let wide = c.args.self.now.sized.narrow in let inside = c.requires.inside.0 in let a = wide.0 in let b = wide.1 in
    (omega (arith, a), omega (arith, b), omega (arith, a, inside), omega (arith, b, inside), omega arith)

pub invariant_of-self-2 : goal.invariant_of-self-2
invariant_of-self-2 g c =
    let self = c.transpose.new.self in let s = self.sized in record {
      sized = record {
        memory = c.order_columns_lent-2.ensures.room self.rows (list_words self.rows self.entries) s.memory;
        pointers = s.pointers;
        columns = s.columns;
        narrow = s.narrow;
        few = s.few;
      };
    }

pub returns-clause-orders : goal.returns-clause-orders
returns-clause-orders g c =
    let new = c.order_columns_lent-2.new in
    rw c.if-not-matrix.false (orders_turned (option_copied c.args.request.now.hold) (length c.args.p.now) c.args.request.now.control.now
    (values c.args.matrix.now.a_p.now) (values c.args.matrix.now.a_i.now) (values c.deref.result.now)
    (values c.deref-2.result.now) (values new.p) (values new.p_inv) new.info
    (lent_clean (values) c.deref.ensures.value c.deref-2.ensures.value c.transpose.ensures.clean)
    c.order_columns_lent-2.ensures.orders)

pub returns-clause-status : goal.returns-clause-status
returns-clause-status g c = c.order_columns_lent-2.ensures.status

pub returns-clause-made : goal.returns-clause-made
returns-clause-made g c = c.transpose.ensures.made
