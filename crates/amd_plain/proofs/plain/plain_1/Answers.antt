-- the goals of plain::plain_1.
use Rattle.std.proofs.Common.{ℤ, List, pos, map, length, ap, sym, subst, ◌∙◌}
use Rattle.std.specs.Option.{option_copied}
use Rattle.amd_model.specs.Listing.{ListsEachRow}
use Rattle.amd_types.specs.Permutations.{AreInverse}
use Rattle.amd_plain.proofs.PlainLaw.{stands_first, stands_last, order_length, order_each, answer}
use Rattle.std.proofs.Common.{◌≡◌}
use Rattle.std.proofs.lemmas.Result.{IfOk-from_err}
use Rattle.amd_types.specs.declared.amd.Status.TheVariants.{OutOfMemory}
use Rattle.amd_plain.proofs.ListingLaw.{if_err, if_same_err}
use Rattle.amd_plain.proofs.plain.plain_1.Goals as goal

pub returns-in_err-work-clause-orders : goal.returns-in_err-work-clause-orders
returns-in_err-work-clause-orders g c = IfOk-from_err c.from_residual.result _ c.from_residual.ensures.0

pub returns-in_err-work-clause-refused : goal.returns-in_err-work-clause-refused
returns-in_err-work-clause-refused g c = if_err c.from_residual.result (λ e. e ≡ OutOfMemory) c.from_residual.ensures.1

pub eliminate-requires : goal.eliminate-requires
eliminate-requires g c =
    let a_p : List ℤ = map g.I.Index.value c.args.a_p.now in let a_i : List ℤ = map g.I.Index.value c.args.a_i.now in
    let b = c.in_ok-work.ensures in
    record {
      stands = stands_first a_p a_i c.args.len.now c.requires.degrees b.rows b.size
          b.lists (option_copied c.args.hold) c.dense_threshold-threshold.result b.marks
          b.marked c.in_ok-work.work b.begins;
    }

pub returns-in_err-eliminate-clause-orders : goal.returns-in_err-eliminate-clause-orders
returns-in_err-eliminate-clause-orders g c =
    IfOk-from_err c.from_residual-in_err-eliminate.result _ c.from_residual-in_err-eliminate.ensures.0

pub returns-in_err-eliminate-clause-refused : goal.returns-in_err-eliminate-clause-refused
returns-in_err-eliminate-clause-refused g c =
    if_err c.from_residual-in_err-eliminate.result (λ e. e ≡ OutOfMemory) c.from_residual-in_err-eliminate.ensures.1

pub listing-requires : goal.listing-requires
listing-requires g c =
    let a_p : List ℤ = map g.I.Index.value c.args.a_p.now in let a_i : List ℤ = map g.I.Index.value c.args.a_i.now in
    let b = c.in_ok-work.ensures in
    record {
      ended = stands_last a_p a_i c.args.len.now c.requires.degrees b.rows b.size
          b.lists (option_copied c.args.hold) c.dense_threshold-threshold.result b.marks
          b.marked c.in_ok-work.work b.begins
          c.args.control.now.aggressive c.eliminate.new.work c.in_ok-eliminate.ensures.rounds c.in_ok-eliminate.ensures.end;
    }

pub returns-in_err-order-clause-orders : goal.returns-in_err-order-clause-orders
returns-in_err-order-clause-orders g c = IfOk-from_err c.from_residual-in_err-order.result _ c.from_residual-in_err-order.ensures.0

pub returns-in_err-order-clause-refused : goal.returns-in_err-order-clause-refused
returns-in_err-order-clause-refused g c =
    if_same_err c.from_residual-in_err-order.result c.in_err-order.field-0.0
    OutOfMemory c.from_residual-in_err-order.ensures.1 c.in_err-order.ensures.refused

pub inverse_pair-requires-clause-fits : goal.inverse_pair-requires-clause-fits
inverse_pair-requires-clause-fits g c = c.requires.fits

pub inverse_pair-requires-clause-size : goal.inverse_pair-requires-clause-size
inverse_pair-requires-clause-size g c =
    let a_p : List ℤ = map g.I.Index.value c.args.a_p.now in let a_i : List ℤ = map g.I.Index.value c.args.a_i.now in
    let b = c.in_ok-work.ensures in
    c.requires.size ∙ ap pos
    (sym (ap length c.deref.ensures.value ∙ order_length a_p a_i c.args.len.now c.requires.degrees b.rows
    b.size b.lists (option_copied c.args.hold) c.dense_threshold-threshold.result b.marks
    b.marked c.in_ok-work.work b.begins
    c.args.control.now.aggressive c.eliminate.new.work c.in_ok-eliminate.ensures.rounds c.in_ok-eliminate.ensures.end
    c.in_ok-order.order.items c.in_ok-order.ensures.lists))

pub inverse_pair-requires-clause-listing : goal.inverse_pair-requires-clause-listing
inverse_pair-requires-clause-listing g c =
    let a_p : List ℤ = map g.I.Index.value c.args.a_p.now in let a_i : List ℤ = map g.I.Index.value c.args.a_i.now in
    let b = c.in_ok-work.ensures in
    subst (λ xs. ListsEachRow (length xs) xs) (sym c.deref.ensures.value)
    (order_each a_p a_i c.args.len.now c.requires.degrees b.rows b.size b.lists
    (option_copied c.args.hold) c.dense_threshold-threshold.result b.marks
    b.marked c.in_ok-work.work b.begins
    c.args.control.now.aggressive c.eliminate.new.work c.in_ok-eliminate.ensures.rounds c.in_ok-eliminate.ensures.end
    c.in_ok-order.order.items c.in_ok-order.ensures.lists)

pub returns-in_err-inverse_pair-clause-orders : goal.returns-in_err-inverse_pair-clause-orders
returns-in_err-inverse_pair-clause-orders g c =
    IfOk-from_err c.from_residual-in_err-inverse_pair.result _ c.from_residual-in_err-inverse_pair.ensures.0

pub returns-in_err-inverse_pair-clause-refused : goal.returns-in_err-inverse_pair-clause-refused
returns-in_err-inverse_pair-clause-refused g c =
    if_err c.from_residual-in_err-inverse_pair.result (λ e. e ≡ OutOfMemory) c.from_residual-in_err-inverse_pair.ensures.1

pub returns-clause-orders : goal.returns-clause-orders
returns-clause-orders g c =
    let a_p : List ℤ = map g.I.Index.value c.args.a_p.now in let a_i : List ℤ = map g.I.Index.value c.args.a_i.now in
    let b = c.in_ok-work.ensures in
    let p : List ℤ = map g.I.Index.value c.in_ok-inverse_pair.field-0.0.items in
    let q : List ℤ = map g.I.Index.value c.in_ok-inverse_pair.field-0.1.items in
    answer a_p a_i c.args.len.now c.requires.degrees b.rows b.size b.lists
    (option_copied c.args.hold) c.dense_threshold-threshold.result b.marks
    b.marked c.in_ok-work.work b.begins
    c.args.control.now.aggressive c.eliminate.new.work c.in_ok-eliminate.ensures.rounds c.in_ok-eliminate.ensures.end
    c.in_ok-order.order.items c.in_ok-order.ensures.lists
    c.args.control.now.dense c.requires.some c.dense_threshold-threshold.ensures p q
    (c.in_ok-inverse_pair.ensures.listed ∙ ap (map pos) c.deref.ensures.value)
    (subst (λ xs. AreInverse (length xs) p q) c.deref.ensures.value c.in_ok-inverse_pair.ensures.inverse)
    c.args.info.now _ c.write_figures.ensures

pub returns-in_err-work-clause-compactions : goal.returns-in_err-work-clause-compactions
returns-in_err-work-clause-compactions g c = IfOk-from_err c.from_residual.result _ c.from_residual.ensures.0

pub returns-in_err-eliminate-clause-compactions : goal.returns-in_err-eliminate-clause-compactions
returns-in_err-eliminate-clause-compactions g c =
    IfOk-from_err c.from_residual-in_err-eliminate.result _ c.from_residual-in_err-eliminate.ensures.0

pub returns-in_err-order-clause-compactions : goal.returns-in_err-order-clause-compactions
returns-in_err-order-clause-compactions g c = IfOk-from_err c.from_residual-in_err-order.result _ c.from_residual-in_err-order.ensures.0

pub returns-in_err-inverse_pair-clause-compactions : goal.returns-in_err-inverse_pair-clause-compactions
returns-in_err-inverse_pair-clause-compactions g c =
    IfOk-from_err c.from_residual-in_err-inverse_pair.result _ c.from_residual-in_err-inverse_pair.ensures.0

pub begun-requires-clause-form : goal.begun-requires-clause-form
begun-requires-clause-form g c = c.requires.form

pub begun-requires-clause-sorted : goal.begun-requires-clause-sorted
begun-requires-clause-sorted g c = c.requires.sorted

pub begun-requires-clause-degrees : goal.begun-requires-clause-degrees
begun-requires-clause-degrees g c = c.requires.degrees

pub begun-requires-clause-marks : goal.begun-requires-clause-marks
begun-requires-clause-marks g c = c.requires.marks

pub returns-clause-compactions : goal.returns-clause-compactions
returns-clause-compactions g c = ap (λ i. i.n_cmp_a) c.write_figures.ensures

pub returns-clause-refused : goal.returns-clause-refused
returns-clause-refused g c = tt
