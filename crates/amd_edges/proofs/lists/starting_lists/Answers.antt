use Rattle.std.proofs.Common.{map, ◌∙◌, sym, arith}
use Rattle.std.specs.Vec.{vec_capacity}
use Rattle.std.proofs.lemmas.List.{length-map}
use Rattle.amd_model.specs.Input.Pattern.{graph_of, is_pair}
use Rattle.amd_edges.proofs.Forms.{pointer_within}
use Rattle.amd_edges.proofs.Orders.{ends_starting}
use Rattle.amd_edges.proofs.RowLists.{rows_none}
use Rattle.amd_edges.proofs.lists.starting_lists.Goals as goal

pub walk-requires-clause-fits : goal.walk-requires-clause-fits
walk-requires-clause-fits g c =
    let within = pointer_within c.args.size (map g.I.Index.value c.args.a_p.now) (map g.I.Index.value c.args.a_i.now) c.requires.form
    c.args.size (omega arith) in
    let long = length-map c.args.a_i.now g.I.Index.value in let short = c.well_formed in
    omega (arith, within, long, short)

pub walk-requires-clause-held : goal.walk-requires-clause-held
walk-requires-clause-held g c =
    let graph = graph_of c.args.size (map g.I.Index.value c.args.a_p.now) (map g.I.Index.value c.args.a_i.now) in
    let made = c.in_ok-empty_lists.ensures in
    rows_none _ (λ v. v.items) vec_capacity graph c.args.degrees.now c.in_ok-empty_lists.field-0.items c.requires.degrees made.size
    made.empty made.room

pub returns-clause-size : goal.returns-clause-size
unfolding graph_of
returns-clause-size g c = sym (length-map c.walk.new.visitor.rows.items (λ v. v.items)) ∙ c.walk.ensures.held.size

pub returns-clause-lists : goal.returns-clause-lists
unfolding graph_of
returns-clause-lists g c = λ i h.
    c.walk.ensures.held.order i h ∙ ends_starting c.args.size
    (is_pair c.args.size (map g.I.Index.value c.args.a_p.now) (map g.I.Index.value c.args.a_i.now)) i
