-- the goals of laying::entry_lists.
use Rattle.std.proofs.Common.{◌≡◌, ◌<◌, ◌-◌, arith, ap, map, length, ◌∙◌}
use Rattle.std.specs.Vec.{vec_capacity}
use Rattle.amd_model.specs.Input.Pattern.{graph_of, is_pair}
use Rattle.amd_model.specs.Quotient.{met_edges}
use Rattle.amd_edges.specs.Visits.{arcs_of}
use Rattle.amd_edges.proofs.Orders.{ends_starting}
use Rattle.amd_workspace.proofs.CopiedColumns.{filled_long, filled_words, rows_empty}
use Rattle.amd_workspace.proofs.Layings.{kept_room, lays_none, walked_list}
use Rattle.amd_workspace.proofs.laying.entry_lists.Goals as goal

pub overflow_sub-size : goal.overflow_sub-size
overflow_sub-size g c = let some = c.requires.ready.some in omega (arith, some)

pub push_rows-requires-clause-room : goal.push_rows-requires-clause-room
push_rows-requires-clause-room g c =
    let is = c.replace-own.ensures.value in let empty = ap (λ w. length w.iw.items) is ∙ c.requires.ready.empty in
    let wide = ap (λ w. vec_capacity w.iw) is in let fits = c.requires.ready.fits in omega (arith, empty, wide, fits)

pub push_rows-requires-clause-small : goal.push_rows-requires-clause-small
push_rows-requires-clause-small g c = let rows = c.requires.ready.rows in omega (arith, rows)

pub walk_lower-requires-clause-form : goal.walk_lower-requires-clause-form
walk_lower-requires-clause-form g c = c.requires.ready.input.form

pub walk_lower-requires-clause-sorted : goal.walk_lower-requires-clause-sorted
walk_lower-requires-clause-sorted g c = c.requires.ready.input.sorted

pub walk_lower-requires-clause-lower : goal.walk_lower-requires-clause-lower
walk_lower-requires-clause-lower g c = c.requires.ready.input.lower

pub walk_lower-requires-clause-held : goal.walk_lower-requires-clause-held
unfolding graph_of
walk_lower-requires-clause-held g c =
    let n = c.args.size in let ready = c.requires.ready in let some = ready.some in
    let az = map g.I.Index.value c.args.a_p.now in let bz = map g.I.Index.value c.args.a_i.now in
    let empty : length c.replace-own.result.iw.items ≡ 0 = ap (λ w. length w.iw.items) c.replace-own.ensures.value ∙ ready.empty in
    let last : n - 1 < n = omega (arith, some) in let none = rows_empty n _ some empty in
    let words = filled_words n c.args.fill (n - 1) _ _ last none c.push_rows.ensures.items in
    let long = filled_long n c.args.fill (n - 1) _ _ last none c.push_rows.ensures.items in
    let enough = ready.enough in let places = ready.places in
    rw c.replace-own.ensures.value (lays_none (graph_of n az bz) c.args.words.now.next.items ready.long ready.starts
    g.S.Signed.MOST g.U.Unsigned.MOST c.push_rows.new.iw.items words (omega (arith, long, empty, enough)) ready.rows
    (omega (arith, long, empty, places)))

pub returns-clause-long : goal.returns-clause-long
returns-clause-long g c =
    let n = c.args.size in let ready = c.requires.ready in let some = ready.some in
    let empty : length c.replace-own.result.iw.items ≡ 0 = ap (λ w. length w.iw.items) c.replace-own.ensures.value ∙ ready.empty in
    let last : n - 1 < n = omega (arith, some) in
    let long = filled_long n c.args.fill (n - 1) _ _ last (rows_empty n _ some empty) c.push_rows.ensures.items in
    let kept = (kept_room c.walk_lower.ensures.kept).0 in omega (arith, kept, long, empty)

pub returns-clause-capacity : goal.returns-clause-capacity
returns-clause-capacity g c =
    let kept = kept_room c.walk_lower.ensures.kept in let is = c.replace-own.ensures.value in record {
      next = (let new = kept.1 in let old = ap (λ w. vec_capacity w.next) is in omega (arith, new, old));
      iw = (let new = kept.2 in let filled = c.push_rows.ensures.capacity in let old = ap (λ w. vec_capacity w.iw) is in
          omega (arith, new, filled, old));
    }

pub returns-clause-lists : goal.returns-clause-lists
unfolding graph_of
returns-clause-lists g c = λ degrees counts.
    let n = c.args.size in let az = map g.I.Index.value c.args.a_p.now in let bz = map g.I.Index.value c.args.a_i.now in (
      c.walk_lower.ensures.held.words,
      λ i l. walked_list (graph_of n az bz) degrees counts (arcs_of (met_edges n (is_pair n az bz))) g.S.Signed.MOST g.U.Unsigned.MOST
          c.walk_lower.new.visitor.next.items c.walk_lower.new.visitor.iw.items c.walk_lower.ensures.held i l
          ∙ ends_starting n (is_pair n az bz) i,
    )
