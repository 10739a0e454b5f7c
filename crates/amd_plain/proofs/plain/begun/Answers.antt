use Rattle.std.proofs.Common.{ℤ, List, map, ap, ◌∙◌}
use Rattle.amd_plain.specs.Views.{mark_at}
use Rattle.amd_plain.proofs.PlainLaw.{degrees_range, rows_range}
use Rattle.amd_plain.proofs.plain.begun.Goals as goal

pub starting_lists-requires-clause-form : goal.starting_lists-requires-clause-form
starting_lists-requires-clause-form g c = c.requires.form

pub starting_lists-requires-clause-sorted : goal.starting_lists-requires-clause-sorted
starting_lists-requires-clause-sorted g c = c.requires.sorted

pub starting_lists-requires-clause-degrees : goal.starting_lists-requires-clause-degrees
starting_lists-requires-clause-degrees g c = c.requires.degrees

pub start-requires-clause-rows : goal.start-requires-clause-rows
start-requires-clause-rows g c =
    let a_p : List ℤ = map g.I.Index.value c.args.a_p.now in let a_i : List ℤ = map g.I.Index.value c.args.a_i.now in
    rows_range a_p a_i c.args.len.now c.requires.degrees c.in_ok-rows.rows.items c.in_ok-rows.ensures.size c.in_ok-rows.ensures.lists

pub start-requires-clause-degrees : goal.start-requires-clause-degrees
start-requires-clause-degrees g c =
    let a_p : List ℤ = map g.I.Index.value c.args.a_p.now in let a_i : List ℤ = map g.I.Index.value c.args.a_i.now in
    degrees_range a_p a_i c.args.len.now c.requires.degrees c.in_ok-rows.rows.items c.in_ok-rows.ensures.size c.in_ok-rows.ensures.lists

pub returns : goal.returns
returns g c = record {
  rows = c.in_ok-rows.rows.items;
  size = c.in_ok-rows.ensures.size;
  lists = c.in_ok-rows.ensures.lists;
  marks = c.deref.result.now;
  marked = λ i l. ap (λ xs. mark_at xs i) c.deref.ensures.value ∙ c.in_ok-last.ensures.rows i l;
  begins = c.in_ok-work.ensures;
}
