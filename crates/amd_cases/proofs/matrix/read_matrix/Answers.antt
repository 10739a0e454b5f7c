-- The parts of the file were read one after another.
use Rattle.std.proofs.Common.{◌∙◌, map, w64}
use Rattle.std.proofs.lemmas.Int.{to_z_pos}
use Rattle.std.proofs.lemmas.List.{length-map}
use Rattle.amd_cases.proofs.MatrixLemmas.{holds-all}
use Rattle.amd_cases.proofs.matrix.read_matrix.Goals as goal

pub overflow_cast-columns : goal.overflow_cast-columns
overflow_cast-columns g c = record { sfits = c.in_ok-columns.ensures.0 }

pub overflow_cast-entries : goal.overflow_cast-entries
overflow_cast-entries g c = record { sfits = c.in_ok-columns.ensures.1 }

pub returns-clause-holds : goal.returns-clause-holds
returns-clause-holds g c =
    let rows = c.in_ok-a_i.a_i.items in
    let sizes = c.in_ok-columns.ensures in
    holds-all (g.R.Read.remaining c.args.input.now) (g.R.Read.remaining c.sizes.new.input) (g.R.Read.remaining c.pointers.new.input)
    (g.R.Read.remaining c.narrow_numbers.new.input) (g.I.Index.value c.in_ok-n.n) _ c.in_ok-columns.columns c.in_ok-columns.entries
    (map g.I.Index.value c.in_ok-a_p.a_p.items) (map g.I.Index.value rows)
    (c.in_ok-n.ensures.1 ∙ to_z_pos w64 c.in_ok-columns.columns sizes.0) (to_z_pos w64 c.in_ok-columns.entries sizes.1)
    (length-map rows g.I.Index.value ∙ c.in_ok-a_i.ensures.1) sizes.2 c.in_ok-a_p.ensures.0 c.in_ok-a_p.ensures.1 c.in_ok-a_i.ensures.0
    c.in_ok-expect_end.ensures
