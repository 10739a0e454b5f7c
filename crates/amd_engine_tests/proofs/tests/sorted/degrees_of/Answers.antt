-- What `aat` answers is what the engines ask for.
use Rattle.std.proofs.Common.{◌≡◌, map, length, rules}
use Rattle.amd_model.specs.Input.Columns.{IsInput, IsSortedInput}
use Rattle.amd.proofs.CountedDegrees.{degrees_count, degrees_form, degrees_size, degrees_sorted}
use Rattle.amd_engine_tests.proofs.Degrees.{degrees_room}
use Rattle.amd_engine_tests.proofs.tests.sorted.degrees_of.Goals as goal

pub returns-clause-size : goal.returns-clause-size
returns-clause-size g c =
    let n = g.I.Number.value c.args.n in let a_p = map g.I.Number.value c.args.a_p.now in let a_i = map g.I.Number.value c.args.a_i.now in
    let form : IsInput n n a_p a_i = search rules in
    degrees_size n a_p a_i _ _ form c.in-Ok.ensures.degrees

pub returns-clause-form : goal.returns-clause-form
returns-clause-form g c =
    let n = g.I.Number.value c.args.n in let a_p = map g.I.Number.value c.args.a_p.now in let a_i = map g.I.Number.value c.args.a_i.now in
    let form : IsInput n n a_p a_i = search rules in
    degrees_form n a_p a_i _ _ form c.in-Ok.ensures.degrees

pub returns-clause-sorted : goal.returns-clause-sorted
returns-clause-sorted g c =
    let n = g.I.Number.value c.args.n in let a_p = map g.I.Number.value c.args.a_p.now in let a_i = map g.I.Number.value c.args.a_i.now in
    let form : IsInput n n a_p a_i = search rules in
    let sorted : IsSortedInput n a_p a_i = search rules in
    degrees_sorted n a_p a_i _ _ form c.in-Ok.ensures.degrees sorted

pub returns-clause-degrees : goal.returns-clause-degrees
returns-clause-degrees g c =
    let n = g.I.Number.value c.args.n in let a_p = map g.I.Number.value c.args.a_p.now in let a_i = map g.I.Number.value c.args.a_i.now in
    let form : IsInput n n a_p a_i = search rules in
    degrees_count n a_p a_i _ _ form c.in-Ok.ensures.degrees

pub returns-clause-room : goal.returns-clause-room
returns-clause-room g c =
    let n = g.I.Number.value c.args.n in let a_p = map g.I.Number.value c.args.a_p.now in let a_i = map g.I.Number.value c.args.a_i.now in
    let form : IsInput n n a_p a_i = search rules in
    let same : c.len-size.result ≡ length c.in-Ok.degrees.items = search rules in
    degrees_room n a_p a_i _ _ form c.in-Ok.ensures.degrees c.len-size.result c.args.more same
