-- The lists are laid as the engine asks for.
use Rattle.std.proofs.Common.{rules, arith, ap, pos, ◌≡◌, ◌∙◌, length}
use Rattle.std.specs.Prelude.{IsTrue}
use Rattle.amd_edges.proofs.Forms.{pointer_read}
use Rattle.amd_engine.proofs.EndingLaw.{lays_pattern}
use Rattle.amd_engine.proofs.LentPattern.{degrees_fit}
use Rattle.amd_engine_tests.proofs.Degrees.{degrees_lent}
use Rattle.amd_engine_tests.proofs.tests.laid.laid_of.Goals as goal

pub memory_for-requires : goal.memory_for-requires
memory_for-requires g c =
    let lent = c.as_slice-len.result.now in let same = c.as_slice-len.ensures.value in
    let held : IsTrue c.holds.result = search rules in let wide = (c.holds.ensures.0 held).0.3 in
    record {
      fits = degrees_fit (length lent) _ _ lent g.U.Unsigned.MOST
          (degrees_lent _ _ _ lent (length lent) (ap length same) same c.degrees_of-degrees.ensures.degrees) (omega (arith, wide));
    }

pub count_at-requires-clause-fits : goal.count_at-requires-clause-fits
count_at-requires-clause-fits g c =
    rw c.as_slice-len.ensures.value ((pointer_read _ c.args.a_p.now c.args.a_i.now _ c.degrees_of-degrees.ensures.form
    (length c.degrees_of-degrees.result.0.items) (omega arith) (omega (arith, c.well_formed))).1)

pub lay-free-requires-clause-form : goal.lay-free-requires-clause-form
lay-free-requires-clause-form g c = rw c.as_slice-len.ensures.value c.degrees_of-degrees.ensures.form

pub lay-free-requires-clause-sorted : goal.lay-free-requires-clause-sorted
lay-free-requires-clause-sorted g c = rw c.as_slice-len.ensures.value c.degrees_of-degrees.ensures.sorted

pub lay-free-requires-clause-some : goal.lay-free-requires-clause-some
lay-free-requires-clause-some g c = rw c.as_slice-len.ensures.value c.degrees_of-degrees.ensures.some

pub lay-free-requires-clause-words : goal.lay-free-requires-clause-words
lay-free-requires-clause-words g c = rw c.as_slice-len.ensures.value c.degrees_of-degrees.ensures.room

pub lay-free-requires-clause-fits : goal.lay-free-requires-clause-fits
lay-free-requires-clause-fits g c = let is = c.count_at.ensures.count in
    let held : IsTrue c.holds.result = search rules in let wide = (c.holds.ensures.0 held).0 in
    let words = wide.2 in (omega (arith, words), wide.0, wide.1, omega (arith, is))

pub lay-free-requires-clause-degrees : goal.lay-free-requires-clause-degrees
lay-free-requires-clause-degrees g c = let same = c.as_slice-len.ensures.value in
    degrees_lent _ _ _ _ _ (ap length same) (c.in-Ok.ensures.degrees ∙ same) c.degrees_of-degrees.ensures.degrees

pub lay-free-requires-clause-room : goal.lay-free-requires-clause-room
lay-free-requires-clause-room g c = c.in-Ok.ensures.room.beside

pub returns-clause-size : goal.returns-clause-size
returns-clause-size g c = let e = c.degrees_of-degrees.ensures in
    let size : c.args.n ≡ pos (length c.degrees_of-degrees.result.0.items) = search rules in
    rw (c.lay-free.ensures.degrees, c.in-Ok.ensures.degrees, c.as_slice-len.ensures.value) (size, e.some)

pub returns-clause-laid : goal.returns-clause-laid
returns-clause-laid g c = rw (ap length (c.lay-free.ensures.degrees ∙ c.in-Ok.ensures.degrees)) c.lay-free.ensures.laid

pub returns-clause-graph : goal.returns-clause-graph
returns-clause-graph g c =
    let lent = c.as_slice-len.result.now in let same = c.as_slice-len.ensures.value in
    let counts = degrees_lent _ _ _ lent (length lent) (ap length same) same c.degrees_of-degrees.ensures.degrees in
    let laid = c.lay-free.ensures in
    (_, _, lays_pattern _ _ _ _ _ _ _ counts (laid.degrees ∙ c.in-Ok.ensures.degrees) laid.lists)

pub returns-clause-room : goal.returns-clause-room
returns-clause-room g c = rw (ap length (c.lay-free.ensures.degrees ∙ c.in-Ok.ensures.degrees)) c.lay-free.ensures.long.0

pub returns-clause-wide : goal.returns-clause-wide
returns-clause-wide g c =
    let held : IsTrue c.holds.result = search rules in let wide = (c.holds.ensures.0 held).0 in
    let long = c.lay-free.ensures.long.1 in let places = wide.0 in let cells = wide.1 in
    rw (ap length (c.lay-free.ensures.degrees ∙ c.in-Ok.ensures.degrees))
    (omega (arith, long, places), omega (arith, long, cells), wide.2, wide.3, wide.4)
