use Rattle.std.proofs.Common.{◌≡◌, ◌<◌, ℕ, pos, get_or, length, arith, ◌∙◌, below_more}
use Rattle.std.proofs.lemmas.List.{length-set}
use Rattle.amd_model.proofs.Counting.Pigeonhole.{permutation_below, permutation_once}
use Rattle.std.proofs.lemmas.Int.{ints}
use Rattle.amd_types.proofs.Fitting.{fits_below}
use Rattle.amd_types.proofs.NumberReads.{at_set_same, at_set_other}
use Rattle.amd_types.proofs.permutations.places_of.Goals as goal

pub unreachable-requires : goal.unreachable-requires
unreachable-requires g c = c.in_default.ensures (fits_below g.I.Index.fits g.met.I.Index.zero_fits g.met.I.Index.between c.rows.k
    (g.I.Index.value c.args.n) c.requires.fits (let size = c.requires.size in let within = c.rows-test.true in
    omega (arith, ints, size, within)))

pub index_mut-requires : goal.index_mut-requires
index_mut-requires g c = let small = permutation_below (length c.args.rows.now) c.args.rows.now c.requires.listing c.rows.k c.rows-test.true
    in let room = c.rows.invariant.room in omega (arith, small, room)

pub rows-preserved : goal.rows-preserved
rows-preserved g c =
    let value = g.I.Index.value in
    let rows = c.args.rows.now in
    let places = c.rows.places.items in
    let row : ℕ = get_or rows c.rows.k 0 in
    let listing = c.requires.listing in
    let small : row < length rows = permutation_below (length rows) rows listing c.rows.k c.rows-test.true in
    let room : length places ≡ length rows = c.rows.invariant.room in
    record {
      room = length-set places row c.in-Some.place ∙ room;
      written = below_more _ _
          (λ j before. at_set_other value places row (get_or rows j 0) c.in-Some.place
          (permutation_once (length rows) rows listing j c.rows.k before c.rows-test.true) ∙ c.rows.invariant.written j before)
          (◌∙◌ {c = pos c.rows.k} (at_set_same value places row c.in-Some.place (omega (arith, small, room))) c.in-Some.ensures.1);
    }
