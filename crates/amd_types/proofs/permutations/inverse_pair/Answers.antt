use Rattle.std.proofs.Common.{◌≡◌, ℕ, ℤ, List, map, pos, length, arith, ◌∙◌, ap}
use Rattle.std.proofs.lemmas.Int.{ints}
use Rattle.std.proofs.lemmas.List.{length-map}
use Rattle.amd_model.proofs.Counting.Pigeonhole.{permutation_below}
use Rattle.amd_types.proofs.Inverses.{inverse_from}
use Rattle.amd_types.proofs.permutations.inverse_pair.Goals as goal

pub numbers_of-requires-clause-below : goal.numbers_of-requires-clause-below
numbers_of-requires-clause-below g c k l =
    let small = permutation_below (length c.args.rows.now) c.args.rows.now c.requires.listing k l in
    let size = c.requires.size in
    omega (arith, ints, small, size)

-- the listing in the caller's numbers is as long as it was
same_length : {X : Type 0} (value : X → ℤ) (xs : List X) (rows : List ℕ) → map value xs ≡ map pos rows → length xs ≡ length rows
same_length value xs rows e = simp length-map at (ap length e)

pub places_of-requires-clause-room : goal.places_of-requires-clause-room
places_of-requires-clause-room g c = ap length c.deref.ensures.value ∙
    same_length g.I.Index.value c.in_ok-p.p.items c.args.rows.now c.in_ok-p.ensures

pub returns-clause-inverse : goal.returns-clause-inverse
returns-clause-inverse g c =
    let value = g.I.Index.value in
    inverse_from (length c.args.rows.now) c.args.rows.now c.requires.listing (map value c.in_ok-p.p.items)
    (map value c.in_ok-p_inv.p_inv.items)
    c.in_ok-p.ensures (simp length-map c.in_ok-p_inv.ensures.room) c.in_ok-p_inv.ensures.places
