use Rattle.std.proofs.Common.{◌≡◌, ◌+◌, ◌<◌, ◌++◌, ◌∷◌, [], ℕ, ℤ, List, map, pos, get_or, take, length, arith, sym, ◌∙◌, ap}
use Rattle.std.proofs.Math.Seq.{take-length}
use Rattle.std.proofs.lemmas.List.{map-append, map_more}
use Rattle.amd_types.proofs.Fitting.{fits_below}
use Rattle.amd_types.proofs.permutations.numbers_of.Goals as goal

pub unreachable-requires : goal.unreachable-requires
unreachable-requires g c = c.in_default.ensures (fits_below g.I.Index.fits g.met.I.Index.zero_fits g.met.I.Index.between
    (get_or c.args.rows.now c.rows.k 0) (g.I.Index.value c.args.n) c.requires.fits (c.requires.below c.rows.k c.rows-test.true))

pub returns : goal.returns
returns g c =
    let all : c.rows.k ≡ length c.args.rows.now = (let most = c.rows.auto.k-end in let least = c.rows-test.false in
    omega (arith, most, least)) in
    c.rows.invariant ∙ ap (map pos) (ap (λ k. take k c.args.rows.now) all ∙ take-length c.args.rows.now)

-- one more row, as a number of the caller's type
push_row : {X : Type 0} (value : X → ℤ) (items : List X) {grown : List X} (rows : List ℕ) (k : ℕ) (x : X) → grown ≡ items ++ x ∷ [] →
    map value items ≡ map pos (take k rows) → value x ≡ pos (get_or rows k 0) → k < length rows →
    map value grown ≡ map pos (take (k + 1) rows)
push_row value items rows k x grows read number within =
    ap (map value) grows
    ∙ map-append value items (x ∷ [])
    ∙ ap (λ xs. xs ++ value x ∷ []) read
    ∙ ap (λ z. map pos (take k rows) ++ z ∷ []) number
    ∙ sym (map_more pos rows k 0 within)

pub rows-preserved : goal.rows-preserved
rows-preserved g c =
    push_row g.I.Index.value c.rows.numbers.items c.args.rows.now c.rows.k c.in-Some.number c.in_ok-push.ensures.items c.rows.invariant
    c.in-Some.ensures.1 c.rows-test.true
