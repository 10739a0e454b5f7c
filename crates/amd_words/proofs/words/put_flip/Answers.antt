use Rattle.std.proofs.Common.{ℕ, pos, ◌≡◌, ◌<◌, ◌≤◌, ◌+◌, ◌^◌, ◌∙◌, ap, arith, w64, to_z, of_z, ◌-ℤ◌, set, lt_of_le_of_lt}
use Rattle.std.proofs.lemmas.Int.{ints}
use Rattle.amd_words.specs.Words.{flip_of}
use Rattle.amd_words.proofs.words.put_flip.Goals as goal

-- the mark, as it is computed
flip_is : (row : ℕ) → row + 2 < 2 ^ 63 →
    to_z w64 (of_z w64 (to_z w64 (of_z w64 (pos 0 -ℤ to_z w64 row)) -ℤ pos 2)) ≡ flip_of row
flip_is row small = omega (arith, ints)

flip_size : (row most : ℕ) → row + 2 < 2 ^ 63 → row + 2 ≤ most →
    lib.IntN.nat_abs (to_z w64 (of_z w64 (to_z w64 (of_z w64 (pos 0 -ℤ to_z w64 row)) -ℤ pos 2))) ≤ most
flip_size row most small fits = let e = ap lib.IntN.nat_abs (flip_is row small) in omega (arith, e, fits)

pub put_word-requires-clause-inside : goal.put_word-requires-clause-inside
put_word-requires-clause-inside g c = c.requires.inside

pub put_word-requires-clause-fits : goal.put_word-requires-clause-fits
put_word-requires-clause-fits g c = flip_size c.args.row g.S.Signed.MOST (lt_of_le_of_lt c.requires.small g.met.S.Signed.narrow)
    c.requires.small

pub returns : goal.returns
returns g c = c.put_word.ensures
    ∙ ap (set c.args.words.now c.args.k) (flip_is c.args.row (lt_of_le_of_lt c.requires.small g.met.S.Signed.narrow))
