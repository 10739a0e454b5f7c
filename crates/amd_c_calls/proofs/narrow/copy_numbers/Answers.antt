-- A number that is a place has 31 bits at most, so that each word holds it.
use Rattle.std.proofs.Common.{ℤ, true, ◌≡◌, ◌≤◌, sym, subst, arith, rules, w32, w64, to_z, of_z, SFits}
use Rattle.std.specs.Prelude.{unsigned_abs}
use Rattle.std.proofs.lemmas.Int.{ints}
use Rattle.amd_words.specs.Words.{is_place, word}
use Rattle.amd_words.proofs.Signs.{place_is, abs_is}
use Rattle.amd_c_calls.proofs.narrow.copy_numbers.Goals as goal

small : (z : ℤ) → is_place z ≡ true → SFits w32 z → unsigned_abs (to_z w64 (of_z w64 (to_z w32 (of_z w32 z)))) ≤ 2147483647
small z placed fits =
    let place = place_is z placed in let size = abs_is z placed in
    let same : to_z w64 (of_z w64 (to_z w32 (of_z w32 z))) ≡ z = omega (arith, ints) in
    subst (λ x. unsigned_abs x ≤ 2147483647) (sym same) (omega (arith, ints))

pub put_word-requires-clause-fits : goal.put_word-requires-clause-fits
put_word-requires-clause-fits c =
    let k = c.numbers.k in small (word c.args.numbers.now k) (c.requires.rows k c.numbers-test.true) (search rules)
