use Rattle.std.proofs.Common.{ℕ, ℤ, pos, ◌≡◌, ◌<◌, ◌≤◌, ◌+◌, ◌^◌, ◌∙◌, sym, ap, subst, arith, w64, to_z, of_z, ◌-ℤ◌, ◌+ℤ◌}
use Rattle.std.proofs.Common.{le-add_right, lt_trans, lt_of_le_of_lt, lit<}
use Rattle.std.proofs.lemmas.Int.{ints}
use Rattle.amd_words.specs.Words.{flip_of}
use Rattle.amd_words.proofs.words.flipped.Goals as goal

-- the row that a mark names, as it is computed
row_is : (z : ℤ) (row : ℕ) → z ≡ flip_of row → row + 2 < 2 ^ 63 →
    to_z w64 (of_z w64 (pos 0 -ℤ to_z w64 (of_z w64 (to_z w64 (of_z w64 z) +ℤ pos 2)))) ≡ pos row
row_is z row is small = rw is (omega (arith, ints))

abs_small : (z : ℤ) (row most : ℕ) → z ≡ flip_of row → lib.IntN.nat_abs z ≤ most → most < 2 ^ 63 → row + 2 < 2 ^ 63
abs_small z row most is fits top = let e = ap lib.IntN.nat_abs is in omega (arith, e, fits, top)

pub word_at-requires : goal.word_at-requires
word_at-requires g c = c.requires.inside

pub overflow_cast-result : goal.overflow_cast-result
overflow_cast-result g c =
    let row : ℕ = c.requires.marked.0 in let is : c.word_at.result ≡ flip_of row = c.word_at.ensures.is ∙ c.requires.marked.1 in
    let small : row + 2 < 2 ^ 63 = abs_small c.word_at.result row g.S.Signed.MOST is c.word_at.ensures.small g.met.S.Signed.narrow in
    subst (λ z. lib.Dec.T (lib.Signed.non_neg z) × mir.Val.Fits w64 (lib.IntN.nat_abs z)) (sym (row_is c.word_at.result row is small))
    (tt, record { fits = lt_of_le_of_lt (le-add_right row 2) (lt_trans small (lit< tt)) })

pub returns : goal.returns
returns g c =
    let row : ℕ = c.requires.marked.0 in let is : c.word_at.result ≡ flip_of row = c.word_at.ensures.is ∙ c.requires.marked.1 in
    let small : row + 2 < 2 ^ 63 = abs_small c.word_at.result row g.S.Signed.MOST is c.word_at.ensures.small g.met.S.Signed.narrow in
    c.requires.marked.1 ∙ sym (ap (λ z. flip_of (lib.IntN.nat_abs z)) (row_is c.word_at.result row is small))
