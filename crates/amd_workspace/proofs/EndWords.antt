-- The words of the record at the end: what a mark names and tells, and what any other word does.
use Rattle.std.proofs.Common.{ℕ, ℤ, zero, suc, pos, negsuc, false, ◌≡◌, ◌<◌, ◌≤◌, ◌+◌, ◌-◌, ◌∙◌, refl, ap, cond}
use Rattle.std.proofs.Common.{arith, unsigned_abs}
use Rattle.std.specs.Prelude.{int_lt}
use Rattle.std.proofs.lemmas.Int.{ints}
use Rattle.amd_words.specs.Words.{flip_of}
use Rattle.amd_rounds.specs.Views.{is_flip, flipped}
use Rattle.amd_rounds.proofs.Standing.{flip_is}
use Rattle.amd_workspace.specs.Ending.{named_word}

-- a mark
pub mark_named : (z : ℤ) (k : ℕ) → z ≡ flip_of k → named_word z ≡ pos k
unfolding named_word
mark_named z k e = let more : k + 1 ≡ suc k = omega arith in ap named_word e ∙ ap (λ m. named_word (negsuc m)) more

pub mark_told : (z : ℤ) (k : ℕ) → z ≡ flip_of k → flipped z ≡ k
mark_told z k e = ap flipped e ∙ (flip_is k).2

-- what is no mark names and tells nothing
pub plain_named : (z : ℤ) → int_lt z (negsuc 0) ≡ false → named_word z ≡ negsuc 0
unfolding named_word
plain_named (pos k) h = refl
plain_named (negsuc zero) h = refl
plain_named (negsuc (suc k)) h = absurd (omega (arith, ints, h))

pub plain_told : (z : ℤ) → int_lt z (negsuc 0) ≡ false → flipped z ≡ 0
unfolding flipped
plain_told (pos k) h = refl
plain_told (negsuc zero) h = refl
plain_told (negsuc (suc k)) h = absurd (omega (arith, ints, h))

-- what a word names is no longer than the word
pub named_small : (z : ℤ) (most : ℕ) → 1 ≤ most → unsigned_abs z ≤ most → unsigned_abs (named_word z) ≤ most
unfolding named_word
named_small (pos k) most one l = one
named_small (negsuc zero) most one l = one
named_small (negsuc (suc k)) most one l = let less : unsigned_abs (negsuc (suc k)) ≡ suc (suc k) = refl in omega (arith, l, less)

-- what a word tells without a border that is less than that is a block
pub block_told : (z : ℤ) (border front d : ℕ) → front ≡ flipped z → d ≡ border → d < front →
    front - d ≡ cond (is_flip z) (flipped z - border) 0
unfolding is_flip flipped
block_told (pos k) border front d is same l = absurd (omega (arith, is, l))
block_told (negsuc zero) border front d is same l = absurd (omega (arith, is, l))
block_told (negsuc (suc k)) border front d is same l = omega (arith, is, same)
