-- The words of a span, one after another.
use Rattle.std.proofs.Common.{ℕ, ℤ, true, List, ◌≡◌, ◌<◌, ◌≤◌, ◌+◌, ◌-◌, sym, ap, subst, ◌∙◌, arith, add-sub_of_le}
use Rattle.amd_words.specs.Words.{is_place, place, word}
use Rattle.amd_lists.specs.Spans.{IsSpan}
use Rattle.amd_words.proofs.WordCounts.{within_count}

-- the word at the place p
module _ {n : ℕ} {iw : List ℤ} {from count : ℕ} (span : IsSpan n iw from count) {p : ℕ} (after : from ≤ p) (there : p < from + count) where
  named_at : (is_place (word iw p) ≡ true) × (place (word iw p) < n)
  named_at = subst (λ q. (is_place (word iw q) ≡ true) × (place (word iw q) < n)) (add-sub_of_le after)
      (span.names (p - from) (within_count after there))

  pub span_one : is_place (word iw p) ≡ true
  span_one = named_at.0

  pub span_row : {row n' : ℕ} → row ≡ place (word iw p) → n' ≡ n → row < n'
  span_row is wide = let a = named_at.1 in omega (arith, a, is, wide)

-- it is the next behind those before it
pub word_from : (iw : List ℤ) {from p row : ℕ} → from ≤ p → row ≡ place (word iw p) → row ≡ place (word iw (from + (p - from)))
word_from iw after is = is ∙ ap (λ q. place (word iw q)) (sym (add-sub_of_le after))
