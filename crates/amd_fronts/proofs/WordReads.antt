-- The words that a loop over a list reads.
use Rattle.std.proofs.Common.{ℕ, ℤ, Bool, List, true, false, ◌≡◌, ◌<◌, ◌≤◌, ◌+◌, ◌-◌, sym, ap, ◌∙◌, cond, add-sub_of_le, le_of_lt}
use Rattle.amd_model.specs.Quotient.{has, Once}
use Rattle.amd_words.specs.Words.{num, word, place, rows, flip_of}
use Rattle.amd_words.proofs.RowLists.{rows_has, fresh_word}
use Rattle.amd_words.proofs.WordCounts.{next_place, within_count}
use Rattle.amd_lists.specs.Layout.{elements_in, rows_met}
use Rattle.amd_fronts.specs.Counts.{counter, ends}
use Rattle.amd_fronts.proofs.Counting.{start_stays}

-- e is what the word at p names: it stands in the list, and not before that word
pub record IsWordRead (iw : List ℤ) (from count p e : ℕ) : Type 0 where
  pub inside : p - from < count
  pub is : e ≡ place (word iw (from + (p - from)))
  pub fresh : has (rows iw from (p - from)) e ≡ false
  pub named : has (rows iw from count) e ≡ true
  pub next : p + 1 - from ≡ (p - from) + 1

pub word_read : (iw : List ℤ) {from count p e : ℕ} → from ≤ p → p < from + count → e ≡ place (word iw p) → Once (rows iw from count) →
    IsWordRead iw from count p e
word_read iw {from} {count} {p} {e} after before e_is once =
    let inside : p - from < count = within_count after before in
    let is : e ≡ place (word iw (from + (p - from))) = e_is ∙ ap (λ m. place (word iw m)) (sym (add-sub_of_le after)) in record {
      inside = inside;
      is = is;
      fresh = ap (has (rows iw from (p - from))) is ∙ fresh_word iw from count (p - from) inside once;
      named = ap (has (rows iw from count)) is ∙ rows_has iw from count (p - from) inside;
      next = next_place after;
    }

-- a class that no class of the front lists as an element has its start and its elements as before
pub class_kept : (iw pe e_len nv : List ℤ) (aggressive : Bool) (me : ℕ) (degree w0 : List ℕ) (pe1 : List ℤ) {from count p i flag : ℕ} →
    IsWordRead iw from count p i → 2 ≤ flag → ((e : ℕ) → num w0 e < flag) →
    ((e : ℕ) → word pe1 e ≡ cond (ends aggressive flag (counter flag (num w0 e) (num degree e)
    (rows_met iw pe e_len nv (rows iw from (p - from)) e))) (flip_of me) (word pe e)) →
    ((j : ℕ) → has (rows iw from count) j ≡ true → has (elements_in iw pe e_len j) i ≡ false) →
    (word pe1 i ≡ word pe i) × (elements_in iw pe1 e_len i ≡ elements_in iw pe e_len i)
class_kept iw pe e_len nv aggressive me degree w0 pe1 {from} {count} {p} {i} {flag} read two under starts none =
    let same = start_stays iw pe e_len nv aggressive flag me degree w0 pe1 from count (p - from) (le_of_lt read.inside) two under starts i
    none in
    (same, ap (λ z. rows iw (place z) (place (word e_len i))) same)
