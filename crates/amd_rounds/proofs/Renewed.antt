-- Lists of a front after their renewal: what stands behind the new element, and what does not ask which word an element has.
use Rattle.std.proofs.Common.{ℕ, ℤ, List, true, ◌≡◌, ◌<◌, ◌≤◌, inl, inr, sym, ◌∙◌, arith}
use Rattle.std.specs.Prelude.{◌==◌}
use Rattle.std.proofs.lemmas.Bool.{cases_eq, eq-eqb, eqb-true}
use Rattle.amd_words.specs.Words.{num, word, place}
use Rattle.amd_lists.specs.Layout.{has_list, Layout}
use Rattle.amd_merging.specs.Classes.{Classes}
use Rattle.amd_merging.specs.Merging.{AreRenewed}

-- a layout asks of the counts of elements that they are parts of their lists alone
pub recounted : {n : ℕ} {iw pe e_len : List ℤ} {len : List ℕ} {free : ℕ} (e_len' : List ℤ) → Layout n iw pe e_len len free →
    ((j : ℕ) → has_list pe len j ≡ true → place (word e_len' j) ≤ num len j) → Layout n iw pe e_len' len free
recounted e_len' y parts = record { within = y.within; apart = y.apart; parts = parts; words = y.words }

-- what is asked of counters that stay 0 for the same rows
pub renewed_zeros : {n : ℕ} {p : Classes} {w rest : List ℕ} → ((x : ℕ) → (num w x == 0) ≡ (num p.w x == 0)) →
    AreRenewed n p rest → AreRenewed n (record p { w = w }) rest
renewed_zeros {n} {p} {w} {rest} zeros h = record {
  renewed = h.renewed;
  apart = h.apart;
  keys = h.keys;
  marked = h.marked;
  small = h.small;
  standing = λ i x m k. some x (h.standing i x m k);
}
  where
    some : (x : ℕ) → 0 < num p.w x → 0 < num w x
    some x l = elim (cases_eq (num w x) 0) [
      | inl z ↦ (let a = eqb-true (num p.w x) 0 (sym (zeros x) ∙ eq-eqb (num w x) 0 z) in absurd (omega (arith, a, l)))
      | inr nz ↦ omega (arith, nz)
    ]
