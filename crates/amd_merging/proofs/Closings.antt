-- An element is closed: its list is shortened in its place, and the free end may go back to where it ends.
use Rattle.std.proofs.Common.{ℕ, ℤ, Bool, true, List, pos, ◌≡◌, ◌<◌, ◌≤◌, ◌+◌, ◌-◌, ◌⊎◌, inl, inr, ap, subst, sym, ◌∙◌, arith, length, set}
use Rattle.std.proofs.Common.{get_or-set_same, get_or-set_other}
use Rattle.amd_words.specs.Words.{num, is_place, place, word, start, rows, flip_of, Names}
use Rattle.amd_lists.specs.Renewal.{Filters}
use Rattle.amd_lists.specs.Spans.{span, sifted}
use Rattle.amd_lists.specs.Layout.{has_list, end_of, Layout}
use Rattle.amd_merging.specs.Classes.{lists_of}
use Rattle.amd_merging.specs.Closing.{Closes}
use Rattle.amd_words.proofs.Signs.{mark_none}
use Rattle.amd_lists.proofs.Frames.{edited, edited_fewer, edited_reads, lowered_last}

closes : {n : ℕ} {pass : ℕ → Bool} {share : ℕ → ℕ} {first sum : ℕ} {iw iw' : List ℤ} {end free : ℕ} (me last : ℕ)
    (pe e_len : List ℤ) (len : List ℕ) → me < length e_len → me < length len → is_place (word pe me) ≡ true →
    Filters n pass share first (span iw (start pe me) (num len me)) (start pe me) (sifted iw' end sum) →
    Layout n iw pe e_len len free →
    Closes n me pass free (lists_of iw pe e_len len)
    (lists_of iw' pe (set e_len me (flip_of last)) (set len me (end - start pe me)))
closes {n} {pass} {share} {first} {sum} {iw} {iw'} {end} {free} me last pe e_len len small_e small_l at f y =
    let len' : List ℕ = set len me (end - start pe me) in let e_len' : List ℤ = set e_len me (flip_of last) in
    let low = f.low in let high = f.high in
    let is : num len' me ≡ end - start pe me = get_or-set_same len me (end - start pe me) 0 small_l in
    let shorter : num len' me ≤ num len me = omega (arith, is, high, low) in
    let lengths : (j : ℕ) → (j ≡ me → ⊥) → num len' j ≡ num len j = λ j ne. get_or-set_other len me j (end - start pe me) 0 ne in
    let names : Names n iw' (start pe me) (num len' me) = λ k l. f.names k (omega (arith, l, is)) in
    let others : (k : ℕ) → (k < start pe me) ⊎ (start pe me + num len' me ≤ k) → word iw' k ≡ word iw k = λ k out. elim out [
      | inl l ↦ f.below k l
      | inr l ↦ f.above k (omega (arith, l, is, low))
    ] in
    let counts : (j : ℕ) → (j ≡ me → ⊥) → word e_len' j ≡ word e_len j = λ j ne. get_or-set_other e_len me j (flip_of last) (pos 0) ne in
    let none : place (word e_len' me) ≡ 0 = ap place (get_or-set_same e_len me (flip_of last) (pos 0) small_e) ∙ mark_none last in record {
      list = ap (rows iw' (start pe me)) is ∙ f.list;
      shorter = shorter;
      counts = counts;
      lengths = lengths;
      same = edited_reads me y iw' len' shorter lengths names others e_len' counts at;
      fewer = edited_fewer me y iw' len' shorter lengths names others;
      laid = edited me y iw' len' shorter lengths names others e_len' (omega (arith, none)) counts;
    }

-- so it is where the list starts at `from`, with the two lists that are written
pub closes_at : {n : ℕ} {pass : ℕ → Bool} {share : ℕ → ℕ} {first sum : ℕ} {iw iw' : List ℤ} {from end free : ℕ} (me last : ℕ)
    (pe e_len : List ℤ) (len : List ℕ) {e_len' : List ℤ} {len' : List ℕ} → me < length e_len → me < length len → start pe me ≡ from →
    is_place (word pe me) ≡ true → e_len' ≡ set e_len me (flip_of last) → len' ≡ set len me (end - from) →
    Filters n pass share first (span iw from (num len me)) from (sifted iw' end sum) → Layout n iw pe e_len len free →
    Closes n me pass free (lists_of iw pe e_len len) (lists_of iw' pe e_len' len')
closes_at {n} {pass} {share} {first} {sum} {iw} {iw'} {from} {end} {free} me last pe e_len len small_e small_l at one counts lengths f y =
    rw (counts, lengths) (subst (λ s. Closes n me pass free (lists_of iw pe e_len len)
    (lists_of iw' pe (set e_len me (flip_of last)) (set len me (end - s)))) at
    (closes me last pe e_len len small_e small_l one
    (subst (λ s. Filters n pass share first (span iw s (num len me)) s (sifted iw' end sum)) (sym at) f) y))

pub lowers : {n : ℕ} {iw pe e_len : List ℤ} {len : List ℕ} {free : ℕ} (me from end : ℕ) → from ≤ end → start pe me ≡ from →
    num len me ≡ end - from → end_of pe len me ≤ free → ((j : ℕ) → (j ≡ me → ⊥) → has_list pe len j ≡ true → end_of pe len j ≤ from) →
    Layout n iw pe e_len len free → Layout n iw pe e_len len end
lowers {n} {iw} {pe} {e_len} {len} {free} me from end order at long within before y =
    let is : end_of pe len me ≡ end = omega (arith, order, at, long) in
    subst (Layout n iw pe e_len len) is
    (lowered_last me y within (λ j ne h. let a = before j ne h in omega (arith, a, at)))
