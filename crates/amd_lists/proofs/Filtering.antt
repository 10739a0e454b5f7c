-- A part of a list is moved to its front, or further down.
use Rattle.std.proofs.Common.{ℕ, ℤ, Bool, true, false, List, [], ◌∷◌, ◌++◌, ◌≡◌, ◌<◌, ◌≤◌, ◌+◌, ◌-◌}
use Rattle.std.proofs.Common.{◌%◌, ◌^◌, cond, inl, inr, refl, sym, ap}
use Rattle.std.proofs.Common.{◌∙◌, arith, append-nil, length, filter, sum_by, pos, set, length-set, get_or-set_same, get_or-set_other}
use Rattle.std.proofs.Common.{subst}
use Rattle.std.proofs.lemmas.List.{set-set, set-get_or}
use Rattle.std.proofs.lemmas.Bool.{cases_eq}
use Rattle.std.proofs.lemmas.List.Elements.{filter-append}
use Rattle.std.proofs.lemmas.List.Sums.{sum_by-append, sum_by-cons}
use Rattle.amd_model.specs.Figures.{cut}
use Rattle.amd_round_laws.proofs.Lists.Cuts.{cut_more, cut_small}
use Rattle.amd_words.specs.Words.{is_place, place, word, rows}
use Rattle.amd_lists.specs.Renewal.{hashed, Filters}
use Rattle.amd_lists.specs.Spans.{span, sifted}
use Rattle.amd_words.proofs.RowLists.{rows_none, rows_more, rows_same}
use Rattle.amd_words.proofs.WordMarks.{rows_start}

module _ (n : ℕ) (pass : ℕ → Bool) (share : ℕ → ℕ) (first : ℕ) (iw : List ℤ) (from to : ℕ) where
  pub filters_none : first < 2 ^ 64 → Filters n pass share first (span iw from 0) to (sifted iw to first)
  filters_none fits = record {
    long = refl;
    low = omega arith;
    high = omega arith;
    list = (let e : to - to ≡ 0 = omega arith in ap (rows iw to) e ∙ rows_none iw to ∙ sym (ap (filter pass) (rows_none iw from)));
    names = λ k l. absurd (omega (arith, l));
    below = λ k l. refl;
    above = λ k l. refl;
    sum_is = cut_small first (omega (arith, fits)) ∙ ap cut (let none : sum_by share (filter pass (rows iw from 0))
        ≡ 0 = ap (λ xs. sum_by share (filter pass xs)) (rows_none iw from) in omega (arith, none));
  }

  module _ {count : ℕ} {iw' : List ℤ} {end sum : ℕ} (h : Filters n pass share first (span iw from count) to (sifted iw' end sum)) where
    next_is : filter pass (rows iw from (count + 1)) ≡ filter pass (rows iw from count)
        ++ cond (pass (place (word iw (from + count)))) (place (word iw (from + count)) ∷ []) []
    next_is = ap (filter pass) (rows_more iw from count) ∙ filter-append pass (rows iw from count) (place (word iw (from + count)) ∷ [])

    pub filters_no : pass (place (word iw (from + count))) ≡ false →
        Filters n pass share first (span iw from (count + 1)) to (sifted iw' end sum)
    filters_no fails = let high = h.high in
        let same : filter pass (rows iw from (count + 1)) ≡ filter pass (rows iw from count) = next_is
        ∙ ap (λ b. filter pass (rows iw from count) ++ cond b (place (word iw (from + count)) ∷ []) []) fails
        ∙ append-nil (filter pass (rows iw from count)) in
        record {
          long = h.long;
          low = h.low;
          high = omega (arith, high);
          list = h.list ∙ sym same;
          names = h.names;
          below = h.below;
          above = h.above;
          sum_is = h.sum_is ∙ ap (λ xs. cut (first + sum_by share xs)) (sym same);
        }

    pub filters_yes : (p total : ℕ) → p ≡ from + count → to ≤ from → p < length iw → is_place (word iw p) ≡ true → place (word iw p) < n →
        pass (place (word iw (from + count))) ≡ true →
        total ≡ cut (sum + share (place (word iw (from + count)))) →
        Filters n pass share first (span iw from (count + 1)) to (sifted (set iw' end (word iw' p)) (end + 1) total)
    filters_yes p total at down fit is_one small passes total_is =
        let low = h.low in let high = h.high in let long = h.long in let v : ℤ = word iw' p in let y : ℕ = place (word iw (from + count)) in
        let here : v ≡ word iw p = h.above p (omega (arith, high, down, at)) in
        let mine : word (set iw' end v) end ≡ v = get_or-set_same iw' end v (pos 0) (omega (arith, high, down, at, fit, long)) in
        let other : (m : ℕ) → (m ≡ end → ⊥) → word (set iw' end v) m ≡ word iw' m = λ m ne. get_or-set_other iw' end m v (pos 0) ne in
        let more : (end + 1) - to ≡ (end - to) + 1 = omega (arith, low) in let last : to + (end - to) ≡ end = omega (arith, low) in
        let grown : filter pass (rows iw from (count + 1)) ≡ filter pass (rows iw from count) ++ y ∷ [] = next_is
        ∙ ap (λ b. filter pass (rows iw from count) ++ cond b (y ∷ []) []) passes in
        record {
          long = length-set iw' end v ∙ h.long;
          low = omega (arith, low);
          high = omega (arith, high);
          list = ap (rows (set iw' end v) to) more ∙ rows_more (set iw' end v) to (end - to)
              ∙ ap (λ xs. xs ++ place (word (set iw' end v) (to + (end - to))) ∷ [])
              (rows_same iw' (set iw' end v) to to (end - to) (λ k l. other (to + k) (λ q. omega (arith, q, l))) ∙ h.list)
              ∙ ap (λ x. filter pass (rows iw from count) ++ x ∷ []) (ap place (ap (word (set iw' end v)) last ∙ mine ∙ here)
              ∙ ap (λ k. place (word iw k)) at) ∙ sym grown;
          names = λ m l. elim (cases_eq m (end - to)) [
            | inl q ↦ (let e : to + m ≡ end = omega (arith, q, last) in
                let z : word (set iw' end v) (to + m) ≡ word iw p = ap (word (set iw' end v)) e ∙ mine ∙ here in
                (ap is_place z ∙ is_one, (let a = ap place z in omega (arith, a, small))))
            | inr ne ↦ (let z : word (set iw' end v) (to + m) ≡ word iw' (to + m) = other (to + m) (λ q. ne (omega (arith, q, last))) in
                let b = h.names m (omega (arith, l, ne, more)) in
                (ap is_place z ∙ b.0, (let a = ap place z in let s = b.1 in omega (arith, a, s))))
          ];
          below = λ m l. other m (λ q. omega (arith, q, l, low)) ∙ h.below m l;
          above = λ m l. other m (λ q. omega (arith, q, l)) ∙ h.above m (omega (arith, l));
          sum_is = total_is ∙ cut_more sum _ (share y) h.sum_is
              ∙ ap cut (let a = ap (sum_by share) grown in let b = sum_by-append share (filter pass (rows iw from count)) (y ∷ []) in
              let c = sum_by-cons share y [] in
              let none : sum_by share [] ≡ 0 = refl in omega (arith, a, b, c, none));
        }

  -- the same where the word at `end` may be any: the list is filtered once the word that was there at first is put back
  module _ {count : ℕ} (iw' : List ℤ) {end sum : ℕ}
      (h : Filters n pass share first (span iw from count) to (sifted (set iw' end (word iw end)) end sum))
      (p : ℕ) (at : p ≡ from + count) (down : to ≤ from) (behind : (k : ℕ) → p ≤ k → word iw' k ≡ word iw k) where
    pub open_behind : (k : ℕ) → p + 1 ≤ k → word (set iw' end (word iw' p)) k ≡ word iw k
    open_behind k l = let high = h.high in get_or-set_other iw' end k (word iw' p) (pos 0) (λ q. omega (arith, q, l, high, down, at))
        ∙ behind k (omega (arith, l))

    pub open_no : pass (place (word iw (from + count))) ≡ false →
        Filters n pass share first (span iw from (count + 1)) to (sifted (set (set iw' end (word iw' p)) end (word iw end)) end sum)
    open_no fails = subst (λ l. Filters n pass share first (span iw from (count + 1)) to (sifted l end sum))
        (sym (set-set iw' end (word iw' p) (word iw end))) (filters_no h fails)

    pub open_yes : (total : ℕ) → p < length iw → is_place (word iw p) ≡ true → place (word iw p) < n →
        pass (place (word iw (from + count))) ≡ true → total ≡ cut (sum + share (place (word iw (from + count)))) →
        Filters n pass share first (span iw from (count + 1)) to
        (sifted (set (set iw' end (word iw' p)) (end + 1) (word iw (end + 1))) (end + 1) total)
    open_yes total fit is_one small passes total_is =
        let high = h.high in let long = h.long in let same = length-set iw' end (word iw end) in let v : ℤ = word iw' p in
        let back : List ℤ = set iw' end (word iw end) in let written : List ℤ = set iw' end v in
        let read : word back p ≡ v = elim (cases_eq p end) [
          | inl q ↦ ap (word back) q ∙ get_or-set_same iw' end (word iw end) (pos 0) (omega (arith, q, fit, long, same))
              ∙ ap (word iw) (sym q) ∙ sym (behind p (omega arith))
          | inr ne ↦ get_or-set_other iw' end p (word iw end) (pos 0) ne
        ] in
        let next : word written (end + 1) ≡ word iw (end + 1) = get_or-set_other iw' end (end + 1) v (pos 0) (λ q. omega (arith, q))
        ∙ sym (get_or-set_other iw' end (end + 1) (word iw end) (pos 0) (λ q. omega (arith, q))) ∙ h.above (end + 1) (omega arith) in
        let stays : set written (end + 1) (word iw (end + 1)) ≡ written = ap (set written (end + 1)) (sym next)
        ∙ set-get_or written (end + 1) (pos 0) in
        subst (λ l. Filters n pass share first (span iw from (count + 1)) to (sifted l (end + 1) total))
        (ap (set back end) read ∙ set-set iw' end (word iw end) v ∙ sym stays)
        (filters_yes h p total at down fit is_one small passes total_is)

-- ---- the sum of what passes, which wraps

wraps : (a b : ℕ) → (a % 2 ^ 64 + b) % 2 ^ 64 ≡ (a + b) % 2 ^ 64
wraps a b = omega arith

module _ (pass : ℕ → Bool) (first : ℕ) (iw : List ℤ) (from : ℕ) where
  pub hashed_none : first < 2 ^ 64 → first ≡ hashed first (filter pass (rows iw from (from - from)))
  hashed_none small = let none : sum_by (λ j. j) (filter pass (rows iw from (from - from))) ≡ 0 = ap (λ xs. sum_by (λ j. j)
      (filter pass xs))
      (rows_start iw from) in omega (arith, none, small)

  module _ (k hash : ℕ) (is : hash ≡ hashed first (filter pass (rows iw from k))) where
    abbrev next : ℕ
    next = place (word iw (from + k))

    grown : filter pass (rows iw from (k + 1)) ≡ filter pass (rows iw from k) ++ cond (pass next) (next ∷ []) []
    grown = ap (filter pass) (rows_more iw from k) ∙ filter-append pass (rows iw from k) (next ∷ [])

    pub hashed_no : pass next ≡ false → hash ≡ hashed first (filter pass (rows iw from (k + 1)))
    hashed_no fails = is ∙ ap (hashed first) (sym (grown ∙ ap (λ b. filter pass (rows iw from k) ++ cond b (next ∷ []) []) fails
        ∙ append-nil (filter pass (rows iw from k))))

    pub hashed_yes : (x : ℕ) → x ≡ next → pass next ≡ true → (hash + x) % 2 ^ 64 ≡ hashed first (filter pass (rows iw from (k + 1)))
    hashed_yes x e passes = let sum : ℕ = sum_by (λ j. j) (filter pass (rows iw from k)) in let one = sum_by-cons (λ j. j) next [] in
        let more : sum_by (λ j. j) (filter pass (rows iw from (k + 1))) ≡ sum + next = ap (sum_by (λ j. j)) (grown
        ∙ ap (λ b. filter pass (rows iw from k) ++ cond b (next ∷ []) []) passes)
        ∙ sum_by-append (λ j. j) (filter pass (rows iw from k)) (next ∷ []) ∙ ap (λ m. sum + m) (omega (arith, one)) in
        let last : (first + sum) + next ≡ first + (sum + next) = omega arith in
        ap (λ h. (h + x) % 2 ^ 64) is ∙ wraps (first + sum) x ∙ ap (λ z. ((first + sum) + z) % 2 ^ 64) e ∙ ap (λ m. m % 2 ^ 64) last
        ∙ ap (λ m. (first + m) % 2 ^ 64) (sym more)

-- the sum of two lists, one on top of the other
pub hashed_both : (xs ys : List ℕ) → hashed (hashed 0 xs) ys ≡ hashed 0 (xs ++ ys)
hashed_both xs ys = let all = sum_by-append (λ j. j) xs ys in wraps (0 + sum_by (λ j. j) xs) (sum_by (λ j. j) ys)
    ∙ ap (λ m. m % 2 ^ 64) (omega (arith, all))
