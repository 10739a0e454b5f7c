-- Classes that keep the same elements and variables: their words tell.
use Rattle.std.specs.Cmp.{both_ways}
use Rattle.amd_model.proofs.Counting.Below.{clash}
use Rattle.std.proofs.Common.{ℕ, ℤ, Bool, true, false, List, [], ◌∷◌, ◌++◌, ◌≡◌, ◌<◌, ◌+◌, ◌-◌, ◌%◌, ◌^◌, ◌&&◌, cond, inl, inr, sym, ap}
use Rattle.std.proofs.Common.{subst, ◌∙◌, arith}
use Rattle.std.specs.Prelude.{◌==◌, bit_and}
use Rattle.std.proofs.lemmas.Bool.{cases_Bool, eq-eqb, ne_eqb, eqb-true, cond-true, cond-false, and_parts, and_from, or_parts}
use Rattle.amd_model.specs.Quotient.{has, each, Once}
use Rattle.amd_model.proofs.Quotient.Lists.{has_append, each_gives, each_from}
use Rattle.amd_model.proofs.Listings.Words.{has_left, has_right, has_append as in_parts}
use Rattle.amd_words.specs.Words.{num, start, place, word, rows}
use Rattle.amd_round_laws.proofs.Lists.Same.{same_sum, same_length, fills}
use Rattle.amd_round_laws.specs.Rounds.{alike_in}
use Rattle.amd_round_laws.proofs.Merging.Representatives.{alike_gives, alike_from}
use Rattle.amd_merging.specs.Classes.{lists_of}
use Rattle.amd_merging.specs.Merging.{kept_of, words_of, IsRenewed, AreApart, looks}
use Rattle.amd_lists.specs.Layout.{variables_in}
use Rattle.amd_lists.specs.Renewal.{key_mask, key_of}
use Rattle.amd_words.proofs.RowLists.{rows_both, rows_length}

-- ---- two lists, each in two parts

pub once_left : (xs ys : List ℕ) → Once (xs ++ ys) → Once xs
once_left [] ys o = tt
once_left (x ∷ xs) ys o = ((or_parts (has xs x) (has ys x) (sym (has_append xs ys x) ∙ o.0)).0, once_left xs ys o.1)

-- the sum of a list without repeats is that of its set
pub same_key : (n : ℕ) (xs ys : List ℕ) → Once xs → Once ys → each (has xs) ys ≡ true → each (has ys) xs ≡ true → key_of n xs ≡ key_of n ys
same_key n xs ys o p h k = ap (λ m. bit_and (m % 2 ^ 64) (key_mask n)) (same_sum (λ j. j) xs ys o p h k)

module _ (ei vi ej vj : List ℕ) where
  both_each : each (has ei) ej ≡ true → each (has vi) vj ≡ true → each (has (ei ++ vi)) (ej ++ vj) ≡ true
  both_each h k = each_from (has (ei ++ vi)) (ej ++ vj) (λ x m. elim (in_parts x ej vj m) [
    | inl q ↦ has_left x ei vi (each_gives (has ei) ej h x q)
    | inr q ↦ has_right x ei vi (each_gives (has vi) vj k x q)
  ])

  left_each : ((x : ℕ) → has ej x ≡ true → has vi x ≡ false) → each (has (ei ++ vi)) (ej ++ vj) ≡ true → each (has ei) ej ≡ true
  left_each ap_j h = each_from (has ei) ej (λ x m. elim (in_parts x ei vi
      (each_gives (has (ei ++ vi)) (ej ++ vj) h x (has_left x ej vj m))) [
        | inl q ↦ q
        | inr q ↦ clash q (ap_j x m)
      ])

  right_each : ((x : ℕ) → has ei x ≡ true → has vj x ≡ false) → each (has (ei ++ vi)) (ej ++ vj) ≡ true → each (has vi) vj ≡ true
  right_each ap_i h = each_from (has vi) vj (λ x m. elim (in_parts x ei vi
      (each_gives (has (ei ++ vi)) (ej ++ vj) h x (has_right x ej vj m))) [
        | inl q ↦ clash m (ap_i x q)
        | inr q ↦ q
      ])

-- ---- the words of classes

module _ (n : ℕ) (iw pe e_len : List ℤ) (len : List ℕ) where
  abbrev es : ℕ → List ℕ
  es = kept_of iw pe e_len

  abbrev vs : ℕ → List ℕ
  vs = variables_in iw pe e_len len

  -- the words are the elements and then the variables
  pub words_are : (i : ℕ) → IsRenewed n iw pe e_len len i → words_of iw pe len i ≡ kept_of iw pe e_len i ++ variables_in iw pe e_len len i
  words_are i r = let a = r.some in let b = r.parts in let few : ℕ = place (word e_len i) in
      let e : num len i - 1 ≡ (few - 1) + (num len i - few) = omega (arith, a, b) in
      let s : (start pe i + 1) + (few - 1) ≡ start pe i + few = omega (arith, a) in
      ap (rows iw (start pe i + 1)) e ∙ rows_both iw (start pe i + 1) (few - 1) (num len i - few)
      ∙ ap (λ m. rows iw (start pe i + 1) (few - 1) ++ rows iw m (num len i - few)) s

  module _ (i j : ℕ) (ri : IsRenewed n iw pe e_len len i) (rj : IsRenewed n iw pe e_len len j) where
    once_i : Once (es i ++ vs i)
    once_i = subst Once (words_are i ri) ri.once

    once_j : Once (es j ++ vs j)
    once_j = subst Once (words_are j rj) rj.once

    -- alike classes have the same words, and as many
    pub alike_words : alike_in es vs i j ≡ true → (each (has (words_of iw pe len i)) (words_of iw pe len j) ≡ true)
        × (each (has (words_of iw pe len j)) (words_of iw pe len i) ≡ true)
    alike_words h = let p = alike_gives es vs i j h in (
      ap (λ ws. each (has ws) (words_of iw pe len j)) (words_are i ri) ∙ ap (each (has (es i ++ vs i))) (words_are j rj)
          ∙ both_each (es i) (vs i) (es j) (vs j) p.0 p.2,
      ap (λ ws. each (has ws) (words_of iw pe len i)) (words_are j rj) ∙ ap (each (has (es j ++ vs j))) (words_are i ri)
          ∙ both_each (es j) (vs j) (es i) (vs i) p.1 p.3,
    )

    pub alike_key : alike_in es vs i j ≡ true → key_of n (words_of iw pe len i) ≡ key_of n (words_of iw pe len j)
    alike_key h = let p = alike_words h in same_key n (words_of iw pe len i) (words_of iw pe len j) ri.once rj.once p.0 p.1

    pub alike_counts : alike_in es vs i j ≡ true → (num len j ≡ num len i) × (place (word e_len j) ≡ place (word e_len i))
    alike_counts h = let p = alike_words h in let q = alike_gives es vs i j h in
        let all = same_length (words_of iw pe len i) (words_of iw pe len j) ri.once rj.once p.0 p.1 in
        let some = same_length (es i) (es j) (once_left (es i) (vs i) once_i) (once_left (es j) (vs j) once_j) q.0 q.1 in
        let a = rows_length iw (start pe i + 1) (num len i - 1) in let b = rows_length iw (start pe j + 1) (num len j - 1) in
        let c = rows_length iw (start pe i + 1) (place (word e_len i) - 1) in let d =
        rows_length iw (start pe j + 1) (place (word e_len j) - 1) in
        let s = ri.some in let t = rj.some in let u = ri.parts in let v = rj.parts in
        (omega (arith, all, a, b, s, t, u, v), omega (arith, some, c, d, s, t))

    words_alike : AreApart iw pe e_len len i j → num len j ≡ num len i → each (has (words_of iw pe len i)) (words_of iw pe len j) ≡ true →
        alike_in es vs i j ≡ true
    words_alike apart e h =
        let a = rows_length iw (start pe i + 1) (num len i - 1) in let b = rows_length iw (start pe j + 1) (num len j - 1) in
        let k = fills (words_of iw pe len i) (words_of iw pe len j) ri.once rj.once h (omega (arith, a, b, e)) in
        let h' : each (has (es i ++ vs i)) (es j ++ vs j) ≡ true =
        sym (ap (λ ws. each (has ws) (words_of iw pe len j)) (words_are i ri) ∙ ap (each (has (es i ++ vs i))) (words_are j rj))
        ∙ h in
        let k' : each (has (es j ++ vs j)) (es i ++ vs i) ≡ true =
        sym (ap (λ ws. each (has ws) (words_of iw pe len i)) (words_are j rj) ∙ ap (each (has (es j ++ vs j))) (words_are i ri))
        ∙ k in
        alike_from es vs i j (left_each (es i) (vs i) (es j) (vs j) apart.1 h') (left_each (es j) (vs j) (es i) (vs i) apart.0 k')
        (right_each (es i) (vs i) (es j) (vs j) apart.0 h') (right_each (es j) (vs j) (es i) (vs i) apart.1 k')

    -- with the words of i marked, the test says whether j is alike
    pub looks_alike : (w w0 : List ℕ) (flag : ℕ) → AreApart iw pe e_len len i j → ((x : ℕ) → num w0 x < flag) →
        ((x : ℕ) → num w x ≡ cond (has (words_of iw pe len i) x) flag (num w0 x)) →
        looks (lists_of iw pe e_len len) w (num len i) (place (word e_len i)) flag j ≡ alike_in es vs i j
    looks_alike w w0 flag apart under marked =
        let wi : List ℕ = words_of iw pe len i in let wj : List ℕ = words_of iw pe len j in
        let lens : Bool = num len j == num len i in let fews : Bool = place (word e_len j) == place (word e_len i) in
        let mark_is : (x : ℕ) → (num w x == flag) ≡ has wi x = λ x. elim (cases_Bool (has wi x)) [
          | inl t ↦ eq-eqb (num w x) flag (marked x ∙ cond-true (has wi x) flag (num w0 x) t) ∙ sym t
          | inr f ↦ ne_eqb (num w x) flag (λ q. let u = under x in let e = sym (marked x ∙ cond-false (has wi x) flag (num w0 x) f) in
              omega (arith, u, e, q)) ∙ sym f
        ] in
        let each_is : each (λ x. num w x == flag) wj ≡ each (has wi) wj = ap (λ p. each p wj) (λ k x. mark_is x k) in
        ap (λ b. (lens && fews) && b) each_is ∙ both_ways ((lens && fews) && each (has wi) wj) (alike_in es vs i j)
        (λ h. let p = and_parts (lens && fews) (each (has wi) wj) h in let q = and_parts lens fews p.0 in
        words_alike apart (eqb-true (num len j) (num len i) q.0) p.1)
        (λ h. let p = alike_words h in let q = alike_counts h in
        and_from (lens && fews) (each (has wi) wj) (and_from lens fews (eq-eqb (num len j) (num len i) q.0)
        (eq-eqb (place (word e_len j)) (place (word e_len i)) q.1)) p.0)
