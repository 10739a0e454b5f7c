-- The classes that are merged in the workspace are those of the elimination kept in lists: from the renewal of their lists, and
-- to its rules.
use Rattle.std.specs.Cmp.{both_ways}
use Rattle.std.proofs.Common.{ℕ, ℤ, pos, Bool, true, List, [], ◌∷◌, ◌++◌, ◌≡◌, ◌<◌, ◌≤◌, ◌+◌, ◌-◌, ◌%◌, ◌^◌, ◌&&◌, inl, refl, sym}
use Rattle.std.proofs.Common.{subst, ap, ◌∙◌, arith, length}
use Rattle.std.specs.Prelude.{bit_and, sum_by}
use Rattle.std.proofs.lemmas.List.Sums.{sum_by-append, sum_by-cons}
use Rattle.amd_model.specs.Quotient.{QuotientGraph, has, each, Once, turned, last_that, kept_elements, kept_variables, border_of}
use Rattle.amd_model.proofs.Quotient.Lists.{has_turned, each_gives, each_from, once_append, once_turned, last_same'}
use Rattle.amd_words.specs.Words.{num, word, place, is_place, rows, Names}
use Rattle.amd_round_laws.specs.Rounds.{alike_in}
use Rattle.amd_merging.specs.Merging.{kept_of, words_of, IsRenewed}
use Rattle.amd_lists.specs.Layout.{variables_in}
use Rattle.amd_lists.specs.Renewal.{key_mask, key_of}
use Rattle.amd_words.proofs.RowLists.{rows_length, rows_none, rows_more, rows_both}

same_tail : (x y : ℕ) (xs ys : List ℕ) → x ∷ xs ≡ y ∷ ys → xs ≡ ys
same_tail x y xs ys e = cc

-- ---- a list of `all` words that was renewed in its place: the new element, then the elements and the variables that it keeps

module _ (me : ℕ) (ks vs : List ℕ) (iw : List ℤ) (from few all : ℕ) (order : few ≤ all) (elements : rows iw from few ≡ me ∷ turned ks)
    (variables : rows iw (from + few) (all - few) ≡ turned vs) where
  some : 1 ≤ few
  some = let a = ap length elements in let b = rows_length iw from few in omega (arith, a, b)

  -- behind the new element stand the elements that it keeps
  pub kept_words : rows iw (from + 1) (few - 1) ≡ turned ks
  kept_words = let s = some in let e : few ≡ 1 + (few - 1) = omega (arith, s) in
      same_tail _ me (rows iw (from + 1) (few - 1)) (turned ks) (sym (ap (rows iw from) e ∙ rows_both iw from 1 (few - 1)
      ∙ ap (λ l. l ++ rows iw (from + 1) (few - 1)) (rows_more iw from 0
      ∙ ap (λ l. l ++ place (word iw (from + 0)) ∷ []) (rows_none iw from))) ∙ elements)

  both_words : rows iw (from + 1) (all - 1) ≡ turned ks ++ turned vs
  both_words = let s = some in let e : all - 1 ≡ (few - 1) + (all - few) = omega (arith, s, order) in
      let f : (from + 1) + (few - 1) ≡ from + few = omega (arith, s) in
      ap (rows iw (from + 1)) e ∙ rows_both iw (from + 1) (few - 1) (all - few)
      ∙ ap (λ m. rows iw (from + 1) (few - 1) ++ rows iw m (all - few)) f ∙ ap (λ l. l ++ rows iw (from + few) (all - few)) kept_words
      ∙ ap (λ l. turned ks ++ l) variables

  module _ (pe e_len : List ℤ) (len : List ℕ) (i : ℕ) (starts : word pe i ≡ pos from) (counts : word e_len i ≡ pos few) (lens : num len i
      ≡ all) where
    pub kept_is : kept_of iw pe e_len i ≡ turned ks
    unfolding place
    kept_is = ap (λ z. rows iw (place z + 1) (place (word e_len i) - 1)) starts ∙ ap (λ z. rows iw (from + 1) (place z - 1)) counts
        ∙ kept_words

    pub words_is : words_of iw pe len i ≡ turned ks ++ turned vs
    unfolding place
    words_is = ap (λ z. rows iw (place z + 1) (num len i - 1)) starts ∙ ap (λ m. rows iw (from + 1) (m - 1)) lens ∙ both_words

    pub is_renewed : (n : ℕ) → Names n iw from all → i < n → from + all ≤ length iw → Once ks → Once vs →
        ((x : ℕ) → has ks x ≡ true → has vs x ≡ true → ⊥) → IsRenewed n iw pe e_len len i
    unfolding place is_place
    is_renewed n names row within ok ov apart = let s = some in record {
      row = row;
      starts = ap is_place starts;
      counts = ap is_place counts;
      some = subst (λ z. 1 ≤ place z) (sym counts) s;
      parts = subst (λ z. place z ≤ num len i) (sym counts) (omega (arith, lens, order));
      within = subst (λ z. place z + num len i ≤ length iw) (sym starts) (omega (arith, lens, within));
      names = subst (λ z. Names n iw (place z + 1) (num len i - 1)) (sym starts) (λ k l. let e : from + (k + 1)
          ≡ (from + 1) + k = omega arith in
          subst (λ m. (is_place (word iw m) ≡ true) × (place (word iw m) < n)) e (names (k + 1) (omega (arith, l, lens))));
      once = subst Once (sym words_is) (once_append (turned ks) (turned vs) (once_turned ks ok) (once_turned vs ov) (λ x h k.
          apart x (sym (has_turned ks x) ∙ h) (sym (has_turned vs x) ∙ k)));
    }

-- the key can be summed up while the words are kept, before the first ones are turned
sum_turned : (xs : List ℕ) → sum_by (λ j. j) (turned xs) ≡ sum_by (λ j. j) xs
unfolding turned
sum_turned [] = refl
sum_turned (x ∷ xs) = let a = sum_by-append (λ j. j) xs (x ∷ []) in let b = sum_by-cons (λ j. j) x [] in let c =
    sum_by-cons (λ j. j) x xs in omega (arith, a, b, c)

pub key_turned : (n : ℕ) (ks vs : List ℕ) → key_of n (turned ks ++ turned vs) ≡
    bit_and ((sum_by (λ j. j) ks + sum_by (λ j. j) vs) % 2 ^ 64) (key_mask n)
key_turned n ks vs = ap (λ m. bit_and (m % 2 ^ 64) (key_mask n)) (sum_by-append (λ j. j) (turned ks) (turned vs)
    ∙ ap (λ m. m + sum_by (λ j. j) (turned vs)) (sum_turned ks) ∙ ap (λ m. sum_by (λ j. j) ks + m) (sum_turned vs))

-- ---- lists that name the same give the same representatives

each_same : (xs xs' ys ys' : List ℕ) → ((x : ℕ) → has xs x ≡ has xs' x) → ((x : ℕ) → has ys x ≡ has ys' x) →
    each (has xs) ys ≡ each (has xs') ys'
each_same xs xs' ys ys' e f = both_ways (each (has xs) ys) (each (has xs') ys')
    (λ h. each_from (has xs') ys' (λ x m. sym (e x) ∙ each_gives (has xs) ys h x (f x ∙ m)))
    (λ h. each_from (has xs) ys (λ x m. e x ∙ each_gives (has xs') ys' h x (sym (f x) ∙ m)))

module _ (es vs es' vs' : ℕ → List ℕ) (front : List ℕ) (same_es : (i : ℕ) → has front i ≡ true → (x : ℕ) →
    has (es i) x ≡ has (es' i) x) (same_vs : (i : ℕ) → has front i ≡ true → (x : ℕ) → has (vs i) x ≡ has (vs' i) x) where
  pub alike_same : (i j : ℕ) → has front i ≡ true → has front j ≡ true → alike_in es vs i j ≡ alike_in es' vs' i j
  alike_same i j hi hj =
      let B = each (has (es j)) (es i) in let C = each (has (vs i)) (vs j) in let D = each (has (vs j)) (vs i) in
      let A' = each (has (es' i)) (es' j) in let B' = each (has (es' j)) (es' i) in let C' = each (has (vs' i)) (vs' j) in
      ap (λ z. z && B && C && D) (each_same (es i) (es' i) (es j) (es' j) (same_es i hi) (same_es j hj))
      ∙ ap (λ z. A' && z && C && D) (each_same (es j) (es' j) (es i) (es' i) (same_es j hj) (same_es i hi))
      ∙ ap (λ z. A' && B' && z && D) (each_same (vs i) (vs' i) (vs j) (vs' j) (same_vs i hi) (same_vs j hj))
      ∙ ap (λ z. A' && B' && C' && z) (each_same (vs j) (vs' j) (vs i) (vs' i) (same_vs j hj) (same_vs i hi))

  pub last_same : (i : ℕ) → has front i ≡ true → last_that (alike_in es vs i) i front ≡ last_that (alike_in es' vs' i) i front
  last_same i h = last_same' (alike_in es vs i) (alike_in es' vs' i) i i front (λ x m. alike_same i x h m) (inl refl)

-- ---- the rules

module _ (aggressive : Bool) (t : QuotientGraph) (c : ℕ) (front : List ℕ) (iw pe e_len : List ℤ) (len : List ℕ)
    (elements : (i : ℕ) → has (border_of aggressive t c front) i ≡ true →
    kept_of iw pe e_len i ≡ turned (kept_elements aggressive t c front i))
    (variables : (i : ℕ) → has (border_of aggressive t c front) i ≡ true →
    variables_in iw pe e_len len i ≡ turned (kept_variables aggressive t c front i)) where
  same_es : (i : ℕ) → has (border_of aggressive t c front) i ≡ true → (x : ℕ) →
      has (kept_of iw pe e_len i) x ≡ has (kept_elements aggressive t c front i) x
  same_es i h x = ap (λ l. has l x) (elements i h) ∙ has_turned (kept_elements aggressive t c front i) x

  same_vs : (i : ℕ) → has (border_of aggressive t c front) i ≡ true → (x : ℕ) →
      has (variables_in iw pe e_len len i) x ≡ has (kept_variables aggressive t c front i) x
  same_vs i h x = ap (λ l. has l x) (variables i h) ∙ has_turned (kept_variables aggressive t c front i) x
