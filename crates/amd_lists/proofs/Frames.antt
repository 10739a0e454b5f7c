-- Lists that share no word: what is written in the place of one leaves each other one.
use Rattle.amd_model.proofs.Counting.Below.{clash, sum_mono}
use Rattle.std.proofs.Common.{ℕ, ℤ, Bool, true, false, List, ◌≡◌, ◌<◌, ◌≤◌, ◌+◌, ◌-◌, ◌&&◌, ◌⊎◌, inl, inr, sym, subst, ap, ◌∙◌, arith, cond}
use Rattle.std.specs.Prelude.{nat_lt}
use Rattle.std.proofs.lemmas.Bool.{cases_Bool, cases_eq, cases_lt, and_parts, and_from, ltb-true, lt-ltb}
use Rattle.amd_words.specs.Words.{num, is_place, place, word, start, rows, Names}
use Rattle.amd_lists.specs.Layout.{has_list, end_of, elements_in, variables_in, list_in, Layout, live_words, ReadsSame, RenewsOne}
use Rattle.amd_lists.specs.Workspaces.{Workspace}
use Rattle.amd_words.proofs.RowLists.{rows_same}

pub has_parts : (pe : List ℤ) (len : List ℕ) (j : ℕ) → has_list pe len j ≡ true → (is_place (word pe j) ≡ true) × (0 < num len j)
unfolding has_list
has_parts pe len j h = let a = and_parts _ _ h in (a.0, ltb-true 0 (num len j) a.1)

pub has_from : (pe : List ℤ) (len : List ℕ) (j : ℕ) → is_place (word pe j) ≡ true → 0 < num len j → has_list pe len j ≡ true
unfolding has_list
has_from pe len j p l = and_from _ _ p (lt-ltb 0 (num len j) l)

pub has_none : (pe : List ℤ) (len : List ℕ) (j : ℕ) → is_place (word pe j) ≡ true → has_list pe len j ≡ false → num len j ≡ 0
has_none pe len j p h = elim (cases_eq (num len j) 0) [ inl q ↦ q | inr ne ↦ clash (has_from pe len j p (omega (arith, ne))) h ]

pub has_length : (pe : List ℤ) (len len' : List ℕ) (j : ℕ) → num len' j ≡ num len j → has_list pe len' j ≡ has_list pe len j
unfolding has_list
has_length pe len len' j e = ap (λ m. is_place (word pe j) && nat_lt 0 m) e

-- a list stands where it did, with as many words
pub has_same : (pe pe' : List ℤ) (len len' : List ℕ) (j : ℕ) → word pe' j ≡ word pe j → num len' j ≡ num len j →
    has_list pe' len' j ≡ has_list pe len j
unfolding has_list
has_same pe pe' len len' j e f = ap (λ z. is_place z && nat_lt 0 (num len' j)) e ∙ has_length pe len len' j f

-- ---- a list that reads the same

module _ (iw pe e_len : List ℤ) (len : List ℕ) (iw' pe' e_len' : List ℤ) (len' : List ℕ) (j : ℕ)
    (h : ReadsSame iw pe e_len len iw' pe' e_len' len' j) where
  pub reads_list : list_in iw' pe' len' j ≡ list_in iw pe len j
  reads_list = ap (rows iw' (start pe' j)) h.1 ∙ rows_same iw iw' (start pe j) (start pe' j) (num len j) h.2

  module _ (parts : place (word e_len j) ≤ num len j) where
    pub reads_elements : elements_in iw' pe' e_len' j ≡ elements_in iw pe e_len j
    reads_elements = ap (λ z. rows iw' (start pe' j) (place z)) h.0
        ∙ rows_same iw iw' (start pe j) (start pe' j) (place (word e_len j)) (λ k l. h.2 k (omega (arith, l, parts)))

    pub reads_variables : variables_in iw' pe' e_len' len' j ≡ variables_in iw pe e_len len j
    reads_variables = let m : ℕ = place (word e_len j) in
        ap (λ z. rows iw' (start pe' j + place z) (num len' j - place z)) h.0 ∙ ap (λ c. rows iw' (start pe' j + m) (c - m)) h.1
        ∙ rows_same iw iw' (start pe j + m) (start pe' j + m) (num len j - m) (λ k l. let a : (start pe' j + m) + k
        ≡ start pe' j + (m + k) = omega arith in let b : start pe j + (m + k) ≡ (start pe j + m) + k = omega arith in
        ap (word iw') a ∙ h.2 (m + k) (omega (arith, l)) ∙ ap (word iw) b)

-- ---- the layout after a change

-- each list stands within its old place, or it is that of c and stands behind the old free end
pub relaid : {n : ℕ} {iw pe e_len : List ℤ} {len : List ℕ} {free : ℕ} {iw' pe' e_len' : List ℤ} {len' : List ℕ} {free' : ℕ} (c : ℕ) →
    Layout n iw pe e_len len free → free ≤ free' →
    ((j : ℕ) → has_list pe' len' j ≡ true → ((j ≡ c) × (free ≤ start pe' j) × (end_of pe' len' j ≤ free'))
    ⊎ ((has_list pe len j ≡ true) × (start pe j ≤ start pe' j) × (end_of pe' len' j ≤ end_of pe len j))) →
    ((j : ℕ) → has_list pe' len' j ≡ true → place (word e_len' j) ≤ num len' j) →
    ((k : ℕ) → k < free' → (is_place (word iw' k) ≡ true) × (place (word iw' k) < n)) → Layout n iw' pe' e_len' len' free'
relaid {n} {iw} {pe} {e_len} {len} {free} {iw'} {pe'} {e_len'} {len'} {free'} c y grows inside parts words = record {
  within = λ j h. elim (inside j h) [ inl a ↦ a.2 | inr a ↦ (let b = a.2 in let d = y.within j a.0 in omega (arith, b, d, grows)) ];
  apart = λ i j h k ne. elim (inside i h) [
    | inl a ↦ elim (inside j k) [
      | inl b ↦ absurd (ne (a.0 ∙ sym b.0))
      | inr b ↦ inr (let a1 = a.1 in let b2 = b.2 in let d = y.within j b.0 in omega (arith, a1, b2, d))
    ]
    | inr a ↦ elim (inside j k) [
      | inl b ↦ inl (let b1 = b.1 in let a2 = a.2 in let d = y.within i a.0 in omega (arith, b1, a2, d))
      | inr b ↦ (let a1 = a.1 in let a2 = a.2 in let b1 = b.1 in let b2 = b.2 in
          elim (y.apart i j a.0 b.0 ne) [ inl l ↦ inl (omega (arith, l, a2, b1)) | inr l ↦ inr (omega (arith, l, b2, a1)) ])
    ]
  ];
  parts = parts;
  words = words;
}

-- no list longer: no more live words
pub live_less : (n : ℕ) (pe : List ℤ) (len len' : List ℕ) → ((j : ℕ) → has_list pe len' j ≡ has_list pe len j) →
    ((j : ℕ) → num len' j ≤ num len j) → live_words n pe len' ≤ live_words n pe len
live_less n pe len len' listed shorter = sum_mono n (λ j. cond (has_list pe len' j) (num len' j) 0) (λ j.
    cond (has_list pe len j) (num len j) 0) (λ j l. let s = shorter j in elim (cases_Bool (has_list pe len j)) [
      | inl h ↦ (let a = ap (λ b. cond b (num len' j) 0) (listed j ∙ h) in let b = ap (λ b. cond b (num len j) 0) h in
          omega (arith, a, b, s))
      | inr h ↦ (let a = ap (λ b. cond b (num len' j) 0) (listed j ∙ h) in let b = ap (λ b. cond b (num len j) 0) h in
          omega (arith, a, b, s))
    ])

-- no list more, and none longer
pub live_part : (n : ℕ) (pe pe' : List ℤ) (len len' : List ℕ) →
    ((j : ℕ) → has_list pe' len' j ≡ true → (has_list pe len j ≡ true) × (num len' j ≤ num len j)) →
    live_words n pe' len' ≤ live_words n pe len
live_part n pe pe' len len' part = sum_mono n (λ j. cond (has_list pe' len' j) (num len' j) 0) (λ j.
    cond (has_list pe len j) (num len j) 0) (λ j l. elim (cases_Bool (has_list pe' len' j)) [
      | inl h ↦ (let p = part j h in let a = ap (λ b. cond b (num len' j) 0) h in let b = ap (λ b. cond b (num len j) 0) p.0 in
          let s = p.1 in
          omega (arith, a, b, s))
      | inr h ↦ (let a = ap (λ b. cond b (num len' j) 0) h in omega (arith, a))
    ])

-- ---- lists that end, and a lower free end

module _ {n : ℕ} {iw pe e_len : List ℤ} {len : List ℕ} {free : ℕ} (y : Layout n iw pe e_len len free) (pe' : List ℤ) (drops : (j : ℕ) →
    (word pe' j ≡ word pe j) ⊎ (is_place (word pe' j) ≡ false)) where
  kept_start : (j : ℕ) → has_list pe' len j ≡ true → word pe' j ≡ word pe j
  kept_start j h = elim (drops j) [ inl e ↦ e | inr f ↦ clash (has_parts pe' len j h).0 f ]

  kept_list : (j : ℕ) → has_list pe' len j ≡ true → has_list pe len j ≡ true
  kept_list j h = has_from pe len j (ap is_place (sym (kept_start j h)) ∙ (has_parts pe' len j h).0) (has_parts pe' len j h).1

  pub dropped : Layout n iw pe' e_len len free
  dropped = relaid 0 y (omega arith) (λ j h. let s = ap place (kept_start j h) in
      inr (kept_list j h, (omega (arith, s)), (omega (arith, s)))) (λ j h. y.parts j (kept_list j h)) y.words

pub lowered : {n : ℕ} {iw pe e_len : List ℤ} {len : List ℕ} {free : ℕ} (free' : ℕ) → Layout n iw pe e_len len free → free' ≤ free →
    ((j : ℕ) → has_list pe len j ≡ true → end_of pe len j ≤ free') → Layout n iw pe e_len len free'
lowered free' y l ends = record { within = ends; apart = y.apart; parts = y.parts; words = λ k m. y.words k (omega (arith, m, l)) }

-- the free end goes back to the end of the last list
pub lowered_last : {n : ℕ} {iw pe e_len : List ℤ} {len : List ℕ} {free : ℕ} (i : ℕ) → Layout n iw pe e_len len free →
    end_of pe len i ≤ free → ((j : ℕ) → (j ≡ i → ⊥) → has_list pe len j ≡ true → end_of pe len j ≤ start pe i) →
    Layout n iw pe e_len len (end_of pe len i)
lowered_last {n} {iw} {pe} {e_len} {len} {free} i y l before = lowered (end_of pe len i) y l (λ j h. elim (cases_eq j i) [
  | inl q ↦ (let a = ap (start pe) q in let b = ap (num len) q in omega (arith, a, b))
  | inr ne ↦ (let a = before j ne h in omega (arith, a))
])

-- ---- one list edited in its place

module _ {n : ℕ} {iw pe e_len : List ℤ} {len : List ℕ} {free : ℕ} (i : ℕ) (y : Layout n iw pe e_len len free) (iw' : List ℤ)
    (len' : List ℕ) (shorter : num len' i ≤ num len i) (lengths : (j : ℕ) → (j ≡ i → ⊥) → num len' j ≡ num len j)
    (names : Names n iw' (start pe i) (num len' i)) (others : (k : ℕ) → (k < start pe i) ⊎ (start pe i + num len' i ≤ k) →
    word iw' k ≡ word iw k) where
  still_listed : (j : ℕ) → has_list pe len' j ≡ true → (has_list pe len j ≡ true) × (num len' j ≤ num len j)
  still_listed j h = let p = has_parts pe len' j h in elim (cases_eq j i) [
    | inl q ↦ (let a = ap (num len') q in let b = ap (num len) q in let l = p.1 in
        (has_from pe len j p.0 (omega (arith, a, b, l, shorter)), (omega (arith, a, b, shorter))))
    | inr ne ↦ (let a = lengths j ne in let l = p.1 in (has_from pe len j p.0 (omega (arith, a, l)), (omega (arith, a))))
  ]

  pub edited : (e_len' : List ℤ) → place (word e_len' i) ≤ num len' i → ((j : ℕ) → (j ≡ i → ⊥) → word e_len' j ≡ word e_len j) →
      Layout n iw' pe e_len' len' free
  edited e_len' few counts = relaid 0 y (omega arith) (λ j h. let p = still_listed j h in
      inr (p.0, (omega arith), (let a = p.1 in omega (arith, a))))
      (λ j h. elim (cases_eq j i) [
        | inl q ↦ rw q few
        | inr ne ↦ (let s = ap place (counts j ne) in let t = lengths j ne in let u = y.parts j (still_listed j h).0 in
            omega (arith, s, t, u))
      ])
      (λ k l. elim (cases_lt k (start pe i)) [
        | inl m ↦ subst (λ z. (is_place z ≡ true) × (place z < n)) (sym (others k (inl m))) (y.words k l)
        | inr m ↦ elim (cases_lt k (start pe i + num len' i)) [
          | inl b ↦ (let at : start pe i + (k - start pe i) ≡ k = omega (arith, m) in
              subst (λ p. (is_place (word iw' p) ≡ true) × (place (word iw' p) < n)) at (names (k - start pe i) (omega (arith, m, b))))
          | inr b ↦ subst (λ z. (is_place z ≡ true) × (place z < n)) (sym (others k (inr b))) (y.words k l)
        ]
      ])

  pub edited_fewer : live_words n pe len' ≤ live_words n pe len
  edited_fewer = live_part n pe pe len len' still_listed

  pub edited_reads : (e_len' : List ℤ) → ((j : ℕ) → (j ≡ i → ⊥) → word e_len' j ≡ word e_len j) → is_place (word pe i) ≡ true → (j : ℕ) →
      (j ≡ i → ⊥) → has_list pe len j ≡ true → ReadsSame iw pe e_len len iw' pe e_len' len' j
  edited_reads e_len' counts at j ne k = (
    counts j ne,
    lengths j ne,
    λ t l. others (start pe j + t) (elim (cases_eq (num len i) 0) [
      | inl z ↦ elim (cases_lt (start pe j + t) (start pe i)) [ inl m ↦ inl m | inr m ↦ inr (omega (arith, m, z, shorter)) ]
      | inr nz ↦ elim (y.apart i j (has_from pe len i at (omega (arith, nz))) k (λ q. ne (sym q)))
          [ inl m ↦ inr (omega (arith, m, shorter)) | inr m ↦ inl (omega (arith, m, l)) ]
    ]),
  )

-- ---- one class renewed

module _ {n me : ℕ} {kept is_apart : ℕ → Bool} {i free : ℕ} {p v : Workspace} (y : Layout n p.iw p.pe p.e_len p.len free)
    (mine : has_list p.pe p.len i ≡ true) (h : RenewsOne n me kept is_apart i p v) where
  pub one_shorter : (j : ℕ) → num v.len j ≤ num p.len j
  one_shorter j = elim (cases_eq j i) [
    | inl q ↦ (let a = h.list.shorter.1 in let b = ap (num v.len) q in let d = ap (num p.len) q in omega (arith, a, b, d))
    | inr ne ↦ (let a = h.lengths j ne in omega (arith, a))
  ]

  one_some : 0 < num v.len i
  one_some = let a = h.list.few_is in let b = h.list.shorter.0 in omega (arith, a, b)

  pub one_listed : (j : ℕ) → has_list p.pe v.len j ≡ has_list p.pe p.len j
  one_listed j = elim (cases_eq j i) [
    | inl q ↦ rw q (has_from p.pe v.len i (has_parts p.pe p.len i mine).0 one_some ∙ sym mine)
    | inr ne ↦ has_length p.pe p.len v.len j (h.lengths j ne)
  ]

  pub one_reads : (j : ℕ) → (j ≡ i → ⊥) → has_list p.pe p.len j ≡ true → ReadsSame p.iw p.pe p.e_len p.len v.iw p.pe v.e_len v.len j
  one_reads j ne k = (
    h.counts j ne,
    h.lengths j ne,
    λ t l. let s = h.list.shorter.1 in
        h.list.others (start p.pe j + t) (elim (y.apart i j mine k (λ q. ne (sym q)))
        [ inl m ↦ inr (omega (arith, m, s)) | inr m ↦ inl (omega (arith, m, l)) ]),
  )

  pub one_behind : (k : ℕ) → free ≤ k → word v.iw k ≡ word p.iw k
  one_behind k l = let a = y.within i mine in let s = h.list.shorter.1 in h.list.others k (inr (omega (arith, a, s, l)))

  one_words : (k : ℕ) → k < free → (is_place (word v.iw k) ≡ true) × (place (word v.iw k) < n)
  one_words k l = elim (cases_lt k (start p.pe i)) [
    | inl m ↦ old (inl m)
    | inr m ↦ elim (cases_lt k (start p.pe i + num v.len i)) [
      | inl b ↦ (let at : start p.pe i + (k - start p.pe i) ≡ k = omega (arith, m) in
          subst (λ q. (is_place (word v.iw q) ≡ true) × (place (word v.iw q) < n)) at
          (h.list.names (k - start p.pe i) (omega (arith, m, b))))
      | inr b ↦ old (inr b)
    ]
  ]
    where
      old : ((k < start p.pe i) ⊎ (start p.pe i + num v.len i ≤ k)) → (is_place (word v.iw k) ≡ true) × (place (word v.iw k) < n)
      old out = subst (λ z. (is_place z ≡ true) × (place z < n)) (sym (h.list.others k out)) (y.words k l)

  pub one_laid : Layout n v.iw p.pe v.e_len v.len free
  one_laid = relaid 0 y (omega arith) (λ j k. inr (
    sym (one_listed j)
        ∙ k,
    (omega arith),
    (let s = one_shorter j in omega (arith, s)),
  )) (λ j k. elim (cases_eq j i) [
    | inl q ↦ rw q (h.list.shorter.0)
    | inr ne ↦ (let a = ap place (h.counts j ne) in let b = h.lengths j ne in let d = y.parts j (sym (one_listed j) ∙ k) in
        omega (arith, a, b, d))
  ]) one_words
