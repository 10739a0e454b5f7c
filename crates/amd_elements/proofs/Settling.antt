-- A new element's list behind the others, and the elements that it absorbs.
use Rattle.amd_model.proofs.Counting.Below.{clash}
use Rattle.std.proofs.Common.{ℕ, ℤ, Bool, true, false, List, [], ◌∷◌, ◌++◌, zero, suc, ◌≡◌, ◌<◌, ◌≤◌, ◌+◌, ◌-◌, ◌||◌, inl, inr}
use Rattle.std.proofs.Common.{refl, sym, subst, ap, ◌∙◌, arith, cond, length, pos, set, length-set, get_or-set_same}
use Rattle.std.proofs.Common.{get_or-set_other}
use Rattle.std.specs.Prelude.{◌==◌}
use Rattle.std.proofs.lemmas.Bool.{true≢false, cases_Bool, cases_eq, cases_lt, eq-eqb, ne_eqb, eqb-true, cond-true, cond-false}
use Rattle.std.proofs.lemmas.Bool.{and_left, or_left, or_right, or_cases}
use Rattle.amd_model.specs.Quotient.{has}
use Rattle.amd_model.proofs.Quotient.Lists.{has_append}
use Rattle.amd_model.proofs.Quotient.Sums.{sum_over}
use Rattle.amd_words.specs.Words.{num, is_place, place, flip_of, word, start, rows, Names}
use Rattle.amd_elements.specs.Element.{IsListLaid, ListsLaid, Builds}
use Rattle.amd_lists.specs.Layout.{has_list, elements_in, list_in, Layout, live_words}
use Rattle.amd_elements.proofs.Made.{Makes}
use Rattle.amd_elements.specs.Pivots.{built_front, HasElements}
use Rattle.amd_elements.specs.Premises.{IsPivot}
use Rattle.amd_lists.specs.Workspaces.{Workspace}
use Rattle.amd_words.proofs.Signs.{place_of, is_place_of, mark_no_place, mark_none}
use Rattle.amd_words.proofs.RowLists.{rows_none, rows_more, rows_same, rows_length, rows_at}
use Rattle.amd_elements.proofs.RoundWords.{words_fall, front_words}
use Rattle.amd_lists.proofs.Frames.{has_parts, has_same, relaid}

-- ---- one value written where each of some words points

pub write_none : {A : Type 0} (iw : List ℤ) (from e : ℕ) (a b : A) → b ≡ cond (has (rows iw from 0) e) a b
unfolding has
write_none iw from e a b = sym (ap (λ xs. cond (has xs e) a b) (rows_none iw from))

pub write_next : {A : Type 0} (f f0 f' : ℕ → A) (a : A) (iw : List ℤ) (from k y : ℕ) → y ≡ place (word iw (from + k)) →
    ((x : ℕ) → f x ≡ cond (has (rows iw from k) x) a (f0 x)) →
    f' y ≡ a → ((x : ℕ) → (x ≡ y → ⊥) → f' x ≡ f x) → (x : ℕ) → f' x ≡ cond (has (rows iw from (k + 1)) x) a (f0 x)
unfolding has
write_next f f0 f' a iw from k y is before here there x =
    let grown : has (rows iw from (k + 1)) x ≡ (has (rows iw from k) x || (y == x || false)) =
    ap (λ l. has l x) (rows_more iw from k ∙ ap (λ z. rows iw from k ++ z ∷ []) (sym is)) ∙ has_append (rows iw from k) (y ∷ []) x in
    elim (cases_eq x y) [
      | inl q ↦ (let t : has (rows iw from (k + 1)) x ≡ true = grown
          ∙ or_right (has (rows iw from k) x) (y == x || false) (or_left (y == x) false (eq-eqb y x (sym q))) in
          ap f' q ∙ here ∙ sym (cond-true _ a (f0 x) t))
      | inr ne ↦ there x ne ∙ before x ∙ ap (λ b. cond b a (f0 x)) (sym (grown
          ∙ ap (λ b. has (rows iw from k) x || (b || false)) (ne_eqb y x (λ q. ne (sym q))) ∙ or_none (has (rows iw from k) x)))
    ]
  where
    or_none : (b : Bool) → (b || (false || false)) ≡ b
    or_none true = refl
    or_none false = refl

-- ---- what some words name

pub names_below : (n : ℕ) (iw : List ℤ) (from count x : ℕ) → Names n iw from count → has (rows iw from count) x ≡ true → x < n
unfolding has rows
names_below n iw from zero x names h = absurd (true≢false (sym h))
names_below n iw from (suc count) x names h = elim (or_cases (has (rows iw from count) x) (place (word iw (from + count)) == x || false)
    (sym (has_append (rows iw from count) (place (word iw (from + count)) ∷ []) x) ∙ h)) [
      | inl a ↦ names_below n iw from count x (λ k l. names k (omega (arith, l))) a
      | inr a ↦ elim (or_cases (place (word iw (from + count)) == x) false a) [
        | inl b ↦ (let e = eqb-true (place (word iw (from + count))) x b in let s = (names count (omega arith)).1 in omega (arith, e, s))
        | inr b ↦ absurd (true≢false (sym b))
      ]
    ]

-- ---- the lists that a build reads

module _ {n : ℕ} {iw pe e_len : List ℤ} {len : List ℕ} {free : ℕ} (y : Layout n iw pe e_len len free) where
  pub list_laid : (j : ℕ) → has_list pe len j ≡ true → IsListLaid iw pe len n free j
  list_laid j h = ((has_parts pe len j h).0, y.within j h, λ k l. y.words (start pe j + k) (let a = y.within j h in omega (arith, a, l)))

  module _ (me : ℕ) (own : has_list pe len me ≡ true) (elements : (e : ℕ) → has (elements_in iw pe e_len me) e ≡ true →
      has_list pe len e ≡ true) where
    pub lists_laid : ListsLaid iw pe len n free me (place (word e_len me))
    lists_laid = (list_laid me own, λ e h. list_laid e (elements e h))

    -- the words of the pivot after the build
    module _ {nv : List ℤ} {front : List ℕ} {iw' nv' : List ℤ} {end total : ℕ} (b : Builds me front iw nv free iw' nv' end total) where
      pub own_same : rows iw' (start pe me) (place (word e_len me)) ≡ elements_in iw pe e_len me
      own_same = rows_same iw iw' (start pe me) (start pe me) (place (word e_len me)) (λ k l.
          b.below (start pe me + k) (let a = y.within me own in let c = y.parts me own in omega (arith, a, c, l)))

      pub own_read : {from count : ℕ} → from ≡ start pe me → count ≡ place (word e_len me) → rows iw' from count ≡ elements_in iw pe e_len
          me
      own_read f c = rows_at iw' f c ∙ own_same

      pub own_names : Names n iw' (start pe me) (place (word e_len me))
      own_names k l = let a = y.within me own in let c = y.parts me own in let before : start pe me + k < free = omega (arith, a, c, l) in
          subst (λ z. (is_place z ≡ true) × (place z < n)) (sym (b.below (start pe me + k) before)) (y.words (start pe me + k) before)

-- ---- the whole

pub start_set : (pe : List ℤ) (me free : ℕ) → me < length pe → start (set pe me (pos free)) me ≡ free
start_set pe me free l = ap place (get_or-set_same pe me (pos free) (pos 0) l) ∙ place_of free

has_not : (pe : List ℤ) (len : List ℕ) (j : ℕ) → is_place (word pe j) ≡ false → has_list pe len j ≡ false
unfolding has_list
has_not pe len j h = and_left _ _ h

module _ (p v : Workspace) {me : ℕ} {nv1 : List ℤ} {total : ℕ} (pe1 : List ℤ) (pivot : IsPivot me p) (elements : HasElements me p)
    (b : Builds me (built_front p me) p.iw p.nv p.free v.iw nv1 v.free total) (long : length pe1 ≡ length p.pe)
    (starts : (e : ℕ) → word pe1 e ≡ cond (has (elements_in p.iw p.pe p.e_len me) e) (flip_of me) (word p.pe e))
    (pe_is : v.pe ≡ set pe1 me (pos p.free)) (e_len_is : v.e_len ≡ set p.e_len me (flip_of total))
    (len_is : v.len ≡ set p.len me (v.free - p.free)) where
  abbrev es : List ℕ
  es = elements_in p.iw p.pe p.e_len me

  small_p : me < length pe1
  small_p = let a = pivot.row.0 in let l = pivot.lengths.0 in omega (arith, a, l, long)

  small_e : me < length p.e_len
  small_e = let a = pivot.row.0 in let l = pivot.lengths.1 in omega (arith, a, l)

  small_l : me < length p.len
  small_l = let a = pivot.row.0 in let l = pivot.lengths.2 in omega (arith, a, l)

  pub pe_me : word v.pe me ≡ pos p.free
  pe_me = ap (λ q. word q me) pe_is ∙ get_or-set_same pe1 me (pos p.free) (pos 0) small_p

  pub start_me : start v.pe me ≡ p.free
  start_me = ap place pe_me ∙ place_of p.free

  e_len_me : word v.e_len me ≡ flip_of total
  e_len_me = ap (λ q. word q me) e_len_is ∙ get_or-set_same p.e_len me (flip_of total) (pos 0) small_e

  len_me : num v.len me ≡ v.free - p.free
  len_me = ap (λ q. num q me) len_is ∙ get_or-set_same p.len me (v.free - p.free) 0 small_l

  pe_taken : (e : ℕ) → has es e ≡ true → word v.pe e ≡ flip_of me
  pe_taken e h = ap (λ q. word q e) pe_is
      ∙ get_or-set_other pe1 me e (pos p.free) (pos 0) (λ q. clash {P = ⊥} h (ap (has es) q ∙ elements.apart))
      ∙ starts e
      ∙ cond-true _ (flip_of me) (word p.pe e) h

  pe_else : (j : ℕ) → has es j ≡ false → (j ≡ me → ⊥) → word v.pe j ≡ word p.pe j
  pe_else j h ne = ap (λ q. word q j) pe_is ∙ get_or-set_other pe1 me j (pos p.free) (pos 0) ne ∙ starts j
      ∙ cond-false _ (flip_of me) (word p.pe j) h

  e_len_else : (j : ℕ) → (j ≡ me → ⊥) → word v.e_len j ≡ word p.e_len j
  e_len_else j ne = ap (λ q. word q j) e_len_is ∙ get_or-set_other p.e_len me j (flip_of total) (pos 0) ne

  len_else : (j : ℕ) → (j ≡ me → ⊥) → num v.len j ≡ num p.len j
  len_else j ne = ap (λ q. num q j) len_is ∙ get_or-set_other p.len me j (v.free - p.free) 0 ne

  ended_now : (e : ℕ) → has es e ≡ true → has_list v.pe v.len e ≡ false
  ended_now e h = has_not v.pe v.len e (ap is_place (pe_taken e h) ∙ mark_no_place me)

  listed_now : (j : ℕ) → has es j ≡ false → (j ≡ me → ⊥) → has_list v.pe v.len j ≡ has_list p.pe p.len j
  listed_now j h ne = has_same p.pe v.pe p.len v.len j (pe_else j h ne) (len_else j ne)

  laid_now : Layout (length p.nv) v.iw v.pe v.e_len v.len v.free
  laid_now = relaid me pivot.laid b.grows
      (λ j h. elim (cases_eq j me) [
        | inl q ↦ inl (
          q,
          (let s = ap (start v.pe) q in let t = start_me in omega (arith, s, t)),
          (let s = ap (start v.pe) q in
              let t = start_me in let u = ap (num v.len) q in let lm = len_me in let g = b.grows in omega (arith, s, t, u, lm, g)),
        )
        | inr ne ↦ elim (cases_Bool (has es j)) [
          | inl k ↦ clash h (ended_now j k)
          | inr k ↦ inr (
            sym (listed_now j k ne) ∙ h,
            (let s = ap place (pe_else j k ne) in
                omega (arith, s)),
            (let s = ap place (pe_else j k ne) in let t = len_else j ne in omega (arith, s, t)),
          )
        ]
      ])
      (λ j h. elim (cases_eq j me) [
        | inl q ↦ (let s : place (word v.e_len j) ≡ 0 = ap (λ m. place (word v.e_len m)) q ∙ ap place e_len_me ∙ mark_none total in
            omega (arith, s))
        | inr ne ↦ elim (cases_Bool (has es j)) [
          | inl k ↦ clash h (ended_now j k)
          | inr k ↦ (let s = ap place (e_len_else j ne) in let t = len_else j ne in
              let u = pivot.laid.parts j (sym (listed_now j k ne) ∙ h) in omega (arith, s, t, u))
        ]
      ])
      (λ k l. elim (cases_lt k p.free) [
        | inl m ↦ subst (λ z. (is_place z ≡ true) × (place z < length p.nv)) (sym (b.below k m)) (pivot.laid.words k m)
        | inr m ↦ (let at : p.free + (k - p.free) ≡ k = omega (arith, m) in let a = b.names (k - p.free) (omega (arith, l, m)) in
            subst (λ q. (is_place (word v.iw q) ≡ true) × (place (word v.iw q) < length p.nv)) at a)
      ])

  list_now : list_in v.iw v.pe v.len me ≡ built_front p me
  list_now = ap (λ s. rows v.iw s (num v.len me)) start_me ∙ ap (rows v.iw p.free) len_me ∙ b.list

  fewer_now : live_words (length p.nv) v.pe v.len ≤ live_words (length p.nv) p.pe p.len
  fewer_now = words_fall (length p.nv) me before after gone pivot.row.0 (λ j l ne. elim (cases_Bool (has es j)) [
    | inl k ↦ (let s : after j ≡ 0 = cond-false _ (num v.len j) 0 (ended_now j k) in
        let t : gone j ≡ num p.len j = cond-true _ (num p.len j) 0 k in let u : before j ≡ num p.len j =
        cond-true _ (num p.len j) 0 (elements.listed j k) in omega (arith, s, t, u))
    | inr k ↦ (let s : after j ≡ before j = ap (λ c. cond c (num v.len j) 0) (listed_now j k ne)
        ∙ ap (λ m. cond (has_list p.pe p.len j) m 0) (len_else j ne) in let t : gone j ≡ 0 = cond-false _ (num p.len j) 0 k in
        omega (arith, s, t))
  ]) (cond-false _ (num p.len me) 0 elements.apart) (
      let s : before me ≡ num p.len me = cond-true _ (num p.len me) 0 pivot.listed in
      let t : after me ≤ num v.len me = elim (cases_Bool (has_list v.pe v.len me)) [
        | inl k ↦ (let e = cond-true _ (num v.len me) 0 k in
            omega (arith, e))
        | inr k ↦ (let e = cond-false _ (num v.len me) 0 k in omega (arith, e))
      ] in
      let u = len_me in let lb = ap length b.list in let lb' = rows_length v.iw p.free (v.free - p.free) in let x =
      front_words p.iw p.nv p.pe p.len me (place (word p.e_len me)) in
      let z = sum_over (length p.nv) (num p.len) es elements.once
      (λ e h. names_below (length p.nv) p.iw (start p.pe me) (place (word p.e_len me)) e (λ k l. pivot.laid.words (start p.pe me + k)
      (let a = pivot.laid.within me pivot.listed in let c = pivot.laid.parts me pivot.listed in omega (arith, a, c, l))) h) in
      omega (arith, s, t, u, lb, lb', x, z))
    where
      before : ℕ → ℕ
      before j = cond (has_list p.pe p.len j) (num p.len j) 0

      after : ℕ → ℕ
      after j = cond (has_list v.pe v.len j) (num v.len j) 0

      gone : ℕ → ℕ
      gone j = cond (has es j) (num p.len j) 0

  pub makes : Makes (length p.nv) me es (built_front p me) total p v
  makes = record {
    p_long = ap length pe_is ∙ length-set pe1 me (pos p.free) ∙ long;
    e_long = ap length e_len_is ∙ length-set p.e_len me (flip_of total);
    l_long = ap length len_is ∙ length-set p.len me (v.free - p.free);
    starts = ap is_place pe_me ∙ is_place_of p.free;
    list = list_now;
    rows_is = e_len_me;
    parents = pe_taken;
    places = pe_else;
    counts = e_len_else;
    lengths = len_else;
    ended = ended_now;
    listed = listed_now;
    same = λ j h ne k. (
      e_len_else j ne,
      len_else j ne,
      λ t l. let s = ap place (pe_else j h ne) in let at : start v.pe j + t ≡ start p.pe j + t = omega (arith, s) in
          ap (word v.iw) at ∙ b.below (start p.pe j + t) (let a = pivot.laid.within j k in omega (arith, a, l)),
    );
    before = λ j ne h. elim (cases_Bool (has es j)) [
      | inl k ↦ clash h (ended_now j k)
      | inr k ↦ (let a = pivot.laid.within j (sym (listed_now j k ne) ∙ h) in let s = ap place (pe_else j k ne) in let t = len_else j ne in
          omega (arith, a, s, t))
    ];
    fewer = fewer_now;
    laid = laid_now;
  }
