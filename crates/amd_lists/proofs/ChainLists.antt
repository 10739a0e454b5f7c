-- Linked lists: a row is taken out, a row is put at the head.
use Rattle.amd_model.proofs.Counting.Below.{clash}
use Rattle.std.proofs.Common.{ℕ, true, false, List, [], ◌∷◌, ◌++◌, ◌≡◌, ◌<◌, ◌≤◌, ◌||◌, not, cond, inl, inr, refl, sym, subst, ap, ◌∙◌}
use Rattle.std.proofs.Common.{arith}
use Rattle.std.specs.Prelude.{◌==◌}
use Rattle.std.proofs.lemmas.Bool.{cases_Bool, cases_eq, eq-eqb, ne_eqb, cond-true, cond-false, or_left, or_right, or_parts}
use Rattle.std.proofs.lemmas.Bool.{not_from_true, not_from_false}
use Rattle.amd_model.specs.Quotient.{has, Once}
use Rattle.amd_model.proofs.Quotient.Lists.{has_append, filter_yes, filter_no, once_filter}
use Rattle.amd_model.proofs.Listings.Words.{has_none, has_head, has_tail, has_cases, has_filter as filter_gives}
use Rattle.amd_words.specs.Words.{num}
use Rattle.amd_round_laws.proofs.Lists.Named.{filter_all}
use Rattle.amd_lists.specs.Chains.{Chain, Back, DegreeLists, without, Unlinks, Relinks, Chooses}

has_is : (y i : ℕ) (ys : List ℕ) → has (i ∷ ys) y ≡ false → (i == y || has ys y) ≡ false
unfolding has
has_is y i ys h = h

-- what a list does not name is none of its rows
apart : (xs : List ℕ) (x y : ℕ) → has xs x ≡ true → has xs y ≡ false → x ≡ y → ⊥
apart xs x y h k q = clash {P = ⊥} h (ap (has xs) q ∙ k)

-- links that are the same at the rows of a list
pub chain_same : (n : ℕ) (next next' : List ℕ) (x : ℕ) (xs : List ℕ) → ((y : ℕ) → has xs y ≡ true → num next' y ≡ num next y) →
    Chain n next x xs → Chain n next' x xs
chain_same n next next' x [] same c = c
chain_same n next next' x (y ∷ ys) same c = (
  c.0,
  c.1,
  subst (λ z.
      Chain n next' z ys) (sym (same y (has_head y y ys refl)))
      (chain_same n next next' (num next y) ys (λ z h. same z (has_tail z y ys h)) c.2),
)

pub back_same : (last last' : List ℕ) (p : ℕ) (xs : List ℕ) → ((y : ℕ) → has xs y ≡ true → num last' y ≡ num last y) → Back last p xs →
    Back last' p xs
back_same last last' p [] same b = b
back_same last last' p (y ∷ ys) same b = (
  same y (has_head y y ys refl)
      ∙ b.0,
  back_same last last' y ys (λ z h. same z (has_tail z y ys h)) b.1,
)

-- the rows of a chain are rows
chain_small : (n : ℕ) (next : List ℕ) (x : ℕ) (xs : List ℕ) → Chain n next x xs → (y : ℕ) → has xs y ≡ true → y < n
chain_small n next x [] c y h = absurd (has_none y h)
chain_small n next x (z ∷ zs) c y h = elim (has_cases y z zs h) [
  | inl q ↦ (let s = c.1 in
      omega (arith, q, s))
  | inr q ↦ chain_small n next (num next z) zs c.2 y q
]

-- the links behind a row
chain_behind : (n : ℕ) (next : List ℕ) (x i : ℕ) (xs ys : List ℕ) → Chain n next x (xs ++ i ∷ ys) → Chain n next (num next i) ys
chain_behind n next x i [] ys c = c.2
chain_behind n next x i (y ∷ xs) ys c = chain_behind n next (num next y) i xs ys c.2

-- a list with a row, in two parts
parted : (xs : List ℕ) (i : ℕ) → has xs i ≡ true → (before : List ℕ) × (behind : List ℕ) × (xs ≡ before ++ i ∷ behind)
parted [] i h = absurd (has_none i h)
parted (x ∷ xs) i h = elim (has_cases i x xs h) [
  | inl q ↦ ([], xs, ap (λ y. y ∷ xs) (sym q))
  | inr q ↦ (let p = parted xs i q in (x ∷ p.0, p.1, ap (λ l. x ∷ l) p.2))
]

-- a list without a row that it does not name
without_none : (i : ℕ) (xs : List ℕ) → has xs i ≡ false → without i xs ≡ xs
without_none i xs h = filter_all (λ j. not (j == i)) xs (λ x k. not_from_false (x == i) (ne_eqb x i (apart xs x i k h)))

-- and without one that it names once
without_one : (i : ℕ) (xs ys : List ℕ) → Once (xs ++ i ∷ ys) → without i (xs ++ i ∷ ys) ≡ xs ++ ys
without_one i [] ys o = filter_no (λ j. not (j == i)) i ys (not_from_true (i == i) (eq-eqb i i refl)) ∙ without_none i ys o.0
without_one i (x ∷ xs) ys o = let named : has (xs ++ i ∷ ys) i ≡ true = has_append xs (i ∷ ys) i
    ∙ or_right (has xs i) (has (i ∷ ys) i) (has_head i i ys refl) in
    filter_yes (λ j. not (j == i)) x (xs ++ i ∷ ys) (not_from_false (x == i)
    (ne_eqb x i (λ q. apart (xs ++ i ∷ ys) i x named o.0 (sym q)))) ∙ ap (λ l. x ∷ l) (without_one i xs ys o.1)

-- ---- a row is taken out

module _ (n i d : ℕ) (head next last head' next' last' : List ℕ) (u : Unlinks n i d head next last head' next' last') where
  -- with a row before it
  cut_chain : (x p y : ℕ) (xs ys : List ℕ) → Chain n next x (y ∷ (xs ++ i ∷ ys)) → Back last p (y ∷ (xs ++ i ∷ ys)) →
      Once (y ∷ (xs ++ i ∷ ys)) →
      (has (y ∷ xs) (num last i) ≡ true) × (num last i < n) × Chain n next' x (y ∷ (xs ++ ys))
  cut_chain x p y [] ys c b o =
      let before : num last i ≡ y = b.1.0 in let small : num last i < n = (let s = c.1 in omega (arith, s, before)) in
      let no_i : has ys y ≡ false = (or_parts (i == y) (has ys y) (has_is y i ys o.0)).1 in (
        has_head (num last i) y [] before,
        small,
        (
          c.0,
          c.1,
          subst (λ z. Chain n next' z ys) (sym (ap (num next') (sym before) ∙ u.next_is small))
              (chain_same n next next' (num next i) ys (λ z h. u.nexts z (λ q. apart ys z y h no_i (q ∙ before))) c.2.2),
        ),
      )
  cut_chain x p y (z ∷ zs) ys c b o =
      let r = cut_chain (num next y) y z zs ys c.2 b.1 o.1 in
      let named : has (z ∷ (zs ++ i ∷ ys)) (num last i) ≡ true = has_append (z ∷ zs) (i ∷ ys) (num last i)
      ∙ or_left (has (z ∷ zs) (num last i)) (has (i ∷ ys) (num last i)) r.0 in
      let same : num next' y ≡ num next y = u.nexts y (λ q. apart (z ∷ (zs ++ i ∷ ys)) (num last i) y named o.0 (sym q)) in
      (has_tail (num last i) y (z ∷ zs) r.0, r.1, (c.0, c.1, subst (λ w. Chain n next' w (z ∷ (zs ++ ys))) (sym same) r.2))

  -- the links back
  cut_back : (x p : ℕ) (xs ys : List ℕ) → Chain n next x (xs ++ i ∷ ys) → Back last p (xs ++ i ∷ ys) → Once (xs ++ i ∷ ys) →
      Back last' p (xs ++ ys)
  cut_back x p [] [] c b o = tt
  cut_back x p [] (z ∷ zs) c b o = (
    ap (num last') (sym c.2.0) ∙ u.last_is (let s = c.2.1 in let e = c.2.0 in omega (arith, s, e)) ∙ b.0,
    back_same last last' z zs (λ y h. u.lasts y (λ q. apart zs y z h o.1.0 (q ∙ c.2.0))) b.1.1,
  )
  cut_back x p (y ∷ xs) ys c b o = (
    u.lasts y (other ys (chain_behind n next (num next y) i xs ys c.2) o.0)
        ∙ b.0,
    cut_back (num next y) y xs ys c.2 b.1 o.1,
  )
    where
      other : (zs : List ℕ) → Chain n next (num next i) zs → has (xs ++ i ∷ zs) y ≡ false → y ≡ num next i → ⊥
      other [] k h q = (let s = c.1 in omega (arith, s, k, q))
      other (z ∷ zs) k h q = apart (xs ++ i ∷ (z ∷ zs)) z y (has_append xs (i ∷ (z ∷ zs)) z
          ∙ or_right (has xs z) (has (i ∷ (z ∷ zs)) z) (has_tail z i (z ∷ zs) (has_head z z zs refl))) h (sym (q ∙ k.0))

  -- the list that it stood in
  cut_list : (xs ys : List ℕ) → Chain n next (num head d) (xs ++ i ∷ ys) → Back last n (xs ++ i ∷ ys) → Once (xs ++ i ∷ ys) →
      Chain n next' (num head' d) (xs ++ ys) × ((num last i < n) → has (xs ++ i ∷ ys) (num last i) ≡ true)
  cut_list [] ys c b o =
      let none : n ≤ num last i = (let e = b.0 in omega (arith, e)) in (
        subst (λ w. Chain n next' w ys) (sym (u.head_is none))
            (chain_same n next next' (num next i) ys (λ z h. u.nexts z (λ q. (let s = chain_small n next (num next i) ys c.2 z h in
            omega (arith, s, q, none)))) c.2),
        λ l. absurd (omega (arith, l, none)),
      )
  cut_list (y ∷ xs) ys c b o = let r = cut_chain (num head d) n y xs ys c b o in (
    subst (λ w. Chain n next' w (y ∷ (xs ++ ys))) (sym (u.head_stays r.1)) r.2,
    λ l. has_append (y ∷ xs) (i ∷ ys) (num last i)
        ∙ or_left (has (y ∷ xs) (num last i)) (has (i ∷ ys) (num last i)) r.0,
  )

  -- what stands behind it
  behind_named : (xs ys : List ℕ) → Chain n next (num head d) (xs ++ i ∷ ys) → num next i < n → has (xs ++ i ∷ ys) (num next i) ≡ true
  behind_named xs ys c l = first ys (chain_behind n next (num head d) i xs ys c)
    where
      first : (zs : List ℕ) → Chain n next (num next i) zs → has (xs ++ i ∷ zs) (num next i) ≡ true
      first [] k = absurd (omega (arith, k, l))
      first (z ∷ zs) k = has_append xs (i ∷ (z ∷ zs)) (num next i)
          ∙ or_right (has xs (num next i)) (has (i ∷ (z ∷ zs)) (num next i))
          (has_tail (num next i) i (z ∷ zs) (has_head (num next i) z zs k.0))

  pub taken_out : (degree : List ℕ) (lists : ℕ → List ℕ) → d ≡ num degree i → d < n → has (lists d) i ≡ true →
      DegreeLists n head next last degree lists → DegreeLists n head' next' last' degree (λ b. without i (lists b))
  taken_out degree lists own small named h =
      let p = parted (lists d) i named in let xs : List ℕ = p.0 in let ys : List ℕ = p.1 in let is : lists d ≡ xs ++ i ∷ ys = p.2 in
      let chain : Chain n next (num head d) (xs ++ i ∷ ys) = subst (Chain n next (num head d)) is (h.chains d small) in
      let back : Back last n (xs ++ i ∷ ys) = subst (Back last n) is (h.backs d small) in let once : Once (xs ++ i ∷ ys) =
      subst Once is (h.once d small) in
      let cut = cut_list xs ys chain back once in let left : without i (lists d) ≡ xs ++ ys = ap (without i) is
      ∙ without_one i xs ys once in
      let elsewhere : (b : ℕ) → b < n → (b ≡ d → ⊥) → (y : ℕ) → has (lists b) y ≡ true → (x : ℕ) → has (xs ++ i ∷ ys) x ≡ true → y ≡ x → ⊥
      = λ b l ne y k x m q. ne (sym (h.bounds b y l k) ∙ ap (num degree) q ∙ h.bounds d x small (ap (λ zs. has zs x) is ∙ m)) in
      let no_i : (b : ℕ) → b < n → (b ≡ d → ⊥) → has (lists b) i ≡ false
      = λ b l ne. elim (cases_Bool (has (lists b) i)) [ inl k ↦ absurd (ne (sym (h.bounds b i l k) ∙ sym own)) | inr k ↦ k ] in
      record {
        chains = λ b l. elim (cases_eq b d) [
          | inl q ↦ subst (λ z. Chain n next' (num head' z) (without i (lists z))) (sym q)
              (subst (Chain n next' (num head' d)) (sym left) cut.0)
          | inr ne ↦ subst (Chain n next' (num head' b)) (sym (without_none i (lists b) (no_i b l ne)))
              (subst (λ w. Chain n next' w (lists b)) (sym (u.heads b ne))
              (chain_same n next next' (num head b) (lists b) (λ y k.
              u.nexts y (λ q. elsewhere b l ne y k (num last i)
              (cut.1 (let s = chain_small n next (num head b) (lists b) (h.chains b l) y k in omega (arith, s, q))) q))
              (h.chains b l)))
        ];
        backs = λ b l. elim (cases_eq b d) [
          | inl q ↦ subst (λ z. Back last' n (without i (lists z))) (sym q)
              (subst (Back last' n) (sym left) (cut_back (num head d) n xs ys chain back once))
          | inr ne ↦ subst (Back last' n) (sym (without_none i (lists b) (no_i b l ne)))
              (back_same last last' n (lists b) (λ y k. u.lasts y (λ q.
              elsewhere b l ne y k (num next i) (behind_named xs ys chain
              (let s = chain_small n next (num head b) (lists b) (h.chains b l) y k in omega (arith, s, q))) q)) (h.backs b l))
        ];
        bounds = λ b x l k. h.bounds b x l (filter_gives (λ j. not (j == i)) (lists b) x k).0;
        once = λ b l. once_filter (λ j. not (j == i)) (lists b) (h.once b l);
      }

-- ---- a row is put at the head

module _ (n i d : ℕ) (head next last head' next' last' : List ℕ) (u : Relinks n i d head next last head' next' last') where
  pub put_on : (degree degree' : List ℕ) (lists : ℕ → List ℕ) → i < n → d < n → ((b : ℕ) → b < n → has (lists b) i ≡ false) →
      num degree' i ≡ d → ((x : ℕ) → (x ≡ i → ⊥) → num degree' x ≡ num degree x) →
      DegreeLists n head next last degree lists → DegreeLists n head' next' last' degree' (λ b. cond (b == d) (i ∷ lists b) (lists b))
  put_on degree degree' lists row small none degree_is degrees h =
      let yes : (b : ℕ) → b ≡ d → cond (b == d) (i ∷ lists b) (lists b) ≡ i ∷ lists b =
      λ b q. cond-true (b == d) (i ∷ lists b) (lists b) (eq-eqb b d q) in
      let no_d : (b : ℕ) → (b ≡ d → ⊥) → cond (b == d) (i ∷ lists b) (lists b) ≡ lists b =
      λ b ne. cond-false (b == d) (i ∷ lists b) (lists b) (ne_eqb b d ne) in
      let other : (b : ℕ) → b < n → (y : ℕ) → has (lists b) y ≡ true → y ≡ i → ⊥ = λ b l y k. apart (lists b) y i k (none b l) in
      let links : (b : ℕ) → b < n → Chain n next' (num head b) (lists b) =
      λ b l. chain_same n next next' (num head b) (lists b) (λ y k. u.nexts y (other b l y k)) (h.chains b l) in
      record {
        chains = λ b l. elim (cases_eq b d) [
          | inl q ↦ subst (Chain n next' (num head' b)) (sym (yes b q)) (
            ap (num head') q
                ∙ u.head_is,
            row,
            subst (λ x. Chain n next' x (lists b)) (ap (num head) q ∙ sym u.next_is) (links b l),
          )
          | inr ne ↦ subst (Chain n next' (num head' b)) (sym (no_d b ne))
              (subst (λ x. Chain n next' x (lists b)) (sym (u.heads b ne)) (links b l))
        ];
        backs = λ b l. elim (cases_eq b d) [
          | inl q ↦ subst (Back last' n) (sym (yes b q)) (
            u.last_is,
            first_back (lists b) (subst (λ z. Chain n next (num head z) (lists b)) q (h.chains b l)) (h.backs b l) (h.once b l)
                (other b l),
          )
          | inr ne ↦ subst (Back last' n) (sym (no_d b ne)) (back_same last last' n (lists b) (λ y k. u.lasts y (other b l y k)
              (λ q. (let s = chain_small n next (num head b) (lists b) (h.chains b l) y k in
              ne (sym (h.bounds b y l k) ∙ ap (num degree) q ∙ h.bounds d (num head d) small
              (head_named (lists d) (h.chains d small) (omega (arith, s, q))))))) (h.backs b l))
        ];
        bounds = λ b x l k. elim (cases_eq b d) [
          | inl q ↦ elim (has_cases x i (lists b) (sym (ap (λ xs. has xs x) (yes b q)) ∙ k)) [
            | inl e ↦ ap (num degree') e ∙ degree_is ∙ sym q
            | inr m ↦ degrees x (other b l x m) ∙ h.bounds b x l m
          ]
          | inr ne ↦ (let m = sym (ap (λ xs. has xs x) (no_d b ne)) ∙ k in degrees x (other b l x m) ∙ h.bounds b x l m)
        ];
        once = λ b l. elim (cases_eq b d) [
          | inl q ↦ subst Once (sym (yes b q)) (none b l, h.once b l)
          | inr ne ↦ subst Once (sym (no_d b ne)) (h.once b l)
        ];
      }
    where
      head_named : (xs : List ℕ) → Chain n next (num head d) xs → num head d < n → has xs (num head d) ≡ true
      head_named [] c l = absurd (omega (arith, c, l))
      head_named (z ∷ zs) c l = has_head (num head d) z zs (c.0)

      first_back : (xs : List ℕ) → Chain n next (num head d) xs → Back last n xs → Once xs → ((y : ℕ) → has xs y ≡ true → y ≡ i → ⊥) →
          Back last' i xs
      first_back [] c b o ne = tt
      first_back (z ∷ zs) c b o ne = (
        ap (num last') (sym c.0) ∙ u.last_after (let s = c.1 in let e = c.0 in
            omega (arith, s, e)) (λ q. ne z (has_head z z zs refl) (sym c.0 ∙ q)),
        back_same last last' z zs (λ y k. u.lasts y (ne y (has_tail y z zs k)) (λ q. apart zs y z k o.0 (q ∙ c.0))) b.1,
      )

-- ---- the first row of the least bound is chosen

module _ (n : ℕ) (head next last degree : List ℕ) (lists : ℕ → List ℕ) (h : DegreeLists n head next last degree lists) where
  -- a head that is no row has no list behind it
  none_chained : (x : ℕ) (xs : List ℕ) → Chain n next x xs → n ≤ x → xs ≡ []
  none_chained x [] c l = refl
  none_chained x (y ∷ ys) c l = let a = c.0 in let b = c.1 in absurd (omega (arith, a, b, l))

  first_chained : (x : ℕ) (xs : List ℕ) → Chain n next x xs → x < n → (rest : List ℕ) × (xs ≡ x ∷ rest)
  first_chained x [] c l = absurd (omega (arith, c, l))
  first_chained x (y ∷ ys) c l = (ys, ap (λ z. z ∷ ys) (sym c.0))

  pub chooses : (least bound : ℕ) → least ≤ bound → bound < n → num head bound < n →
      ((b : ℕ) → least ≤ b → b < bound → n ≤ num head b) → Chooses n least lists (num head bound) bound
  chooses least bound from inside found below = record {
    from = from;
    inside = inside;
    row = found;
    first = first_chained (num head bound) (lists bound) (h.chains bound inside) found;
    below = λ b low l. none_chained (num head b) (lists b) (h.chains b (omega (arith, l, inside))) (below b low l);
  }

  pub chosen_named : (bound : ℕ) → bound < n → num head bound < n →
      (has (lists bound) (num head bound) ≡ true) × (bound ≡ num degree (num head bound))
  chosen_named bound inside found = let f = first_chained (num head bound) (lists bound) (h.chains bound inside) found in
      let named : has (lists bound) (num head bound) ≡ true = ap (λ xs. has xs (num head bound)) f.1
      ∙ has_head (num head bound) (num head bound) f.0 refl in
      (named, sym (h.bounds bound (num head bound) inside named))

-- lists that are equal below n are the same lists by bound
pub lists_same : (n : ℕ) (head next last degree : List ℕ) (lists lists' : ℕ → List ℕ) → ((d : ℕ) → d < n → lists d ≡ lists' d) →
    DegreeLists n head next last degree lists → DegreeLists n head next last degree lists'
lists_same n head next last degree lists lists' e h = record {
  chains = λ d l. subst (Chain n next (num head d)) (e d l) (h.chains d l);
  backs = λ d l. subst (Back last n) (e d l) (h.backs d l);
  bounds = λ d x l k. h.bounds d x l (ap (λ xs. has xs x) (e d l) ∙ k);
  once = λ d l. subst Once (e d l) (h.once d l);
}
