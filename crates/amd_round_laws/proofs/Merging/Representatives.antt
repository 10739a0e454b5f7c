-- The representative of each class of a list, the last one alike, and the groups in which it is found from the last to the first.
use Rattle.std.proofs.Common.{ℕ, zero, suc, Bool, true, false, ◌≡◌, ◌≢◌, ◌<◌, ◌+◌, ◌&&◌, ◌||◌, cond, inl, inr, refl, sym, ◌∙◌, ap, subst}
use Rattle.std.proofs.Common.{arith, List, [], ◌∷◌, ◌++◌, take, drop, length, get_or, add-one}
use Rattle.std.specs.Prelude.{◌==◌, fold}
use Rattle.std.proofs.Math.Bool.{or-false}
use Rattle.std.proofs.lemmas.Bool.{cases_Bool, false≢true, and_parts, and_from, and_left, and_right, or_left, or_right, eqb-true, eq-eqb}
use Rattle.std.proofs.lemmas.Bool.{ne_eqb, cases_eq, cond-true, cond-false}
use Rattle.std.proofs.lemmas.List.{drop_more, take-append-drop, drop_all}
use Rattle.std.proofs.lemmas.List.Sums.{fold-append}
use Rattle.std.specs.Cmp.{both_ways}
use Rattle.amd_model.specs.Quotient.{has, each, Once, last_that}
use Rattle.amd_model.proofs.Quotient.Lists.{has_append, each_gives, each_from, last_passes, last_named, last_same'}
use Rattle.amd_model.proofs.Listings.Words.{has_head, has_tail}
use Rattle.amd_model.proofs.Counting.Below.{clash}
use Rattle.amd_round_laws.specs.Rounds.{alike_in}
use Rattle.amd_round_laws.proofs.Lists.Named.{has_at}

-- ---- being alike

each_self : (xs : List ℕ) → each (has xs) xs ≡ true
each_self xs = each_from (has xs) xs (λ x h. h)

each_through : (xs ys zs : List ℕ) → each (has xs) ys ≡ true → each (has ys) zs ≡ true → each (has xs) zs ≡ true
each_through xs ys zs h k = each_from (has xs) zs (λ z m. each_gives (has xs) ys h z (each_gives (has ys) zs k z m))

module _ (elements variables : ℕ → List ℕ) where
  pub alike_gives : (i j : ℕ) → alike_in elements variables i j ≡ true →
      (each (has (elements i)) (elements j) ≡ true) × (each (has (elements j)) (elements i) ≡ true)
      × (each (has (variables i)) (variables j) ≡ true) × (each (has (variables j)) (variables i) ≡ true)
  alike_gives i j h =
      let a : Bool = each (has (elements i)) (elements j) in
      let b : Bool = each (has (elements j)) (elements i) in
      let c : Bool = each (has (variables i)) (variables j) in
      let d : Bool = each (has (variables j)) (variables i) in
      let p = and_parts (a && b && c) d h in let q = and_parts (a && b) c p.0 in let r = and_parts a b q.0 in (r.0, r.1, q.1, p.1)

  pub alike_from : (i j : ℕ) → each (has (elements i)) (elements j) ≡ true → each (has (elements j)) (elements i) ≡ true →
      each (has (variables i)) (variables j) ≡ true → each (has (variables j)) (variables i) ≡ true → alike_in elements variables i j ≡ true
  alike_from i j x y z w =
      let a : Bool = each (has (elements i)) (elements j) in
      let b : Bool = each (has (elements j)) (elements i) in
      let c : Bool = each (has (variables i)) (variables j) in
      let d : Bool = each (has (variables j)) (variables i) in
      and_from (a && b && c) d (and_from (a && b) c (and_from a b x y) z) w

  pub alike_self : (i : ℕ) → alike_in elements variables i i ≡ true
  alike_self i = alike_from i i (each_self (elements i)) (each_self (elements i)) (each_self (variables i)) (each_self (variables i))

  pub alike_flip : (i j : ℕ) → alike_in elements variables i j ≡ true → alike_in elements variables j i ≡ true
  alike_flip i j h = let p = alike_gives i j h in alike_from j i p.1 p.0 p.3 p.2

  pub alike_through : (i j k : ℕ) → alike_in elements variables i j ≡ true → alike_in elements variables j k ≡ true →
      alike_in elements variables i k ≡ true
  alike_through i j k h m = let p = alike_gives i j h in let q = alike_gives j k m in
      alike_from i k (each_through (elements i) (elements j) (elements k) p.0 q.0)
      (each_through (elements k) (elements j) (elements i) q.1 p.1)
      (each_through (variables i) (variables j) (variables k) p.2 q.2) (each_through (variables k) (variables j) (variables i) q.3 p.3)

-- ---- the last one alike

last_append : (p : ℕ → Bool) (d : ℕ) (xs ys : List ℕ) → last_that p d (xs ++ ys) ≡ last_that p (last_that p d xs) ys
unfolding last_that
last_append p d xs ys = fold-append (λ r x. cond (p x) x r) d xs ys

last_none : (p : ℕ → Bool) (d : ℕ) (xs : List ℕ) → ((x : ℕ) → has xs x ≡ true → p x ≡ false) → last_that p d xs ≡ d
unfolding last_that
last_none p d [] f = refl
last_none p d (x ∷ xs) f = ap (λ r. fold (λ r x. cond (p x) x r) r xs) (cond-false (p x) x d (f x (has_head x x xs refl)))
    ∙ last_none p d xs (λ y h. f y (has_tail y x xs h))

last_first : (p : ℕ → Bool) (d x : ℕ) (xs : List ℕ) → p x ≡ true → last_that p d (x ∷ xs) ≡ last_that p x xs
unfolding last_that
last_first p d x xs h = ap (λ r. fold (λ r x. cond (p x) x r) r xs) (cond-true (p x) x d h)

-- what stands behind an index is in the list
pub behind_in : (xs : List ℕ) (k x : ℕ) → has (drop k xs) x ≡ true → has xs x ≡ true
behind_in xs zero x h = h
behind_in [] (suc k) x h = h
behind_in (y ∷ xs) (suc k) x h = has_tail x y xs (behind_in xs k x h)

-- in a list that names each number once none stands behind itself
pub not_behind : (xs : List ℕ) (k : ℕ) → k < length xs → Once xs → has (drop (suc k) xs) (get_or xs k 0) ≡ false
not_behind [] k l o = absurd (omega (arith, l))
not_behind (y ∷ xs) zero l o = o.0
not_behind (y ∷ xs) (suc k) l o = not_behind xs k (omega (arith, l)) o.1

module _ (alike : ℕ → ℕ → Bool) (self : (x : ℕ) → alike x x ≡ true) (flip : (x y : ℕ) → alike x y ≡ true → alike y x ≡ true)
    (through : (x y z : ℕ) → alike x y ≡ true → alike y z ≡ true → alike x z ≡ true) (rest : List ℕ) where
  abbrev pub rep : ℕ → ℕ
  rep x = last_that (alike x) x rest

  pub rep_alike : (x : ℕ) → alike x (rep x) ≡ true
  rep_alike x = last_passes (alike x) x rest (self x)

  pub rep_in : (x : ℕ) → has rest x ≡ true → has rest (rep x) ≡ true
  rep_in x h = elim (last_named (alike x) x rest) [ inl e ↦ ap (has rest) e ∙ h | inr k ↦ k ]

  agree : (x y : ℕ) → alike x y ≡ true → (z : ℕ) → alike x z ≡ alike y z
  agree x y h z = both_ways (alike x z) (alike y z) (λ k. through y x z (flip x y h) k) (λ k. through x y z h k)

  -- classes alike have one representative
  pub rep_same : (x y : ℕ) → has rest x ≡ true → alike x y ≡ true → rep x ≡ rep y
  rep_same x y h k = last_same' (alike x) (alike y) x y rest (λ z m. agree x y k z) (inr (x, h, self x))

  pub rep_rep : (x : ℕ) → has rest x ≡ true → rep (rep x) ≡ rep x
  rep_rep x h = sym (rep_same x (rep x) h (rep_alike x))

  parted : (k x : ℕ) → rep x ≡ last_that (alike x) (last_that (alike x) x (take k rest)) (drop k rest)
  parted k x = ap (last_that (alike x) x) (sym (take-append-drop k rest)) ∙ last_append (alike x) x (take k rest) (drop k rest)

  -- the representative does not stand before the class
  pub rep_behind : (k x : ℕ) → has (drop k rest) x ≡ true → has (drop k rest) (rep x) ≡ true
  rep_behind k x h =
      let back : List ℕ = drop k rest in
      let e : rep x ≡ last_that (alike x) x back = parted k x ∙ last_same' (alike x) (alike x) (last_that (alike x) x (take k rest)) x
      back (λ z m. refl) (inr (x, h, self x)) in
      ap (has back) e ∙ elim (last_named (alike x) x back) [ inl q ↦ ap (has back) q ∙ h | inr q ↦ q ]

  module _ (once : Once rest) (k : ℕ) (within : k < length rest) where
    i : ℕ
    i = get_or rest k 0

    pub next_is : drop k rest ≡ get_or rest k 0 ∷ drop (k + 1) rest
    next_is = drop_more rest k 0 within

    own_none : has (drop (k + 1) rest) (get_or rest k 0) ≡ false
    own_none = subst (λ m. has (drop m rest) (get_or rest k 0) ≡ false) (sym (add-one k)) (not_behind rest k within once)

    here_in : has rest (get_or rest k 0) ≡ true
    here_in = has_at rest k 0 within

    here_first : has (drop k rest) (get_or rest k 0) ≡ true
    unfolding has
    here_first = ap (λ ys. has ys (get_or rest k 0)) next_is ∙ or_left (get_or rest k 0 == get_or rest k 0)
        (has (drop (k + 1) rest) (get_or rest k 0)) (eq-eqb (get_or rest k 0) (get_or rest k 0) refl)

    not_here : (x : ℕ) → x ≢ get_or rest k 0 → has (drop k rest) x ≡ has (drop (k + 1) rest) x
    unfolding has
    not_here x ne = ap (λ ys. has ys x) next_is ∙ ap (λ b. b || has (drop (k + 1) rest) x) (ne_eqb (get_or rest k 0) x (λ e. ne (sym e)))

    -- a class with none alike behind it represents itself
    rep_alone : ((x : ℕ) → has (drop (k + 1) rest) x ≡ true → alike (get_or rest k 0) x ≡ false) → rep (get_or rest k 0) ≡ get_or rest k 0
    rep_alone f = let y : ℕ = get_or rest k 0 in let d : ℕ = last_that (alike y) y (take k rest) in
        parted k y ∙ ap (last_that (alike y) d) next_is ∙ last_first (alike y) d y (drop (k + 1) rest) (self y) ∙ last_none (alike y) y
        (drop (k + 1) rest) f

  -- ---- the groups

  -- the classes behind an index have their representatives, and each that represents itself is in its group
  pub record Found (group : ℕ → ℕ) (k : ℕ) (now : ℕ → ℕ) (named : ℕ → List ℕ) : Type 0 where
    pub into : (x : ℕ) → has (drop k rest) x ≡ true → now x ≡ rep x
    pub groups : (b x : ℕ) → has (named b) x ≡ (has (drop k rest) x && rep x == x && group x == b)

  pub found_none : (group : ℕ → ℕ) (into : ℕ → ℕ) (groups : ℕ → List ℕ) → ((b : ℕ) → groups b ≡ []) → Found group (length rest) into groups
  unfolding has
  found_none group into groups f = let none : drop (length rest) rest ≡ [] = drop_all (length rest) rest (omega arith) in record {
    into = λ x h. absurd (false≢true (sym (ap (λ ys. has ys x) none) ∙ h));
    groups = λ b x. ap (λ ys. has ys x) (f b) ∙ sym (ap (λ ys. has ys x && rep x == x && group x == b) none);
  }

  module _ (once : Once rest) (group : ℕ → ℕ) (grouped : (x y : ℕ) → has rest x ≡ true → has rest y ≡ true → alike x y ≡ true →
      group x ≡ group y) (k : ℕ) (within : k < length rest)
      (into after : ℕ → ℕ) (before groups : ℕ → List ℕ) (so : Found group (k + 1) into before)
      (others : (x : ℕ) → x ≢ get_or rest k 0 → after x ≡ into x) where
    member : (b x : ℕ) → has (before b) x ≡ true → (has (drop (k + 1) rest) x ≡ true) × (rep x ≡ x) × (group x ≡ b)
    member b x h = let p = and_parts (has (drop (k + 1) rest) x && rep x == x) (group x == b) (sym (so.groups b x) ∙ h) in
        let q = and_parts (has (drop (k + 1) rest) x) (rep x == x) p.0 in (q.0, eqb-true (rep x) x q.1, eqb-true (group x) b p.1)

    intos : after (get_or rest k 0) ≡ rep (get_or rest k 0) → (x : ℕ) → has (drop k rest) x ≡ true → after x ≡ rep x
    intos here x h = elim (cases_eq x (get_or rest k 0)) [
      | inl e ↦ ap after e ∙ here ∙ ap rep (sym e)
      | inr ne ↦ others x ne ∙ so.into x (sym (not_here once k within x ne) ∙ h)
    ]

    stays : (b x : ℕ) → x ≢ get_or rest k 0 → has (before b) x ≡ (has (drop k rest) x && rep x == x && group x == b)
    stays b x ne = so.groups b x ∙ ap (λ c. c && rep x == x && group x == b) (sym (not_here once k within x ne))

    absent : (b : ℕ) → has (before b) (get_or rest k 0) ≡ false
    absent b = let y : ℕ = get_or rest k 0 in so.groups b y ∙ ap (λ c. c && rep y == y && group y == b) (own_none once k within)

    -- one alike is in the group
    pub found_more : has (before (group (get_or rest k 0))) (after (get_or rest k 0)) ≡ true →
        alike (get_or rest k 0) (after (get_or rest k 0)) ≡ true → ((b : ℕ) → groups b ≡ before b) → Found group k after groups
    found_more h a same =
        let y : ℕ = get_or rest k 0 in
        let r : ℕ = after y in
        let m = member (group y) r h in
        let is : rep y ≡ r = rep_same y r (here_in once k within) a ∙ m.1 in
        let ne : rep y ≢ y = λ e. clash (ap (has (drop (k + 1) rest)) (sym (sym is ∙ e)) ∙ m.0) (own_none once k within) in
        record {
          into = intos (sym is);
          groups = λ b x. ap (λ ys. has ys x) (same b) ∙ elim (cases_eq x y) [
            | inr other ↦ stays b x other
            | inl e ↦ ap (has (before b)) e ∙ absent b ∙ sym (ap (λ z. has (drop k rest) z && rep z == z && group z == b) e
                ∙ and_left (has (drop k rest) y && rep y == y) (group y == b)
                (and_right (has (drop k rest) y) (rep y == y) (ne_eqb (rep y) y ne)))
          ];
        }

    -- none alike is in the group: the class comes into it
    pub found_new : ((x : ℕ) → has (before (group (get_or rest k 0))) x ≡ true → alike (get_or rest k 0) x ≡ false) →
        after (get_or rest k 0) ≡ get_or rest k 0 →
        ((b : ℕ) → groups b ≡ cond (b == group (get_or rest k 0)) (before b ++ get_or rest k 0 ∷ []) (before b)) →
        Found group k after groups
    unfolding has
    found_new f own more =
        let y : ℕ = get_or rest k 0 in
        let back : List ℕ = drop (k + 1) rest in
        let none : (x : ℕ) → has back x ≡ true → alike y x ≡ false = λ x h. elim (cases_Bool (alike y x)) [
          | inr n ↦ n
          | inl t ↦ (let in_rest = behind_in rest (k + 1) x h in
              let r_back = rep_behind (k + 1) x h in
              let r_group : group (rep x) ≡ group y = sym (grouped x (rep x) in_rest (rep_in x in_rest) (rep_alike x)) ∙ sym
              (grouped y x (here_in once k within) in_rest t) in
              let listed = so.groups (group y) (rep x) ∙ and_from (has back (rep x) && rep (rep x) == rep x) (group (rep x) == group y)
              (and_from (has back (rep x)) (rep (rep x) == rep x) r_back (eq-eqb (rep (rep x)) (rep x) (rep_rep x in_rest)))
              (eq-eqb (group (rep x)) (group y) r_group) in
              clash (through y x (rep x) t (rep_alike x)) (f (rep x) listed))
        ] in
        let is : rep y ≡ y = rep_alone once k within none in
        record {
          into = intos (own ∙ sym is);
          groups = λ b x. ap (λ ys. has ys x) (more b) ∙ elim (cases_eq b (group y)) [
            | inr off ↦ ap (λ ys. has ys x) (cond-false (b == group y) (before b ++ y ∷ []) (before b) (ne_eqb b (group y) off)) ∙ elim
                (cases_eq x y) [
                  | inr other ↦ stays b x other
                  | inl e ↦ ap (has (before b)) e ∙ absent b ∙ sym (ap (λ z. has (drop k rest) z && rep z == z && group z == b) e
                      ∙ and_right (has (drop k rest) y && rep y == y) (group y == b) (ne_eqb (group y) b (λ q. off (sym q))))
                ]
            | inl on ↦ ap (λ ys. has ys x) (cond-true (b == group y) (before b ++ y ∷ []) (before b) (eq-eqb b (group y) on)) ∙ has_append
                (before b) (y ∷ []) x ∙ elim (cases_eq x y) [
                  | inr other ↦ ap (λ c. has (before b) x || (c || false)) (ne_eqb y x (λ e. other (sym e))) ∙ or-false (has (before b) x) ∙
                      stays b x other
                  | inl e ↦ or_right (has (before b) x) (y == x || false) (or_left (y == x) false (eq-eqb y x (sym e))) ∙ sym
                      (ap (λ z. has (drop k rest) z && rep z == z && group z == b) e
                      ∙ and_from (has (drop k rest) y && rep y == y) (group y == b)
                      (and_from (has (drop k rest) y) (rep y == y) (here_first once k within) (eq-eqb (rep y) y is))
                      (eq-eqb (group y) b (sym on)))
                ]
          ];
        }
