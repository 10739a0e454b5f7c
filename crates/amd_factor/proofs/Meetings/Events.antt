-- One arc more: what it adds and what its meeting takes.
use Rattle.std.proofs.Common.{ℕ, Bool, true, false, ◌≡◌, ◌≢◌, ◌<◌, ◌≤◌, ◌+◌, ◌==◌, ◌⊎◌, cond, inl, inr, refl, sym, ◌∙◌}
use Rattle.std.proofs.Common.{ap, subst, arith, List, length, set}
use Rattle.std.specs.Prelude.{slice_index}
use Rattle.std.proofs.lemmas.Bool.{cases_eq, cases_lt, cases_Bool, eq-eqb, ne_eqb}
use Rattle.std.proofs.lemmas.List.{length-set, get_or-set_same, get_or-set_other}
use Rattle.amd_model.specs.Below.{count_below}
use Rattle.amd_model.proofs.Counting.Below.{sum_at, sum_same}
use Rattle.amd_factor.specs.Ranks.{Above}
use Rattle.amd_factor.specs.Meetings.{Arc, Balance, IsLowest, IsScene, CountsTargets, Met, Scene, sum_to, low_of}
use Rattle.amd_factor.proofs.Meetings.Nesting.{above-linear, above-most, above-trans, nest, size-fits, size-positive, rank-low, within}

-- a list with 1 more at a rank
abbrev pub bump : List ℕ → ℕ → List ℕ
bump xs r = set xs r (slice_index xs r + 1)

pub bump-over : (xs : List ℕ) (r m : ℕ) → r < length xs → r < m → sum_to (bump xs r) m ≡ sum_to xs m + 1
bump-over xs r m l low =
    let a = sum_at m (λ k. slice_index (bump xs r) k) (λ k. slice_index xs k) r low (λ k h ne. get_or-set_other xs r k
    (slice_index xs r + 1) 0 ne) in
    let b = get_or-set_same xs r (slice_index xs r + 1) 0 l in omega (arith, a, b)

pub bump-under : (xs : List ℕ) (r m : ℕ) → m ≤ r → sum_to (bump xs r) m ≡ sum_to xs m
bump-under xs r m high =
    sum_same m (λ k. slice_index (bump xs r) k) (λ k. slice_index xs k) (λ k l. get_or-set_other xs r k (slice_index xs r + 1) 0
    (λ e. omega (arith, e, l, high)))

-- a rank outside of a stretch
pub bump-out : (xs : List ℕ) (r lo hi : ℕ) → r < length xs → lo ≤ hi → (r < lo) ⊎ (hi ≤ r) →
    sum_to (bump xs r) hi + sum_to xs lo ≡ sum_to xs hi + sum_to (bump xs r) lo
bump-out xs r lo hi l m (inl a) =
    let x = bump-over xs r lo l a in let y = bump-over xs r hi l (omega (arith, a, m)) in omega (arith, x, y)
bump-out xs r lo hi l m (inr b) =
    let x = bump-under xs r lo (omega (arith, b, m)) in let y = bump-under xs r hi b in omega (arith, x, y)

-- 1 for true, 0 for false
abbrev counted-as : Bool → ℕ
counted-as b = cond b 1 0

-- a number that newly passes is counted
count-new : (n i : ℕ) (p q : ℕ → Bool) → i < n → p i ≡ false → q i ≡ true → ((m : ℕ) → m < n → m ≢ i → q m ≡ p m) →
    count_below n q ≡ count_below n p + 1
unfolding count_below
count-new n i p q l a b same =
    let e = sum_at n (λ m. cond (q m) 1 0) (λ m. cond (p m) 1 0) i l (λ m lm ne. ap counted-as (same m lm ne)) in
    let x : counted-as (p i) ≡ 0 = ap counted-as a in
    let y : counted-as (q i) ≡ 1 = ap counted-as b in
    omega (arith, e, x, y)

module _ (s : Scene) (scene : IsScene s) where
  abbrev n : ℕ
  n = length s.up

  abbrev ranked-of : ℕ → ℕ
  ranked-of x = slice_index s.rank x

  -- a subtree takes the ranks from its first one on
  pub above-in : {x k : ℕ} → x ≤ n → Above s.up x k → (low_of s k ≤ ranked-of x) × (ranked-of x < ranked-of k + 1)
  above-in {x} {k} l a =
      let r = nest s.up scene.goes s.size s.rank scene.measured scene.ranked a in let r0 = r.0 in let r1 = r.1 in
      let one = size-positive s.up scene.goes s.size s.rank scene.measured scene.ranked x l in
      (omega (arith, r1, one), omega (arith, r0))

  pub in-above : (x k : ℕ) → x < n → k < n → low_of s k ≤ ranked-of x → ranked-of x < ranked-of k + 1 → Above s.up x k
  in-above x k l m low high =
      let one = size-positive s.up scene.goes s.size s.rank scene.measured scene.ranked k (omega (arith, m)) in
      let f = size-fits s.up scene.goes s.size s.rank scene.measured scene.ranked scene.all k (omega (arith, m)) in
      within s.up scene.goes s.size s.rank scene.measured scene.ranked x k (omega (arith, m)) l (omega (arith, high)) (omega
      (arith, low, f))

  pub out-above : (x k : ℕ) → x < n → k < n → (Above s.up x k → ⊥) → (ranked-of x < low_of s k) ⊎ (ranked-of k + 1 ≤ ranked-of x)
  out-above x k l m not = elim (cases_lt (ranked-of x) (low_of s k)) [
    | inl a ↦ inl a
    | inr b ↦ elim (cases_lt (ranked-of x) (ranked-of k + 1)) [
      | inl c ↦ absurd (not (in-above x k l m b c))
      | inr d ↦ inr d
    ]
  ]

  pub test-above : (x k : ℕ) → x < n → k < n → Above s.up x k ⊎ (Above s.up x k → ⊥)
  test-above x k l m = elim (cases_lt (ranked-of x) (low_of s k)) [
    | inl a ↦ inr (λ h. let r = above-in (omega (arith, l)) h in let r0 = r.0 in omega (arith, a, r0))
    | inr b ↦ elim (cases_lt (ranked-of x) (ranked-of k + 1)) [
      | inl c ↦ inl (in-above x k l m b c)
      | inr d ↦ inr (λ h. let r = above-in (omega (arith, l)) h in let r1 = r.1 in omega (arith, d, r1))
    ]
  ]

  low-high : (k : ℕ) → low_of s k ≤ ranked-of k + 1
  low-high k = omega arith

  module _ (plus minus : List ℕ) (plus_room : length plus ≡ n + 1) (minus_room : length minus ≡ n + 1) (j q k a : ℕ)
      (low-j : j < n) (low-q : q < n) (low-k : k < n) (b : Balance s plus minus k a) where
    room-of : (x : ℕ) → x < n → ranked-of x < n + 1
    room-of x l = let r = rank-low s.up scene.goes s.size s.rank scene.measured scene.ranked x l in omega (arith, r)

    plus-fits : ranked-of j < length plus
    plus-fits = let r = room-of j low-j in omega (arith, r, plus_room)

    minus-fits : ranked-of q < length minus
    minus-fits = let r = room-of q low-q in omega (arith, r, minus_room)

    -- both in the subtree
    pub both-in : Above s.up j k → Above s.up q k → Balance s (bump plus (ranked-of j)) (bump minus (ranked-of q)) k a
    both-in x y =
        let jn = above-in (omega (arith, low-j)) x in let qn = above-in (omega (arith, low-q)) y in
        let p1 = bump-over plus (ranked-of j) (ranked-of k + 1) plus-fits jn.1 in
        let p0 = bump-under plus (ranked-of j) (low_of s k) jn.0 in
        let m1 = bump-over minus (ranked-of q) (ranked-of k + 1) minus-fits qn.1 in
        let m0 = bump-under minus (ranked-of q) (low_of s k) qn.0 in
        omega (arith, p1, p0, m1, m0, b)

    -- neither
    pub both-out : (Above s.up j k → ⊥) → (Above s.up q k → ⊥) → Balance s (bump plus (ranked-of j)) (bump minus (ranked-of q)) k a
    both-out x y =
        let p = bump-out plus (ranked-of j) (low_of s k) (ranked-of k + 1) plus-fits (low-high k) (out-above j k low-j low-k x) in
        let m = bump-out minus (ranked-of q) (low_of s k) (ranked-of k + 1) minus-fits (low-high k) (out-above q k low-q low-k y) in
        omega (arith, p, m, b)

    -- the arc alone
    pub one-in : Above s.up j k → (Above s.up q k → ⊥) → Balance s (bump plus (ranked-of j)) (bump minus (ranked-of q)) k (a + 1)
    one-in x y =
        let jn = above-in (omega (arith, low-j)) x in
        let p1 = bump-over plus (ranked-of j) (ranked-of k + 1) plus-fits jn.1 in
        let p0 = bump-under plus (ranked-of j) (low_of s k) jn.0 in
        let m = bump-out minus (ranked-of q) (low_of s k) (ranked-of k + 1) minus-fits (low-high k) (out-above q k low-q low-k y) in
        omega (arith, p1, p0, m, b)

  module _ (seen seen' : ℕ → ℕ → Type 0) (t j i : ℕ) (arc : Arc s j i) (here : ranked-of j ≡ t)
      (arcs : (x y : ℕ) → seen x y → Arc s x y) (past : (x y : ℕ) → seen x y → ranked-of x ≤ t)
      (keep : (x y : ℕ) → seen x y → seen' x y) (new : seen' j i)
      (split : (x y : ℕ) → seen' x y → seen x y ⊎ ((x ≡ j) × (y ≡ i))) where
    -- the arc changes no mark of column k
    pub targets-same : (k a : ℕ) → CountsTargets s seen k a → ((test : ℕ → Bool) →
        ((x y : ℕ) → y < n → k < y → Above s.up x k → seen x y → test y ≡ true) → k < i → Above s.up j k → test i ≡ true) →
        CountsTargets s seen' k a
    targets-same k a m at-i = record {
      test = m.test;
      marked = λ y l h. (let r = m.marked y l h in (r.0, r.1, r.2, keep r.1 y r.3));
      marks = λ y x l after up h. elim (split x y h) [
        | inl old ↦ m.marks y x l after up old
        | inr e ↦ subst (λ z. m.test z ≡ true) (sym e.1)
            (at-i m.test (λ u v lv av uv hv. m.marks v u lv av uv hv) (subst (λ z. k < z) e.1 after) (subst (λ z. Above s.up z k) e.0 up))
      ];
      is = m.is;
    }

    -- the arc marks place i
    pub targets-more : (k a : ℕ) → (m : CountsTargets s seen k a) → k < i → Above s.up j k → (m.test i ≡ true → ⊥) →
        CountsTargets s seen' k (a + 1)
    targets-more k a m after up no-mark =
        let before : m.test i ≡ false = elim (cases_Bool (m.test i)) [ inl yes' ↦ absurd (no-mark yes') | inr no' ↦ no' ] in
        let at : cond (i == i) true (m.test i) ≡ true = ap (λ b. cond b true (m.test i)) (eq-eqb i i refl) in
        let other : (y : ℕ) → y ≢ i → cond (y == i) true (m.test y) ≡ m.test y =
        λ y ne. ap (λ b. cond b true (m.test y)) (ne_eqb y i ne) in record {
          test = λ y. cond (y == i) true (m.test y);
          marked = λ y l h. elim (cases_eq y i) [
            | inl e ↦ (subst (λ z. k < z) (sym e) after, j, up, subst (λ z. seen' j z) (sym e) new)
            | inr ne ↦ (let r = m.marked y l (sym (other y ne) ∙ h) in (r.0, r.1, r.2, keep r.1 y r.3))
          ];
          marks = λ y x l after' up' h. elim (cases_eq y i) [
            | inl e ↦ ap (λ b. cond b true (m.test y)) (eq-eqb y i e)
            | inr ne ↦ other y ne ∙ elim (split x y h) [ inl old ↦ m.marks y x l after' up' old | inr e ↦ absurd (ne e.1) ]
          ];
          is = count-new n i m.test (λ y. cond (y == i) true (m.test y)) arc.most before at (λ y l ne. other y ne)
              ∙ ap (λ z. z + 1) m.is;
        }

    module _ (last plus minus : List ℕ) (met : Met s seen last plus minus) (q : ℕ) where
      abbrev was : ℕ
      was = slice_index last i

      low-j : j < n
      low-j = let a = arc.later in let b = arc.most in omega (arith, a, b)

      up-ji : Above s.up j i
      up-ji = scene.arcs j i arc

      -- column k after the first arc to place i
      first : was ≡ n → q ≡ i → (k : ℕ) → k < n →
          (a : ℕ) × CountsTargets s seen' k a × Balance s (bump plus (ranked-of j)) (bump minus (ranked-of q)) k a
      first none is k low-k =
          let c = met.columns k low-k in
          let low-q : q < n = (let m = arc.most in omega (arith, m, is)) in
          let up-jq : Above s.up j q = subst (λ z. Above s.up j z) (sym is) up-ji in
          elim (test-above j k low-j low-k) [
            | inr out ↦ (
              c.0,
              targets-same k c.0 c.1 (λ test all after up. absurd (out up)),
              both-out plus minus met.plus_room met.minus_room j q k c.0 low-j low-q low-k c.2 out
                  (λ h. out (above-trans s.up up-jq h)),
            )
            | inl in' ↦ elim (cases_lt k i) [
              | inl after ↦ (
                c.0 + 1,
                targets-more k c.0 c.1 after in' (λ h. let r = c.1.marked i arc.most h in met.none i arc.most none r.1 r.3),
                one-in plus minus met.plus_room met.minus_room j q k c.0 low-j low-q low-k c.2 in'
                    (λ h. let r = above-most s.up scene.goes h in omega (arith, r, is, after)),
              )
              | inr not ↦ (
                c.0,
                targets-same k c.0 c.1 (λ test all after up. absurd (omega (arith, after, not))),
                both-in plus minus met.plus_room met.minus_room j q k c.0 low-j low-q low-k c.2 in'
                    (subst (λ z. Above s.up z k) (sym is) (above-linear s.up scene.goes up-ji in' not)),
              )
            ]
          ]

      -- and after another one
      next : was ≢ n → IsLowest s t was q → (k : ℕ) → k < n →
          (a : ℕ) × CountsTargets s seen' k a × Balance s (bump plus (ranked-of j)) (bump minus (ranked-of q)) k a
      next some l k low-k =
          let c = met.columns k low-k in
          let f = met.some i arc.most some in
          let was-arc = arcs was i f.0 in
          let was-past = past was i f.0 in
          let was-i : Above s.up was i = scene.arcs was i was-arc in
          let low-was : was < n = (let a = was-arc.later in let b = was-arc.most in omega (arith, a, b)) in
          let i-high : t ≤ ranked-of i = (let r = (nest s.up scene.goes s.size s.rank scene.measured scene.ranked up-ji).0 in
          omega (arith, r, here)) in
          let low-q : q < n = (let r = above-most s.up scene.goes (l.lowest i (let m = arc.most in omega (arith, m)) was-i i-high) in
          let m = arc.most in omega (arith, r, m)) in
          let wq = nest s.up scene.goes s.size s.rank scene.measured scene.ranked l.over in let wq1 = wq.1 in
          let one = size-positive s.up scene.goes s.size s.rank scene.measured scene.ranked was (omega (arith, low-was)) in
          let q-high = l.high in
          let up-jq : Above s.up j q = within s.up scene.goes s.size s.rank scene.measured scene.ranked j q (omega (arith, low-q)) low-j
          (omega (arith, here, q-high)) (omega (arith, wq1, one, was-past, here)) in
          let to-k : Above s.up j k → Above s.up was k → Above s.up q k =
          λ jk wk. l.lowest k (omega (arith, low-k)) wk (let r = (nest s.up scene.goes s.size s.rank scene.measured scene.ranked jk).0 in
          omega (arith, r, here)) in
          elim (test-above j k low-j low-k) [
            | inr out ↦ (
              c.0,
              targets-same k c.0 c.1 (λ test all after up. absurd (out up)),
              both-out plus minus met.plus_room met.minus_room j q k c.0 low-j low-q low-k c.2 out
                  (λ h. out (above-trans s.up up-jq h)),
            )
            | inl in' ↦ elim (cases_lt k i) [
              | inr not ↦ (
                c.0,
                targets-same k c.0 c.1 (λ test all after up. absurd (omega (arith, after, not))),
                both-in plus minus met.plus_room met.minus_room j q k c.0 low-j low-q low-k c.2 in'
                    (to-k in' (above-trans s.up was-i (above-linear s.up scene.goes up-ji in' not))),
              )
              | inl after ↦ elim (test-above was k low-was low-k) [
                | inl there ↦ (
                  c.0,
                  targets-same k c.0 c.1 (λ test all after' up. all was i arc.most after' there f.0),
                  both-in plus minus met.plus_room met.minus_room j q k c.0 low-j low-q low-k c.2 in' (to-k in' there),
                )
                | inr not-there ↦ (
                  c.0 + 1,
                  targets-more k c.0 c.1 after in' (λ h.
                      let r = c.1.marked i arc.most h in let old = f.1 r.1 r.3 in
                      let x-arc = arcs r.1 i r.3 in
                      let x = above-in (let a = x-arc.later in let b = x-arc.most in omega (arith, a, b)) r.2 in let x0 = x.0 in
                      let y = above-in (omega (arith, low-j)) in' in let y1 = y.1 in
                      not-there (in-above was k low-was low-k (omega (arith, x0, old)) (omega (arith, y1, was-past, here)))),
                  one-in plus minus met.plus_room met.minus_room j q k c.0 low-j low-q low-k c.2 in'
                      (λ h. not-there (above-trans s.up l.over h)),
                )
              ]
            ]
          ]

      -- one arc more was taken
      pub met-next : q < n → ((k : ℕ) → k < n → (a : ℕ) × CountsTargets s seen' k a × Balance s (bump plus (ranked-of j)) (bump minus
          (ranked-of q)) k a) →
          Met s seen' (set last i j) (bump plus (ranked-of j)) (bump minus (ranked-of q))
      met-next low-q columns = record {
        last_room = length-set last i j ∙ met.last_room;
        plus_room = length-set plus _ _ ∙ met.plus_room;
        minus_room = length-set minus _ _ ∙ met.minus_room;
        none = λ y l e x h. elim (cases_eq y i) [
          | inl same ↦ (let v : slice_index (set last i j) y ≡ j = ap (slice_index (set last i j)) same ∙ at-i in
              let low = low-j in absurd (omega (arith, v, e, low)))
          | inr ne ↦ met.none y l (sym (else-where y ne) ∙ e) x (elim (split x y h) [ inl old ↦ old | inr both ↦ absurd (ne both.1) ])
        ];
        some = λ y l ne. elim (cases_eq y i) [
          | inl same ↦ (
            subst (λ v. seen' (slice_index (set last i j) v) v) (sym same) (subst (λ v. seen' v i) (sym at-i) new),
            λ x h. subst (λ v. ranked-of x ≤ ranked-of (slice_index (set last i j) v)) (sym same)
                (subst (λ v. ranked-of x ≤ ranked-of v) (sym at-i) (elim (split x y h) [
                  | inl old ↦ (let p = past x y old in omega (arith, p, here))
                  | inr both ↦ (let e = ap ranked-of both.0 in omega (arith, e))
                ])),
          )
          | inr other ↦ (let r = met.some y l (λ e. ne (else-where y other ∙ e)) in (
            subst (λ v. seen' v y) (sym (else-where y other)) (keep (slice_index last y) y r.0),
            λ x h. subst (λ v. ranked-of x ≤ ranked-of v) (sym (else-where y other))
                (r.1 x (elim (split x y h) [ inl old ↦ old | inr both ↦ absurd (other both.1) ])),
          ))
        ];
        spent = (let p = bump-over plus (ranked-of j) (n + 1) plus-in plus-low in let m = bump-over minus (ranked-of q)
            (n + 1) minus-in minus-low in
            let e = met.spent in omega (arith, p, m, e));
        columns = columns;
      }
        where
          at-i : slice_index (set last i j) i ≡ j
          at-i = get_or-set_same last i j 0 (let r = met.last_room in let m = arc.most in omega (arith, r, m))

          else-where : (y : ℕ) → y ≢ i → slice_index (set last i j) y ≡ slice_index last y
          else-where y ne = get_or-set_other last i y j 0 ne

          plus-low : ranked-of j < n + 1
          plus-low = let r = rank-low s.up scene.goes s.size s.rank scene.measured scene.ranked j low-j in omega (arith, r)

          minus-low : ranked-of q < n + 1
          minus-low = let r = rank-low s.up scene.goes s.size s.rank scene.measured scene.ranked q low-q in omega (arith, r)

          plus-in : ranked-of j < length plus
          plus-in = let r = plus-low in let e = met.plus_room in omega (arith, r, e)

          minus-in : ranked-of q < length minus
          minus-in = let r = minus-low in let e = met.minus_room in omega (arith, r, e)

      pub met-first : was ≡ n → q ≡ i → Met s seen' (set last i j) (bump plus (ranked-of j)) (bump minus (ranked-of q))
      met-first none is = met-next (let m = arc.most in omega (arith, m, is)) (first none is)

      -- the meeting is a place
      pub meeting-low : was ≢ n → IsLowest s t was q → q < n
      meeting-low some l =
          let f = met.some i arc.most some in
          let was-i : Above s.up was i = scene.arcs was i (arcs was i f.0) in
          let r = (nest s.up scene.goes s.size s.rank scene.measured scene.ranked up-ji).0 in
          let b = above-most s.up scene.goes (l.lowest i (let m = arc.most in omega (arith, m)) was-i (omega (arith, r, here))) in
          let m = arc.most in omega (arith, b, m)

      pub met-another : was ≢ n → IsLowest s t was q → Met s seen' (set last i j) (bump plus (ranked-of j)) (bump minus (ranked-of q))
      met-another some l = met-next (meeting-low some l) (next some l)
