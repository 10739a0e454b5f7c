-- Sizes of subtrees and ranks, place by place.
use Rattle.std.proofs.Common.{ℕ, zero, suc, ◌≡◌, ◌≢◌, ◌<◌, ◌≤◌, ◌+◌, ◌-◌, ◌==◌, cond, inl, inr, refl, sym, ◌∙◌, ap}
use Rattle.std.proofs.Common.{subst, arith, List, length, set}
use Rattle.std.specs.Prelude.{slice_index, replicate}
use Rattle.std.proofs.lemmas.Bool.{cases_eq}
use Rattle.std.proofs.lemmas.List.{length-set, get_or-set_same, get_or-set_other, get_or-replicate, length-replicate}
use Rattle.amd_model.specs.Below.{sum_below}
use Rattle.amd_model.proofs.Counting.Below.{sum_at, sum_same, sum_stretch, sum_upto}
use Rattle.amd_count_laws.specs.Rising.{GoesUp, under}
use Rattle.amd_count_laws.proofs.Sums.{sum-next, sum-none}
use Rattle.amd_count_laws.proofs.Under.{under-all, under-of, under-other, under-same}
use Rattle.amd_factor.specs.Ranks.{Measured, Ranked}

pub sum-more : (k n : ℕ) (f : ℕ → ℕ) → k ≤ n → sum_below k f ≤ sum_below n f
sum-more k n f l = let e : k + (n - k) ≡ n = omega (arith, l) in
    subst (λ m. sum_below k f ≤ sum_below m f) e (sum_stretch (n - k) k f)

-- two terms of a sum
two-terms : (n k p : ℕ) (f : ℕ → ℕ) → k < p → p < n → f p + f k + sum_below k f ≤ sum_below n f
two-terms n k p f l m =
    let a = sum_upto p n f m in
    let b = sum_upto k p f l in
    omega (arith, a, b)

pub under-more : (up size : List ℕ) (p k n : ℕ) → k ≤ n → under up size p k ≤ under up size p n
under-more up size p k n l = sum-more k n (λ c. cond (slice_index up c == p) (slice_index size c) 0) l

-- the sizes when the places below k were added to those that they go up to
pub record Measuring (up size : List ℕ) (k : ℕ) : Type 0 where
  pub room : length size ≡ length up + 1
  pub each : (p : ℕ) → p ≤ length up → slice_index size p ≡ 1 + under up size p k
  pub all : sum_below (length up + 1) (λ c. slice_index size c) ≡ length up + 1 + sum_below k (λ c. slice_index size c)

ones-sum : (n : ℕ) (f : ℕ → ℕ) → ((k : ℕ) → k < n → f k ≡ 1) → sum_below n f ≡ n
unfolding sum_below
ones-sum zero f one = refl
ones-sum (suc n) f one = let a = one n (omega arith) in let r = ones-sum n f (λ k l. one k (omega (arith, l))) in omega (arith, a, r)

pub ones-at : (xs : List ℕ) (n : ℕ) → xs ≡ replicate n 1 → (k : ℕ) → k < length xs → slice_index xs k ≡ 1
ones-at xs n e k l = ap (λ ys. slice_index ys k) e ∙ get_or-replicate n k 1 0
    (let a : length xs ≡ n = ap length e ∙ length-replicate n 1 in omega (arith, a, l))

pub measure-none : (up size : List ℕ) → length size ≡ length up + 1 → ((k : ℕ) → k < length size → slice_index size k ≡ 1) →
    Measuring up size 0
measure-none up size room one = record {
  room = room;
  each = λ p l. (let a = one p (omega (arith, l, room)) in let b = sum-none (λ c. cond (slice_index up c == p) (slice_index size c) 0) in
      omega (arith, a, b));
  all = (let a = ones-sum (length up + 1) (λ c. slice_index size c) (λ k l. one k (omega (arith, l, room))) in
      let b = sum-none (λ c. slice_index size c) in omega (arith, a, b));
}

module _ (up size : List ℕ) (k : ℕ) (goes : GoesUp up) (m : Measuring up size k) (low : k < length up) where
  abbrev p : ℕ
  p = slice_index up k

  abbrev new : List ℕ
  new = set size (slice_index up k) (slice_index size (slice_index up k) + slice_index size k)

  behind : k < p
  behind = goes.rises k low

  inside : p < length up + 1
  inside = let a = goes.most k low in omega (arith, a)

  at-p : slice_index new p ≡ slice_index size p + slice_index size k
  at-p = get_or-set_same size (slice_index up k) (slice_index size (slice_index up k) + slice_index size k) 0
      (let a = inside in let r = m.room in omega (arith, a, r))

  else-where : (c : ℕ) → c ≢ p → slice_index new c ≡ slice_index size c
  else-where c ne = get_or-set_other size (slice_index up k) c (slice_index size (slice_index up k) + slice_index size k) 0 ne

  pub measure-fits : slice_index size (slice_index up k) + slice_index size k ≤ length up + 1
  measure-fits = let a = two-terms (length up + 1) k p (λ c. slice_index size c) behind inside in let b = m.all in omega (arith, a, b)

  before-same : (c : ℕ) → c < k + 1 → slice_index new c ≡ slice_index size c
  before-same c l = else-where c (λ e. let a = behind in omega (arith, e, a, l))

  pub measure-next : Measuring up (set size (slice_index up k) (slice_index size (slice_index up k) + slice_index size k)) (k + 1)
  measure-next = record {
    room = length-set size _ _ ∙ m.room;
    each = λ q l. (let o = under-of up size new q k (λ c lc. before-same c (omega (arith, lc))) in
        let e = m.each q l in let here = before-same k (omega arith) in
        elim (cases_eq q p) [
          | inl is ↦ (let a = at-p in let b = under-same up new q k (sym is) in
              let v : slice_index new q ≡ slice_index size p + slice_index size k = ap (slice_index new) is ∙ a in
              let w : slice_index size q ≡ slice_index size p = ap (slice_index size) is in omega (arith, o, e, here, b, v, w))
          | inr ne ↦ (let a = else-where q ne in let b = under-other up new q k (λ e. ne (sym e)) in omega (arith, o, e, a, b))
        ]);
    all = (let a = sum_at (length up + 1) (λ c. slice_index new c) (λ c. slice_index size c) p inside (λ c l ne. else-where c ne) in
        let b = sum-next (λ c. slice_index new c) k in
        let o = sum_same k (λ c. slice_index new c) (λ c. slice_index size c) (λ c l. before-same c (omega (arith, l))) in
        let here = before-same k (omega arith) in let h = at-p in let all = m.all in omega (arith, a, b, o, here, h, all));
  }

pub measure-all : (up size : List ℕ) (k : ℕ) → Measuring up size k → k ≡ length up → Measured up size
measure-all up size k m e = record { room = m.room; each = λ p l. (m.each p l ∙ ap (λ x. 1 + under up size p x) e) }

pub measure-top : (up size : List ℕ) (k : ℕ) → Measuring up size k → k ≡ length up → slice_index size (length up) ≡ length up + 1
measure-top up size k m e =
    let a = m.all in let b = sum-next (λ c. slice_index size c) (length up) in
    let o : sum_below k (λ c. slice_index size c) ≡ sum_below (length up) (λ c. slice_index size c) =
    ap (λ x. sum_below x (λ c. slice_index size c)) e in omega (arith, a, b, o)

-- ---- ranks

-- the ranks of the places from k on, and where those below k that go up to a place come next
pub record Ranking (up size next rank : List ℕ) (k : ℕ) : Type 0 where
  pub next_room : length next ≡ length up + 1
  pub room : length rank ≡ length up + 1
  pub within : k ≤ length up
  pub top : slice_index rank (length up) ≡ length up
  pub fits : (p : ℕ) → k ≤ p → p ≤ length up → slice_index size p ≤ slice_index rank p + 1
  pub nexts : (p : ℕ) → k ≤ p → p ≤ length up → slice_index next p + slice_index size p ≡ slice_index rank p + 1 + under up size p k
  pub each : (m : ℕ) → k ≤ m → m < length up →
      slice_index rank m + 1 + slice_index size (slice_index up m) ≡ slice_index rank (slice_index up m) + 1
      + under up size (slice_index up m) (m + 1)

pub rank-none : (up size next rank : List ℕ) → GoesUp up → Measured up size → slice_index size (length up) ≡ length up + 1 →
    length next ≡ length up + 1 → length rank ≡ length up + 1 →
    Ranking up size (set next (length up) (length up)) (set rank (length up) (length up)) (length up)
rank-none up size next rank goes measured all next_room room =
    let a = get_or-set_same rank (length up) (length up) 0 (omega (arith, room)) in
    let b = get_or-set_same next (length up) (length up) 0 (omega (arith, next_room)) in record {
      next_room = length-set next _ _ ∙ next_room;
      room = length-set rank _ _ ∙ room;
      within = omega arith;
      top = a;
      fits = λ p l m. (let e : p ≡ length up = omega (arith, l, m) in
          subst (λ x. slice_index size x ≤ slice_index (set rank (length up) (length up)) x + 1) (sym e) (omega (arith, a, all)));
      nexts = λ p l m. (let e : p ≡ length up = omega (arith, l, m) in
          subst (λ x. slice_index (set next (length up) (length up)) x + slice_index size x ≡
          slice_index (set rank (length up) (length up)) x + 1 + under up size x (length up)) (sym e)
          (let s = measured.each (length up) (omega arith) in omega (arith, a, b, s, all)));
      each = λ m l h. absurd (omega (arith, l, h));
    }

module _ (up size next rank : List ℕ) (k : ℕ) (goes : GoesUp up) (measured : Measured up size)
    (r : Ranking up size next rank (k + 1)) where
  abbrev over : ℕ
  over = slice_index up k

  pub here : k < length up
  here = let a = r.within in omega (arith, a)

  pub over-behind : (k < over) × (over ≤ length up)
  over-behind = (goes.rises k here, goes.most k here)

  -- there is room for the subtree
  next-is : slice_index next over + slice_index size over ≡ slice_index rank over + 1 + (slice_index size k + under up size over k)
  next-is = let a = over-behind in r.nexts over (let b = a.0 in omega (arith, b)) a.1 ∙
      ap (λ x. slice_index rank over + 1 + x) (under-same up size over k refl)

  pub positive : 1 ≤ slice_index size k
  positive = let a = measured.each k (let h = here in omega (arith, h)) in omega (arith, a)

  pub next-most : slice_index size k ≤ slice_index next (slice_index up k)
  next-most = let a = over-behind in let f = r.fits over (let b = a.0 in omega (arith, b)) a.1 in let e = next-is in omega (arith, f, e)

  abbrev last : ℕ
  last = slice_index next over - 1

  abbrev less : ℕ
  less = slice_index next over - slice_index size k

  abbrev next' : List ℕ
  next' = set (set next over less) k last

  abbrev rank' : List ℕ
  rank' = set rank k last

  not-over : k ≢ over
  not-over e = let a = over-behind.0 in omega (arith, a, e)

  next-here : slice_index next' k ≡ last
  next-here = get_or-set_same (set next over less) k last 0
      (let a = length-set next over less in let b = r.next_room in let h = here in omega (arith, a, b, h))

  next-over : slice_index next' over ≡ less
  next-over = get_or-set_other (set next over less) k over last 0 (λ e. not-over (sym e)) ∙
      get_or-set_same next over less 0 (let a = over-behind.1 in let b = r.next_room in omega (arith, a, b))

  next-other : (p : ℕ) → p ≢ k → p ≢ over → slice_index next' p ≡ slice_index next p
  next-other p a b = get_or-set_other (set next over less) k p last 0 a ∙ get_or-set_other next over p less 0 b

  rank-here : slice_index rank' k ≡ last
  rank-here = get_or-set_same rank k last 0 (let b = r.room in let h = here in omega (arith, b, h))

  rank-other : (p : ℕ) → p ≢ k → slice_index rank' p ≡ slice_index rank p
  rank-other p a = get_or-set_other rank k p last 0 a

  last-is : last + 1 ≡ slice_index next over
  last-is = let a = positive in let b = next-most in omega (arith, a, b)

  less-is : less + slice_index size k ≡ slice_index next over
  less-is = let b = next-most in omega (arith, b)

  next-length : length next' ≡ length up + 1
  next-length = length-set (set next over less) k last ∙ length-set next over less ∙ r.next_room

  rank-length : length rank' ≡ length up + 1
  rank-length = length-set rank k last ∙ r.room

  next-most' : slice_index size k ≤ slice_index next over
  next-most' = next-most

  over-is : slice_index up k ≡ over
  over-is = refl

  at-here : slice_index rank' k + 1 + slice_index size (slice_index up k) ≡ slice_index rank' (slice_index up k) + 1
      + under up size (slice_index up k) (k + 1)
  at-here = let a = rank-here in let b = rank-other over (λ q. not-over (sym q)) in let c = next-is in let d = last-is in
      let u = under-same up size over k refl in omega (arith, a, b, c, d, u)

  ranking : Ranking up size next' rank' k
  ranking = record {
    next_room = next-length;
    room = rank-length;
    within = (let h = here in omega (arith, h));
    top = (let h = here in rank-other (length up) (λ e. omega (arith, h, e)) ∙ r.top);
    fits = λ p l m. elim (cases_eq p k) [
      | inl e ↦ subst (λ x. slice_index size x ≤ slice_index rank' x + 1) (sym e)
          (let a = rank-here in let b = last-is in let c = next-most' in omega (arith, a, b, c))
      | inr ne ↦ (let a = rank-other p ne in let b = r.fits p (omega (arith, l, ne)) m in omega (arith, a, b))
    ];
    nexts = λ p l m. elim (cases_eq p k) [
      | inl e ↦ subst (λ x. slice_index next' x + slice_index size x ≡ slice_index rank' x + 1 + under up size x k) (sym e)
          (let a = next-here in let b = rank-here in let c = measured.each k (let h = here in omega (arith, h)) in
          let d = under-all up size k goes (let h = here in omega (arith, h)) in omega (arith, a, b, c, d))
      | inr ne ↦ elim (cases_eq p over) [
        | inl e ↦ subst (λ x. slice_index next' x + slice_index size x ≡ slice_index rank' x + 1 + under up size x k) (sym e)
            (let a = next-over in let b = rank-other over (λ q. not-over (sym q)) in let c = next-is in let d = less-is in
            omega (arith, a, b, c, d))
        | inr not ↦ (let a = next-other p ne not in let b = rank-other p ne in let c = r.nexts p (omega (arith, l, ne)) m in
            let d = under-other up size p k (λ q. not (sym q ∙ over-is)) in omega (arith, a, b, c, d))
      ]
    ];
    each = λ m l h. elim (cases_eq m k) [
      | inl e ↦ subst (λ x. slice_index rank' x + 1 + slice_index size (slice_index up x) ≡ slice_index rank' (slice_index up x) + 1
          + under up size (slice_index up x) (x + 1)) (sym e) at-here
      | inr ne ↦ (let a = rank-other m ne in let up-m = goes.rises m h in
          let b = rank-other (slice_index up m) (λ q. omega (arith, up-m, q, l)) in
          let c = r.each m (omega (arith, l, ne)) h in omega (arith, a, b, c))
    ];
  }

  pub rank-next : Ranking up size
      (set (set next (slice_index up k) (slice_index next (slice_index up k) - slice_index size k)) k (slice_index next
      (slice_index up k) - 1))
      (set rank k (slice_index next (slice_index up k) - 1)) k
  rank-next = ranking

pub rank-all : (up size next rank : List ℕ) (k : ℕ) → Ranking up size next rank k → k ≡ 0 → Ranked up size rank
rank-all up size next rank k r e = record {
  room = r.room;
  top = r.top;
  each = λ m l. r.each m (omega (arith, e)) l;
}
